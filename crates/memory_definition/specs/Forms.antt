-- One node as bytes, and read from bytes (document 02, Q-1), by the shape of its place.
use Rattle.std.specs.Prelude.{Bool, true, false, not, ◌&&◌, ◌||◌, List, [], ◌∷◌, ℕ, zero, suc, ◌+◌, ◌-◌, ◌*◌, ◌/◌, ◌%◌, ◌^◌, eqb, ltb, get_or, replicate}
use Rattle.std.specs.Float.{binary64}
use Rattle.std.specs.Float.Ieee.{nan_bits}
use Rattle.definition.specs.declared.records.Shape.{Shape}
use Rattle.definition.specs.declared.records.Shape.TheVariants as shape
use Rattle.definition.specs.declared.records.Constant.{Constant}
use Rattle.definition.specs.Base.{pick}
use Rattle.definition.specs.Layout.{word, count, shapes, members, characters}
use Rattle.definition.specs.Records.{constant_of, shape_at}
use Rattle.definition.specs.Accept.{constant_plain}
use Rattle.definition.specs.Tree.{Node}
use Rattle.definition.specs.Ask.{Result, ok, none, large}
use Rattle.definition.specs.Scalar.{size_of, max_length, uncut_word, converted, long}
use Rattle.definition.specs.Shapes.{on_shape}
use Rattle.definition.specs.Places.{first_named}
use Rattle.memory_definition.specs.declared.form.Form.{Form}
use Rattle.memory_definition.specs.declared.form.Form.TheVariants as form
use Rattle.memory_definition.specs.Cells.{Cell, cell, entries_of}
use Rattle.memory_definition.specs.Numbers.{little_endian, number_from, complement, literal_read, narrowed, widened, character_bytes, string_bytes, string_from, length_from}

-- ---- which form a node has
-- a subrange stands as its base does, where that is an integer
abbrev pub as_integer : Form → Form
as_integer form.Head = form.Nothing
as_integer form.Null = form.Nothing
as_integer form.Bool = form.Nothing
as_integer (form.Number signed bits kind width) = pick (eqb kind 1) (form.Number signed bits kind width) form.Nothing
as_integer form.Real = form.Nothing
as_integer form.LongReal = form.Nothing
as_integer (form.String most width) = form.Nothing
as_integer (form.Enumeration first count) = form.Nothing
as_integer form.Nothing = form.Nothing

abbrev pub as_text : Result ℕ → ℕ → Form
as_text (ok most) width = form.String most width
as_text none width = form.Nothing
as_text large width = form.Nothing

-- by the shape of a place: sizes are the shape's, kinds and widths those of its built-in default (`built_in`)
unfoldable pub stored_by : List ℕ → (ℕ → Form) → Shape → Form
stored_by f below shape.Bool = form.Bool
stored_by f below (shape.Int bits) = form.Number true bits 1 0
stored_by f below (shape.UInt bits) = form.Number false bits 1 0
stored_by f below (shape.Real bits) = pick (eqb bits 64) form.LongReal form.Real
stored_by f below (shape.Bytes bits) = form.Number false bits 1 0
stored_by f below (shape.Time bits) = form.Number true bits 4 (long bits)
stored_by f below (shape.Date bits) = form.Number false bits 6 (long bits)
stored_by f below (shape.TimeOfDay bits) = form.Number false bits 5 (long bits)
stored_by f below (shape.DateAndTime bits) = form.Number false bits 7 (long bits)
stored_by f below (shape.String length width) = as_text (max_length f length) width
stored_by f below (shape.Enumeration first count default underlying) = form.Enumeration first count
stored_by f below (shape.Structure first count) = form.Nothing
stored_by f below (shape.Array element first count) = form.Nothing
stored_by f below (shape.Subrange base low high) = as_integer (below base)
stored_by f below (shape.FunctionBlock name) = form.Nothing
stored_by f below (shape.Interface name) = form.Nothing
stored_by f below (shape.Reference target) = form.Null
stored_by f below shape.Unknown = form.Nothing

-- a base has a lower shape, so that there are at most as many as shapes, and one more for a string that has none
unfoldable pub stored_up_to : List ℕ → ℕ → Shape → Form
stored_up_to f zero s = form.Nothing
stored_up_to f (suc k) s = stored_by f (λ base. stored_up_to f k (shape_at f base)) s

unfoldable pub stored : List ℕ → Shape → Form
stored f s = stored_up_to f (suc (count f shapes)) s

-- an array and a structure have no bytes of their own, and any null is four zero bytes, wherever it stands
unfoldable pub is_head : ℕ → Bool
is_head kind = eqb kind 13 || eqb kind 14

unfoldable pub form_at : List ℕ → Shape → ℕ → Form
form_at f s kind = pick (is_head kind) form.Head (pick (eqb kind 10) form.Null (stored f s))

unfoldable pub form_of : List ℕ → Cell → Form
form_of f c = form_at f c.shape c.node.kind

-- ---- which nodes a shape holds (all others are refusal 14)
-- the constant that a node holds, without the characters cut (document 02, Q-2: "14 disregards it")
unfoldable pub constant_on : Node → Constant
constant_on h = constant_of h.kind h.sign h.low h.high (uncut_word h.kind h.width)

unfoldable pub same_constant : Constant → Constant → Bool
same_constant c d = eqb c.kind d.kind && eqb c.sign d.sign && eqb c.low d.low && eqb c.high d.high && eqb c.width d.width

abbrev pub is_same : Constant → Result Constant → Bool
is_same c (ok d) = same_constant c d
is_same c none = false
is_same c large = false

-- conversion to the shape returns it unchanged
unfoldable pub unchanged : List ℕ → Shape → Constant → Bool
unchanged f s c = is_same c (converted f s c)

-- and it fits a subrange's base: that holds it too
abbrev pub on_base : Shape → (ℕ → Bool) → Bool
on_base shape.Bool g = true
on_base (shape.Int bits) g = true
on_base (shape.UInt bits) g = true
on_base (shape.Real bits) g = true
on_base (shape.Bytes bits) g = true
on_base (shape.Time bits) g = true
on_base (shape.Date bits) g = true
on_base (shape.TimeOfDay bits) g = true
on_base (shape.DateAndTime bits) g = true
on_base (shape.String length width) g = true
on_base (shape.Enumeration first count default underlying) g = true
on_base (shape.Structure first count) g = true
on_base (shape.Array element first count) g = true
on_base (shape.Subrange base low high) g = g base
on_base (shape.FunctionBlock name) g = true
on_base (shape.Interface name) g = true
on_base (shape.Reference target) g = true
on_base shape.Unknown g = true

unfoldable pub fits_up_to : List ℕ → ℕ → Shape → Constant → Bool
fits_up_to f zero s c = false
fits_up_to f (suc k) s c = unchanged f s c && on_base s (λ base. fits_up_to f k (shape_at f base) c)

-- a constant that a file may hold (refusal 3), so no expression and no reference, and that fits
unfoldable pub held_constant : List ℕ → Cell → Bool
held_constant f c =
    let d : Constant = constant_on c.node in
    constant_plain d.kind d.sign d.low d.high d.width && fits_up_to f (suc (count f shapes)) c.shape d

-- an array has as many entries as its shape has places, a structure as many parts as its shape has fields; where each part stands is `part_place`
unfoldable pub held_head : List ℕ → Cell → Bool
held_head f c =
    let h : Node = c.node in
    on_shape c.shape (λ a b. false) (λ a b. false)
    (λ first many. eqb h.kind 14 && eqb h.low many)
    (λ s first many. eqb h.kind 13 && eqb h.low (entries_of f c.shape))
    (λ u. eqb h.kind 14)
    (λ u. false) (λ u. false)

-- its member's first place, as a link
unfoldable pub member_link : List ℕ → ℕ → ℕ → Cell → ℕ
member_link f first count c = first_named f members c.node.low first count

unfoldable pub held_as : List ℕ → Form → Cell → Bool
held_as f form.Head c = held_head f c
held_as f form.Null c = eqb c.node.kind 10
held_as f form.Bool c = held_constant f c
held_as f (form.Number signed bits kind width) c = held_constant f c
-- a REAL that is not a number is not held
held_as f form.Real c = held_constant f c && not (nan_bits binary64 (size_of (constant_on c.node)))
held_as f form.LongReal c = held_constant f c
held_as f (form.String most width) c = held_constant f c
held_as f (form.Enumeration first count) c = eqb c.node.kind 9 && not (eqb (member_link f first count c) 0)
-- where a shape stores no leaf, or where there is no place
held_as f form.Nothing c = false

unfoldable pub held : List ℕ → Cell → Bool
held f c = held_as f (form_of f c) c

-- ---- its characters, by their numbers
abbrev pub Characters : Type 0
Characters = ℕ → ℕ

-- those of the file
unfoldable pub file_characters : List ℕ → Characters
file_characters f i = word f characters i 0

unfoldable pub characters_from : Characters → ℕ → ℕ → List ℕ
characters_from text first zero = []
characters_from text first (suc k) = text first ∷ characters_from text (suc first) k

unfoldable pub text_on : Characters → Node → List ℕ
text_on text h = characters_from text h.low h.high

-- a character too wide for one byte if narrow, for two if wide, is refusal 15
unfoldable pub every_below : ℕ → List ℕ → Bool
every_below n [] = true
every_below n (c ∷ cs) = ltb c n && every_below n cs

unfoldable pub narrow_as : Form → Characters → Cell → Bool
narrow_as form.Head text c = true
narrow_as form.Null text c = true
narrow_as form.Bool text c = true
narrow_as (form.Number signed bits kind width) text c = true
narrow_as form.Real text c = true
narrow_as form.LongReal text c = true
narrow_as (form.String most width) text c = every_below (256 ^ character_bytes width) (text_on text c.node)
narrow_as (form.Enumeration first count) text c = true
narrow_as form.Nothing text c = true

unfoldable pub narrow : List ℕ → Characters → Cell → Bool
narrow f text c = narrow_as (form_of f c) text c

-- ---- how many bytes a form has
unfoldable pub size_as : Form → ℕ
size_as form.Head = 0
size_as form.Null = 4
size_as form.Bool = 1
size_as (form.Number signed bits kind width) = bits / 8
size_as form.Real = 4
size_as form.LongReal = 8
size_as (form.String most width) = 4 + character_bytes width * most
size_as (form.Enumeration first count) = 2
size_as form.Nothing = 0

-- ---- the bytes of a node
unfoldable pub bytes_as : List ℕ → Form → Characters → Cell → List ℕ
bytes_as f form.Head text c = []
bytes_as f form.Null text c = replicate 4 0
bytes_as f form.Bool text c = little_endian 1 c.node.low
bytes_as f (form.Number signed bits kind width) text c = little_endian (bits / 8) (complement bits (constant_on c.node))
bytes_as f form.Real text c = little_endian 4 (narrowed (size_of (constant_on c.node)))
bytes_as f form.LongReal text c = little_endian 8 (size_of (constant_on c.node))
bytes_as f (form.String most width) text c = string_bytes most width (text_on text c.node)
bytes_as f (form.Enumeration first count) text c = little_endian 2 (member_link f first count c - suc first)
bytes_as f form.Nothing text c = []

unfoldable pub bytes : List ℕ → Characters → Cell → List ℕ
bytes f text c = bytes_as f (form_of f c) text c

-- ---- a node read from bytes: "nameless, unqualified and of the kind and width of their shape's built-in default"
abbrev pub node_of : Constant → Node
node_of c = record { name = 0; kind = c.kind; sign = c.sign; low = c.low; high = c.high; width = c.width }

-- the bits of a REAL or an LREAL
unfoldable pub real_read : ℕ → Node
real_read n = node_of (constant_of 3 0 (n % 2 ^ 32) (n / 2 ^ 32) 0)

-- the characters of a string stand behind so many of those read before; without characters it begins at 0. None is cut (document 02, Q-2).
unfoldable pub string_read : ℕ → ℕ → ℕ → Node
string_read at many width = node_of (constant_of 8 0 (pick (eqb many 0) 0 at) many width)

unfoldable pub node_as : List ℕ → Form → ℕ → Cell → List ℕ → Node
node_as f form.Head at c bs = node_of (constant_of c.node.kind 0 c.node.low 0 0)
node_as f form.Null at c bs = node_of (constant_of 10 0 0 0 0)
node_as f form.Bool at c bs = node_of (constant_of 0 0 (number_from bs) 0 0)
node_as f (form.Number signed bits kind width) at c bs = node_of (literal_read signed bits kind width (number_from bs))
node_as f form.Real at c bs = real_read (widened (number_from bs))
node_as f form.LongReal at c bs = real_read (number_from bs)
node_as f (form.String most width) at c bs = string_read at (length_from bs) width
node_as f (form.Enumeration first count) at c bs = node_of (constant_of 9 0 (word f members (first + number_from bs) 0) 0 0)
node_as f form.Nothing at c bs = node_of (constant_of 0 0 0 0 0)

unfoldable pub node_read : List ℕ → ℕ → Cell → List ℕ → Node
node_read f at c bs = node_as f (form_of f c) at c bs

unfoldable pub text_as : Form → List ℕ → List ℕ
text_as form.Head bs = []
text_as form.Null bs = []
text_as form.Bool bs = []
text_as (form.Number signed bits kind width) bs = []
text_as form.Real bs = []
text_as form.LongReal bs = []
text_as (form.String most width) bs = string_from width bs
text_as (form.Enumeration first count) bs = []
text_as form.Nothing bs = []

unfoldable pub text_read : List ℕ → Cell → List ℕ → List ℕ
text_read f c bs = text_as (form_of f c) bs

-- ---- which bytes a node is written as (all others are refusal 14): what is read from them is held, and is written as these very bytes
unfoldable pub same_bytes : List ℕ → List ℕ → Bool
same_bytes [] [] = true
same_bytes [] (c ∷ cs) = false
same_bytes (b ∷ bs) [] = false
same_bytes (b ∷ bs) (c ∷ cs) = eqb b c && same_bytes bs cs

-- characters that are listed
unfoldable pub listed : List ℕ → Characters
listed cs i = get_or cs i 0

unfoldable pub readable : List ℕ → Cell → List ℕ → Bool
readable f c bs =
    let d : Cell = cell c.shape (node_read f 0 c bs) in
    held f d && same_bytes (bytes f (listed (text_read f c bs)) d) bs

-- what this file computes with
unfoldable pub opened : Unit {0}
unfolding stored_by stored_up_to stored is_head form_at form_of constant_on same_constant unchanged fits_up_to held_constant held_head member_link held_as held file_characters characters_from text_on every_below narrow_as narrow size_as bytes_as bytes real_read string_read node_as node_read text_as text_read same_bytes listed readable nan_bits
opened = tt
