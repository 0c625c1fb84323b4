-- What a tree is after it is written and read back (document 02, Q-1: "Written and read back, a tree is the same but for node names, qualifiers, rounded REALs, literal kinds
-- and widths, and characters' places"; Q-2: "a tree read from bytes has none cut"). That it is that is proved in ReadBack.antt.
use Rattle.std.specs.Prelude.{◌≡◌, List, [], ◌∷◌, ◌++◌, ℕ, ◌+◌, ◌*◌, ◌/◌, ◌^◌, ◌≤◌, ◌<◌, eqb, length}
use Rattle.definition.specs.Base.{pick}
use Rattle.definition.specs.Records.{constant_of}
use Rattle.definition.specs.Tree.{Node}
use Rattle.definition.specs.Scalar.{size_of}
use Rattle.memory_definition.specs.declared.form.Form.{Form}
use Rattle.memory_definition.specs.declared.form.Form.TheVariants as form
use Rattle.memory_definition.specs.Cells.{Cell}
use Rattle.memory_definition.specs.Numbers.{narrowed, widened}
use Rattle.memory_definition.specs.Forms.{Characters, form_of, constant_on, text_on, node_of, real_read}
use Rattle.memory_definition.specs.Memory.{node_words_of}

-- ---- the same but for names, qualifiers, rounded REALs, kinds and widths of literals, the places of characters, and the characters cut
unfoldable pub as_read_as : Form → ℕ → Node → Node
-- a head keeps its kind and its count
as_read_as form.Head at h = node_of (constant_of h.kind 0 h.low 0 0)
as_read_as form.Null at h = node_of (constant_of 10 0 0 0 0)
as_read_as form.Bool at h = node_of (constant_of 0 0 h.low 0 0)
-- a number its sign and its two words; the kind and the width are the form's
as_read_as (form.Number signed bits kind width) at h = node_of (constant_of kind h.sign h.low h.high width)
as_read_as form.Real at h = real_read (widened (narrowed (size_of (constant_on h))))
as_read_as form.LongReal at h = node_of (constant_of 3 0 h.low h.high 0)
-- a string its length; its characters stand behind so many others, at 0 if it has none, and the last word is its place's width alone
as_read_as (form.String most width) at h = node_of (constant_of 8 0 (pick (eqb h.high 0) 0 at) h.high width)
-- an enumerated value its member's name, without a qualifier
as_read_as (form.Enumeration first count) at h = node_of (constant_of 9 0 h.low 0 0)
as_read_as form.Nothing at h = node_of (constant_of 0 0 0 0 0)

unfoldable pub as_read : List ℕ → ℕ → Cell → Node
as_read f at c = as_read_as (form_of f c) at c.node

-- a string's characters
unfoldable pub text_of_as : Form → Characters → Node → List ℕ
text_of_as form.Head text h = []
text_of_as form.Null text h = []
text_of_as form.Bool text h = []
text_of_as (form.Number signed bits kind width) text h = []
text_of_as form.Real text h = []
text_of_as form.LongReal text h = []
text_of_as (form.String most width) text h = text_on text h
text_of_as (form.Enumeration first count) text h = []
text_of_as form.Nothing text h = []

unfoldable pub text_of : List ℕ → Characters → Cell → List ℕ
text_of f text c = text_of_as (form_of f c) text c.node

-- a whole tree's, where so many characters stand before
unfoldable pub nodes_as_read : List ℕ → Characters → ℕ → List Cell → List ℕ
nodes_as_read f text at [] = []
nodes_as_read f text at (c ∷ cs) = node_words_of (as_read f at c) ++ nodes_as_read f text (at + length (text_of f text c)) cs

unfoldable pub texts_of : List ℕ → Characters → List Cell → List ℕ
texts_of f text [] = []
texts_of f text (c ∷ cs) = text_of f text c ++ texts_of f text cs

-- ---- what is asked of a node: that its form's sizes are those of an accepted file (whole bytes, eight at most; lengths and members that two bytes count), and that its two words are of 32 bits
abbrev pub SizedAs : Form → Type 0
SizedAs form.Head = Unit {0}
SizedAs form.Null = Unit {0}
SizedAs form.Bool = Unit {0}
SizedAs (form.Number signed bits kind width) = (0 < bits) × (8 * (bits / 8) ≡ bits) × (bits ≤ 64)
SizedAs form.Real = Unit {0}
SizedAs form.LongReal = Unit {0}
SizedAs (form.String most width) = most ≤ 65535
SizedAs (form.Enumeration first count) = count ≤ 65536
SizedAs form.Nothing = Unit {0}

pub record Words (c : Cell) : Type 0 where
  pub low : c.node.low < 2 ^ 32
  pub high : c.node.high < 2 ^ 32

pub record Sized (f : List ℕ) (c : Cell) : Type 0 where
  pub form : SizedAs (form_of f c)
  pub words : Words c

abbrev pub SizedAll : List ℕ → List Cell → Type 0
SizedAll f [] = Unit {0}
SizedAll f (c ∷ cs) = Sized f c × SizedAll f cs
