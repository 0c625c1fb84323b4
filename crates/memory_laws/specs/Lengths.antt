-- How many bytes a node has: those of its form, which its shape and its part in the tree alone decide. Assumes nothing.
use Rattle.std.specs.Prelude.{◌≡◌, refl, Bool, true, false, ◌||◌, List, [], ◌∷◌, ℕ, zero, suc, ◌+◌, ◌-◌, ◌*◌, ◌/◌, ◌≤◌, eqb, length}
use Rattle.std.proofs.Common.{ap, sym, ◌∙◌, arith, mul-add, length-append}
use Rattle.std.proofs.lemmas.List.{length-replicate}
use Rattle.definition.specs.declared.records.Shape.{Shape}
use Rattle.definition.specs.declared.records.Shape.TheVariants as shape
use Rattle.definition.specs.Base.{pick}
use Rattle.definition.specs.Records.{constant_of}
use Rattle.definition.specs.Scalar.{size_of}
use Rattle.definition.specs.Shapes.{is_reference}
use Rattle.laws.specs.Cases.{never, both}
use Rattle.memory_definition.specs.declared.form.Form.{Form}
use Rattle.memory_definition.specs.declared.form.Form.TheVariants as form
use Rattle.memory_definition.specs.Cells.{Cell}
use Rattle.memory_definition.specs.Numbers.{complement, narrowed, character_bytes, string_bytes}
use Rattle.memory_definition.specs.Forms.{Characters, stored_by, stored_up_to, stored, is_head, form_at, form_of, constant_on, held_constant, member_link, held_as, held, characters_from, text_on, size_as, bytes_as, bytes}
use Rattle.memory_definition.specs.Memory.{held_all, bytes_all, size, size_all}
use Rattle.memory_laws.specs.Bytes.{le-long, text-long}
use Rattle.memory_laws.specs.Fits.{Fitting, fitting}

-- ---- as many bytes as the form has
pub characters-many : (text : Characters) (first k : ℕ) → length (characters_from text first k) ≡ k
unfolding characters_from
characters-many text first zero = refl
characters-many text first (suc k) = ap suc (characters-many text (suc first) k)

pub string-long : (most width : ℕ) (cs : List ℕ) → length cs ≤ most → length (string_bytes most width cs) ≡ 4 + character_bytes width * most
unfolding string_bytes
string-long most width cs l =
    let one : ℕ = character_bytes width in
    let sum : length cs + (most - length cs) ≡ most = omega arith in
    let all : one * most ≡ one * length cs + one * (most - length cs) = ap (λ n. one * n) (sym sum) ∙ mul-add one (length cs) (most - length cs) in
    simp (length-append, length-replicate, le-long, text-long) (omega (arith, all))

long_as : (f : List ℕ) (text : Characters) (c : Cell) (F : Form) → (held_constant f c ≡ true → Fitting F (constant_on c.node)) → held_as f F c ≡ true → length (bytes_as f F text c) ≡ size_as F
unfolding held_as bytes_as size_as text_on constant_on constant_of
long_as f text c form.Head fits h = refl
long_as f text c form.Null fits h = refl
long_as f text c form.Bool fits h = le-long 1 c.node.low
long_as f text c (form.Number signed bits kind width) fits h = le-long (bits / 8) (complement bits (constant_on c.node))
long_as f text c form.Real fits h = le-long 4 (narrowed (size_of (constant_on c.node)))
long_as f text c form.LongReal fits h = le-long 8 (size_of (constant_on c.node))
long_as f text c (form.String most width) fits h =
    let many : length (characters_from text c.node.low c.node.high) ≡ c.node.high = characters-many text c.node.low c.node.high in
    string-long most width (characters_from text c.node.low c.node.high) (omega (arith, many, (fits h).1))
long_as f text c (form.Enumeration first count) fits h = le-long 2 (member_link f first count c - suc first)
long_as f text c form.Nothing fits h = never h

pub bytes-long : (f : List ℕ) (text : Characters) (c : Cell) → held f c ≡ true → length (bytes f text c) ≡ size f c
unfolding held bytes size
bytes-long f text c h = long_as f text c (form_of f c) (fitting f c) h

pub bytes-all-long : (f : List ℕ) (text : Characters) (cs : List Cell) → held_all f cs ≡ true → length (bytes_all f text cs) ≡ size_all f cs
unfolding held_all bytes_all size_all
bytes-all-long f text [] h = refl
bytes-all-long f text (c ∷ cs) h =
    let x = both (held f c) (held_all f cs) h in
    length-append (bytes f text c) (bytes_all f text cs) ∙ rw (bytes-long f text c x.0, bytes-all-long f text cs x.1)

-- ---- parts: a head with its kind and count; a null, or any leaf at a reference's place; any other leaf
pub data Part : Type 0 where
  headed : ℕ → ℕ → Part
  null : Part
  other : Part

unfoldable pub part_of : Cell → Part
part_of c = pick (is_head c.node.kind) (headed c.node.kind c.node.low) (pick (eqb c.node.kind 10 || is_reference c.shape) null other)

-- two nodes at places of one shape that are the same part: whatever values they have, names and all other words aside
pub record Alike (c d : Cell) : Type 0 where
  pub place : c.shape ≡ d.shape
  pub part : part_of c ≡ part_of d

-- a list of nodes and another, each like the one at its place
pub data AlikeAll : List Cell → List Cell → Type 0 where
  all_done : AlikeAll [] []
  all_next : {c d : Cell} {cs ds : List Cell} → Alike c d → AlikeAll cs ds → AlikeAll (c ∷ cs) (d ∷ ds)

-- its form, by its part
form_by : List ℕ → Shape → Part → Form
form_by f s (headed kind count) = form.Head
form_by f s null = form.Null
form_by f s other = stored f s

at-reference : (f : List ℕ) (s : Shape) → is_reference s ≡ true → stored f s ≡ form.Null
unfolding stored stored_up_to stored_by
at-reference f shape.Bool e = never e
at-reference f (shape.Int bits) e = never e
at-reference f (shape.UInt bits) e = never e
at-reference f (shape.Real bits) e = never e
at-reference f (shape.Bytes bits) e = never e
at-reference f (shape.Time bits) e = never e
at-reference f (shape.Date bits) e = never e
at-reference f (shape.TimeOfDay bits) e = never e
at-reference f (shape.DateAndTime bits) e = never e
at-reference f (shape.String length width) e = never e
at-reference f (shape.Enumeration first count default underlying) e = never e
at-reference f (shape.Structure first count) e = never e
at-reference f (shape.Array element first count) e = never e
at-reference f (shape.Subrange base low high) e = never e
at-reference f (shape.FunctionBlock name) e = never e
at-reference f (shape.Interface name) e = never e
at-reference f (shape.Reference target) e = refl
at-reference f shape.Unknown e = never e

form-by : (f : List ℕ) (c : Cell) → form_of f c ≡ form_by f c.shape (part_of c)
unfolding form_of form_at part_of form_by
form-by f c = go (is_head c.node.kind) (eqb c.node.kind 10) (is_reference c.shape) refl
  where
    go : (h n r : Bool) → is_reference c.shape ≡ r
        → pick h form.Head (pick n form.Null (stored f c.shape)) ≡ form_by f c.shape (pick h (headed c.node.kind c.node.low) (pick (n || r) null other))
    go true n r e = refl
    go false true r e = refl
    go false false true e = at-reference f c.shape e
    go false false false e = refl

pub form-alike : (f : List ℕ) {c d : Cell} → Alike c d → form_of f c ≡ form_of f d
form-alike f {c} {d} a = form-by f c ∙ ap (λ s. form_by f s (part_of c)) a.place ∙ ap (form_by f d.shape) a.part ∙ sym (form-by f d)

pub size-alike : (f : List ℕ) {c d : Cell} → Alike c d → size f c ≡ size f d
unfolding size
size-alike f a = ap size_as (form-alike f a)

pub size-all-alike : (f : List ℕ) {cs ds : List Cell} → AlikeAll cs ds → size_all f cs ≡ size_all f ds
unfolding size_all
size-all-alike f all_done = refl
size-all-alike f (all_next a more) = rw (size-alike f a, size-all-alike f more)
