-- The bytes of a node among others, and what of the node that is known is looked at. Assumes nothing.
use Rattle.std.specs.Prelude.{◌≡◌, refl, List, [], ◌∷◌, ℕ, zero, suc, ◌+◌, ◌≤◌, take, drop}
use Rattle.std.proofs.Common.{ap, sym, ◌∙◌, zero-add, suc-add, arith, take-take, drop-drop}
use Rattle.std.proofs.Math.Seq.{take-nil}
use Rattle.definition.specs.declared.records.Shape.TheVariants as shape
use Rattle.memory_definition.specs.declared.form.Form.{Form}
use Rattle.memory_definition.specs.declared.form.Form.TheVariants as form
use Rattle.memory_definition.specs.Cells.{Cell, cell}
use Rattle.memory_definition.specs.Numbers.{number_from, length_from}
use Rattle.memory_definition.specs.Forms.{form_of, size_as, node_as}
use Rattle.memory_laws.specs.Placed.{Placed}
use Rattle.memory_laws.specs.Same.{SizedAs}

-- as many bytes as a form has
abbrev pub own : Form → List ℕ → ℕ → List ℕ
own fm bytes from = take (size_as fm) (drop from bytes)

-- a head is read as it stands
abbrev pub seen : ℕ → ℕ → Cell
seen kind low = cell shape.Unknown (record { name = 0; kind = kind; sign = 0; low = low; high = 0; width = 0 })

pub read-seen : (f : List ℕ) (fm : Form) (at : ℕ) (c : Cell) (bs : List ℕ) → node_as f fm at (seen c.node.kind c.node.low) bs ≡ node_as f fm at c bs
unfolding node_as
read-seen f form.Head at c bs = refl
read-seen f form.Null at c bs = refl
read-seen f form.Bool at c bs = refl
read-seen f (form.Number signed bits kind width) at c bs = refl
read-seen f form.Real at c bs = refl
read-seen f form.LongReal at c bs = refl
read-seen f (form.String most width) at c bs = refl
read-seen f (form.Enumeration first count) at c bs = refl
read-seen f form.Nothing at c bs = refl

-- the form of a node in a place of an accepted file is this one
pub record Formed (f : List ℕ) (c : Cell) (fm : Form) : Type 0 where
  pub form : fm ≡ form_of f c
  pub sized : SizedAs fm
  pub placed : Placed f c.shape

-- ---- bytes within a node's bytes
pub drop-take : (n k : ℕ) (l : List ℕ) → drop n (take (n + k) l) ≡ take k (drop n l)
drop-take zero k l = ap (λ x. take x l) (zero-add k)
drop-take (suc n) k [] = rw (suc-add n k) (sym (take-nil k))
drop-take (suc n) k (x ∷ l) = rw (suc-add n k) (drop-take n k l)

-- the length of a string stands behind its greatest length
pub length-own : (x : ℕ) (bytes : List ℕ) (from : ℕ) → length_from (take (4 + x) (drop from bytes)) ≡ number_from (take 2 (drop (from + 2) bytes))
unfolding length_from
length-own x bytes from =
    let e : 4 + x ≡ 2 + (2 + x) = omega arith in
    ap number_from
    (ap (λ k. take 2 (drop 2 (take k (drop from bytes)))) e
    ∙ ap (take 2) (drop-take 2 (2 + x) (drop from bytes))
    ∙ take-take 2 (2 + x) (drop 2 (drop from bytes)) (omega arith)
    ∙ ap (take 2) (drop-drop 2 from bytes))

-- a string has no more characters than it can
abbrev pub Few : Form → List ℕ → Type 0
Few form.Head bs = Unit {0}
Few form.Null bs = Unit {0}
Few form.Bool bs = Unit {0}
Few (form.Number signed bits kind width) bs = Unit {0}
Few form.Real bs = Unit {0}
Few form.LongReal bs = Unit {0}
Few (form.String most width) bs = length_from bs ≤ most
Few (form.Enumeration first count) bs = Unit {0}
Few form.Nothing bs = Unit {0}
