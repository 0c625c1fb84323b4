-- No array of a resolved tree lists an array, in any file, nor does one of a completed initializer. Assumes nothing.
use Rattle.std.specs.Prelude.{◌≡◌, Bool, ◌&&◌, ◌||◌, List, ℕ, ◌≤◌}
use Rattle.std.proofs.Math.Bool.{true, false}
use Rattle.std.proofs.Common.{arith, eqb-true}
use Rattle.std.proofs.Math.Dec.{eqb}
use Rattle.std.proofs.lemmas.Bool.{eqb-false}
use Rattle.definition.specs.Base.{pick}
use Rattle.definition.specs.Layout.{word, expressions}
use Rattle.definition.specs.Tree.{Tree, Trees, node, tnil, tcons, head, parts, leaf, headed, array_tree, structure_tree, named, one}
use Rattle.definition.specs.Ask.{ok, none, large, Outcome}
use Rattle.definition.specs.Parts.{flat}
use Rattle.definition.specs.Starting.{type_outcome, variable_outcome}
use Rattle.definition.specs.Complete.{written_node, written, written_all, written_parts, as_signed, completion}
use Rattle.laws.specs.Asks.{OnOk}
use Rattle.laws.specs.Cases.{on-pick}
use Rattle.laws.specs.Outcomes.{outcome-held, variable-held}
use Rattle.laws.specs.Whole.{Lists, lists-one}
use Rattle.laws.specs.Values.{Sized}
use Rattle.laws.specs.Gathers.{Kept}
use Rattle.laws.specs.Falling.{kept-body, kept-declaration}
use Rattle.laws.specs.Completes.{OnCompleted, on-completion}

unfoldable mutual
  -- no array in it lists an array
  pub Flat : Tree → Type 0
  Flat (node h ts) = Flats h.kind ts

  -- trees that a node of this kind may list
  pub Flats : ℕ → Trees → Type 0
  Flats kind tnil = Unit {0}
  Flats kind (tcons t ts) = (Flat t × (kind ≡ 13 → (head t).kind ≡ 13 → ⊥)) × Flats kind ts

abbrev Part : ℕ → Tree → Type 0
Part kind t = Flat t × (kind ≡ 13 → (head t).kind ≡ 13 → ⊥)

-- ---- what the definition makes is flat
flats-lists : (kind : ℕ) → Lists (Part kind) (Flats kind)
unfolding Flat
flats-lists kind = record { none = tt; both = λ t ts g h. (g, h); first = λ t ts g. g.0; others = λ t ts g. g.1 }

part-leaf : (kind sign low high width : ℕ) → kind ≤ 12 → Part 13 (leaf kind sign low high width)
unfolding Flat leaf head
part-leaf kind sign low high width h = (tt, λ p q. omega arith)

part-structure : (ts : Trees) → Flats 14 ts → Part 13 (structure_tree ts)
unfolding Flat structure_tree headed head
part-structure ts g = (g, λ p q. omega arith)

flat-array : (ts : Trees) → Flats 13 ts → Flat (array_tree ts)
unfolding Flat array_tree headed
flat-array ts g = g

part_field : (name : ℕ) (t : Tree) → Flat t → Part 14 (named name t)
unfolding Flat named
part_field name (node h ts) g = (g, λ p. absurd (omega arith))

flat-parts : (kind : ℕ) (t : Tree) → eqb (head t).kind kind ≡ true → Flat t → Flats kind (parts t)
unfolding Flat head parts
flat-parts kind (node h ts) e g = rw (eqb-true h.kind kind e) at g

flats-flat : (t : Tree) → Flat t → Flats 13 (flat t)
unfolding flat
flats-flat t g =
    on-pick (Flats 13) (eqb (head t).kind 13) (parts t) (one t) (λ e. flat-parts 13 t e g)
    (λ e. lists-one (flats-lists 13) t (g, λ p q. eqb-false (head t).kind 13 e q))

-- an array's entry is no array, any tree may be a field
abbrev flats : Kept
flats =
    record {
      Of = Flat;
      Entry = Part 13;
      Field = Part 14;
      EntryList = Flats 13;
      FieldList = Flats 14;
      entries = flats-lists 13;
      fields = flats-lists 14;
      leaf = part-leaf;
      structure = part-structure;
      array = flat-array;
      entry = λ t g. g.0;
      field = part_field;
      alone = λ t g. (part_field 0 t g.0).0;
      parts = flat-parts 14;
      flat = flats-flat;
    }

-- ---- completed initializers
-- a list under another head
flats-under : (kind new : ℕ) → (new ≡ 13 → kind ≡ 13) → (ts : Trees) → Flats kind ts → Flats new ts
unfolding Flat
flats-under kind new e tnil g = tt
flats-under kind new e (tcons t ts) g = ((g.0.0, λ p. g.0.1 (e p)), flats-under kind new e ts g.1)

flat-signed : (t : Tree) → Flat t → Flat (as_signed t)
unfolding Flat as_signed
flat-signed (node h ts) g = flats-under h.kind 1 (λ e. absurd (omega arith)) ts g

module _ (f : List ℕ) where
  -- only an array is written as one
  written-array : (t : Tree) → (head (written f t)).kind ≡ 13 → (head t).kind ≡ 13
  unfolding written written_node head
  written-array (node h ts) = go (eqb h.kind 12 && eqb (word f expressions h.low 0) 4) (eqb h.kind 11 || eqb h.kind 12)
    where
      go : (null expression : Bool) → pick null 10 (pick expression 12 h.kind) ≡ 13 → h.kind ≡ 13
      go true expression e = absurd (omega arith)
      go false true e = absurd (omega arith)
      go false false e = e

  mutual
    unfolding Flat written written_node head

    flat-written : (t : Tree) → Flat t → Flat (written f t)
    flat-written (node h ts) g = flats-under h.kind _ (written-array (node h ts)) (written_all f ts) (flats-written ts h.kind g)

    flats-written : (ts : Trees) (kind : ℕ) → Flats kind ts → Flats kind (written_all f ts)
    flats-written tnil kind g = tt
    flats-written (tcons t ts) kind g = ((flat-written t g.0.0, λ p q. g.0.1 p (written-array t q)), flats-written ts kind g.1)

  flat-written_parts : (t : Tree) → Flat t → Flat (written_parts f t)
  unfolding Flat written_parts
  flat-written_parts (node h ts) g = flats-written ts h.kind g

-- ---- no array lists an array
sized-flat : (o : Outcome) → OnOk (Sized Flat) o → OnOk Flat o
sized-flat (ok t) g = g.good
sized-flat none g = tt
sized-flat large g = tt

pub type-flat : (f : List ℕ) (t : ℕ) → OnOk Flat (type_outcome f t)
type-flat f t = sized-flat (type_outcome f t) (outcome-held f (λ d o. OnOk (Sized Flat) o) (λ d. tt) (λ d l. kept-body flats f d) t)

pub variable-flat : (f : List ℕ) (v : ℕ) → OnOk Flat (variable_outcome f v)
variable-flat f v =
    sized-flat (variable_outcome f v)
    (variable-held f (λ d o. OnOk (Sized Flat) o) (λ d. tt) (λ d l. kept-body flats f d) (OnOk (Sized Flat)) v (kept-declaration flats f v))

pub completed-flat : (f : List ℕ) (v : ℕ) → OnCompleted Flat (completion f v (variable_outcome f v))
unfolding completion
completed-flat f v = go (variable_outcome f v) (variable-flat f v)
  where
    go : (o : Outcome) → OnOk Flat o → OnCompleted Flat (completion f v o)
    go (ok t) g = on-completion f Flat t (λ e. flat-signed t g) (flat-written_parts f t g) v
    go none g = tt
    go large g = tt
