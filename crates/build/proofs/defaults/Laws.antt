-- A law for each return of defaults.rt, and what its calls require. Assumes nothing.
use borrow.Enum.Refused.{opened}
use mathlib.Core.Path.{◌≡◌, refl, ap, sym, ◌∙◌, fun_ext}
use mathlib.Core.Bool.{Bool, true, false, not}
use mathlib.Core.List.{List, [], ◌∷◌}
use Prim.Native.Nat.{ℕ, zero, suc, ◌+◌, ◌-◌, ◌*◌, ◌^◌, ◌≤◌, ◌<◌}
use native.Mathlib.Omega.{arith}
use lib.Dec.{ltb, eqb}
use lib.ListN.{take, set}
use lib.Seq.{take-set-le}
use borrow.Author.Rules.{rules}
use borrow.Author.Tests.{le-leb, lt-leb, ltb-true, ltb-false}
use types.Run.{OneOf, miss}
use denote.Enum.Declared.{tag_of}
use Rattle.definition.specs.contracts.records.Shape.{the_type}
use Rattle.definition.specs.declared.records.Shape.{Shape}
use Rattle.definition.specs.declared.records.Shape.TheVariants as shape
use Rattle.definition.specs.declared.records.Place.{Place}
use Rattle.definition.specs.Base.{pick, on_link}
use Rattle.definition.specs.Layout as Layout
use Rattle.definition.specs.Layout.{word, count, shapes, shape_fields, block_fields}
use Rattle.definition.specs.Accept.{elements_of}
use Rattle.definition.specs.Tree.{Tree, Trees, tnil, many, nodes, nodes_in, flatten, flatten_all, array_tree, one, named, join, rest, most_nodes, tree_words}
use Rattle.definition.specs.Ask.{Result, ok, none, large, Outcome, Ask, done, bind, ◌>>=◌, give, nothing, type_default, formed, gathered}
use Rattle.definition.specs.Iec.{filled}
use Rattle.definition.specs.Scalar.{built_in}
use Rattle.definition.specs.Shapes.{on_shape, on_array}
use Rattle.definition.specs.Resolve.{Memo}
use Rattle.definition.specs.Peek.{Peek, got, wants, peek}
use Rattle.definition.specs.Places.{recorded_block, element_place, field_place, names_in, block_names, block_field_names}
use Rattle.definition.specs.Parts.{if_stated, flat, repeated_defaults, element_defaults, array_by, field, fields_by, structured, default_by}
use Rattle.definition.specs.Defaults as Defaults
use Rattle.definition.specs.Starting.{implicit_by, implicit, default_of}
use Rattle.laws.specs.Accepted.{Accepted}
use Rattle.laws.specs.Used.{IsType}
use Rattle.laws.specs.Implicit.{implicit-is}
use Rattle.laws.specs.Steps.{peek-done, peek-give}
use Rattle.laws.specs.Whole.{nodes-headed, nodes_in-one, nodes-named, flatten_all-one}
use Rattle.tree.specs.Words.{Stand}
use Rattle.tree.proofs.Standing.{named-there}
use Rattle.tree.proofs.Fields.{stands-long}
use Rattle.places.specs.Inside.{PlaceIn, element-shape, element-in, field_found, structure-fields}
use Rattle.definition.specs.Ask.{result_of}
use Rattle.places.specs.Found.{block_run, names_of, names-of-run}
use Rattle.places.proofs.field.Laws.{linked-type, place-linked, fields_fit}
use Rattle.places.proofs.block.Laws.{block-fits}
use Rattle.laws.specs.Links.{link-to}
use Rattle.build.specs.declared.built.Unbuilt.TheVariants as unbuilt
use Rattle.build.specs.declared.built.Unbuilt.{Unbuilt}
use Rattle.build.specs.Built.{Built, Gives, Puts, Memory, Builds}
use Rattle.build.specs.Parts.{implicit_levels, start_levels, is_listed, listed_names, field_ask, BuildsField, array_words, Spreads}
use Rattle.build.specs.Fields.{NamesField}
use Rattle.build.proofs.Peeks.{then_peek, peek-then, err-no-end, gives-err, gives-ends, kept-before, link-some, link-none}
use Rattle.build.proofs.leaves.Laws.{leaf-all}
use Rattle.build.proofs.Levels.{levels-implicit, levels-typed, levels-some, element-levels, field-levels}
use Rattle.build.proofs.Smalls.{default-small, elements-small, default-whole, default-after}
use Rattle.build.proofs.Gathers.{SoFar, so-far-none, so_far_skip, so-far-all, so-far-fails, so_far_more}
use Rattle.std.specs.Prelude.{Err, Ok, Option, Some}
use Rattle.std.specs.Prelude as std
use Rattle.places.specs.declared.block.Run.{Run}

-- ---- the same computation
module _ {A : Type 0} {f known store : List ℕ} {words : A → List ℕ} {at : ℕ} {old : List ℕ} {r : Built} {new : List ℕ} where
  pub same : (m n : Ask (Result A)) → n ≡ m → Builds f known store words m at old r new → Builds f known store words n at old r new
  same m n e h = record { gives = λ M x. rw e (h.gives M x); kept = h.kept }

-- ---- `default_of`
module _ (f : List ℕ) (place : Place) where
  is-implicit : place.id ≡ 0 → default_of f place ≡ implicit f place
  unfolding Defaults.default_of default_by
  is-implicit e = ap (λ (i : ℕ). if_stated i (λ u. implicit f place) type_default) e

  is-typed : {t : ℕ} → place.id ≡ suc t → default_of f place ≡ type_default t
  unfolding Defaults.default_of default_by
  is-typed e = ap (λ (i : ℕ). if_stated i (λ u. implicit f place) type_default) e

  module _ {known store : List ℕ} {at : ℕ} {old : List ℕ} {r : Built} {new : List ℕ} where
    pub default-implicit : place.id ≡ 0 → Builds f known store flatten (implicit f place) at old r new → Builds f known store flatten (default_of f place) at old r new
    default-implicit e h = same (implicit f place) (default_of f place) (is-implicit e) h

    pub default-typed : {t : ℕ} → place.id ≡ suc t → Builds f known store flatten (type_default t) at old r new → Builds f known store flatten (default_of f place) at old r new
    default-typed {t} e h = same (type_default t) (default_of f place) (is-typed e) h

  pub typed-type : {t : ℕ} → place.id ≡ suc t → PlaceIn f place → IsType f t
  typed-type {t} e i = link-to (IsType f) place.id t e i.types.type

  pub implicit-room : (at n : ℕ) → at + start_levels f place * 12288 ≤ n → place.id ≡ 0 → at + implicit_levels f place * 12288 ≤ n
  implicit-room at n h e = omega (arith, levels-implicit f place e)

  pub typed-room : (at n : ℕ) → at + start_levels f place * 12288 ≤ n → {t : ℕ} → place.id ≡ suc t → at + 12288 ≤ n
  typed-room at n h e = omega (arith, levels-typed f place (λ z. omega (arith, e, z)))

  pub implicit-falls : (t : ℕ) → 4 * start_levels f place + 3 ≡ t → place.id ≡ 0 → 4 * implicit_levels f place + 2 < t
  implicit-falls t h e = omega (arith, levels-implicit f place e)

-- ---- `implicit`
all_listed : (f : List ℕ) (first k : ℕ) → listed_names f shape_fields first k ≡ names_in f first k
unfolding listed_names names_in is_listed
all_listed f first zero = refl
all_listed f first (suc k) = ap (λ (l : List ℕ). word f shape_fields first 0 ∷ l) (all_listed f (suc first) k)

block_listed : (f : List ℕ) (first k : ℕ) → listed_names f block_fields first k ≡ block_names f first k
unfolding listed_names block_names is_listed
block_listed f first zero = refl
block_listed f first (suc k) = go (eqb (word f block_fields first 2) 2) (block_listed f (suc first) k)
  where
    go : (b : Bool) → listed_names f block_fields (suc first) k ≡ block_names f (suc first) k
        → pick (not b) (word f block_fields first 0 ∷ listed_names f block_fields (suc first) k) (listed_names f block_fields (suc first) k)
        ≡ pick b (block_names f (suc first) k) (word f block_fields first 0 ∷ block_names f (suc first) k)
    go true e = e
    go false e = ap (λ (l : List ℕ). word f block_fields first 0 ∷ l) e

-- an array that is small enough, filled with nothing
filled-nothing : (ts : Trees) → filled ts tnil ≡ ts
unfolding filled join rest many
filled-nothing ts = refl

array-nodes : (ts : Trees) → nodes (array_tree ts) ≡ suc (nodes_in ts)
unfolding array_tree
array-nodes ts = nodes-headed 13 ts

peek-filled : (M : Memo) (ts : Trees) → suc (nodes_in ts) ≤ most_nodes → peek M (formed (array_tree (filled ts tnil))) ≡ got (ok (array_tree ts))
unfolding formed peek
peek-filled M ts h = rw (filled-nothing ts, le-leb (nodes (array_tree ts)) most_nodes (omega (arith, array-nodes ts)))

-- every shape but structures, arrays and function blocks
abbrev pub leafy : List ℕ
leafy = 0 ∷ 1 ∷ 2 ∷ 3 ∷ 4 ∷ 5 ∷ 6 ∷ 7 ∷ 8 ∷ 9 ∷ 10 ∷ 13 ∷ 15 ∷ 16 ∷ 17 ∷ []

module _ {f : List ℕ} (a : Accepted f) {place : Place} (i : PlaceIn f place) where
  -- by the place's shape alone
  abbrev shaped : Shape → Ask Outcome
  shaped s =
      on_shape s
      (λ length width. done (built_in f place.shape))
      (λ first many. done (built_in f place.shape))
      (λ first many. structured (fields_by f (default_of f) place (names_in f first many)))
      (λ s first many. array_by f (default_of f) place (λ leaf defaults made size. give tnil))
      (λ u. done (block_field_names f place) >>= λ names. structured (fields_by f (default_of f) place names))
      (λ u. done (built_in f place.shape))
      (λ u. done (built_in f place.shape))

  open-implicit : implicit_by f (default_of f) place ≡ shaped place.shape
  unfolding Defaults.implicit_by
  open-implicit = refl

  by_shape : implicit f place ≡ shaped place.shape
  by_shape = implicit-is f a place i.shape.points ∙ open-implicit

  peek-array : (M : Memo) → peek M (array_by f (default_of f) place (λ leaf defaults made size. give tnil)) ≡ then_peek (peek M (element_defaults f (default_of f) place)) (λ ts. peek M (formed (array_tree (filled ts tnil))))
  unfolding array_by
  peek-array M =
      peek-then M (element_defaults f (default_of f) place) _
      ∙ ap (then_peek (peek M (element_defaults f (default_of f) place))) (fun_ext (λ ts. peek-then M (give tnil) _ ∙ ap (λ p. then_peek p (λ values. peek M (formed (array_tree (filled ts values))))) (peek-give M tnil)))

  leaf-shaped : (s : Shape) → OneOf leafy (tag_of the_type s) → shaped s ≡ done (built_in f place.shape)
  leaf-shaped shape.Bool h = refl
  leaf-shaped (shape.Int bits) h = refl
  leaf-shaped (shape.UInt bits) h = refl
  leaf-shaped (shape.Real bits) h = refl
  leaf-shaped (shape.Bytes bits) h = refl
  leaf-shaped (shape.Time bits) h = refl
  leaf-shaped (shape.Date bits) h = refl
  leaf-shaped (shape.TimeOfDay bits) h = refl
  leaf-shaped (shape.DateAndTime bits) h = refl
  leaf-shaped (shape.String long width) h = refl
  leaf-shaped (shape.Enumeration first many default underlying) h = refl
  leaf-shaped (shape.Structure first many) h = absurd (miss leafy 11 tt h)
  leaf-shaped (shape.Array element first many) h = absurd (miss leafy 12 tt h)
  leaf-shaped (shape.Subrange base low high) h = refl
  leaf-shaped (shape.FunctionBlock name) h = absurd (miss leafy 14 tt h)
  leaf-shaped (shape.Interface name) h = refl
  leaf-shaped (shape.Reference target) h = refl
  leaf-shaped shape.Unknown h = refl

  module _ {known store : List ℕ} {at : ℕ} {old : List ℕ} {r : Built} {new : List ℕ} where
    pub implicit-structure : {first many : ℕ} → place.shape ≡ shape.Structure first many
        → Builds f known store flatten (structured (fields_by f (default_of f) place (listed_names f 3 first many))) at old r new → Builds f known store flatten (implicit f place) at old r new
    implicit-structure {first} {many} e h =
        same _ (implicit f place) (by_shape ∙ ap shaped e ∙ ap (λ (l : List ℕ). structured (fields_by f (default_of f) place l)) (sym (all_listed f first many))) h

    pub implicit-leaves : OneOf leafy (tag_of the_type place.shape) → Puts flatten (got (built_in f place.shape)) at old r new → Builds f known store flatten (implicit f place) at old r new
    implicit-leaves k h =
        record {
          gives = λ M x. rw (by_shape ∙ leaf-shaped place.shape k, peek-done M (built_in f place.shape)) h.gives;
          kept = h.kept;
        }

    module _ {n : ℕ} (e : place.shape ≡ shape.FunctionBlock n) {b : Option Run} (q : b ≡ block_run f place) where
      pub implicit-block : {run : Run} → b ≡ Some run
          → Builds f known store flatten (structured (fields_by f (default_of f) place (listed_names f 6 run.first run.count))) at old r new → Builds f known store flatten (implicit f place) at old r new
      unfolding names_of ◌>>=◌ bind
      implicit-block {run} k h =
          let w : block_field_names f place ≡ ok (block_names f run.first run.count) = names-of-run f place ∙ ap (names_of f) (sym q ∙ k) in
          same _ (implicit f place)
          (by_shape ∙ ap shaped e ∙ ap (λ (x : Result (List ℕ)). done x >>= λ names. structured (fields_by f (default_of f) place names)) w
          ∙ ap (λ (l : List ℕ). structured (fields_by f (default_of f) place l)) (sym (block_listed f run.first run.count))) h

    -- the values of the elements, under the array's head, are the array
    pub implicit-array : {s first many : ℕ} → place.shape ≡ shape.Array s first many
        → Builds f known store array_words (element_defaults f (default_of f) place) at old r new → Builds f known store flatten (implicit f place) at old r new
    implicit-array {s} {first} {many} e h =
        record {
          gives = λ M m. rw (by_shape ∙ ap shaped e, peek-array M) (go M (peek M (element_defaults f (default_of f) place)) (λ ts q. elements-small a m i ts q) (h.gives M m));
          kept = h.kept;
        }
      where
        go : (M : Memo) (p : Peek (Result Trees)) → ((ts : Trees) → p ≡ got (ok ts) → suc (nodes_in ts) ≤ most_nodes) → Gives array_words p at r new
            → Gives flatten (then_peek p (λ ts. peek M (formed (array_tree (filled ts tnil))))) at r new
        go M (got (ok ts)) k x = rw (peek-filled M ts (k ts refl)) (record { says = x.says; stands = x.stands })
        go M (got none) k x = record { says = x.says; stands = tt }
        go M (got large) k x = record { says = x.says; stands = tt }
        go M (wants d) k x = record { says = x.says; stands = tt }

  pub block_none : {known store : List ℕ} {at : ℕ} {old : List ℕ} {n : ℕ} → place.shape ≡ shape.FunctionBlock n → {b : Option Run} → b ≡ block_run f place → b ≡ std.None
      → {r : Built} → r ≡ Err unbuilt.None → Builds f known store flatten (implicit f place) at old r old
  unfolding names_of ◌>>=◌ bind
  block_none e q k i =
      let w : block_field_names f place ≡ none = names-of-run f place ∙ ap (names_of f) (sym q ∙ k) in
      rw i (record {
        gives = λ M x. rw (by_shape ∙ ap shaped e ∙ ap (λ (x : Result (List ℕ)). done x >>= λ names. structured (fields_by f (default_of f) place names)) w, peek-done) (record { says = refl; stands = tt });
        kept = refl;
      })

-- what fits a run of fields
pub structure-fits : {f : List ℕ} → Accepted f → {place : Place} → PlaceIn f place → {first many : ℕ} → place.shape ≡ shape.Structure first many → first + many < 2 ^ 32
structure-fits a i e = fields_fit a (structure-fields i e)

module _ {f : List ℕ} (a : Accepted f) {place : Place} (i : PlaceIn f place) {b : Option Run} (q : b ≡ block_run f place) {run : Run} (k : b ≡ Some run) where
  abbrev run_of : ℕ → Run
  run_of b = record { first = word f Layout.types b 9; count = word f Layout.types b 10 }

  pub block-run-fits : run.first + run.count < 2 ^ 32
  unfolding block_run
  block-run-fits = typed place.id refl (sym q ∙ k)
    where
      recorded : (t l : ℕ) → IsType f t → recorded_block f t ≡ l → on_link l std.None (λ b. Some (run_of b)) ≡ Some run → run.first + run.count < 2 ^ 32
      recorded t zero h e z = cc
      recorded t (suc d) h e z =
          let x : run ≡ run_of d = cc in
          block-fits f t (sym e) x a h

      typed : (l : ℕ) → place.id ≡ l → on_link l std.None (λ t. on_link (recorded_block f t) std.None (λ b. Some (run_of b))) ≡ Some run → run.first + run.count < 2 ^ 32
      typed zero e z = cc
      typed (suc t) e z = recorded t (recorded_block f t) (link-to (IsType f) place.id t e i.types.type) refl z

-- ---- `element_defaults`
pub tree-room : (f : List ℕ) (place : Place) (at n : ℕ) → at + implicit_levels f place * 12288 ≤ n → at + 12288 ≤ n
tree-room f place at n h = omega (arith, levels-some f place)

module _ (f : List ℕ) (place : Place) {s first many : ℕ} (e : place.shape ≡ shape.Array s first many) where
  elements-are : element_defaults f (default_of f) place ≡ default_of f (element_place f place s) >>= λ t. repeated_defaults (elements_of f first many) (flat t)
  unfolding element_defaults
  elements-are = ap (λ (x : Shape). on_array x nothing (λ s first count. default_of f (element_place f place s) >>= λ t. repeated_defaults (elements_of f first count) (flat t))) e

  -- the room of an array is enough for its head and an element
  pub element-room : Accepted f → PlaceIn f place → (at n : ℕ) → at + implicit_levels f place * 12288 ≤ n → at + 6 + start_levels f (element_place f place s) * 12288 ≤ n
  element-room a i at n h = omega (arith, element-levels f a place s first many i e)

  module _ {inner : Place} (k : inner ≡ element_place f place s) where
    peek-elements : (M : Memo) → peek M (element_defaults f (default_of f) place) ≡ then_peek (peek M (default_of f inner)) (λ t. peek M (repeated_defaults (elements_of f first many) (flat t)))
    peek-elements M = ap (peek M) elements-are ∙ peek-then M (default_of f (element_place f place s)) _ ∙ ap (λ (p : Place). then_peek (peek M (default_of f p)) (λ t. peek M (repeated_defaults (elements_of f first many) (flat t)))) (sym k)

    pub inner-in : Accepted f → PlaceIn f place → PlaceIn f inner
    inner-in a i = rw k (element-in f a place s i (element-shape i e))

    pub inner_room : (at n : ℕ) → at + 6 + start_levels f (element_place f place s) * 12288 ≤ n → at + 6 + start_levels f inner * 12288 ≤ n
    inner_room at n h = rw k h

    pub inner-falls : Accepted f → PlaceIn f place → (t : ℕ) → 4 * implicit_levels f place + 1 ≡ t → 4 * start_levels f inner + 3 < t
    inner-falls a i t h = rw k (omega (arith, element-levels f a place s first many i e))

    module _ {known store : List ℕ} (at : ℕ) {old : List ℕ} {r : Built} {mid : List ℕ} where
      -- what `?` hands on
      pub element-fails : {u : Unbuilt} → Builds f known store flatten (default_of f inner) (at + 6) old (Err u) mid → r ≡ Err u → Builds f known store array_words (element_defaults f (default_of f) place) at old r mid
      element-fails x q =
          record {
            gives = λ M m. rw (peek-elements M) (gives-err array_words at mid (peek M (default_of f inner)) (x.gives M m) _ q);
            kept = kept-before at (at + 6) mid old (omega arith) x.kept;
          }

      pub element-all : Builds f known store flatten (default_of f inner) (at + 6) old r mid → Accepted f → PlaceIn f place → {end : ℕ} → r ≡ Ok end → {r' : Built} {new : List ℕ} → Spreads (elements_of f first many) at end mid r' new
          → Builds f known store array_words (element_defaults f (default_of f) place) at old r' new
      element-all x a i {end} q {r'} {new} y = record { gives = go; kept = y.kept ∙ kept-before at (at + 6) mid old (omega arith) x.kept }
        where
          go : (M : Memo) → Memory f known store M → Gives array_words (peek M (element_defaults f (default_of f) place)) at r' new
          go M m =
              let v = gives-ends (peek M (default_of f inner)) (x.gives M m) q in
              let g = default-small a m (inner-in a i) v.value v.is in
              rw (peek-elements M, v.is) (y.gives v.value g.good v.stands M)

-- ---- `field_default`
peek-field : (f : List ℕ) (place : Place) (name : ℕ) (M : Memo) (size : ℕ)
    → peek M (field_ask f place name size) ≡ then_peek (then_peek (got (field_place f place name)) (λ p. peek M (default_of f p))) (λ t. peek M (field size name t))
unfolding field_ask
peek-field f place name M size =
    peek-then M (done (field_place f place name) >>= default_of f) (field size name)
    ∙ ap (λ p. then_peek p (λ t. peek M (field size name t)))
    (peek-then M (done (field_place f place name)) (default_of f) ∙ ap (λ p. then_peek p (λ p. peek M (default_of f p))) (peek-done M (field_place f place name)))

-- a field's tree under its name, behind so many nodes
module _ (M : Memo) (size name : ℕ) (t : Tree) where
  named-nodes : nodes_in (one (named name t)) ≡ nodes t
  named-nodes = nodes_in-one (named name t) ∙ nodes-named name t

  pub peek-named : suc (size + nodes t) ≤ most_nodes → peek M (field size name t) ≡ got (ok (one (named name t)))
  unfolding field gathered peek
  peek-named h = rw (le-leb (suc (size + nodes_in (one (named name t)))) most_nodes (omega (arith, named-nodes)))

  pub peek-over : most_nodes < suc (size + nodes t) → peek M (field size name t) ≡ got large
  unfolding field gathered peek
  peek-over h = rw (lt-leb (suc (size + nodes_in (one (named name t)))) most_nodes (omega (arith, named-nodes)))

pub one-gives : (to : ℕ) (name : ℕ) (t : Tree) (e : ℕ) (new : List ℕ) → Stand new to (flatten (named name t)) e → Gives flatten_all (got (ok (one (named name t)))) to (Ok e) new
one-gives to name t e new x =
    let y : Stand new to (flatten_all (one (named name t))) e = rw (flatten_all-one (named name t)) x in
    record { says = ap Ok (sym y.long); stands = rw y.long y }

module _ (f : List ℕ) (place : Place) (name : ℕ) (w : Option Place) (k : result_of w ≡ field_place f place name) where
  pub field-none : {known store : List ℕ} {at to : ℕ} {old : List ℕ} → w ≡ std.None → {r : Built} → r ≡ Err unbuilt.None → BuildsField f known store place name at to old r old
  field-none e i =
      let z : field_place f place name ≡ none = sym k ∙ ap result_of e in
      rw i (record {
        gives = λ size u M m. rw (peek-field f place name M size, z) (record { says = refl; stands = tt });
        ends = λ e q. let z : ◌≡◌ {A = ℕ} 0 1 = cc in absurd (omega arith);
        kept = refl;
      })

  module _ {inner : Place} (e : w ≡ Some inner) where
    peek-inner : (M : Memo) (size : ℕ) → peek M (field_ask f place name size) ≡ then_peek (peek M (default_of f inner)) (λ t. peek M (field size name t))
    peek-inner M size = peek-field f place name M size ∙ ap (λ (r : Result Place). then_peek (then_peek (got r) (λ p. peek M (default_of f p))) (λ t. peek M (field size name t))) (sym k ∙ ap result_of e)

    pub field_in : Accepted f → PlaceIn f place → PlaceIn f inner
    field_in a i = field_found f a place name i k e

    pub field_room : Accepted f → PlaceIn f place → (at to n : ℕ) → to ≤ at + 12288 → at + implicit_levels f place * 12288 ≤ n → to + start_levels f inner * 12288 ≤ n
    field_room a i at to n h l = omega (arith, field-levels f a place name i k e)

    pub field-falls : Accepted f → PlaceIn f place → (t : ℕ) → 4 * implicit_levels f place ≡ t → 4 * start_levels f inner + 3 < t
    field-falls a i t h = omega (arith, field-levels f a place name i k e)

    -- what `?` hands on
    pub field-fails : {known store : List ℕ} {at to : ℕ} {old : List ℕ} {u : Unbuilt} {mid : List ℕ} → Builds f known store flatten (default_of f inner) to old (Err u) mid → {r : Built} → r ≡ Err u
        → BuildsField f known store place name at to old r mid
    field-fails {to = to} {mid = mid} x q =
        record {
          gives = λ size u M m. rw (peek-inner M size) (gives-err flatten_all to mid (peek M (default_of f inner)) (x.gives M m) _ q);
          ends = λ e p. absurd (err-no-end q e p);
          kept = x.kept;
        }

    module _ {known store : List ℕ} {at to : ℕ} {old : List ℕ} {r : Built} {mid : List ℕ} (x : Builds f known store flatten (default_of f inner) to old r mid) where
      module _ {end : ℕ} (q : r ≡ Ok end) (h : at ≤ to) (l : to ≤ end) {r' : Built} {new : List ℕ} (y : NamesField at to end name mid r' new) where
        pub field-all : BuildsField f known store place name at to old r' new
        field-all = go (ltb tree_words (end - at)) refl y.says y.is
          where
            go : (b : Bool) → ltb tree_words (end - at) ≡ b → r' ≡ pick b (Err unbuilt.TooLarge) (Ok end) → new ≡ pick b mid (set mid to name) → BuildsField f known store place name at to old r' new
            go true t s d =
                record {
                  gives = λ size u M m.
                      let v = gives-ends (peek M (default_of f inner)) (x.gives M m) q in
                      let c = stands-long mid to v.value end v.stands in
                      let g : most_nodes < suc (size + nodes v.value) = omega (arith, ltb-true tree_words (end - at) t) in
                      rw (peek-inner M size, v.is, peek-over M size name v.value g) (record { says = s; stands = tt });
                  ends = λ e z. let z : ◌≡◌ {A = ℕ} 0 1 = cc in absurd (omega arith);
                  kept = ap (take to) d ∙ x.kept;
                }
            go false t s d =
                record {
                  gives = λ size u M m.
                      let v = gives-ends (peek M (default_of f inner)) (x.gives M m) q in
                      let c = stands-long mid to v.value end v.stands in
                      let g : suc (size + nodes v.value) ≤ most_nodes = omega (arith, ltb-false tree_words (end - at) t) in
                      rw (peek-inner M size, v.is, peek-named M size name v.value g, s) (one-gives to name v.value end new (named-there mid to v.value end name v.stands d));
                  ends = λ e z. let c : end ≡ e = cc in (omega arith, omega (arith, ltb-false tree_words (end - at) t));
                  kept = ap (take to) d ∙ take-set-le to mid to name (omega arith) ∙ x.kept;
                }

pub ruleset laws =
    (rules, opened, place-linked, linked-type, link-some, link-none, leaf-all, default-implicit, default-typed, typed-type, implicit-room, typed-room, implicit-falls, implicit-structure, implicit-leaves, implicit-block, implicit-array, block_none, structure-fits, block-run-fits, element-shape, element-room, tree-room, inner-in, inner_room, inner-falls, element-fails, element-all, default-whole, default-after, field-none, field_in, field_room, field-falls, field-fails, field-all, so-far-none, so_far_skip, so-far-all, so-far-fails, so_far_more)
