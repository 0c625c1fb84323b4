-- A law for each return of convert.rt. Assumes nothing.
use mathlib.Core.Path.{◌≡◌, refl, ap, sym, ◌∙◌}
use mathlib.Core.Bool.{Bool, true, false}
use mathlib.Core.List.{List, ◌++◌}
use Prim.Native.Nat.{ℕ, ◌<◌, ◌≤◌}
use native.Mathlib.Omega.{arith}
use lib.Dec.{eqb, ltb}
use lib.ListN.{length, drop}
use denote.Ref.{Bor}
use borrow.Author.Rules.{rules}
use borrow.Author.Tests.{ne_eqb, eq-eqb, eqb-true, ltb-true, le-leb, lt-leb}
use Rattle.definition.specs.declared.records.Shape.{Shape}
use Rattle.definition.specs.declared.records.Constant.{Constant}
use Rattle.definition.specs.declared.answers.Refusal.{Refusal}
use Rattle.definition.specs.declared.answers.Refusal.TheVariants as refusal
use Rattle.definition.specs.Layout.{count, shapes, constants}
use Rattle.definition.specs.Records.{shape_at, constant_at}
use Rattle.definition.specs.Base.{pick, choose}
use Rattle.definition.specs.Accept.{verdict, need}
use Rattle.definition.specs.Tree as tree-definition
use Rattle.definition.specs.Tree.{flatten, flatten_all, nodes, nodes_in, constant_tree}
use Rattle.definition.specs.Ask.{ok, Outcome, result_of}
use Rattle.definition.specs.Scalar.{as_tree, constant_value}
use Rattle.definition.specs.Answers.{Says, number_of, tree_says, over, tree_answer, tree_out}
use Rattle.laws.specs.Cases.{never, both}
use Rattle.laws.specs.Accepted.{accepted}
use Rattle.records.specs.declared.file.File.{File}
use Rattle.acceptance.specs.Admitted.{refusal_in, Admits}
use Rattle.acceptance.proofs.Accepting.{holds, fails, refused}
use Rattle.acceptance.proofs.Wanting.{at-least-one}
use Rattle.places.specs.Inside.{ShapeIn, shape-in}
use Rattle.conversion.specs.Convert.{there, Both, convert_refused, value_at, convert_answer, convert_out}
use Rattle.std.specs.Prelude.{None, Option, Some, Result, Ok, Err, MatchResult}

-- ---- `value_at`
pub shape-at : {f : List ℕ} {shape constant : ℕ} {s : Shape} → s ≡ shape_at f shape → Both f shape constant → ShapeIn f s
shape-at {f} {shape} is b = rw is (shape-in f b.accepted shape b.shape_there)

pub value-is : (f : List ℕ) (shape constant : ℕ) {s : Shape} → s ≡ shape_at f shape → {r : Outcome} → r ≡ constant_value f s (constant_at f constant) → r ≡ value_at f shape constant
unfolding value_at
value-is f shape constant is h = rw (← is) h

-- ---- `there`
module _ (f : List ℕ) (shape constant : ℕ) {n : ℕ} (is : n ≡ count f shapes) where
  pub no-shape : {r : Refusal} → ◌≡◌ {A = Result (Unit {0}) Refusal} (Err r) (pick (ltb shape n) (Ok tt) (Err refusal.Missing)) → {w : Result (Unit {0}) Refusal} → w ≡ Err r
      → refusal_in w ≡ need (there f shape constant) 7 (λ v. 0)
  unfolding there number_of
  no-shape {r} e q = rw (q, refused (ltb shape n) r refusal.Missing e, ← is, fails (ltb shape n) r refusal.Missing e)

  pub both-there : {u : Unit {0}} → ◌≡◌ {A = Result (Unit {0}) Refusal} (Ok u) (pick (ltb shape n) (Ok tt) (Err refusal.Missing)) → {m : ℕ} → m ≡ count f constants
      → {w : Result (Unit {0}) Refusal} → w ≡ pick (ltb constant m) (Ok tt) (Err refusal.Missing) → refusal_in w ≡ need (there f shape constant) 7 (λ v. 0)
  unfolding there number_of
  both-there e {m} k q = rw (q, ← is, holds (ltb shape n) refusal.Missing e, ← k) (go (ltb constant m))
    where
      go : (t : Bool) → refusal_in (pick t (Ok tt) (Err refusal.Missing)) ≡ need t 7 (λ v. 0)
      go true = refl
      go false = refl

-- ---- `asked`
pub asked-by : (f : List ℕ) (shape constant : ℕ) {answers : Bor File → Result (Unit {0}) Refusal → Type 0} {r : Result File Refusal} → Admits answers f r
    → ((file : Bor File) (a : Result (Unit {0}) Refusal) → answers file a → refusal_in a ≡ need (there file.now.source shape constant) 7 (λ v. 0))
    → MatchResult r (λ file. (file.source ≡ f) × (convert_refused f shape constant ≡ 0)) (λ refusal. number_of refusal ≡ convert_refused f shape constant)
unfolding convert_refused
asked-by f shape constant x h =
    x.is (λ u. need (there f shape constant) 7 (λ v. 0)) (λ file a q p. h file a p ∙ ap (λ (l : List ℕ). need (there l shape constant) 7 (λ v. 0)) q)

pub both_so : (f : List ℕ) (shape constant : ℕ) → convert_refused f shape constant ≡ 0 → Both f shape constant
unfolding convert_refused there
both_so f shape constant z = go (eqb (verdict f) 0) refl (there f shape constant) refl z
  where
    go : (a : Bool) → eqb (verdict f) 0 ≡ a → (b : Bool) → there f shape constant ≡ b → choose a (λ u. need b 7 (λ v. 0)) (λ u. verdict f) ≡ 0 → Both f shape constant
    go true p true q r =
        let t = both (ltb shape (count f shapes)) (ltb constant (count f constants)) q in
        record {
          accepted = accepted f (eqb-true (verdict f) 0 p);
          shape_there = ltb-true shape (count f shapes) t.0;
          constant_there = ltb-true constant (count f constants) t.1;
        }
    go true p false q r = absurd (omega (arith, r))
    go false p b q r = never (sym p ∙ eq-eqb (verdict f) 0 r)

-- ---- `put`
module _ (c : Constant) (out : List ℕ) where
  pub no-room-says : length out < 6 → tree_says (Err refusal.Short) ≡ tree_answer (ok (constant_tree c)) (length out)
  unfolding number_of tree_says tree_answer constant_tree tree-definition.leaf nodes nodes_in
  no-room-says l = rw (lt-leb 6 (length out) l)

  pub no-room-keeps : length out < 6 → out ≡ over (flatten (constant_tree c)) out
  unfolding over flatten flatten_all constant_tree tree-definition.leaf
  no-room-keeps l = rw (lt-leb 6 (length out) l)

  pub room_says : 6 ≤ length out → tree_says (Ok (Some 1)) ≡ tree_answer (ok (constant_tree c)) (length out)
  unfolding tree_says tree_answer constant_tree tree-definition.leaf nodes nodes_in
  room_says l = rw (le-leb 6 (length out) l)

  pub room-wrote : 6 ≤ length out → {words : List ℕ} → words ≡ flatten (constant_tree c) → words ++ drop 6 out ≡ over (flatten (constant_tree c)) out
  unfolding over flatten flatten_all constant_tree tree-definition.leaf
  room-wrote l e = rw (le-leb 6 (length out) l, e)

-- ---- `convert`
module _ (f : List ℕ) (shape constant : ℕ) where
  module _ (r : Refusal) (is : number_of r ≡ convert_refused f shape constant) where
    refuses-so : convert_refused f shape constant ≡ 0 → ⊥
    refuses-so z = omega (arith, at-least-one r)

    pub refusal-says : (out : ℕ) → tree_says (Err r) ≡ convert_answer f shape constant out
    unfolding convert_answer tree_says
    refusal-says out = rw (is, ne_eqb (convert_refused f shape constant) 0 refuses-so)

    pub refusal-keeps : (out : List ℕ) → out ≡ convert_out f shape constant out
    unfolding convert_out
    refusal-keeps out = rw (ne_eqb (convert_refused f shape constant) 0 refuses-so)

  module _ (z : convert_refused f shape constant ≡ 0) {g : List ℕ} (q : g ≡ f) (l : Option Constant) (e : as_tree (result_of l) ≡ value_at g shape constant) where
    value-of : value_at f shape constant ≡ as_tree (result_of l)
    value-of = rw (← q) (sym e)

    pub none-says : l ≡ None → (out : ℕ) → tree_says (Ok None) ≡ convert_answer f shape constant out
    unfolding convert_answer as_tree tree_answer tree_says
    none-says h out = rw (z, value-of, h)

    pub none-keeps : l ≡ None → (out : List ℕ) → out ≡ convert_out f shape constant out
    unfolding convert_out as_tree tree_out
    none-keeps h out = rw (z, value-of, h)

    module _ {c : Constant} (h : l ≡ Some c) where
      pub value-says : (out : ℕ) {r : Says} → r ≡ tree_answer (ok (constant_tree c)) out → r ≡ convert_answer f shape constant out
      unfolding convert_answer as_tree
      value-says out k = rw (z, value-of, h) k

      pub value-wrote : (out : List ℕ) {after : List ℕ} → after ≡ over (flatten (constant_tree c)) out → after ≡ convert_out f shape constant out
      unfolding convert_out as_tree tree_out
      value-wrote out k = rw (z, value-of, h) k

pub ruleset conversions = (rules, shape-at, value-is, both_so, no-shape, both-there, asked-by, no-room-says, no-room-keeps, room_says, room-wrote, refusal-says, refusal-keeps, none-says, none-keeps, value-says, value-wrote)
