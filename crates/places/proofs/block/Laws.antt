-- A law for each return of block.rt, and what its calls require. Assumes nothing.
use mathlib.Core.Path.{◌≡◌, sym, ap, ◌∙◌, refl}
use mathlib.Core.Bool.{true, not, ◌&&◌}
use mathlib.Core.List.{List}
use Prim.Native.Nat.{zero, ℕ, suc, ◌+◌, ◌-◌, ◌^◌, ◌<◌}
use native.Mathlib.Omega.{arith}
use lib.Dec.{eqb, lit<}
use borrow.Author.Rules.{rules}
use borrow.Author.Tests.{eqb-true}
use Rattle.definition.specs.declared.records.Place.{Place}
use Rattle.definition.specs.Base.{pick, inline}
use Rattle.definition.specs.Layout.{word, count, types, block_fields, most_records, limits_of_records}
use Rattle.definition.specs.Records.{alias_base}
use Rattle.definition.specs.Accept.{run_in, block_points}
use Rattle.definition.specs.Places.{has_block, recorded_up_to, recorded_block, first_named, block_field_type}
use Rattle.laws.specs.Cases.{both, either}
use Rattle.laws.specs.Links.{Link, link-to}
use Rattle.laws.specs.Accepted.{Accepted, count_most, few-types, run_in_lem, type-points}
use Rattle.laws.specs.Nearby.{near-block}
use Rattle.laws.specs.Used.{IsType, leads-inside}
use Rattle.std.specs.Prelude.{Option, Some, None}
use Rattle.places.specs.declared.block.Run.{Run}
use Rattle.places.specs.Found.{block_run, run_of_block}
use Rattle.places.specs.Links.{link_of}
use Rattle.places.specs.Found.{found_up_to}
use Rattle.places.proofs.Chains.{on-same, chain-ends, chain-here, chain-stops, chain-next}
use Rattle.places.proofs.Steps.{Comes, starts_at}

-- ---- `has_block`
pub has-block-is : (f : List ℕ) (t : ℕ) {w : ℕ} → w ≡ word f types t 9 → not (eqb w inline) ≡ has_block f t
unfolding has_block
has-block-is f t e = rw e

-- ---- `recorded_block`
module _ (f : List ℕ) where
  recorded-found : (k t : ℕ) → found_up_to (λ t. word f types t 1) (has_block f) k t ≡ recorded_up_to f k t
  unfolding found_up_to recorded_up_to alias_base
  recorded-found zero t = refl
  recorded-found (suc k) t = ap (pick (has_block f t) (suc t)) (on-same (word f types t 1) (λ d. recorded-found k d))

  module _ (t : ℕ) where
    -- so many of the steps from t are done, and x is next
    abbrev pub Left : ℕ → ℕ → ℕ → Type 0
    Left many n x = Comes (found_up_to (λ t. word f types t 1) (has_block f)) (many - n) x (recorded_block f t)

    pub chain-starts : {many : ℕ} → many ≡ count f types → Left many 0 t
    unfolding recorded_block
    chain-starts {many} e = starts_at (found_up_to (λ t. word f types t 1) (has_block f)) many t (recorded-found many t ∙ ap (λ (n : ℕ). recorded_up_to f n t) e)

-- ---- `block_field_type`
-- a type's number leaves room for a link to it
pub type-fits : {f : List ℕ} → Accepted f → {t : ℕ} → IsType f t → t < 2 ^ 32 - 1
type-fits {f} a h = omega (arith, few-types f a)

module _ (f : List ℕ) (t : ℕ) where
  pub untyped : (name : ℕ) → 0 ≡ recorded_block f t → 0 ≡ block_field_type f t name
  unfolding block_field_type
  untyped name e = rw (← e)

  module _ {b : ℕ} (is : suc b ≡ recorded_block f t) {run : Run} (p : run ≡ run_of_block f b) where
    module _ (name : ℕ) where
      pub no-block-field : 0 ≡ first_named f block_fields name run.first run.count → 0 ≡ block_field_type f t name
      unfolding block_field_type
      no-block-field e = let q : 0 ≡ first_named f block_fields name (word f types b 9) (word f types b 10) = rw p at e in rw (← is, ← q)

      pub block-typed : {k : ℕ} → suc k ≡ first_named f block_fields name run.first run.count → (r : Option ℕ) → link_of r ≡ word f block_fields k 1 → link_of r ≡ block_field_type f t name
      unfolding block_field_type
      block-typed {k} e r h = let q : suc k ≡ first_named f block_fields name (word f types b 9) (word f types b 10) = rw p at e in rw (← is, ← q) h

    pub block-fits : Accepted f → IsType f t → run.first + run.count < 2 ^ 32
    unfolding block_points most_records limits_of_records
    block-fits a h =
        let l : Link (IsType f) (recorded_block f t) = near-block f (IsType f) (IsType f) (leads-inside f a) t h in
        let i : IsType f b = link-to (IsType f) (recorded_block f t) b (sym is) l in
        let g : block_points f run.first run.count ≡ true = rw p (type-points f a b i).block in
        either (run_in f block_fields run.first run.count) (eqb run.first inline && eqb run.count 0) g
        (λ r. omega (arith, run_in_lem f block_fields run.first run.count r, count_most f a block_fields (lit< tt)))
        (λ r. let s = both (eqb run.first inline) (eqb run.count 0) r in omega (arith, eqb-true run.first inline s.0, eqb-true run.count 0 s.1))

-- ---- `block_run`
module _ (f : List ℕ) (place : Place) where
  pub no-type : 0 ≡ place.id → None ≡ block_run f place
  unfolding block_run
  no-type e = rw (← e)

  module _ {t : ℕ} (e : suc t ≡ place.id) where
    pub no_block : 0 ≡ recorded_block f t → None ≡ block_run f place
    unfolding block_run
    no_block z = rw (← e, ← z)

    pub run-of-block : {b : ℕ} → suc b ≡ recorded_block f t → {run : Run} → run ≡ run_of_block f b → Some run ≡ block_run f place
    unfolding block_run
    run-of-block z p = rw (← e, ← z, p)

pub ruleset laws = (rules, has-block-is, untyped, no-block-field, block-typed, block-fits, no-type, no_block, run-of-block)

pub ruleset following = (rules, chain-starts, chain-ends, chain-here, chain-stops, chain-next)
