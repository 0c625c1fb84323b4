-- Numbers below a count, as the library's `all`, `count` and folds over a range say it. Assumes nothing.
use mathlib.Core.List.{List, [], ◌∷◌}
use mathlib.Core.Path.{◌≡◌, refl}
use mathlib.Core.Bool.{Bool, true, false, ◌&&◌, and-true}
use Prim.Native.Nat.{ℕ, zero, suc, ◌+◌}
use native.Mathlib.Omega.{arith}
use native.Mathlib.Nat.{add-zero}
use Rattle.std.specs.List.{list_all, range_with_len, fold, count_by, FoldsTo}
use Rattle.std.specs.Fn.{Called, CalledAt}
use Rattle.std.specs.Option.{MatchOption}
use Rattle.std.specs.Prelude.{Option}
use Rattle.std.specs.Iterator.{YieldsThen, Drains}
use Rattle.std.specs.Iterator.Adapters.{filter_source, filter_callee, filter_steps}
use Rattle.std.specs.declared.iter.Filter.{Filter}
use Rattle.std.specs.declared.ops.Range.{Range}
use Rattle.std.proofs.iter.Yields.{nat_range_steps}
use denote.Param.Members.{Mut}
use Rattle.std.proofs.lemmas.Iterator.{YieldsList-from_range}
use Rattle.std.proofs.lemmas.Iterator.Search.{all_from_yields_List}
use Rattle.std.proofs.lemmas.Iterator.Consumers.{YieldsList-from_filter, count_from_yields_List}
use Rattle.std.proofs.lemmas.List.Sums.{length-filter, fold-append}
use Rattle.std.proofs.lemmas.Fn.{fold_over}
use lib.ListN.{length}
use denote.Ref.{Bor}
use Rattle.definition.specs.Base.{every}

regroup : (a b c : Bool) → (a && (b && c)) ≡ ((a && b) && c)
regroup true b c = refl
regroup false b c = refl

module _ (p : ℕ → Bool) where
  -- the last number of a range instead of its first
  last : (a n : ℕ) → list_all p (range_with_len a (suc n)) ≡ (list_all p (range_with_len a n) && p (a + n))
  last a zero = rw add-zero (and-true (p a))
  last a (suc n) =
      let e : a + 1 + n ≡ a + suc n = omega arith in
      rw (last (a + 1) n, e) (regroup (p a) (list_all p (range_with_len (a + 1) n)) (p (a + suc n)))

  is-every : (n : ℕ) → list_all p (range_with_len 0 n) ≡ every p n
  unfolding every
  is-every zero = refl
  is-every (suc n) = let e : 0 + n ≡ n = omega arith in rw (last 0 n, e, is-every n) refl

  all-below : (n : ℕ) {r : Bool} → r ≡ list_all p (range_with_len 0 n) → r ≡ every p n
  all-below n e = rw (← is-every n) e

module _ {F : Type 0} {g : Mut F (ℕ × Unit {0}) Bool} {s : Range ℕ} (test : ℕ → Bool) (u : Range ℕ) (f : F) where
  pub every-in-range : (n : ℕ) (r : Bool)
      → (xs : List ℕ) × (o : Option ℕ) × (j : F) × YieldsThen nat_range_steps s xs o u × FoldsTo (λ p x q. Called g p (x, tt) true q) f xs j × MatchOption o (r ≡ true) (λ x. (r ≡ false) × ((h : F) × Called g j (x, tt) false h))
      → s ≡ record { start = 0; end = n } → ((x : ℕ) (b : Bool) (q : F) → Called g f (x, tt) b q → (q ≡ f) × (b ≡ test x)) → r ≡ every test n
  every-in-range n r d e k = all-below test n (all_from_yields_List test u f r d (YieldsList-from_range 0 n n e (omega arith)) k)

-- ---- a fold over a range, whose last number stands apart
module _ {A : Type 0} (op : A → ℕ → A) where
  fold-last : (a n : ℕ) (init : A) → fold op init (range_with_len a (suc n)) ≡ op (fold op init (range_with_len a n)) (a + n)
  fold-last a zero init = rw add-zero refl
  fold-last a (suc n) init = let e : a + 1 + n ≡ a + suc n = omega arith in rw e at (fold-last (a + 1) n (op init a))

  pub fold-below : (init : A) (d : ℕ → A) → d 0 ≡ init → ((k : ℕ) → d (suc k) ≡ op (d k) k) → (n : ℕ) → fold op init (range_with_len 0 n) ≡ d n
  fold-below init d z s zero = rw z
  fold-below init d z s (suc n) = let e : 0 + n ≡ n = omega arith in rw (fold-last 0 n init, e, fold-below init d z s n, s n) refl

module _ {F : Type 0} {g : Mut F (Bor ℕ × Unit {0}) Bool} (test : ℕ → Bool) (s : Filter (Range ℕ) F) {f : F} where
  pub counted-in-range : (n r : ℕ) → (xs : List ℕ) × Drains (filter_steps nat_range_steps g) s xs × (r ≡ length xs)
      → filter_source s ≡ record { start = 0; end = n } → filter_callee s ≡ f → ((x : ℕ) (b : Bool) (q : F) → CalledAt g f x b q → (q ≡ f) × (b ≡ test x))
      → r ≡ count_by test (range_with_len 0 n)
  counted-in-range n r ran e c k =
      rw (← length-filter test (range_with_len 0 n)) (count_from_yields_List s r ran (YieldsList-from_filter g test (YieldsList-from_range 0 n n e (omega arith)) c k))

module _ {A F : Type 0} {g : Mut F (A × (ℕ × Unit {0})) A} {s : Range ℕ} (op : A → ℕ → A) (f : F) where
  pub folded-in-range : (n : ℕ) (init r : A)
      → (xs : List ℕ) × (h : F) × Drains nat_range_steps s xs × FoldsTo {P = F × A} (λ p x q. Called g p.0 (p.1, (x, tt)) q.1 q.0) (f, init) xs (h, r)
      → s ≡ record { start = 0; end = n } → ((a : A) (x : ℕ) (b : A) (q : F) → Called g f (a, (x, tt)) b q → (b ≡ op a x) × (q ≡ f)) → r ≡ fold op init (range_with_len 0 n)
  folded-in-range n init r ran e step =
      fold_over nat_range_steps (λ x. x) g (λ js a. a ≡ fold op init js) f
      (λ js a x b q i c. let w = step a x b q c in (rw (fold-append op init js (x ∷ []), ← i) w.0, w.1))
      s (range_with_len 0 n) init r (YieldsList-from_range 0 n n e (omega arith)).runs refl ran
