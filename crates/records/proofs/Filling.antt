-- A table that is filled from its front, one store a turn. Assumes nothing.
use mathlib.Core.Path.{◌≡◌, refl, sym, ap, ◌∙◌}
use mathlib.Core.List.{List, ◌++◌}
use Prim.Native.Nat.{ℕ, zero, suc, ◌+◌, ◌-◌, ◌≤◌, ◌<◌}
use native.Mathlib.Omega.{arith}
use native.Mathlib.Numerals.{add-one}
use lib.ListN.{length, get_or, set, take, drop, replicate, length-replicate, replicate-append-replicate}
use lib.Seq.{drop-cons, append_snoc, set_at, take_at, drop_at}
use borrow.Author.Rules.{rules}
use Rattle.records.specs.Tables.{table_of, Filled, table-length}

pub none_filled : (g : ℕ → ℕ) (lent : List ℕ) → Filled g 0 lent lent
unfolding table_of
none_filled g lent = record { room = omega arith; is = refl }

module _ {g : ℕ → ℕ} {n : ℕ} {lent words : List ℕ} (i : Filled g n lent words) where
  pub one-filled : n < length lent → {v : ℕ} → v ≡ g n → Filled g (n + 1) lent (set words n v)
  unfolding table_of
  one-filled l {v} e =
      record {
        room = omega arith;
        is =
            rw (i.is, drop-cons lent n 0 l, set_at (table_of g n) (get_or lent n 0) (drop (suc n) lent) v n (table-length g n), add-one, e)
            (sym (append_snoc (table_of g n) (g n) (drop (suc n) lent)));
      }

  pub filled-part : take n words ≡ table_of g n
  filled-part = ap (take n) i.is ∙ take_at (table_of g n) (drop n lent) n (table-length g n)

  pub all-filled : (m : ℕ) → n ≤ m → m ≤ n → Filled g m lent words
  all-filled m h l = let e : m ≡ n = omega arith in rw e i

-- ---- words that were 0, filled and then set to 0 again
zeros-back : (n rest : ℕ) → replicate {A = ℕ} n 0 ++ drop n (replicate (n + rest) 0) ≡ replicate (n + rest) 0
zeros-back n rest =
    rw (← replicate-append-replicate {A = ℕ} n rest 0, drop_at {A = ℕ} (replicate n 0) (replicate rest 0) n (length-replicate n 0))

pub zeroed-again : {g : ℕ → ℕ} {n : ℕ} {lent words last : List ℕ} → Filled g n lent words → last ≡ replicate {A = ℕ} n 0 ++ drop n words → lent ≡ replicate (length lent) 0 → last ≡ lent
zeroed-again {g} {n} {lent} {words} {last} i j z =
    let e : n + (length lent - n) ≡ length lent = omega (arith, i.room) in
    let d : drop n words ≡ drop n lent = ap (drop n) i.is ∙ drop_at (table_of g n) (drop n lent) n (table-length g n) in
    let b : replicate {A = ℕ} n 0 ++ drop n (replicate (length lent) 0) ≡ replicate (length lent) 0 = rw e at (zeros-back n (length lent - n)) in
    j ∙ rw d (rw z b)

zeros : (n : ℕ) → table_of (λ k. 0) n ≡ replicate n 0
unfolding table_of
zeros zero = refl
zeros (suc n) = rw (zeros n, replicate-append-replicate {A = ℕ} n 1 0) (ap (λ (k : ℕ). replicate k 0) (add-one n))

-- the same where the table of 0 was filled in too
pub filled-again : {g : ℕ → ℕ} {n : ℕ} {lent words last : List ℕ} → Filled g n lent words → Filled (λ k. 0) n words last → lent ≡ replicate (length lent) 0 → last ≡ lent
filled-again {n = n} i j z = zeroed-again i (rw (zeros n) at j.is) z

pub ruleset filling = (rules, none_filled, one-filled, all-filled)
