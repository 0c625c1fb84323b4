-- Section starts: how far a section reaches, and one start after another. Assumes nothing.
use mathlib.Core.Path.{◌≡◌, refl, sym, ap, ◌∙◌}
use mathlib.Core.List.{List, map}
use Prim.Native.Nat.{ℕ, zero, suc, ◌+◌, ◌-◌, ◌*◌, ◌^◌, ◌<◌, ◌≤◌}
use native.Mathlib.Omega.{arith}
use native.Mathlib.Decide.{ℕ_discrete}
use native.Mathlib.Nat.{mul-le-mul}
use native.Mathlib.Numerals.{add-one}
use lib.ListN.{get_or, set, replicate, length-set}
use lib.Seq.{get_or-set_same, get_or-set_other}
use borrow.Author.Rules.{rules}
use Rattle.std.specs.List.{range_with_len}
use Rattle.std.proofs.lemmas.List.FromFn.{get_or-map-range_with_len}
use Rattle.definition.specs.Layout.{words_of_records, record_words, behind, count_at, count, word}
use Rattle.records.specs.Starts.{StartsTo, StartsOf, StartsBehind}

-- a record has at most eleven words
pub words-most : (s : ℕ) → record_words s ≤ 11
unfolding record_words words_of_records
words-most zero = omega arith
words-most (suc zero) = omega arith
words-most (suc (suc zero)) = omega arith
words-most (suc (suc (suc zero))) = omega arith
words-most (suc (suc (suc (suc zero)))) = omega arith
words-most (suc (suc (suc (suc (suc zero))))) = omega arith
words-most (suc (suc (suc (suc (suc (suc zero)))))) = omega arith
words-most (suc (suc (suc (suc (suc (suc (suc zero))))))) = omega arith
words-most (suc (suc (suc (suc (suc (suc (suc (suc zero)))))))) = omega arith
words-most (suc (suc (suc (suc (suc (suc (suc (suc (suc zero))))))))) = omega arith
words-most (suc (suc (suc (suc (suc (suc (suc (suc (suc (suc zero)))))))))) = omega arith
words-most (suc (suc (suc (suc (suc (suc (suc (suc (suc (suc (suc zero))))))))))) = omega arith
words-most (suc (suc (suc (suc (suc (suc (suc (suc (suc (suc (suc (suc zero)))))))))))) = omega arith
words-most (suc (suc (suc (suc (suc (suc (suc (suc (suc (suc (suc (suc (suc zero))))))))))))) = omega arith
words-most (suc (suc (suc (suc (suc (suc (suc (suc (suc (suc (suc (suc (suc (suc s)))))))))))))) = omega arith

-- so many records of a section
pub words_of : (most n s : ℕ) → n ≤ most → n * record_words s ≤ most * 11
words_of most n s l = mul-le-mul l (words-most s)

module _ (f : List ℕ) where
  pub first-start : StartsTo f (replicate 15 0) 0
  unfolding count_at
  first-start =
      record {
        long = refl;
        start = λ s l. let e : s ≡ 0 = omega arith in rw e;
        near = λ s l. let e : s ≡ 0 = omega arith in rw e (omega arith);
      }

  pub next_start : {starts : List ℕ} {s end : ℕ} → StartsTo f starts s → s < 14 → end ≡ behind f s (get_or starts s 0) → end ≤ get_or starts s 0 + 2 ^ 36
      → StartsTo f (set starts (s + 1) end) (s + 1)
  unfolding count_at
  next_start {starts} {s} {end} i l e h =
      record {
        long = length-set starts (s + 1) end ∙ i.long;
        start = λ t m. go t m (ℕ_discrete t (s + 1));
        near = λ t m. far t m (ℕ_discrete t (s + 1));
      }
    where
      here : get_or (set starts (s + 1) end) (s + 1) 0 ≡ end
      here = get_or-set_same starts (s + 1) end 0 (omega (arith, i.long))

      go : (t : ℕ) → t ≤ s + 1 → Dec (t ≡ s + 1) → get_or (set starts (s + 1) end) t 0 ≡ count_at f t
      go t m (yes p) = rw (p, here, add-one, e, i.start s (omega arith))
      go t m (no p) = get_or-set_other starts (s + 1) t end 0 p ∙ i.start t (omega (arith, p))

      far : (t : ℕ) → t ≤ s + 1 → Dec (t ≡ s + 1) → get_or (set starts (s + 1) end) t 0 ≤ t * 2 ^ 36
      far t m (yes p) = rw (p, here) (omega (arith, i.near s (omega arith)))
      far t m (no p) = rw (get_or-set_other starts (s + 1) t end 0 p) (i.near t (omega (arith, p)))

  pub all-starts : {starts : List ℕ} {s : ℕ} → StartsTo f starts s → s ≤ 14 → 14 ≤ s → StartsOf f starts
  all-starts {starts} {s} i l h = let e : s ≡ 14 = omega arith in rw e at i

-- ---- reading by a table of starts
pub start-most : {f starts : List ℕ} {n : ℕ} → StartsTo f starts n → (s : ℕ) → s ≤ n → n ≤ 14 → get_or starts s 0 ≤ 2 ^ 40
start-most i s l h = omega (arith, i.near s l)

module _ {f starts : List ℕ} (i : StartsOf f starts) (s : ℕ) (l : s < 14) where
  pub count-is : {r : ℕ} → r ≡ get_or f (get_or starts s 0) 0 → r ≡ count f s
  unfolding count
  count-is e = rw (← i.start s (omega arith)) e

  pub word-is : (n k w : ℕ) {r : ℕ} → w ≡ record_words s → r ≡ get_or f (get_or starts s 0 + 1 + n * w + k) 0 → r ≡ word f s n k
  unfolding word
  word-is n k w p e = rw (← i.start s (omega arith), ← p) e

pub ends_at : {f starts : List ℕ} → StartsOf f starts → count_at f 14 ≡ get_or starts 14 0
ends_at i = sym (i.start 14 (omega arith))

-- ---- starts behind the first
module _ {f starts : List ℕ} (i : StartsBehind f starts) (s : ℕ) (l : s < 14) (n : s ≡ 0 → ⊥) where
  before : s ≡ suc (s - 1)
  before = omega arith

  pub behind-is : get_or starts (s - 1) 0 ≡ count_at f s
  behind-is = i.start (s - 1) (omega arith) ∙ ap (count_at f) (sym before)

  pub behind-near : get_or starts (s - 1) 0 ≤ 2 ^ 40
  behind-near = i.near (s - 1) (omega arith)

pub kept-behind : {f all starts : List ℕ} → StartsOf f all → starts ≡ map (λ k. get_or all (k + 1) 0) (range_with_len 0 13) → StartsBehind f starts
kept-behind {f} {all} {starts} i e = record {
  start = λ k l. there k l ∙ i.start (k + 1) (omega arith) ∙ ap (count_at f) (add-one k);
  near = λ k l. rw (there k l) (start-most i (k + 1) (omega arith) (omega arith));
}
  where
    there : (k : ℕ) → k < 13 → get_or starts k 0 ≡ get_or all (k + 1) 0
    there k l = rw e (get_or-map-range_with_len (λ k. get_or all (k + 1) 0) 0 13 k k 0 l (omega arith))

pub first-at : (f : List ℕ) (s : ℕ) → s ≡ 0 → 0 ≡ count_at f s
unfolding count_at
first-at f s e = rw e

pub ends-behind : (f : List ℕ) {a e : ℕ} → a ≡ count_at f 13 → e ≡ behind f 13 a → e ≡ count_at f 14
unfolding count_at
ends-behind f p q = rw (q, p)

-- ---- reading from a start
module _ (f : List ℕ) (s : ℕ) {a : ℕ} (e : a ≡ count_at f s) where
  pub count-there : {r : ℕ} → r ≡ get_or f a 0 → r ≡ count f s
  unfolding count
  count-there q = rw (← e) q

  pub word-there : (n k w : ℕ) {r : ℕ} → w ≡ record_words s → r ≡ get_or f (a + 1 + n * w + k) 0 → r ≡ word f s n k
  unfolding word
  word-there n k w p q = rw (← e, ← p) q

pub ruleset starting = (rules, next_start, all-starts, start-most, count-is)

pub ruleset reading = (rules, behind-is, behind-near, first-at, ends-behind, count-there)
