-- Bytes that come one after another from a number. Assumes nothing.
use mathlib.Core.Path.{◌≡◌, refl, ap, subst}
use mathlib.Core.List.{List, [], ◌∷◌, ◌++◌}
use Prim.Native.Nat.{ℕ, zero, suc, ◌+◌, ◌-◌, ◌/◌, ◌%◌, ◌≤◌, ◌<◌}
use native.Mathlib.Omega.{arith}
use lib.ListN.{length, replicate, take, drop}
use Rattle.std.proofs.Math.ListN.{length-replicate}
use borrow.Author.Rules.{rules}
use Rattle.laws.specs.Puts.{Puts, puts-long}
use Rattle.text.proofs.Putting.{Putting, putting-first, putting-more, putting-done}
use Rattle.memory_definition.specs.Numbers.{little_endian}
use Rattle.memory_bytes.specs.Flipped.{flipped}
use Rattle.memory_bytes.specs.Turned.{turned, TurnedBy}

-- ---- `put_each`: of so many bytes j are put
many : (g : ℕ → ℕ) (k n : ℕ) → length (turned g k n) ≡ k
unfolding turned
many g zero n = refl
many g (suc k) n = ap suc (many g k (n / 256))

pub record Turning (answers : ℕ → ℕ → Type 0) (count n : ℕ) (old : List ℕ) (at j rest : ℕ) (text : List ℕ) (end : ℕ) : Type 0 where
  pub says : (g : ℕ → ℕ) → ((b x : ℕ) → answers b x → x ≡ g b) → Putting (turned g count n) old at (turned g (count - j) rest) text end
  pub room : end + (count - j) ≤ length text

pub turning-first : (answers : ℕ → ℕ → Type 0) (count n : ℕ) (old : List ℕ) (at : ℕ) → at + count ≤ length old → Turning answers count n old at 0 n old at
turning-first answers count n old at h =
    let q : count - 0 ≡ count = omega arith in
    record { says = λ g i. rw q (putting-first (turned g count n) old at (omega (arith, many g count n))); room = omega arith }

module _ {answers : ℕ → ℕ → Type 0} {count n : ℕ} {old : List ℕ} {at j rest : ℕ} {text : List ℕ} {end : ℕ} (x : Turning answers count n old at j rest text end) where
  pub turning-room : j < count → end < length text
  turning-room h = omega (arith, x.room)

  pub turning-more : j < count → {y : ℕ} → answers (rest % 256) y → {e : ℕ} {new : List ℕ} → Puts (y ∷ []) text end e new → Turning answers count n old at (j + 1) (rest / 256) new e
  unfolding turned
  turning-more h {y} a {e} {new} p =
      let q : count - j ≡ suc (count - (j + 1)) = omega arith in
      record {
        says = λ g i.
            putting-more (x.says g i) (subst (λ (b : ℕ). Puts (b ∷ []) text end e new) (i (rest % 256) y a) p) (turned g (count - (j + 1)) (rest / 256)) (ap (λ k. turned g k rest) q);
        room = omega (arith, x.room, p.ends, puts-long p);
      }

  pub turning-done : count ≤ j → TurnedBy answers count n old at end text
  unfolding turned
  turning-done h = let q : count - j ≡ 0 = omega arith in record { is = λ g i. putting-done (x.says g i) (ap (λ k. turned g k rest) q) }

-- ---- `put_number`, `put_flipped`
turned-plain : (k n : ℕ) → turned (λ b. b) k n ≡ little_endian k n
unfolding turned little_endian
turned-plain zero n = refl
turned-plain (suc k) n = ap (λ l. (n % 256) ∷ l) (turned-plain k (n / 256))

turned-flipped : (k n : ℕ) → turned (λ b. 255 - b) k n ≡ flipped k n
unfolding turned flipped
turned-flipped zero n = refl
turned-flipped (suc k) n = ap (λ l. (255 - n % 256) ∷ l) (turned-flipped k (n / 256))

module _ (count n : ℕ) {old : List ℕ} {at r : ℕ} {new : List ℕ} where
  pub plain-put : Puts (turned (λ b. b) count n) old at r new → Puts (little_endian count n) old at r new
  plain-put p = subst (λ (l : List ℕ). Puts l old at r new) (turned-plain count n) p

  pub flipped-put : Puts (turned (λ b. 255 - b) count n) old at r new → Puts (flipped count n) old at r new
  flipped-put p = subst (λ (l : List ℕ). Puts l old at r new) (turned-flipped count n) p

-- ---- `put_zeros`
pub zeros-put : (count at : ℕ) (old : List ℕ) {new : List ℕ} → at + count ≤ length old → new ≡ take at old ++ replicate count 0 ++ drop (at + count) old → Puts (replicate count 0) old at (at + count) new
zeros-put count at old h e = record { ends = rw (length-replicate {A = ℕ} count 0) refl; fits = h; is = e }

pub ruleset numbering = (rules, turning-room, turning-done, zeros-put)
