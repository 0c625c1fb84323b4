-- Words that are put one behind the other. Assumes nothing.
use mathlib.Core.Path.{◌≡◌, refl, ap, sym, ◌∙◌}
use mathlib.Core.Bool.{Bool, true, ◌&&◌}
use mathlib.Core.List.{List, ◌++◌, append_assoc}
use Prim.Native.Nat.{ℕ, ◌+◌, ◌-◌, ◌≤◌}
use native.Mathlib.Omega.{arith}
use lib.Dec.{leb}
use lib.ListN.{length, take, drop}
use lib.Seq.{slice, take_at, take-take, take-append-add, drop-append-le, length-slice, length-take-le}
use borrow.Author.Rules.{rules}
use borrow.Author.Tests.{le-leb}
use Rattle.std.specs.Prelude.{Option, Some}
use Rattle.tree.specs.Words.{Copyable, WroteCopy}
use Rattle.tree.proofs.Standing.{wrote-so-is}
use Rattle.tree.proofs.Stands.{take-drop}
use Rattle.laws.specs.Puts.{Puts, front_long, puts-rest, puts-long, put_one}

module _ {ws old : List ℕ} {a b : ℕ} {mid : List ℕ} (p : Puts ws old a b mid) where
  -- what lies before them
  puts-before : take a mid ≡ take a old
  puts-before = rw (p.is, append_assoc (take a old) ws (drop b old)) (take_at (take a old) (ws ++ drop b old) a (length-take-le a old (omega (arith, p.ends, p.fits))))

-- words that end before others are put may be put first
pub record Swapped (vs ws old : List ℕ) (a r b c : ℕ) (new : List ℕ) : Type 0 where
  pub mid : List ℕ
  pub first : Puts vs old a r mid
  pub last : Puts ws mid b c new

module _ {ws old : List ℕ} {b c : ℕ} {mid : List ℕ} (p : Puts ws old b c mid) {vs : List ℕ} {a r : ℕ} {new : List ℕ} (q : Puts vs mid a r new) (h : r ≤ b) where
  abbrev between : List ℕ
  between = slice r b old

  abbrev early : List ℕ
  early = take a old ++ vs ++ drop r old

  early-puts : Puts vs old a r early
  early-puts = record { ends = q.ends; fits = omega (arith, q.fits, puts-long p); is = refl }

  front_same : take a mid ≡ take a old
  front_same = sym (take-take a b mid (omega (arith, q.ends))) ∙ ap (take a) (puts-before p) ∙ take-take a b old (omega (arith, q.ends))

  rest-same : drop r mid ≡ between ++ (ws ++ drop c old)
  rest-same =
      let l : length (take b old) ≡ b = length-take-le b old (omega (arith, p.ends, p.fits)) in
      ap (drop r) (p.is ∙ append_assoc (take b old) ws (drop c old)) ∙ drop-append-le r (take b old) (ws ++ drop c old) (omega arith)

  early-front : take b early ≡ take a old ++ vs ++ between
  early-front =
      let n : b ≡ length (take a old ++ vs) + (b - r) = omega (arith, front_long early-puts) in
      let m : r + (b - r) ≡ b = omega arith in
      ap (λ (k : ℕ). take k early) n ∙ take-append-add (take a old ++ vs) (drop r old) (b - r)
      ∙ ap (λ (l : List ℕ). take a old ++ vs ++ l) (take-drop r (b - r) old ∙ ap (λ (k : ℕ). slice r k old) m)

  pub puts-swap : Swapped vs ws old a r b c new
  puts-swap =
      let k : take a old ++ vs ++ (between ++ (ws ++ drop c old)) ≡ take a old ++ vs ++ between ++ ws ++ drop c old = simp append_assoc in
      record {
        mid = early;
        first = early-puts;
        last = record {
          ends = p.ends;
          fits = omega (arith, p.fits, puts-long early-puts);
          is =
              q.is
              ∙ ap (λ (l : List ℕ). l ++ vs ++ drop r mid) front_same
              ∙ ap (λ (l : List ℕ). take a old ++ vs ++ l) rest-same
              ∙ k
              ∙ ap (λ (l : List ℕ). l ++ ws ++ drop c old) (sym early-front)
              ∙ ap (λ (l : List ℕ). take b early ++ ws ++ l) (sym (puts-rest early-puts c (omega (arith, p.ends))));
        };
      }

-- nodes that were copied
abbrev copy_test : List ℕ → ℕ → ℕ → List ℕ → ℕ → Bool
copy_test from a n old at = leb (a + n) (length from) && leb (at + n) (length old)

module _ (from old : List ℕ) (a at n : ℕ) (y : Copyable (length from) a (length old) at n) {x : Option ℕ} {new : List ℕ} (w : WroteCopy from a n old at x new) where
  copy_test_lem : copy_test from a n old at ≡ true
  copy_test_lem = rw (le-leb (a + n) (length from) y.source, le-leb (at + n) (length old) y.target)

  pub nodes-put : {e : ℕ} → x ≡ Some e → Puts (slice a (a + n) from) old at e new
  nodes-put {e} i =
      let t = wrote-so-is (copy_test from a n old at) w i in
      let k : length (slice a (a + n) from) ≡ n = length-slice a (a + n) from y.source ∙ omega arith in
      record {
        ends = omega (arith, t.1, k);
        fits = omega (arith, t.1, y.target);
        is = t.2 ∙ ap (λ (l : List ℕ). take at old ++ l ++ drop (at + n) old) (take-drop a n from) ∙ ap (λ (d : ℕ). take at old ++ slice a (a + n) from ++ drop d old) (sym t.1);
      }

pub ruleset puts = (rules, put_one)
