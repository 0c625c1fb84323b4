-- Bytes put one behind the other by a loop. Assumes nothing.
use mathlib.Core.Path.{◌≡◌, ap, sym, subst}
use mathlib.Core.List.{List, [], ◌++◌}
use Prim.Native.Nat.{ℕ, ◌+◌, ◌≤◌}
use native.Mathlib.Omega.{arith}
use lib.ListN.{length, length-append}
use borrow.Author.Rules.{rules}
use Rattle.laws.specs.Puts.{Puts, puts_none, put_one, puts-long, puts_then}

-- of `whole`, which is put at `at`, `left` is still to be put at `end`, and there is room for it
pub record Putting (whole old : List ℕ) (at : ℕ) (left text : List ℕ) (end : ℕ) : Type 0 where
  pub goes : (r : ℕ) (new : List ℕ) → Puts left text end r new → Puts whole old at r new
  pub room : end + length left ≤ length text

pub putting-first : (whole old : List ℕ) (at : ℕ) → at + length whole ≤ length old → Putting whole old at whole old at
putting-first whole old at h = record { goes = λ r new p. p; room = h }

module _ {whole old : List ℕ} {at : ℕ} {left text : List ℕ} {end : ℕ} (x : Putting whole old at left text end) where
  pub putting-more : {ws new : List ℕ} {e : ℕ} → Puts ws text end e new → (rest : List ℕ) → left ≡ ws ++ rest → Putting whole old at rest new e
  putting-more {ws} {new} {e} p rest i =
      record {
        goes = λ r next q. x.goes r next (subst (λ (l : List ℕ). Puts l text end r next) (sym i) (puts_then p q));
        room = omega (arith, x.room, p.ends, puts-long p, ap length i, length-append ws rest);
      }

  pub putting-last : {r : ℕ} {new : List ℕ} → Puts left text end r new → Puts whole old at r new
  putting-last {r} {new} p = x.goes r new p

  pub putting-done : left ≡ [] → Puts whole old at end text
  putting-done i = x.goes end text (subst (λ (l : List ℕ). Puts l text end end text) (sym i) (puts_none text end (omega (arith, x.room))))

pub ruleset puts = (rules, put_one)
