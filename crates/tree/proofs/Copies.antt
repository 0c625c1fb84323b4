-- Words copied one by one to another slice. Assumes nothing.
use mathlib.Core.Path.{◌≡◌, refl, ◌∙◌}
use mathlib.Core.List.{List}
use Prim.Native.Nat.{ℕ, ◌+◌, ◌≤◌, ◌<◌}
use native.Mathlib.Omega.{arith}
use native.Mathlib.Numerals.{add-one}
use lib.ListN.{length, get_or, drop, set, length-drop, length-set}
use lib.Seq.{paste, paste-zero, paste-suc, get_or-drop}
use borrow.Author.Rules.{rules}
use Rattle.tree.specs.Words.{Copyable}

-- i of n words stand at their place, and all else is as it was
pub record Copied (src : List ℕ) (a n : ℕ) (old : List ℕ) (at i : ℕ) (out : List ℕ) : Type 0 where
  pub some : i ≤ n
  pub long : length out ≡ length old
  pub is : out ≡ paste old at (drop a src) i

pub copied-first : (src : List ℕ) (a n : ℕ) (old : List ℕ) (at : ℕ) → Copied src a n old at 0 old
copied-first src a n old at = record { some = omega arith; long = refl; is = paste-zero old at (drop a src) }

module _ {src : List ℕ} {a n : ℕ} {old : List ℕ} {at i : ℕ} {out : List ℕ} (g : Copied src a n old at i out) where
  pub copied_more : Copyable (length src) a (length old) at n → i < n → {v : ℕ} → v ≡ get_or src (a + i) 0 → Copied src a n old at (i + 1) (set out (at + i) v)
  copied_more c h {v} e =
      record {
        some = omega arith;
        long = length-set out (at + i) v ∙ g.long;
        is = rw (e, g.is, add-one, ← get_or-drop a src i 0) (paste-suc old at (drop a src) i 0 (omega (arith, c.target)) (simp length-drop (omega (arith, c.source))));
      }

  pub copied_all : n ≤ i → out ≡ paste old at (drop a src) n
  copied_all h = let z : n ≡ i = omega (arith, g.some) in rw z g.is

pub ruleset copies = (rules, copied-first, copied_more, copied_all)
