-- The words before a refusal's number. Assumes nothing.
use mathlib.Core.Path.{◌≡◌, refl}
use mathlib.Core.List.{List, [], ◌∷◌, ◌++◌}
use Prim.Native.Nat.{ℕ, ◌+◌, ◌≤◌, ◌<◌}
use native.Mathlib.Omega.{arith}
use mir.Syntax.{w32}
use mir.Val.{Fits}
use lib.ListN.{length}
use borrow.Author.Rules.{rules}
use Rattle.definition.specs.Program.{bytes_of, decimal, spaced, line_text, long_text, refused_text}
use Rattle.laws.specs.Puts.{Puts, puts-long, puts_then}
use Rattle.text.proofs.Numbers.{word-digits}
use Rattle.text.proofs.Lining.{word_text}

abbrev refused_bytes : List ℕ
refused_bytes = 114 ∷ 101 ∷ 102 ∷ 117 ∷ 115 ∷ 101 ∷ 100 ∷ 32 ∷ []

abbrev long_bytes : List ℕ
long_bytes = 108 ∷ 111 ∷ 110 ∷ 103 ∷ 10 ∷ []

long-is : long_text ≡ long_bytes
unfolding long_text bytes_of
long-is = refl

refused-is : (n : ℕ) → refused_text n ≡ refused_bytes ++ word_text n 10
unfolding refused_text bytes_of line_text spaced
refused-is n = refl

pub long-put : {old : List ℕ} {r : ℕ} {new : List ℕ} → Puts long_bytes old 0 r new → Puts long_text old 0 r new
long-put p = rw long-is p

module _ (n : ℕ) (old : List ℕ) {e : ℕ} {mid : List ℕ} (p : Puts refused_bytes old 0 e mid) where
  pub number-room : Fits w32 n → 19 ≤ length old → e + length (decimal n) < length mid
  number-room f h = omega (arith, p.ends, puts-long p, word-digits n f)

  pub refused-put : {r : ℕ} {new : List ℕ} → Puts (word_text n 10) mid e r new → Puts (refused_text n) old 0 r new
  refused-put q = rw (refused-is n) (puts_then p q)

pub ruleset refusing = (rules, long-put, number-room, refused-put)
