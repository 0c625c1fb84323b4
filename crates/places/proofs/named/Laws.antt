-- A law for each return of named.rt. Assumes nothing.
use mathlib.Core.Path.{◌≡◌, refl}
use mathlib.Core.List.{List}
use Prim.Native.Nat.{ℕ, zero, suc, ◌+◌, ◌-◌, ◌<◌, ◌≤◌}
use native.Mathlib.Omega.{arith}
use borrow.Author.Rules.{rules}
use borrow.Author.Tests.{eq-eqb, ne_eqb, eqb-true, eqb-false}
use lib.Dec.{eqb}
use mathlib.Core.Bool.{Bool, true, false}
use Rattle.std.specs.Prelude.{Option, Some, None}
use Rattle.std.specs.Option.{SomeIff, MatchOption}
use Rattle.definition.specs.Layout.{word}
use Rattle.definition.specs.Places.{first_named}
use Rattle.places.specs.Links.{link_of}

-- ---- `led_to`
pub link-is : (l : ℕ) (r : Option ℕ) → SomeIff r (1 ≤ l) (l - 1) → link_of r ≡ l
link-is l None h = let z : 0 ≡ l = omega (arith, h) in z
link-is l (Some n) h = let p = h.0 in let e = h.1 in let z : suc n ≡ l = omega arith in z

-- ---- `first_named`
module _ (f : List ℕ) (s name : ℕ) where
  abbrev pub Named : ℕ → Type 0
  Named n = word f s n 0 ≡ name

  abbrev pub Unnamed : ℕ → Type 0
  Unnamed n = word f s n 0 ≡ name → ⊥

  none-named : (many first : ℕ) → ((k : ℕ) → first ≤ k → k < first + many → Unnamed k) → 0 ≡ first_named f s name first many
  unfolding first_named
  none-named zero first h = refl
  none-named (suc many) first h =
      rw (ne_eqb (word f s first 0) name (h first (omega arith) (omega arith))) (none-named many (suc first) (λ k l m. h k (omega arith) (omega arith)))

  one-named : (many first n : ℕ) → first ≤ n → n < first + many → Named n → ((k : ℕ) → first ≤ k → k < n → Unnamed k) → suc n ≡ first_named f s name first many
  unfolding first_named
  one-named zero first n l m e h = absurd (omega arith)
  one-named (suc many) first n l m e h = go (eqb first n) refl (λ d. one-named many (suc first) n d (omega arith) e (λ k a b. h k (omega arith) b))
    where
      go : (b : Bool) → eqb first n ≡ b → (suc first ≤ n → suc n ≡ first_named f s name (suc first) many) → suc n ≡ first_named f s name first (suc many)
      go true q ih = rw (eqb-true first n q, eq-eqb (word f s n 0) name e)
      go false q ih =
          let d = eqb-false first n q in
          rw (ne_eqb (word f s first 0) name (h first (omega arith) (omega (arith, d)))) (ih (omega (arith, d)))

  pub named-by : (first many : ℕ) (r : Option ℕ)
      → MatchOption r ((k : ℕ) → first ≤ k → k < first + many → Unnamed k) (λ n. (first ≤ n) × (n < first + many) × Named n × ((k : ℕ) → first ≤ k → k < n → Unnamed k))
      → link_of r ≡ first_named f s name first many
  named-by first many None h = none-named many first h
  named-by first many (Some n) h = one-named many first n h.0 h.1 h.2 h.3

pub ruleset laws = (rules, link-is)
