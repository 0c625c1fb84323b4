-- What is remembered of the types: reading, putting, and how many types are unknown. Assumes nothing.
use Rattle.std.specs.Prelude.{◌≡◌, refl, ◌⊎◌, ◌≢◌, [], ◌∷◌, ℕ, zero, suc, ◌+◌, ◌<◌, ◌≤◌, length}
use Rattle.std.proofs.Common.{sym, ◌∙◌, inl, inr, arith}
use Rattle.std.proofs.Math.Decide.{ℕ_discrete}
use Rattle.std.proofs.Math.ListN.{length-set}
use Rattle.std.proofs.lemmas.List.{length-replicate, get_or-replicate}
use Rattle.std.proofs.Math.Seq.{get_or-set_same, get_or-set_other}
use Rattle.definition.specs.Ask.{Outcome, none}
use Rattle.definition.specs.Resolve.{Look, known, unknown, on_look, Memo, at, put, empty}

pub known-unknown : (l : Look) (o : Outcome) → l ≡ known o → l ≡ unknown → ⊥
known-unknown l o p q = let z : ◌≡◌ {A = ℕ} 0 1 = cc in omega arith

-- ---- putting
module _ (M : Memo) (d : ℕ) (o : Outcome) where
  pub put-long : length (put M d o) ≡ length M
  unfolding put
  put-long = length-set M d (known o)

  pub put_same : d < length M → at (put M d o) d ≡ known o
  unfolding at put
  put_same l = get_or-set_same M d (known o) (known none) l

  pub put_other : (e : ℕ) → e ≢ d → at (put M d o) e ≡ at M e
  unfolding at put
  put_other e s = get_or-set_other M d e (known o) (known none) s

  -- what is known after a put was put, or was known before
  pub put-cases : (e : ℕ) (p : Outcome) → d < length M → at (put M d o) e ≡ known p → ((e ≡ d) × (p ≡ o)) ⊎ ((e ≢ d) × (at M e ≡ known p))
  put-cases e p l q = go (ℕ_discrete e d)
    where
      go : Dec (e ≡ d) → ((e ≡ d) × (p ≡ o)) ⊎ ((e ≢ d) × (at M e ≡ known p))
      go (yes s) = let r : known o ≡ known p = sym (put_same l) ∙ (rw s at q) in inl (s, cc)
      go (no s) = inr (s, sym (put_other e s) ∙ q)

-- ---- what is unknown is a type's number
pub at_lt : (M : Memo) (d : ℕ) → at M d ≡ unknown → d < length M
unfolding at
at_lt [] d e = absurd (known-unknown (known none) none refl e)
at_lt (l ∷ M) zero e = omega arith
at_lt (l ∷ M) (suc d) e = omega (arith, at_lt M d e)

-- a number that is no type's is known to have none
pub at-past : (M : Memo) (d : ℕ) → length M ≤ d → at M d ≡ known none
unfolding at
at-past [] d h = refl
at-past (l ∷ M) zero h = absurd (omega arith)
at-past (l ∷ M) (suc d) h = at-past M d (omega arith)

-- ---- at the start
pub empty-at : (n d : ℕ) → d < n → at (empty n) d ≡ unknown
unfolding at empty
empty-at n d l = get_or-replicate n d unknown (known none) l

pub empty-long : (n : ℕ) → length (empty n) ≡ n
unfolding empty
empty-long n = length-replicate n unknown

-- ---- how many types are unknown
unfoldable pub unknowns : Memo → ℕ
unknowns [] = 0
unknowns (l ∷ M) = on_look l (λ o. 0) (λ u. 1) + unknowns M

pub unknowns-length : (M : Memo) → unknowns M ≤ length M
unfolding unknowns
unknowns-length [] = omega arith
unknowns-length (unknown ∷ M) = omega (arith, unknowns-length M)
unknowns-length (known o ∷ M) = omega (arith, unknowns-length M)

pub unknowns-put : (M : Memo) (d : ℕ) (o : Outcome) → unknowns (put M d o) ≤ unknowns M
unfolding unknowns put
unknowns-put [] d o = omega arith
unknowns-put (l ∷ M) zero o = omega arith
unknowns-put (l ∷ M) (suc d) o = omega (arith, unknowns-put M d o)

pub unknowns-less : (M : Memo) (d : ℕ) (o : Outcome) → at M d ≡ unknown → unknowns (put M d o) < unknowns M
unfolding unknowns at put
unknowns-less [] d o e = absurd (known-unknown (known none) none refl e)
unknowns-less (l ∷ M) zero o e = rw e (omega arith)
unknowns-less (l ∷ M) (suc d) o e = omega (arith, unknowns-less M d o e)

-- ---- what is known stays known, with its outcome
pub record More (M N : Memo) : Type 0 where
  pub long : length N ≡ length M
  pub old : (e : ℕ) (p : Outcome) → at M e ≡ known p → at N e ≡ known p
  pub fewer : unknowns N ≤ unknowns M

pub more-refl : (M : Memo) → More M M
more-refl M = record { long = refl; old = λ e p q. q; fewer = omega arith }

pub more-trans : (L M N : Memo) → More L M → More M N → More L N
more-trans L M N x y = record { long = y.long ∙ x.long; old = λ e p q. y.old e p (x.old e p q); fewer = omega arith }

pub more-put : (M N : Memo) (d : ℕ) (o : Outcome) → at M d ≡ unknown → More M N → More M (put N d o)
more-put M N d o u x = record {
  long = put-long N d o ∙ x.long;
  old = λ e p q. put_other N d o e (λ s. known-unknown (at M d) p (rw s at q) u) ∙ x.old e p q;
  fewer = omega (arith, unknowns-put N d o);
}
