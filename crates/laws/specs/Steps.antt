-- What a memo gives a computation, step by step: as code that asks it goes on after a value, and stops at none, too large or a type that is wanted. Assumes nothing.
use Rattle.std.specs.Prelude.{◌≡◌, ℕ}
use Rattle.std.proofs.Math.Path.{refl}
use Rattle.definition.specs.Ask.{Result, ok, none, large, Outcome, Ask, done, on_ok, ◌>>=◌, give, nothing, type_default}
use Rattle.definition.specs.Resolve.{Memo, known, unknown, at}
use Rattle.definition.specs.Peek.{got, wants, peek}
use Rattle.laws.specs.Peeking.{peek-bind}

module _ (M : Memo) where
  -- ---- the first step
  pub peek-done : {A : Type 0} (a : A) → peek M (done a) ≡ got a
  unfolding peek
  peek-done a = refl

  pub peek-give : {A : Type 0} (a : A) → peek M (give a) ≡ got (ok a)
  unfolding peek give
  peek-give a = refl

  pub peek-nothing : {A : Type 0} → peek M (nothing {A = A}) ≡ got none
  unfolding peek nothing
  peek-nothing = refl

  pub peek-known : (d : ℕ) (o : Outcome) → at M d ≡ known o → peek M (type_default d) ≡ got o
  unfolding peek type_default
  peek-known d o e = rw e

  pub peek-asked : (d : ℕ) → at M d ≡ unknown → peek M (type_default d) ≡ wants d
  unfolding peek type_default
  peek-asked d e = rw e

  -- ---- and what follows it
  module _ {A B : Type 0} (m : Ask (Result A)) (g : A → Ask (Result B)) where
    pub peek-ok : (a : A) → peek M m ≡ got (ok a) → peek M (m >>= g) ≡ peek M (g a)
    unfolding ◌>>=◌
    peek-ok a e = rw (peek-bind M m (on_ok g), e)

    pub peek-none : peek M m ≡ got none → peek M (m >>= g) ≡ got none
    unfolding ◌>>=◌ peek
    peek-none e = rw (peek-bind M m (on_ok g), e)

    pub peek-large : peek M m ≡ got large → peek M (m >>= g) ≡ got large
    unfolding ◌>>=◌ peek
    peek-large e = rw (peek-bind M m (on_ok g), e)

    pub peek-wanted : (d : ℕ) → peek M m ≡ wants d → peek M (m >>= g) ≡ wants d
    unfolding ◌>>=◌
    peek-wanted d e = rw (peek-bind M m (on_ok g), e)
