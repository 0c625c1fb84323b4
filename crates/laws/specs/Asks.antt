-- What a computation asks for, and what it results in. Assumes nothing.
use Rattle.std.specs.Prelude.{ℕ}
use Rattle.definition.specs.Ask.{Result, ok, none, large, Outcome, Ask, done, ask, bind, ◌>>=◌}

-- every ask is of a P, if each answer for d is a W d; and then the result is a Q
abbrev pub Asks : {A : Type 0} → (ℕ → Type 0) → (ℕ → Outcome → Type 0) → (A → Type 0) → Ask A → Type 0
Asks P W Q (done a) = Q a
Asks P W Q (ask d k) = P d × ((o : Outcome) → W d o → Asks P W Q (k o))

-- every ask is of a P, whatever is answered, and whatever results
abbrev pub All : {A : Type 0} → (ℕ → Type 0) → Ask A → Type 0
All P m = Asks P (λ d o. Unit {0}) (λ a. Unit {0}) m

-- of a result: a value is a Q
abbrev pub OnOk : {A : Type 0} → (A → Type 0) → Result A → Type 0
OnOk Q (ok a) = Q a
OnOk Q none = Unit {0}
OnOk Q large = Unit {0}

module _ {A : Type 0} where
  pub asks-map : (P P' : ℕ → Type 0) (W W' : ℕ → Outcome → Type 0) (Q Q' : A → Type 0)
      → ((d : ℕ) → P d → P' d) → ((d : ℕ) (o : Outcome) → W' d o → W d o) → ((a : A) → Q a → Q' a) → (m : Ask A) → Asks P W Q m → Asks P' W' Q' m
  asks-map P P' W W' Q Q' p w q (done a) h = q a h
  asks-map P P' W W' Q Q' p w q (ask d k) h = (p d h.0, λ o v. asks-map P P' W W' Q Q' p w q (k o) (h.1 o (w d o v)))

pub asks-all : {A : Type 0} (m : Ask A) → All (λ d. Unit {0}) m
asks-all (done a) = tt
asks-all (ask d k) = (tt, λ o w. asks-all (k o))

module _ {A B : Type 0} (P : ℕ → Type 0) (W : ℕ → Outcome → Type 0) where
  pub asks-bind : (Q : A → Type 0) (R : B → Type 0) (m : Ask A) (f : A → Ask B) → Asks P W Q m → ((a : A) → Q a → Asks P W R (f a)) → Asks P W R (bind m f)
  unfolding bind
  asks-bind Q R (done a) f h g = g a h
  asks-bind Q R (ask d k) f h g = (h.0, λ o w. asks-bind Q R (k o) f (h.1 o w) g)

  -- only a value goes on
  pub asks-then : (Q : A → Type 0) (R : B → Type 0) (m : Ask (Result A)) (f : A → Ask (Result B))
      → Asks P W (OnOk Q) m → ((a : A) → Q a → Asks P W (OnOk R) (f a)) → Asks P W (OnOk R) (m >>= f)
  unfolding bind ◌>>=◌
  asks-then Q R (done (ok a)) f h g = g a h
  asks-then Q R (done none) f h g = tt
  asks-then Q R (done large) f h g = tt
  asks-then Q R (ask d k) f h g = (h.0, λ o w. asks-then Q R (k o) f (h.1 o w) g)
