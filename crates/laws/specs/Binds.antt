-- One computation after another: a step that only gives changes nothing, and brackets do not matter. Assumes nothing.
use Rattle.std.specs.Prelude.{◌≡◌, refl}
use Rattle.std.proofs.Common.{ap}
use Rattle.std.proofs.Math.Path.{fun_ext}
use Rattle.definition.specs.Ask.{Result, ok, none, large, Ask, done, ask, bind, ◌>>=◌, give}

pub bind_left : {A B : Type 0} (a : A) (f : A → Ask B) → bind (done a) f ≡ f a
unfolding bind
bind_left a f = refl

pub bind-right : {A : Type 0} (m : Ask A) → bind m done ≡ m
unfolding bind
bind-right (done a) = refl
bind-right (ask d k) = ap (ask d) (fun_ext (λ o. bind-right (k o)))

pub bind_assoc : {A B C : Type 0} (m : Ask A) (f : A → Ask B) (g : B → Ask C) → bind (bind m f) g ≡ bind m (λ a. bind (f a) g)
unfolding bind
bind_assoc (done a) f g = refl
bind_assoc (ask d k) f g = ap (ask d) (fun_ext (λ o. bind_assoc (k o) f g))

-- ---- the same where only a value goes on
pub then-left : {A B : Type 0} (a : A) (f : A → Ask (Result B)) → give a >>= f ≡ f a
unfolding bind ◌>>=◌ give
then-left a f = refl

pub then-right : {A : Type 0} (m : Ask (Result A)) → m >>= give ≡ m
unfolding bind ◌>>=◌ give
then-right (done (ok a)) = refl
then-right (done none) = refl
then-right (done large) = refl
then-right (ask d k) = ap (ask d) (fun_ext (λ o. then-right (k o)))

pub then-assoc : {A B C : Type 0} (m : Ask (Result A)) (f : A → Ask (Result B)) (g : B → Ask (Result C)) → (m >>= f) >>= g ≡ m >>= (λ a. f a >>= g)
unfolding bind ◌>>=◌
then-assoc (done (ok a)) f g = refl
then-assoc (done none) f g = refl
then-assoc (done large) f g = refl
then-assoc (ask d k) f g = ap (ask d) (fun_ext (λ o. then-assoc (k o) f g))
