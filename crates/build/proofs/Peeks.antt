-- What a memo gives a computation that goes on only after a value, and what is answered for it. Assumes nothing.
use mathlib.Core.Path.{◌≡◌, refl, ap, sym, ◌∙◌}
use mathlib.Core.List.{List}
use Prim.Native.Nat.{ℕ, zero, suc, ◌+◌, ◌-◌, ◌≤◌}
use native.Mathlib.Omega.{arith}
use lib.ListN.{length, take}
use lib.Seq.{take-take}
use Rattle.definition.specs.Ask.{Result, ok, none, large, Ask, on_ok, ◌>>=◌}
use Rattle.definition.specs.Resolve.{Memo}
use Rattle.definition.specs.Peek.{Peek, got, wants, peek}
use Rattle.laws.specs.Peeking.{on_got, peek-bind}
use Rattle.tree.specs.Words.{Stand}
use Rattle.build.specs.declared.built.Unbuilt.{Unbuilt}
use Rattle.build.specs.declared.built.Unbuilt.TheVariants as unbuilt
use Rattle.std.specs.Prelude.{Err, None, Ok, Option, Some}
use Rattle.std.specs.Prelude as std
use Rattle.std.specs.Option.{SomeIff, ok_or}
use Rattle.build.specs.Built.{Built, answer_of, Gives, Memory, Builds}

-- ---- only a value goes on
abbrev pub then_peek : {A B : Type 0} → Peek (Result A) → (A → Peek (Result B)) → Peek (Result B)
then_peek (got (ok a)) g = g a
then_peek (got none) g = got none
then_peek (got large) g = got large
then_peek (wants d) g = wants d

pub peek-then : {A B : Type 0} (M : Memo) (m : Ask (Result A)) (g : A → Ask (Result B)) → peek M (m >>= g) ≡ then_peek (peek M m) (λ a. peek M (g a))
unfolding ◌>>=◌ peek
peek-then M m g = peek-bind M m (on_ok g) ∙ go (peek M m)
  where
    go : (p : Peek (Result _)) → on_got p (λ r. peek M (on_ok g r)) ≡ then_peek p (λ a. peek M (g a))
    go (got (ok a)) = refl
    go (got none) = refl
    go (got large) = refl
    go (wants d) = refl

pub then-assoc : {A B C : Type 0} (p : Peek (Result A)) (g : A → Peek (Result B)) (h : B → Peek (Result C))
    → then_peek (then_peek p g) h ≡ then_peek p (λ a. then_peek (g a) h)
then-assoc (got (ok a)) g h = refl
then-assoc (got none) g h = refl
then-assoc (got large) g h = refl
then-assoc (wants d) g h = refl

-- ---- an answer that is no end
abbrev pub NoEnd : Built → Type 0
NoEnd r = (end : ℕ) → r ≡ Ok end → ⊥

pub ends-not : {X : Type 0} (e : ℕ) → NoEnd (Ok e) → X
ends-not e k = absurd (k e refl)

pub err-no-end : {r : Built} {u : Unbuilt} → r ≡ Err u → NoEnd r
err-no-end e end q = let z : ◌≡◌ {A = ℕ} 0 1 = cc in absurd (omega arith)

module _ {A B : Type 0} {words : A → List ℕ} {at : ℕ} {r : Built} {new : List ℕ} (vords : B → List ℕ) (to : ℕ) (other : List ℕ) (n : NoEnd r) where
  pub gives-fails : (p : Peek (Result A)) → Gives words p at r new → (g : A → Peek (Result B)) → Gives vords (then_peek p g) to r other
  gives-fails (got (ok a)) h g = ends-not (at + length (words a)) (rw h.says at n)
  gives-fails (got none) h g = record { says = h.says; stands = tt }
  gives-fails (got large) h g = record { says = h.says; stands = tt }
  gives-fails (wants d) h g = record { says = h.says; stands = tt }

-- what `?` hands on
pub gives-err : {A B : Type 0} {words : A → List ℕ} {at : ℕ} {u : Unbuilt} {new : List ℕ} (vords : B → List ℕ) (to : ℕ) (other : List ℕ) (p : Peek (Result A)) → Gives words p at (Err u) new
    → (g : A → Peek (Result B)) → {r : Built} → r ≡ Err u → Gives vords (then_peek p g) to r other
gives-err vords to other p h g q = rw q (gives-fails vords to other (err-no-end refl) p h g)

-- ---- an answer that is an end
pub record EndsAt {A : Type 0} (words : A → List ℕ) (p : Peek (Result A)) (at e : ℕ) (new : List ℕ) : Type 0 where
  pub value : A
  pub is : p ≡ got (ok value)
  pub ends : e ≡ at + length (words value)
  pub stands : Stand new at (words value) e

module _ {A : Type 0} {words : A → List ℕ} {at : ℕ} {r : Built} {new : List ℕ} where
  pub gives-ends : (p : Peek (Result A)) → Gives words p at r new → {e : ℕ} → r ≡ Ok e → EndsAt words p at e new
  gives-ends (got (ok a)) h {e} q = let s = h.says in let i : e ≡ at + length (words a) = cc in record { value = a; is = refl; ends = i; stands = rw i h.stands }
  gives-ends (got none) h q = let s = h.says in let z : ◌≡◌ {A = ℕ} 0 1 = cc in absurd (omega arith)
  gives-ends (got large) h q = let s = h.says in let z : ◌≡◌ {A = ℕ} 0 1 = cc in absurd (omega arith)
  gives-ends (wants d) h q = let s = h.says in let z : ◌≡◌ {A = ℕ} 0 1 = cc in absurd (omega arith)

-- ---- what stays before a place stays before an earlier one
pub kept-before : (to at : ℕ) (new old : List ℕ) → to ≤ at → take at new ≡ take at old → take to new ≡ take to old
kept-before to at new old h e = sym (take-take to at new h) ∙ ap (take to) e ∙ take-take to at old h

-- ---- what an answer says of a memo, for a caller
module _ {A : Type 0} {f known store : List ℕ} {words : A → List ℕ} {m : Ask (Result A)} {at : ℕ} {old : List ℕ} {r : Built} {new : List ℕ}
    (x : Builds f known store words m at old r new) {M : Memo} (k : Memory f known store M) where
  pub built-ends : {e : ℕ} → r ≡ Ok e → EndsAt words (peek M m) at e new
  built-ends q = gives-ends (peek M m) (x.gives M k) q

  pub built-none : r ≡ Err unbuilt.None → peek M m ≡ got none
  built-none q = go (peek M m) (x.gives M k).says
    where
      go : (p : Peek (Result A)) → r ≡ answer_of words at p → p ≡ got none
      go (got (ok a)) s = let z : ◌≡◌ {A = ℕ} 0 1 = cc in absurd (omega arith)
      go (got none) s = refl
      go (got large) s = let z : ◌≡◌ {A = ℕ} 0 1 = cc in absurd (omega arith)
      go (wants d) s = let z : ◌≡◌ {A = ℕ} 0 1 = cc in absurd (omega arith)

  pub built-large : r ≡ Err unbuilt.TooLarge → peek M m ≡ got large
  built-large q = go (peek M m) (x.gives M k).says
    where
      go : (p : Peek (Result A)) → r ≡ answer_of words at p → p ≡ got large
      go (got (ok a)) s = let z : ◌≡◌ {A = ℕ} 0 1 = cc in absurd (omega arith)
      go (got none) s = let z : ◌≡◌ {A = ℕ} 0 1 = cc in absurd (omega arith)
      go (got large) s = refl
      go (wants d) s = let z : ◌≡◌ {A = ℕ} 0 1 = cc in absurd (omega arith)

  pub built-wanted : {d : ℕ} → r ≡ Err (unbuilt.Wanted d) → peek M m ≡ wants d
  built-wanted {d} q = go (peek M m) (x.gives M k).says
    where
      go : (p : Peek (Result A)) → r ≡ answer_of words at p → p ≡ wants d
      go (got (ok a)) s = let z : ◌≡◌ {A = ℕ} 0 1 = cc in absurd (omega arith)
      go (got none) s = let z : ◌≡◌ {A = ℕ} 0 1 = cc in absurd (omega arith)
      go (got large) s = let z : ◌≡◌ {A = ℕ} 0 1 = cc in absurd (omega arith)
      go (wants e) s = let z : e ≡ d = cc in ap wants z

-- ---- what `ok_or(Unbuilt::None)?` leaves
pub some-of : {A : Type 0} {x : Option A} {a : std.Result A Unbuilt} → a ≡ ok_or x unbuilt.None → {v : A} → a ≡ Ok v → x ≡ Some v
some-of {x = Some y} k {v} i = let e : y ≡ v = cc in ap Some e
some-of {x = None} k i = let z : ◌≡◌ {A = ℕ} 0 1 = cc in absurd (omega arith)

pub none-of : {A B : Type 0} {x : Option A} {a : std.Result A Unbuilt} → a ≡ ok_or x unbuilt.None → {u : Unbuilt} → a ≡ Err u → {r : std.Result B Unbuilt} → r ≡ Err u → (x ≡ None) × (r ≡ Err unbuilt.None)
none-of {x = Some y} k i q = let z : ◌≡◌ {A = ℕ} 0 1 = cc in absurd (omega arith)
none-of {x = None} k {u} i q = let e : u ≡ unbuilt.None = cc in (refl, q ∙ ap Err e)

-- ---- a link that leads somewhere, or not
pub link-some : {link : ℕ} {o : Option ℕ} → SomeIff o (1 ≤ link) (link - 1) → {n : ℕ} → o ≡ Some n → link ≡ suc n
link-some q e = let s = rw e at q in omega (arith, s.0, s.1)

pub link-none : {link : ℕ} {o : Option ℕ} → SomeIff o (1 ≤ link) (link - 1) → o ≡ None → link ≡ 0
link-none {link} q e = go link (rw e at q)
  where
    go : (l : ℕ) → (1 ≤ l → ⊥) → l ≡ 0
    go zero h = refl
    go (suc l) h = absurd (h (omega arith))
