-- Where a default ends in the room, a whole tree stands there. Assumes nothing.
use mathlib.Core.Path.{◌≡◌, refl}
use mathlib.Core.List.{List}
use Prim.Native.Nat.{ℕ, suc, ◌≤◌}
use native.Mathlib.Omega.{arith}
use Rattle.definition.specs.declared.records.Place.{Place}
use Rattle.definition.specs.Tree.{Tree, Trees, nodes_in, flatten, most_nodes}
use Rattle.definition.specs.Ask.{ok, Outcome, Ask, done, ask}
use Rattle.definition.specs.Resolve.{Look, known, unknown, on_look, Memo, at}
use Rattle.definition.specs.Peek.{got, wants, peek}
use Rattle.definition.specs.Parts.{element_defaults}
use Rattle.definition.specs.Starting.{default_of}
use Rattle.laws.specs.Asks.{Asks, OnOk}
use Rattle.laws.specs.Accepted.{Accepted}
use Rattle.laws.specs.Used.{IsType, leads-inside}
use Rattle.laws.specs.Values.{Small}
use Rattle.laws.specs.Gathers.{Gathered}
use Rattle.laws.specs.Gathers.{wholes}
use Rattle.laws.specs.Starts.{gives_elements, gives-default}
use Rattle.lines.proofs.Memories.{remembers-small}
use Rattle.places.specs.Inside.{PlaceIn}
use Rattle.std.specs.Prelude.{Ok}
use Rattle.build.specs.Built.{Built, Memory, Builds, Ready}
use Rattle.build.specs.Parts.{WholeAt}
use Rattle.build.proofs.Peeks.{EndsAt, gives-ends}

-- what a memo gives is a Q, where what it knows is a W
pub peek-to : {A : Type 0} (P : ℕ → Type 0) (W : ℕ → Outcome → Type 0) (Q : A → Type 0) (M : Memo) → ((d : ℕ) (o : Outcome) → P d → at M d ≡ known o → W d o)
    → (m : Ask A) → Asks P W Q m → (a : A) → peek M m ≡ got a → Q a
unfolding peek
peek-to P W Q M w (done b) h a e = let s : b ≡ a = cc in rw (← s) h
peek-to P W Q M w (ask d k) h a e = go (at M d) refl e (λ o v. peek-to P W Q M w (k o) (h.1 o v) a)
  where
    go : (l : Look) → at M d ≡ l → on_look l (λ o. peek M (k o)) (λ u. wants d) ≡ got a → ((o : Outcome) → W d o → peek M (k o) ≡ got a → Q a) → Q a
    go (known o) q e' ih = ih o (w d o h.0 q) e'
    go unknown q e' ih = let z : ◌≡◌ {A = ℕ} 0 1 = cc in absurd (omega arith)

module _ {f : List ℕ} (a : Accepted f) {known store : List ℕ} {M : Memo} (m : Memory f known store M) {place : Place} (i : PlaceIn f place) where
  pub default-small : (t : Tree) → peek M (default_of f place) ≡ got (ok t) → Small t
  default-small t e =
      peek-to (IsType f) (λ d o. OnOk Small o) (OnOk Small) M (λ d o p q. remembers-small m.remembers d o (omega (arith, m.all)) q)
      (default_of f place) (gives-default wholes f (IsType f) (IsType f) (leads-inside f a) place i.types) (ok t) e

  -- and so are the values of an array's elements, under their head
  pub elements-gathered : (ts : Trees) → peek M (element_defaults f (default_of f) place) ≡ got (ok ts) → Gathered 0 ts
  elements-gathered ts e =
      peek-to (IsType f) (λ d o. OnOk Small o) (OnOk (Gathered 0)) M (λ d o p q. remembers-small m.remembers d o (omega (arith, m.all)) q)
      (element_defaults f (default_of f) place) (gives_elements wholes f (IsType f) (IsType f) (leads-inside f a) (default_of f) (gives-default wholes f (IsType f) (IsType f) (leads-inside f a)) place i.types) (ok ts) e

  pub elements-small : (ts : Trees) → peek M (element_defaults f (default_of f) place) ≡ got (ok ts) → suc (nodes_in ts) ≤ most_nodes
  elements-small ts e = omega (arith, (elements-gathered ts e).room)

-- where the default of a place ends
module _ {f classes known store : List ℕ} (y : Ready f classes known store) {place : Place} (i : PlaceIn f place)
    {p : ℕ} {old : List ℕ} {r : Built} {new : List ℕ} (x : Builds f known store flatten (default_of f place) p old r new) {e : ℕ} (q : r ≡ Ok e) where
  there : EndsAt flatten (peek y.memo (default_of f place)) p e new
  there = gives-ends (peek y.memo (default_of f place)) (x.gives y.memo y.memory) q

  pub default-whole : WholeAt new p e
  default-whole = record { tree = there.value; good = (default-small y.accepted y.memory i there.value there.is).good; stands = there.stands }

  pub default-after : p ≤ e
  default-after = omega (arith, there.ends)
