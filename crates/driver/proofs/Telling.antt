-- A law for each call and each return of told.rt. Assumes nothing.
use mathlib.Core.Path.{◌≡◌, refl, subst}
use mathlib.Core.List.{List}
use Prim.Native.Nat.{ℕ, ◌+◌, ◌*◌, ◌≤◌, ◌<◌, min}
use native.Mathlib.Omega.{arith}
use lib.ListN.{length}
use borrow.Author.Rules.{rules}
use Rattle.definition.specs.Layout.{count, types}
use Rattle.definition.specs.Tree.{Tree, flatten, tree_words}
use Rattle.definition.specs.Ask.{ok, none, large, Outcome, Ask}
use Rattle.tree.specs.Words.{Stand}
use Rattle.definition.specs.Starting.{body, remembered}
use Rattle.definition.specs.Depth.{levels}
use Rattle.definition.specs.Answers.{line_words, room_words}
use Rattle.definition.specs.Resolve as Resolve
use Rattle.definition.specs.Resolve.{Look, known, unknown, on_look, Memo, at, Ran, run, resolve}
use Rattle.definition.specs.Peek.{Peek, got, wants, peek}
use Rattle.laws.specs.Asks.{OnOk}
use Rattle.laws.specs.Values.{Small}
use Rattle.laws.specs.Accepted.{few-types}
use Rattle.laws.specs.Falling.{any-body}
use Rattle.laws.specs.Held as held
use Rattle.laws.specs.Held.{resolve-held, held_keeps}
use Rattle.laws.specs.Outcomes.{remembered-held}
use Rattle.laws.specs.Peeking.{peek-unknown, finish, restart}
use Rattle.lines.specs.Append.{most_words}
use Rattle.build.specs.Built.{Built}
use Rattle.build.specs.declared.built.Unbuilt.{Unbuilt}
use Rattle.build.specs.declared.built.Unbuilt.TheVariants as unbuilt
use Rattle.std.specs.Option.{ok_or}
use Rattle.build.specs.Built.{Gives, Builds}
use Rattle.driver.specs.Driver.{width, Holding, ran, resolved, After, Resolves, Prepared, Held, Fresh}
use Rattle.driver.specs.Asked.{Declares}
use Rattle.driver.specs.declared.told.Owner.{Owner}
use Rattle.driver.specs.declared.told.Owner.TheVariants as owner
use Rattle.driver.specs.Told.{Ample, Tells, TellsOf, section_in, number_in, ask_in, outcome_in}
use Rattle.driver.proofs.Widths.{width-most}
use Rattle.driver.proofs.Holdings.{unknown-fresh, unknown-inside, to-memory, holding-small}
use Rattle.driver.proofs.Settling.{prepared-kept, to-ready, gives-wants, NoWant, wanted-not}
use Rattle.std.specs.Prelude.{None, Option, Some}
use Rattle.std.specs.Prelude.{Result, Ok, Err}

-- ---- there is room for every line
abbrev Smalls : List ℕ → Memo → Type 0
Smalls f M = held.Held (count f types) (λ d o. OnOk Small o) M

smalls-width : (f : List ℕ) (M : Memo) → Smalls f M → width M ≤ (3 + tree_words) * count f types
smalls-width f M h = omega (arith, width-most M (λ t o e. h.held t o e), h.long)

holding-smalls : {f index store : List ℕ} {end : ℕ} {M : Memo} → Holding f index store end M → Smalls f M
holding-smalls x = record { long = x.all; held = λ t o e. holding-small x t o e }

resolved-smalls : (f : List ℕ) (M : Memo) (d : ℕ) → at M d ≡ unknown → Smalls f M → Smalls f (resolved f M d)
unfolding resolved
resolved-smalls f M d u h = (resolve-held (count f types) (λ d o. OnOk Small o) (λ d. tt) (body f) (λ t l. any-body f t) (count f types) M d u h).1

remembered-smalls : (f : List ℕ) → Smalls f (remembered f)
remembered-smalls f = remembered-held f (λ d o. OnOk Small o) (λ d. tt) (λ d l. any-body f d)

never-full : {X : Type 0} {f classes : List ℕ} {wide room n : ℕ} → Prepared f classes wide room → Ample f n → (store : List ℕ) → length store ≡ n → (N : Memo) → Smalls f N
    → min (length store) most_words < width N → X
unfolding line_words
never-full {f} g a store e N s h = absurd (omega (arith, a.lines, few-types f g.accepted, smalls-width f N s))

-- a store that is full
pub full-of : {A : Type 0} {x : Option A} {a : Result A Unbuilt} → a ≡ ok_or x unbuilt.None → {u : Unbuilt} → a ≡ Err u → x ≡ None
full-of {x = Some n} k i = let z : ◌≡◌ {A = ℕ} 0 1 = cc in absurd (omega arith)
full-of {x = None} k i = refl

-- ---- `build`
pub room-tree : (f : List ℕ) {room : ℕ} → room_words f ≤ room → 0 + tree_words ≤ room
unfolding levels room_words
room-tree f h = omega (arith, h)

pub type-inside : (f : List ℕ) {o : Owner} {t : ℕ} → number_in o < count f (section_in o) → o ≡ owner.Type t → t < count f types
type-inside f {o} {t} l e = subst (λ (o : Owner). number_in o < count f (section_in o)) e l

pub ample-kept : {f : List ℕ} {n : ℕ} → Ample f n → (m : ℕ) → m ≡ n → Ample f m
ample-kept a m e = record { lines = omega (arith, a.lines) }

-- ---- after all declared types
module _ {f : List ℕ} {r : Option ℕ} {index store : List ℕ} (d : Declares f r index store) where
  pub declared-holding : {e : ℕ} → r ≡ Some e → Holding f index store e (remembered f)
  declared-holding i = subst (λ (a : Option ℕ). After f a index store (remembered f)) i d.after

  pub declared-held : {e : ℕ} → r ≡ Some e → Held f index store e
  declared-held i = record { memo = remembered f; holding = declared-holding i }

  pub outcome-told : {e : ℕ} → r ≡ Some e → (o : Owner) {made : Built} {room : List ℕ} → TellsOf f (ask_in f o) index store e made room → Tells (outcome_in f o) made room
  unfolding Resolve.type_outcome Resolve.variable_outcome Resolve.answer ran
  outcome-told i (owner.Type t) h = h.gives (remembered f) (declared-holding i)
  outcome-told i (owner.Variable v) h = h.gives (remembered f) (declared-holding i)

  module _ {classes : List ℕ} {wide words : ℕ} (g : Prepared f classes wide words) {n : ℕ} (a : Ample f n) (l : length store ≡ n) (i : r ≡ None) where
    pub outcome-never : (o : Outcome) (made : Built) (room : List ℕ) → Tells o made room
    outcome-never o made room = never-full g a store l (remembered f) (remembered-smalls f) (subst (λ (a : Option ℕ). After f a index store (remembered f)) i d.after)

-- ---- a type or a variable
module _ {f classes : List ℕ} {wide words : ℕ} (g : Prepared f classes wide words) {index store : List ℕ} {end : ℕ} (h : Held f index store end) (m : Ask Outcome)
    {old new : List ℕ} {made : Built} (b : Builds f index store flatten m 0 old made new) where
  done-tells : (M : Memo) (p : Peek Outcome) → peek M m ≡ p → Gives flatten p 0 made new → NoWant made → Tells (ran f M m).value made new
  unfolding ran
  done-tells M (got o) e q n = record { gives = rw (finish (resolve (body f) (count f types)) M m o e) q }
  done-tells M (wants d) e q n = wanted-not d (rw q.says at n)

  pub tells-done : NoWant made → TellsOf f m index store end made new
  tells-done n = record { gives = λ M x. done-tells M (peek M m) refl (b.gives M (to-memory x)) n }

  module _ {d : ℕ} (q : made ≡ Err (unbuilt.Wanted d)) where
    wants-it : (M : Memo) → Holding f index store end M → peek M m ≡ wants d
    wants-it M x = gives-wants (peek M m) (b.gives M (to-memory x)) q

    pub asked-fresh : Fresh f index store end d
    asked-fresh =
        let x = h.holding in
        let u = peek-unknown h.memo d m (wants-it h.memo x) in
        record { held = h; inside = unknown-inside x d u; word = unknown-fresh x d u }

    module _ {r : Option ℕ} {index' store' : List ℕ} (s : Resolves f d index store end r index' store') where
      then-holding : {e : ℕ} → r ≡ Some e → (M : Memo) → Holding f index store end M → Holding f index' store' e (resolved f M d)
      then-holding i M x = subst (λ (a : Option ℕ). After f a index' store' (resolved f M d)) i (s.gives M x)

      pub then-held : {e : ℕ} → r ≡ Some e → Held f index' store' e
      then-held i = record { memo = resolved f h.memo d; holding = then-holding i h.memo h.holding }

      again-value : (M : Memo) → Holding f index store end M → ran f M m ≡ ran f (resolved f M d) m
      unfolding ran resolved
      again-value M x = restart (body f) (count f types) M d m (wants-it M x)

      pub tells-again : {e : ℕ} → r ≡ Some e → {made' : Built} {room : List ℕ} → TellsOf f m index' store' e made' room → TellsOf f m index store end made' room
      tells-again i y = record { gives = λ M x. rw (again-value M x) (y.gives (resolved f M d) (then-holding i M x)) }

      pub tells-never : r ≡ None → Ample f (length store) → length store' ≡ length store → (made' : Built) (room : List ℕ) → TellsOf f m index store end made' room
      tells-never i a l made' room =
          record {
            gives = λ M x.
                never-full g a store' l (resolved f M d) (resolved-smalls f M d (peek-unknown M d m (wants-it M x)) (holding-smalls x)) (subst (λ (a : Option ℕ). After f a index' store' (resolved f M d)) i (s.gives M x));
          }

-- ---- the other way round
-- what an answer in the room says of the outcome
pub record TreeIn (o : Outcome) (e : ℕ) (room : List ℕ) : Type 0 where
  pub tree : Tree
  pub is : o ≡ ok tree
  pub stands : Stand room 0 (flatten tree) e

pub tells-ends : {e : ℕ} {room : List ℕ} (o : Outcome) → Tells o (Ok e) room → TreeIn o e room
tells-ends {e} (ok t) h = let s = h.gives.says in let i : e ≡ 0 + length (flatten t) = cc in record { tree = t; is = refl; stands = rw i h.gives.stands }
tells-ends none h = let s = h.gives.says in let z : ◌≡◌ {A = ℕ} 0 1 = cc in absurd (omega arith)
tells-ends large h = let s = h.gives.says in let z : ◌≡◌ {A = ℕ} 0 1 = cc in absurd (omega arith)

pub tells_none : {room : List ℕ} (o : Outcome) → Tells o (Err unbuilt.None) room → o ≡ none
tells_none (ok t) h = let s = h.gives.says in let z : ◌≡◌ {A = ℕ} 0 1 = cc in absurd (omega arith)
tells_none none h = refl
tells_none large h = let s = h.gives.says in let z : ◌≡◌ {A = ℕ} 0 1 = cc in absurd (omega arith)

pub tells-large : {room : List ℕ} (o : Outcome) → Tells o (Err unbuilt.TooLarge) room → o ≡ large
tells-large (ok t) h = let s = h.gives.says in let z : ◌≡◌ {A = ℕ} 0 1 = cc in absurd (omega arith)
tells-large none h = let s = h.gives.says in let z : ◌≡◌ {A = ℕ} 0 1 = cc in absurd (omega arith)
tells-large large h = refl

pub tells-wanted : {X : Type 0} {d : ℕ} {room : List ℕ} (o : Outcome) → Tells o (Err (unbuilt.Wanted d)) room → X
tells-wanted (ok t) h = let s = h.gives.says in let z : ◌≡◌ {A = ℕ} 0 1 = cc in absurd (omega arith)
tells-wanted none h = let s = h.gives.says in let z : ◌≡◌ {A = ℕ} 0 1 = cc in absurd (omega arith)
tells-wanted large h = let s = h.gives.says in let z : ◌≡◌ {A = ℕ} 0 1 = cc in absurd (omega arith)

pub ruleset tells = (rules, prepared-kept, ample-kept, to-ready, room-tree, declared-held)
