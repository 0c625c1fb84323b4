-- The returns of stated.rt that computing does not close, and what its calls require. Assumes nothing.
use mathlib.Core.Path.{◌≡◌, ap, sym, ◌∙◌}
use mathlib.Core.List.{List}
use Prim.Native.Nat.{ℕ, zero, suc, ◌+◌, ◌-◌, ◌*◌, ◌≤◌, ◌<◌}
use native.Mathlib.Omega.{arith}
use lib.ListN.{length}
use borrow.Author.Rules.{rules}
use borrow.Author.Tests.{ne_eqb}
use Rattle.definition.specs.declared.records.Constant.{Constant}
use Rattle.definition.specs.declared.records.Place.{Place}
use Rattle.definition.specs.Base.{on_link, inline}
use Rattle.definition.specs.Layout.{count, constants}
use Rattle.definition.specs.Records.{constant_at}
use Rattle.definition.specs.Scalar.{as_tree, constant_value}
use Rattle.definition.specs.Syntax.{inits_at}
use Rattle.definition.specs.Tree.{Tree, flatten}
use Rattle.definition.specs.Ask.{ok, Outcome, Ask, done, result_of, nothing, type_default}
use Rattle.definition.specs.Resolve.{Memo}
use Rattle.definition.specs.Peek.{got, peek}
use Rattle.definition.specs.Parts.{if_stated, name_default}
use Rattle.definition.specs.Defaults as Defaults
use Rattle.definition.specs.Starting.{applied, array_of, constant_as, default_of}
use Rattle.laws.specs.Asks.{OnOk}
use Rattle.laws.specs.Links.{Link, link-to}
use Rattle.laws.specs.Used.{IsType}
use Rattle.laws.specs.Values.{Small}
use Rattle.laws.specs.Gathers.{wholes}
use Rattle.laws.specs.Meaning.{gives-name}
use Rattle.lines.proofs.Memories.{remembers-small}
use Rattle.places.specs.Inside.{PlaceIn}
use Rattle.std.specs.Prelude.{Err, None, Ok, Option, Some}
use Rattle.std.specs.Prelude as std
use Rattle.std.specs.Option.{SomeIff, ok_or}
use Rattle.build.specs.declared.built.Unbuilt.{Unbuilt}
use Rattle.build.specs.declared.built.Unbuilt.TheVariants as unbuilt
use Rattle.build.specs.Built.{Built, Memory, Builds, Ready}
use Rattle.build.specs.Leaves.{PutsLeaf}
use Rattle.build.specs.Parts.{implicit_levels, start_levels}
use Rattle.build.proofs.Peeks.{then_peek, peek-then, gives-err, gives-ends, some-of, none-of, link-some, link-none}
use Rattle.build.proofs.Levels.{levels-some}
use Rattle.build.proofs.defaults.Laws.{same, tree-room}
use Rattle.build.proofs.Smalls.{peek-to, default-small}
use Rattle.gather.proofs.Single.{place-shape}
use Rattle.initial.specs.Stated.{StatedBy, ConstantIn, array_or, members_over, SmallAt, Applies, SpecIn}
use Rattle.initial.proofs.Alike.{no_value_lem, leaf-builds}

-- ---- a link that states something or not
pub stated-number : {A : Type 0} (value : ℕ) (other : Unit {0} → A) (go : ℕ → A) → (value ≡ 0 → ⊥) → if_stated value other go ≡ go (value - 1)
stated-number value other go n = let z : value ≡ suc (value - 1) = omega (arith, n) in ap (λ (i : ℕ). if_stated i other go) z

module _ (link : ℕ) {o : Option ℕ} (q : SomeIff o (1 ≤ link) (link - 1)) {f index store : List ℕ} {at : ℕ} {old : List ℕ} {r : Built} {new : List ℕ} where
  module _ (answers : ℕ → Option Constant → Type 0) (other : Ask Outcome) where
    pub stated-some : {n : ℕ} → o ≡ Some n → {v : Option Constant} → answers n v → at + 6 ≤ length old → PutsLeaf v at old r new → StatedBy answers f index store link other at old r new
    stated-some {n} e {v} p l x = record { is = λ m h. rw (link-some q e) (leaf-builds (m n) (h n v (link-some q e) p) l x) }

    pub stated-none : o ≡ None → Builds f index store flatten other at old r new → StatedBy answers f index store link other at old r new
    stated-none e x = record { is = λ m h. rw (link-none q e) x }

  pub unstated : (other : Ask Outcome) (go : ℕ → Ask Outcome) → o ≡ None → Builds f index store flatten other at old r new → Builds f index store flatten (if_stated link (λ u. other) go) at old r new
  unstated other go e x = rw (link-none q e) x

  pub stated : (other : Ask Outcome) (go : ℕ → Ask Outcome) {n : ℕ} → o ≡ Some n → Builds f index store flatten (go n) at old r new → Builds f index store flatten (if_stated link (λ u. other) go) at old r new
  stated other go e x = rw (link-some q e) x

  module _ (place : Place) (other : Ask Outcome) {c : ℕ} (e : o ≡ Some c) where
    pub constant-stated : {v : Option Constant} → as_tree (result_of v) ≡ constant_value f place.shape (constant_at f c) → at + 6 ≤ length old → PutsLeaf v at old r new
        → Builds f index store flatten (if_stated link (λ u. other) (constant_as f place)) at old r new
    unfolding Defaults.constant_as
    constant-stated h l x = rw (link-some q e) (leaf-builds (constant_as f place c) (ap done (sym h)) l x)

-- the number behind a link
pub constant-in : {f : List ℕ} {value : ℕ} {o : Option ℕ} → SomeIff o (1 ≤ value) (value - 1) → {c : ℕ} → o ≡ Some c → ConstantIn f value → c < count f constants
constant-in {f} {value} q {c} e i = link-to (λ c. c < count f constants) value c (link-some q e) i.constant

-- ---- room
pub start-some : (f : List ℕ) (place : Place) (at n : ℕ) → at + start_levels f place * 12288 ≤ n → at + 6 ≤ n
unfolding start_levels
start-some f place at n h = go place.id h
  where
    go : (i : ℕ) → at + if_stated i (λ u. implicit_levels f place) (λ t. 1) * 12288 ≤ n → at + 6 ≤ n
    go zero h = omega (arith, levels-some f place)
    go (suc i) h = omega arith

pub implicit-some : (f : List ℕ) (place : Place) (at n : ℕ) → at + implicit_levels f place * 12288 ≤ n → at + 6 ≤ n
implicit-some f place at n h = omega (arith, levels-some f place)

-- ---- names
pub spec-linked : {f : List ℕ} {name : ℕ} → SpecIn f name → (name ≡ inline → ⊥) → Link (IsType f) name
spec-linked s n = s.linked n

module _ (name : ℕ) (o : Option ℕ) (q : SomeIff o (1 ≤ name) (name - 1)) {a : std.Result ℕ Unbuilt} (k : a ≡ ok_or o unbuilt.None) where
  pub name-none : {u : Unbuilt} → a ≡ Err u → {r : Built} → r ≡ Err u → {f index store : List ℕ} {at : ℕ} {old : List ℕ} → Builds f index store flatten (name_default name) at old r old
  unfolding name_default
  name-none i e = let n = none-of k i e in rw n.1 (no_value_lem (name_default name) (ap (λ (l : ℕ). on_link l nothing type_default) (link-none q n.0)))

  module _ {t : ℕ} (i : a ≡ Ok t) where
    pub name-type : (f : List ℕ) → Link (IsType f) name → IsType f t
    name-type f l = link-to (IsType f) name t (link-some q (some-of k i)) l

    pub name-some : {f index store : List ℕ} {at : ℕ} {old : List ℕ} {r : Built} {new : List ℕ} → Builds f index store flatten (type_default t) at old r new → Builds f index store flatten (name_default name) at old r new
    unfolding name_default
    name-some h = same (type_default t) (name_default name) (ap (λ (l : ℕ). on_link l nothing type_default) (link-some q (some-of k i))) h

-- ---- arrays
pub array-or-given : {f index store : List ℕ} (place : Place) (first : ℕ) {many : ℕ} (other : Ask Outcome) {at : ℕ} {old : List ℕ} {r : Built} {new : List ℕ} → (many ≡ 0 → ⊥)
    → Builds f index store flatten (array_of f place first many) at old r new → Builds f index store flatten (array_or f place first many other) at old r new
unfolding array_or
array-or-given place first {many} other n h = rw (ne_eqb many 0 n) h

-- ---- member lists over a default
module _ (f index store : List ℕ) (place : Place) (first many : ℕ) (base : Ask Outcome) where
  peek-over : (M : Memo) → peek M (members_over f place first many base) ≡ then_peek (peek M base) (λ t. peek M (applied f place (inits_at f first many) t))
  unfolding members_over
  peek-over M = peek-then M base (applied f place (inits_at f first many))

  module _ {at : ℕ} {old : List ℕ} {r : Built} {mid : List ℕ} where
    -- what `?` hands on
    pub over-fails : {u : Unbuilt} → Builds f index store flatten base at old (Err u) mid → r ≡ Err u → Builds f index store flatten (members_over f place first many base) at old r mid
    over-fails x q = record { gives = λ M m. rw (peek-over M) (gives-err flatten at mid (peek M base) (x.gives M m) _ q); kept = x.kept }

    over-all : Builds f index store flatten base at old r mid → ((M : Memo) → Memory f index store M → (t : Tree) → peek M base ≡ got (ok t) → Small t) → {end : ℕ} → r ≡ Ok end → {r' : Built} {new : List ℕ}
        → Applies f index store place first many at end mid r' new → Builds f index store flatten (members_over f place first many base) at old r' new
    over-all x k q {r'} {new} y =
        record {
          gives = λ M m.
              let v = gives-ends (peek M base) (x.gives M m) q in
              rw (peek-over M, v.is) (y.gives v.value (k M m v.value v.is) v.stands M m);
          kept = y.kept ∙ x.kept;
        }

module _ (f index store : List ℕ) (base : Ask Outcome) {at : ℕ} {old : List ℕ} {r : Built} {mid : List ℕ} (x : Builds f index store flatten base at old r mid) where
  small-there : ((M : Memo) → Memory f index store M → (t : Tree) → peek M base ≡ got (ok t) → Small t) → (M : Memo) → Memory f index store M → {end : ℕ} → r ≡ Ok end → SmallAt mid at end
  small-there k M m q =
      let v = gives-ends (peek M base) (x.gives M m) q in
      record { tree = v.value; small = k M m v.value v.is; stands = v.stands }

-- what a named type starts with
name-small : {f index store : List ℕ} (name : ℕ) → Link (IsType f) name → (M : Memo) → Memory f index store M → (t : Tree) → peek M (name_default name) ≡ got (ok t) → Small t
name-small {f} {index} {store} name l M m t e =
    peek-to (IsType f) (λ d o. OnOk Small o) (OnOk Small) M (λ d o p q. remembers-small m.remembers d o (omega (arith, m.all)) q) (name_default name) (gives-name wholes (IsType f) name l) (ok t) e

module _ {f classes index store : List ℕ} (y : Ready f classes index store) where
  module _ {place : Place} (i : PlaceIn f place) {at : ℕ} {old : List ℕ} {r : Built} {mid : List ℕ} (x : Builds f index store flatten (default_of f place) at old r mid) {end : ℕ} (q : r ≡ Ok end) where
    pub default-there : SmallAt mid at end
    default-there = small-there f index store (default_of f place) x (λ M m t e. default-small y.accepted m i t e) y.memo y.memory q

    pub default-over : {first many : ℕ} {r' : Built} {new : List ℕ} → Applies f index store place first many at end mid r' new
        → Builds f index store flatten (members_over f place first many (default_of f place)) at old r' new
    default-over {first} {many} z = over-all f index store place first many (default_of f place) x (λ M m t e. default-small y.accepted m i t e) q z

  module _ (name : ℕ) (l : Link (IsType f) name) {at : ℕ} {old : List ℕ} {r : Built} {mid : List ℕ} (x : Builds f index store flatten (name_default name) at old r mid) {end : ℕ} (q : r ≡ Ok end) where
    pub name-there : SmallAt mid at end
    name-there = small-there f index store (name_default name) x (λ M m t e. name-small name l M m t e) y.memo y.memory q

    pub name-over : {place : Place} {first many : ℕ} {r' : Built} {new : List ℕ} → Applies f index store place first many at end mid r' new
        → Builds f index store flatten (members_over f place first many (name_default name)) at old r' new
    name-over {place} {first} {many} z = over-all f index store place first many (name_default name) x (λ M m t e. name-small name l M m t e) q z

pub ruleset laws =
    (rules, start-some, implicit-some, tree-room, spec-linked, place-shape, constant-in)
