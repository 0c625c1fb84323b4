-- The parts of initializers and declarations that building functions form one by one.
use Rattle.std.specs.Prelude.{◌≡◌, Bool, true, List, ℕ, zero, suc, ◌+◌, ◌-◌, ◌*◌, ◌^◌, ◌≤◌, ◌<◌, eqb, take, Ok, Option}
use Rattle.definition.specs.declared.records.Constant.{Constant}
use Rattle.definition.specs.declared.records.Place.{Place}
use Rattle.definition.specs.Base.{pick, choose, on_link, inline}
use Rattle.definition.specs.Layout.{word, count, elements, variables, initializers, entries, constants}
use Rattle.definition.specs.Records.{initializer_at, named_type}
use Rattle.definition.specs.Syntax.{inits_at}
use Rattle.definition.specs.Tree.{Tree, Trees, tnil, flatten, flatten_all, tree_words}
use Rattle.definition.specs.Ask.{Result, Outcome, Ask, done, result_of, ◌>>=◌, give, nothing, type_default, and_more}
use Rattle.definition.specs.Places.{field_place}
use Rattle.definition.specs.Parts.{if_stated, field, is_instance}
use Rattle.definition.specs.Scalar.{as_tree}
use Rattle.definition.specs.Starting.{applied, array_of, initializer, declaration, over_base, implicit, alias_default_by}
use Rattle.definition.specs.Resolve.{Memo}
use Rattle.definition.specs.Peek.{Peek, peek}
use Rattle.laws.specs.Links.{Link, Naming}
use Rattle.laws.specs.Used.{IsType}
use Rattle.laws.specs.Values.{Small}
use Rattle.laws.specs.Pointed.{Run, InArray, InMembers}
use Rattle.laws.specs.Peeking.{on_got}
use Rattle.tree.specs.Words.{Stand}
use Rattle.build.specs.Built.{Built, Gives, Memory, Builds}

-- ---- values that no memo is needed for
pub record Lays (m : Ask Outcome) (at : ℕ) (old : List ℕ) (r : Built) (new : List ℕ) : Type 0 where
  pub gives : (M : Memo) → Gives flatten (peek M m) at r new
  pub kept : take at new ≡ take at old

-- ---- what is stated, or else another default
-- what a link states by a value without parts, whatever it is that answers give for what the link leads to
pub record StatedBy (answers : ℕ → Option Constant → Type 0) (f index store : List ℕ) (link : ℕ) (other : Ask Outcome) (at : ℕ) (old : List ℕ) (r : Built) (new : List ℕ) : Type 0 where
  pub is : (m : ℕ → Ask Outcome) → ((n : ℕ) (v : Option Constant) → link ≡ suc n → answers n v → m n ≡ done (as_tree (result_of v))) → Builds f index store flatten (if_stated link (λ u. other) m) at old r new

unfoldable pub array_or : List ℕ → Place → ℕ → ℕ → Ask Outcome → Ask Outcome
array_or f place first many other = choose (eqb many 0) (λ u. other) (λ u. array_of f place first many)

unfoldable pub members_over : List ℕ → Place → ℕ → ℕ → Ask Outcome → Ask Outcome
members_over f place first many base = base >>= applied f place (inits_at f first many)

-- ---- what the file has
-- a constant that is stated is one of the file
pub record ConstantIn (f : List ℕ) (value : ℕ) : Type 0 where
  pub constant : Link (λ c. c < count f constants) value

pub record ArrayIn (f : List ℕ) (first many : ℕ) : Type 0 where
  pub inside : first + many ≤ count f entries
  pub entries : Run (InArray f) first many

pub record MembersIn (f : List ℕ) (first many : ℕ) : Type 0 where
  pub inside : first + many ≤ count f entries
  pub entries : Run (InMembers f) first many

-- a small tree stands there
pub record SmallAt (s : List ℕ) (at end : ℕ) : Type 0 where
  pub tree : Tree
  pub small : Small tree
  pub stands : Stand s at (flatten tree) end

-- a tree gives way to what a member list makes of it
pub record Applies (f index store : List ℕ) (place : Place) (first many at end : ℕ) (old : List ℕ) (r : Built) (new : List ℕ) : Type 0 where
  pub gives : (t : Tree) → Small t → Stand old at (flatten t) end → (M : Memo) → Memory f index store M → Gives flatten (peek M (applied f place (inits_at f first many) t)) at r new
  pub kept : take at new ≡ take at old

-- ---- names of types
-- a name that is a link to a type unless the type is spelled in place
pub record SpecIn (f : List ℕ) (name : ℕ) : Type 0 where
  pub linked : (name ≡ inline → ⊥) → Link (IsType f) name

-- the initializer of an alias
pub record AliasIn (f : List ℕ) (i : ℕ) : Type 0 where
  pub inside : i < count f initializers
  pub spec : SpecIn f (named_type f i)
  pub named : Naming (initializer_at f i) → Link (IsType f) (named_type f i)

-- a subrange's own start value over what its base gives
pub record Over (f : List ℕ) (place : Place) (start at : ℕ) (base : Built) (old : List ℕ) (r : Built) (new : List ℕ) : Type 0 where
  pub gives : (M : Memo) (p : Peek Outcome) → Gives flatten p at base old → Gives flatten (on_got p (λ o. peek M (over_base f place start o))) at r new
  pub kept : take at new ≡ take at old

-- ---- the parts of a structure's declaration and of a function block: elements and variables
unfoldable pub element_start : List ℕ → Place → ℕ → Ask Outcome
element_start f place e = done (field_place f place (word f elements e 0)) >>= initializer f (word f elements e 1)

unfoldable pub variable_start : List ℕ → ℕ → Ask Outcome
variable_start f v = choose (eqb (word f variables v 0) 0) (λ u. nothing) (λ u. declaration f v)

unfoldable pub part_start : List ℕ → Place → ℕ → ℕ → Ask Outcome
part_start f place section k = choose (eqb section elements) (λ u. element_start f place k) (λ u. variable_start f k)

unfoldable pub is_part : List ℕ → ℕ → ℕ → Bool
is_part f section k = pick (eqb section elements) true (is_instance (word f variables k 1))

-- one part under its name, behind so many nodes
unfoldable pub part_ask : List ℕ → Place → ℕ → ℕ → ℕ → Ask (Result Trees)
part_ask f place section k size = part_start f place section k >>= field size (word f section k 0)

unfoldable pub parts_from : List ℕ → Place → ℕ → ℕ → ℕ → ℕ → ℕ → Ask (Result Trees)
parts_from f place section k zero made size = give tnil
parts_from f place section k (suc n) made size =
    choose (is_part f section k)
    (λ u. and_more made size (part_ask f place section k size) (parts_from f place section (suc k) n))
    (λ u. parts_from f place section (suc k) n made size)

-- a part at `to`, under a head at `at`
pub record BuildsPart (f index store : List ℕ) (place : Place) (section k at to : ℕ) (old : List ℕ) (r : Built) (new : List ℕ) : Type 0 where
  pub gives : (size : ℕ) → to ≡ at + 6 + 6 * size → (M : Memo) → Memory f index store M → Gives flatten_all (peek M (part_ask f place section k size)) to r new
  pub ends : (e : ℕ) → r ≡ Ok e → (to ≤ e) × (e ≤ at + tree_words)
  pub kept : take to new ≡ take to old

-- elements where the section is that of the elements, otherwise variables
pub record PartIn (f : List ℕ) (section k : ℕ) : Type 0 where
  pub element : section ≡ elements → k < count f elements
  pub variable : (section ≡ elements → ⊥) → k < count f variables

pub record PartsIn (f : List ℕ) (section first many : ℕ) : Type 0 where
  pub known : section < 14
  pub few : first + many < 2 ^ 32
  pub each : (k : ℕ) → first ≤ k → k < first + many → PartIn f section k

-- ---- the default of a type, by its declaration
unfoldable pub alias_default : List ℕ → ℕ → Place → Ask Outcome
alias_default f i place = alias_default_by f place i (initializer_at f i)

unfoldable pub simple_default : List ℕ → Place → ℕ → Ask Outcome
simple_default f place start = on_link start nothing (λ i. alias_default f i place)

unfoldable pub base_default : List ℕ → Place → ℕ → Ask Outcome
base_default f place base = if_stated base (λ u. implicit f place) type_default

-- a link to the initializer of an alias
pub record StartIn (f : List ℕ) (start : ℕ) : Type 0 where
  pub alias : (start ≡ 0 → ⊥) → AliasIn f (start - 1)
