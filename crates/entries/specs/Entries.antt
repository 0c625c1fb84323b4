-- What entries make of the places that they are written for: for every memo that index and store stand for, and for all trees that stand in the room where they
-- are read, the answer and the words are those of the definition's computation (specs/Defaults.antt).
use Rattle.std.specs.Prelude.{◌≡◌, List, ℕ, suc, ◌+◌, ◌-◌, ◌*◌, ◌≤◌, ◌<◌, length}
use Rattle.definition.specs.declared.records.Place.{Place}
use Rattle.definition.specs.Base.{on_link}
use Rattle.definition.specs.Layout as Layout
use Rattle.definition.specs.Layout.{entries}
use Rattle.definition.specs.Records.{entry_name}
use Rattle.definition.specs.Syntax.{Init, init_at, inits_at}
use Rattle.definition.specs.Tree.{Tree, Trees, many, flatten_all, named}
use Rattle.definition.specs.Ask.{Result, Outcome, Ask, done, ◌>>=◌, gathered}
use Rattle.definition.specs.Iec.{filled, assigned}
use Rattle.definition.specs.Places.{leaf_place, field_place}
use Rattle.definition.specs.Parts.{on_named, element_defaults}
use Rattle.definition.specs.Starting.{default_of, expand, expand_all, members, member, array_of}
use Rattle.definition.specs.Resolve.{Memo}
use Rattle.definition.specs.Depth.{deepest, entry_depth}
use Rattle.laws.specs.Gathers.{Gathered}
use Rattle.laws.specs.Links.{Link}
use Rattle.tree.specs.Words.{Stand}
use Rattle.gather.specs.declared.answers.Filling.{Filling}
use Rattle.gather.specs.Answers.{Listing, Lists, Placed, Filled}
use Rattle.build.specs.Built.{Built, Memory}
use Rattle.gather.specs.Room.{shapes_deep, rooms, Fillable, Structure, Current, whole}
use Rattle.gather.specs.Copies.{SetsKept}

-- how deep a run of entries nests
abbrev pub run_depth : List ℕ → ℕ → ℕ → ℕ
run_depth f first count = deepest (entry_depth f) first count

-- a link to an entry, or none
pub record EntryLink (f : List ℕ) (l : ℕ) : Type 0 where
  pub inside : Link (λ e. e < Layout.count f entries) l

-- ---- what stands, and the room behind it: what the calls ask for
pub record DefaultsThere (s : List ℕ) (l : Filling) (at need : ℕ) : Type 0 where
  pub trees : Trees
  pub ready : Fillable s l at need trees

pub record RunThere (f : List ℕ) (first count : ℕ) (s : List ℕ) (l : Filling) (at : ℕ) : Type 0 where
  pub trees : Trees
  pub ready : Fillable s l at 0 trees
  pub room : at + 24576 * (run_depth f first count + shapes_deep f) ≤ length s + 6 * suc l.size

pub record ValuesThere (f : List ℕ) (first count places : ℕ) (s : List ℕ) (end : ℕ) : Type 0 where
  pub trees : Trees
  pub stands : Stand s 0 (flatten_all trees) end
  pub small : Gathered 0 trees
  pub counts : many trees ≡ places
  pub room : end + 24576 * (run_depth f first count + shapes_deep f) ≤ length s

pub record FieldsThere (s : List ℕ) (at end need : ℕ) : Type 0 where
  pub fields : Trees
  pub there : Structure s at end need fields

pub record ValueThere (s : List ℕ) (begin end at need : ℕ) : Type 0 where
  pub tree : Tree
  pub there : Current s begin end tree at need

-- ---- entries of an array
pub record Expands (f known store : List ℕ) (e : ℕ) (leaf : Place) (l : Filling) (old : List ℕ) (at : ℕ) (r : Listing) (new : List ℕ) : Type 0 where
  pub says : (M : Memo) → Memory f known store M → (ds : Trees) → Fillable old l at (rooms f (entry_depth f e - 1)) ds
      → Filled M (expand f (init_at f e) leaf ds l.made l.size) l old at r new

-- a repetition, of the entry that a link leads to, or of each place's own default
pub record Repeats (f known store : List ℕ) (k link : ℕ) (leaf : Place) (l : Filling) (old : List ℕ) (at : ℕ) (r : Listing) (new : List ℕ) : Type 0 where
  pub says : (M : Memo) → Memory f known store M → (ds : Trees) → Fillable old l at (rooms f (on_link link 0 (entry_depth f))) ds
      → Filled M (expand f (on_link link (Init.defaults k) (λ e. Init.repeated k (init_at f e))) leaf ds l.made l.size) l old at r new

pub record RepeatsEntry (f known store : List ℕ) (k e : ℕ) (leaf : Place) (l : Filling) (old : List ℕ) (at : ℕ) (r : Listing) (new : List ℕ) : Type 0 where
  pub says : (M : Memo) → Memory f known store M → (ds : Trees) → Fillable old l at (rooms f (entry_depth f e)) ds
      → Filled M (expand f (Init.repeated k (init_at f e)) leaf ds l.made l.size) l old at r new

-- a structure over the next place's default
pub record ExpandsStructure (f known store : List ℕ) (first count : ℕ) (leaf : Place) (l : Filling) (old : List ℕ) (at : ℕ) (r : Listing) (new : List ℕ) : Type 0 where
  pub says : (M : Memo) → Memory f known store M → (ds : Trees) → Fillable old l at (rooms f (run_depth f first count)) ds
      → Filled M (expand f (Init.structure (inits_at f first count)) leaf ds l.made l.size) l old at r new

-- a run: the values may have 2,047 nodes in all, and the deepest entry wants its room behind them
pub record ExpandsAll (f known store : List ℕ) (first count : ℕ) (leaf : Place) (l : Filling) (old : List ℕ) (at : ℕ) (r : Listing) (new : List ℕ) : Type 0 where
  pub says : (M : Memo) → Memory f known store M → (ds : Trees) → Fillable old l at 0 ds → at + 24576 * (run_depth f first count + shapes_deep f) ≤ length old + 6 * suc l.size
      → Filled M (expand_all f (inits_at f first count) leaf ds l.made l.size) l old at r new

-- ---- an array
pub record BuildsArray (f known store : List ℕ) (place : Place) (first count : ℕ) (old : List ℕ) (at : ℕ) (r : Built) (new : List ℕ) : Type 0 where
  pub says : (M : Memo) → Memory f known store M → at + rooms f (run_depth f first count) ≤ length old → Placed M (array_of f place first count) old at r new

-- its values behind the head
abbrev pub values_of : List ℕ → Place → ℕ → ℕ → Trees → Ask (Result Trees)
values_of f place first count ds = expand_all f (inits_at f first count) (leaf_place f place) ds 0 0 >>= λ vs. gathered 0 (filled ds vs)

pub record FillsArray (f known store : List ℕ) (place : Place) (first count : ℕ) (old : List ℕ) (r : Listing) (new : List ℕ) : Type 0 where
  pub says : (M : Memo) → Memory f known store M → 12282 + 24576 * (run_depth f first count + shapes_deep f) ≤ length old
      → Lists M (element_defaults f (default_of f) place >>= λ ds. values_of f place first count ds) whole 0 r new

-- its values over the defaults, which stand at the front
pub record FillsValues (f known store : List ℕ) (place : Place) (first count places : ℕ) (old : List ℕ) (end : ℕ) (r : Listing) (new : List ℕ) : Type 0 where
  pub says : (M : Memo) → Memory f known store M → (ds : Trees) → Stand old 0 (flatten_all ds) end → Gathered 0 ds → many ds ≡ places
      → 1 ≤ shapes_deep f → end + 24576 * (run_depth f first count + shapes_deep f) ≤ length old → Lists M (values_of f place first count ds) whole 0 r new

-- ---- members
-- a list applied to a structure
pub record Applies (f known store : List ℕ) (first count : ℕ) (place : Place) (old : List ℕ) (at end : ℕ) (r : Built) (new : List ℕ) : Type 0 where
  pub says : (M : Memo) → Memory f known store M → (fields : Trees) → Structure old at end (rooms f (run_depth f first count)) fields
      → Placed M (members f (inits_at f first count) place fields) old at r new

-- one entry of it, whatever follows
unfoldable pub member_step : List ℕ → ℕ → Place → Trees → (Trees → Ask Outcome) → Ask Outcome
member_step f e place fields k =
    on_named (entry_name f e) fields (λ current.
    done (field_place f place (entry_name f e))
    >>= λ inner. member f (init_at f e) inner current
    >>= λ t. gathered 0 (assigned (entry_name f e) t fields)
    >>= k)

pub record SetsMember (f known store : List ℕ) (e : ℕ) (place : Place) (old : List ℕ) (at end : ℕ) (r : Built) (new : List ℕ) : Type 0 where
  pub says : (M : Memo) → Memory f known store M → (fields : Trees) → Structure old at end (12288 + rooms f (entry_depth f e - 1)) fields
      → SetsKept M (member_step f e place fields) old at r new

-- a member's value, where the one that it has so far stands in the room
pub record BuildsMember (f known store : List ℕ) (e : ℕ) (place : Place) (begin upto : ℕ) (old : List ℕ) (at : ℕ) (r : Built) (new : List ℕ) : Type 0 where
  pub says : (M : Memo) → Memory f known store M → (t : Tree) → Current old begin upto t at (rooms f (entry_depth f e - 1))
      → Placed M (member f (init_at f e) place (named 0 t)) old at r new

pub record BuildsStructure (f known store : List ℕ) (first count : ℕ) (place : Place) (begin upto : ℕ) (old : List ℕ) (at : ℕ) (r : Built) (new : List ℕ) : Type 0 where
  pub says : (M : Memo) → Memory f known store M → (t : Tree) → Current old begin upto t at (rooms f (run_depth f first count))
      → Placed M (member f (Init.structure (inits_at f first count)) place (named 0 t)) old at r new
