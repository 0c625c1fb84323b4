-- What stands in the room is copied, repeated or takes the place of something else.
use Rattle.std.specs.Prelude.{◌≡◌, List, ℕ, suc, ◌+◌, ◌*◌, ◌≤◌, ◌<◌, leb, length, take, drop, ◌⊎◌}
use Rattle.definition.specs.Base.{choose}
use Rattle.definition.specs.Tree.{Tree, Trees, tnil, tcons, head, parts, many, nodes, nodes_in, flatten, flatten_all, array_tree, structure_tree, one, rest, most_nodes}
use Rattle.definition.specs.Ask.{Result, ok, none, Outcome, Ask, ◌>>=◌, give, nothing, gathered}
use Rattle.definition.specs.Iec.{filled, assigned}
use Rattle.definition.specs.Parts.{on_first, added, copied, defaulted}
use Rattle.definition.specs.Resolve.{Memo}
use Rattle.definition.specs.Peek.{peek}
use Rattle.laws.specs.Gathers.{Gathered}
use Rattle.laws.specs.Whole.{Goods}
use Rattle.tree.specs.Words.{Stand}
use Rattle.tree.specs.Extent.{whole_of}
use Rattle.tree.specs.Part.{span, place, find_of}
use Rattle.definition.specs.declared.records.Place.{Place}
use Rattle.definition.specs.Records.{entry_name}
use Rattle.definition.specs.Places.{field_place}
use Rattle.places.specs.Inside.{PlaceIn}
use Rattle.gather.specs.declared.copies.Target.{Target}
use Rattle.build.specs.declared.built.Unbuilt.TheVariants as unbuilt
use Rattle.build.specs.Built.{Built}
use Rattle.gather.specs.declared.answers.Filling.{Filling}
use Rattle.gather.specs.Answers.{Listing, stopped, Builds, Lists, Filled}
use Rattle.gather.specs.Room.{Defaults, Fillable, Structure, Current, whole}
use Rattle.std.specs.Prelude.{Err, None, Ok, Option, Some}

-- ---- a structure is taken apart, and its fields stand under a head of their own; or it is none
pub record Taken (t : Tree) (at e : ℕ) (new : List ℕ) : Type 0 where
  pub kind : (head t).kind ≡ 14
  pub ends : e ≡ at + 6 * nodes t
  pub stands : Stand new at (flatten (structure_tree (parts t))) e

abbrev pub Takes : Tree → ℕ → Built → List ℕ → Type 0
Takes t at (Ok e) new = Taken t at e new
Takes t at (Err unbuilt.None) new = (head t).kind ≡ 14 → ⊥
Takes t at (Err unbuilt.TooLarge) new = ⊥
Takes t at (Err (unbuilt.Wanted d)) new = ⊥

-- words between two places
pub record CopiesWords (from to : ℕ) (old : List ℕ) (at : ℕ) (r : Option ℕ) (new : List ℕ) : Type 0 where
  pub kept : take at new ≡ take at old
  pub says : (ws : List ℕ) → Stand old from ws to → to ≤ at → at + length ws ≤ length old → (r ≡ Some (at + length ws)) × Stand new at ws (at + length ws)

pub record CopiesFields (begin end count : ℕ) (old : List ℕ) (at : ℕ) (r : Built) (new : List ℕ) : Type 0 where
  pub kept : take at new ≡ take at old
  pub says : (t : Tree) → Current old begin end t at 12288 → (head t).kind ≡ 14 → many (parts t) ≡ count → Takes t at r new

pub record CopiesStructure (begin end : ℕ) (old : List ℕ) (at : ℕ) (r : Built) (new : List ℕ) : Type 0 where
  pub kept : take at new ≡ take at old
  pub says : (t : Tree) → Current old begin end t at 12288 → Takes t at r new

-- the first of those that are left
abbrev pub TakesFirst : Trees → ℕ → Built → List ℕ → Type 0
TakesFirst tnil at r new = r ≡ Err unbuilt.None
TakesFirst (tcons t ts) at r new = Takes t at r new

pub record CopiesDefault (l : Filling) (old : List ℕ) (at : ℕ) (r : Built) (new : List ℕ) : Type 0 where
  pub kept : take at new ≡ take at old
  pub says : (ds : Trees) → Fillable old l at 12288 ds → TakesFirst (rest l.made ds) at r new

-- where the next default ends, if one is left
pub record DefaultEnds (l : Filling) (s : List ℕ) (r : Option ℕ) : Type 0 where
  pub left : l.made < l.places → r ≡ whole_of s l.from
  pub past : l.places ≤ l.made → r ≡ None

-- where the default of the next place stands, once there are more values
pub record MovesOn (s : List ℕ) (from made more r : ℕ) : Type 0 where
  pub says : (places : ℕ) (ds : Trees) (upto : ℕ) → Defaults s from made places ds upto → made ≤ more → more ≤ places → Defaults s r more places ds upto

-- ---- repetitions
-- the defaults of the places that are left
pub record Remains (l r : Filling) : Type 0 where
  pub none_made : r.made ≡ 0
  pub no_size : r.size ≡ 0
  pub says : (s : List ℕ) (ds : Trees) (upto : ℕ) → Defaults s l.from l.made l.places ds upto → Defaults s r.from r.made r.places (rest l.made ds) upto

-- values at a place, so many times
pub record CopiesList (values nodes k : ℕ) (l : Filling) (old : List ℕ) (at : ℕ) (r : Listing) (new : List ℕ) : Type 0 where
  pub kept : take at new ≡ take at old
  pub says : (M : Memo) (ts : Trees) (e : ℕ) → Stand old at (flatten_all ts) e → Goods ts → many ts ≡ values → nodes_in ts ≡ nodes → l.made ≤ l.places → suc l.size ≤ most_nodes
      → at + 12288 ≤ length old → Lists M (copied k ts l.places l.made l.size) l at r new

pub record PushesCopies (b : Listing) (k : ℕ) (l : Filling) (old : List ℕ) (at : ℕ) (r : Listing) (new : List ℕ) : Type 0 where
  pub kept : take at new ≡ take at old
  pub says : (M : Memo) (m : Ask (Result Trees)) (i : Filling) → i.made ≡ 0 → i.size ≡ 0 → Lists M m i at b old → l.made ≤ l.places → suc l.size ≤ most_nodes
      → at + 12288 ≤ length old → Lists M (m >>= λ ts. copied k ts l.places l.made l.size) l at r new

-- n()
abbrev pub defaulted_of : ℕ → Trees → Filling → Ask (Result Trees)
defaulted_of k ds l = choose (leb k (many ds)) (λ u. defaulted k (rest l.made ds) (many ds) l.made l.size) (λ u. nothing)

-- a tree between two places becomes the next value, where it may
pub record PushesWords (begin end : ℕ) (l : Filling) (old : List ℕ) (at : ℕ) (r : Listing) (new : List ℕ) : Type 0 where
  pub kept : take at new ≡ take at old
  pub says : (M : Memo) (t : Tree) → Current old begin end t at 0 → at + 12282 ≤ length old + 6 * l.size → Lists M (added l.places l.made l.size (one t)) l at r new

-- the default of the next place
pub record NextDefault (l : Filling) (old : List ℕ) (at : ℕ) (r : Listing) (new : List ℕ) : Type 0 where
  pub kept : take at new ≡ take at old
  pub says : (M : Memo) (ds : Trees) → Fillable old l at 0 ds → at + 12282 ≤ length old + 6 * l.size → Lists M (on_first (rest l.made ds) (λ t ts. added l.places l.made l.size (one t))) l at r new

pub record EachDefault (k : ℕ) (l : Filling) (old : List ℕ) (at : ℕ) (r : Listing) (new : List ℕ) : Type 0 where
  pub says : (M : Memo) (ds : Trees) → Fillable old l at 12288 ds → Filled M (defaulted k (rest l.made ds) l.places l.made l.size) l old at r new

pub record PushesDefaults (k : ℕ) (l : Filling) (old : List ℕ) (at : ℕ) (r : Listing) (new : List ℕ) : Type 0 where
  pub says : (M : Memo) (ds : Trees) → Fillable old l at 12288 ds → Filled M (defaulted_of k ds l) l old at r new

-- ---- an array
-- the leading defaults, which stand at the front, give way to values behind them
pub record FillsOver (end values made places : ℕ) (old : List ℕ) (r : Listing) (new : List ℕ) : Type 0 where
  pub says : (M : Memo) (ds vs : Trees) → many ds ≡ places → Gathered 0 ds → Stand old 0 (flatten_all ds) end → many vs ≡ made → made ≤ places → Gathered 0 vs
      → Stand old end (flatten_all vs) values → end + 12288 ≤ length old → Lists M (gathered 0 (filled ds vs)) whole 0 r new

pub record FillsRest (b : Listing) (end places : ℕ) (old : List ℕ) (r : Listing) (new : List ℕ) : Type 0 where
  pub says : (M : Memo) (m : Ask (Result Trees)) (ds : Trees) (l : Filling) → l.made ≡ 0 → l.size ≡ 0 → l.places ≡ places → many ds ≡ places → Gathered 0 ds
      → Stand old 0 (flatten_all ds) end → Lists M m l end b old → end + 12288 ≤ length old → Lists M (m >>= λ vs. gathered 0 (filled ds vs)) whole 0 r new

-- a head over values that stand behind it, in the part that begins at `from`
pub record PutsHead (end made at from : ℕ) (old : List ℕ) (r : Built) (new : List ℕ) : Type 0 where
  pub kept : take at new ≡ take at old
  pub says : (M : Memo) (ts : Trees) → from ≡ at + 6 → from ≤ length old → made ≡ many ts → end ≡ 6 * nodes_in ts → Gathered 0 ts → Stand (drop from old) 0 (flatten_all ts) end
      → Builds M (give (array_tree ts)) at r new

pub record Heads (b : Listing) (at from : ℕ) (old : List ℕ) (r : Built) (new : List ℕ) : Type 0 where
  pub kept : take at new ≡ take at old
  pub says : (M : Memo) (m : Ask (Result Trees)) → from ≡ at + 6 → from ≤ length old → Lists M m whole 0 b (drop from old) → Builds M (m >>= λ ts. give (array_tree ts)) at r new

-- ---- a member
-- what a step makes of the fields, whatever follows it
pub record SetThere (M : Memo) (step : (Trees → Ask Outcome) → Ask Outcome) (at e : ℕ) (new : List ℕ) : Type 0 where
  pub changed : Trees
  pub goes : (k : Trees → Ask Outcome) → peek M (step k) ≡ peek M (k changed)
  pub stands : Stand new at (flatten (structure_tree changed)) e
  pub whole : Gathered 0 changed

abbrev pub Sets : Memo → ((Trees → Ask Outcome) → Ask Outcome) → ℕ → Built → List ℕ → Type 0
Sets M step at (Ok e) new = SetThere M step at e new
Sets M step at (Err u) new = (k : Trees → Ask Outcome) → peek M (step k) ≡ stopped u

-- the field of an entry's name: where it stands in a structure, and its place
abbrev pub Targets : List ℕ → Place → ℕ → List ℕ → ℕ → Option Target → Type 0
Targets f p e s at (Some t) = (t.name ≡ entry_name f e) × (find_of s at t.name ≡ Some (span t.begin t.end)) × (field_place f p t.name ≡ ok t.place)
Targets f p e s at None = (find_of s at (entry_name f e) ≡ None) ⊎ (field_place f p (entry_name f e) ≡ none)

pub record Finds (f : List ℕ) (p : Place) (e : ℕ) (s : List ℕ) (at : ℕ) (r : Option Target) : Type 0 where
  pub says : Targets f p e s at r
  pub inside : (t : Target) → r ≡ Some t → PlaceIn f t.place

pub record SetsKept (M : Memo) (step : (Trees → Ask Outcome) → Ask Outcome) (old : List ℕ) (at : ℕ) (r : Built) (new : List ℕ) : Type 0 where
  pub kept : take at new ≡ take at old
  pub sets : Sets M step at r new

pub record PutsMember (b : Built) (at end begin upto name : ℕ) (old : List ℕ) (r : Built) (new : List ℕ) : Type 0 where
  pub says : (M : Memo) (m : Ask Outcome) (fields : Trees) → Structure old at end 24576 fields → place name (at + 6) fields ≡ Some (span begin upto) → Builds M m end b old
      → SetsKept M (λ k. m >>= λ t. gathered 0 (assigned name t fields) >>= k) old at r new
