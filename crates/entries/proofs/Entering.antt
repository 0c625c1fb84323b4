-- A law for each return of entries.rt, and what its calls require. Assumes nothing.
use borrow.Enum.Refused.{opened}
use mathlib.Core.Path.{◌≡◌, refl, ap, sym, ◌∙◌}
use mathlib.Core.List.{List, [], ◌∷◌}
use Prim.Native.Nat.{ℕ, zero, suc, ◌+◌, ◌-◌, ◌*◌, ◌≤◌, ◌<◌}
use native.Mathlib.Omega.{arith}
use types.Run.{OneOf, miss}
use denote.Enum.Declared.{tag_of}
use mir.Syntax.{w32}
use mir.Val.{Fits}
use borrow.Author.Rules.{rules}
use borrow.Author.Tests.{le-leb, lt-leb}
use lib.ListN.{length}
use Rattle.definition.specs.contracts.records.Entry as entry-tags
use Rattle.definition.specs.declared.records.Place.{Place}
use Rattle.definition.specs.declared.records.Entry.{Entry}
use Rattle.definition.specs.declared.records.Entry.TheVariants as entry
use Rattle.definition.specs.Base.{on_link}
use Rattle.definition.specs.Layout.{count, entries}
use Rattle.definition.specs.Records.{entry_at}
use Rattle.definition.specs.Syntax.{Init, init_from, init_at, inits_at}
use Rattle.definition.specs.Tree.{Tree, Trees, many, one, rest}
use Rattle.definition.specs.Ask.{result_of, none, done, ◌>>=◌}
use Rattle.definition.specs.Places.{leaf_place}
use Rattle.definition.specs.Parts.{added, copied}
use Rattle.definition.specs.Defaults as Defaults
use Rattle.definition.specs.Starting.{expand}
use Rattle.definition.specs.Resolve.{Memo}
use Rattle.definition.specs.Peek.{peek}
use Rattle.definition.specs.Depth.{deepest, entry_depth, entry_depth_from}
use Rattle.laws.specs.Accepted.{Accepted}
use Rattle.laws.specs.Decoded.{init-is, run-inits}
use Rattle.laws.specs.Depths.{deepest-at, entry-depth-is, few-entries}
use Rattle.laws.specs.Links.{Link, link-to}
use Rattle.laws.specs.Pointed.{EntryPointed, entry-pointed}
use Rattle.laws.specs.Steps.{peek-done, peek-nothing, peek-none}
use Rattle.places.specs.Inside.{PlaceIn, leaf-in}
use Rattle.std.specs.Prelude.{Err, Option}
use Rattle.build.specs.declared.built.Unbuilt.TheVariants as unbuilt
use Rattle.gather.specs.Answers.{Listing}
use Rattle.gather.specs.declared.answers.Filling.{Filling}
use Rattle.gather.specs.Room.{RoomThere, rooms, Fillable, Current}
use Rattle.gather.specs.Leaves.{simple_of, pushed, Pushes}
use Rattle.gather.proofs.Single.{small-simple, place-shape}
use Rattle.build.proofs.Peeks.{link-some, link-none}
use Rattle.definition.specs.declared.records.Constant.{Constant}
use Rattle.definition.specs.Scalar.{as_tree}
use Rattle.gather.specs.Copies.{Remains, PushesCopies, PushesDefaults}
use Rattle.entries.specs.Entries.{run_depth, EntryLink, DefaultsThere, ValueThere, Expands, Repeats, RepeatsEntry, ExpandsStructure}
use Rattle.gather.proofs.Onward.{lists-same}

-- ---- an entry of an accepted file, by its record
module _ (f : List ℕ) (a : Accepted f) (e : ℕ) (h : e < count f entries) {x : Entry} (is : x ≡ entry_at f e) where
  init-as : {y : Entry} → x ≡ y → init_at f e ≡ init_from f (init_at f) y
  init-as q = init-is f a e h ∙ ap (init_from f (init_at f)) (sym is ∙ q)

  depth-as : {y : Entry} → x ≡ y → entry_depth f e ≡ entry_depth_from (entry_depth f) y
  depth-as q = entry-depth-is f a e h ∙ ap (entry_depth_from (entry_depth f)) (sym is ∙ q)

  pointed-as : {y : Entry} → x ≡ y → EntryPointed f e y
  pointed-as q = rw (sym is ∙ q) at (entry-pointed f a e h)

  module _ {first many : ℕ} (q : x ≡ entry.Structure first many) where
    pub structure-init : init_at f e ≡ Init.structure (inits_at f first many)
    unfolding init_from
    structure-init = init-as q ∙ ap Init.structure (run-inits f first many)

    pub structure-depth : entry_depth f e ≡ suc (deepest (entry_depth f) first many)
    unfolding entry_depth_from
    structure-depth = depth-as q

    pub structure-inside : first + many ≤ count f entries
    structure-inside = (pointed-as q).0

  module _ {first many : ℕ} (q : x ≡ entry.Array first many) where
    pub array-init : init_at f e ≡ Init.array (inits_at f first many)
    unfolding init_from
    array-init = init-as q ∙ ap Init.array (run-inits f first many)

    pub array-depth : entry_depth f e ≡ suc (deepest (entry_depth f) first many)
    unfolding entry_depth_from
    array-depth = depth-as q

    pub array-inside : first + many ≤ count f entries
    array-inside = (pointed-as q).0

  module _ {many inner : ℕ} (q : x ≡ entry.Repeat many inner) where
    pub repeat-init : init_at f e ≡ on_link inner (Init.defaults many) (λ e. Init.repeated many (init_at f e))
    unfolding init_from
    repeat-init = init-as q

    pub repeat-depth : entry_depth f e ≡ suc (on_link inner 0 (entry_depth f))
    unfolding entry_depth_from
    repeat-depth = depth-as q

    pub repeat-inside : Link (λ i. i < count f entries) inner
    repeat-inside = go inner (pointed-as q)
      where
        go : (l : ℕ) → EntryPointed f e (entry.Repeat many l) → Link (λ i. i < count f entries) l
        go zero p = tt
        go (suc i) p = omega (arith, p.0)

-- ---- what falls, and what the calls require
module _ {f : List ℕ} (g : Accepted f) where
  module _ (e : ℕ) (h : e < count f entries) {x : Entry} (is : x ≡ entry_at f e) where
    pub structure-falls : {first many : ℕ} → x ≡ entry.Structure first many → {t : ℕ} → 16 * entry_depth f e + 1 ≡ t → 16 * deepest (entry_depth f) first many + 15 < t
    structure-falls q m = omega (arith, structure-depth f g e h is q)

    pub structure-run : {first many : ℕ} → x ≡ entry.Structure first many → first + many ≤ count f entries
    structure-run q = structure-inside f g e h is q

    pub repeat-falls : {many inner : ℕ} → x ≡ entry.Repeat many inner → {t : ℕ} → 16 * entry_depth f e + 1 ≡ t → 16 * on_link inner 0 (entry_depth f) + 15 < t
    repeat-falls q m = omega (arith, repeat-depth f g e h is q)

    pub repeat-link : {many inner : ℕ} → x ≡ entry.Repeat many inner → EntryLink f inner
    repeat-link q = record { inside = repeat-inside f g e h is q }

    pub member-falls : {first many : ℕ} → x ≡ entry.Structure first many → {t : ℕ} → 16 * entry_depth f e + 12 ≡ t → 16 * deepest (entry_depth f) first many + 15 < t
    member-falls q m = omega (arith, structure-depth f g e h is q)

    pub array-falls : {first many : ℕ} → x ≡ entry.Array first many → {t : ℕ} → 16 * entry_depth f e + 12 ≡ t → 16 * deepest (entry_depth f) first many + 10 < t
    array-falls q m = omega (arith, array-depth f g e h is q)

    pub array-run : {first many : ℕ} → x ≡ entry.Array first many → first + many ≤ count f entries
    array-run q = array-inside f g e h is q

  pub run_fits : (first many : ℕ) → first + many ≤ count f entries → Fits w32 (first + many)
  run_fits first many h = record { fits = omega (arith, few-entries f g) }

-- the entry behind a link
module _ (f : List ℕ) {l e : ℕ} (q : l ≡ suc e) where
  pub link-entry : EntryLink f l → e < count f entries
  link-entry p = link-to (λ e. e < count f entries) l e q p.inside

  pub link-falls : {t : ℕ} → 16 * on_link l 0 (entry_depth f) + 15 ≡ t → 16 * entry_depth f e + 2 < t
  link-falls {t} m = let h : 16 * entry_depth f e + 15 ≡ t = rw q at m in omega (arith, h)

  pub link-there : {s : List ℕ} {v : Filling} {at : ℕ} → DefaultsThere s v at (rooms f (on_link l 0 (entry_depth f))) → DefaultsThere s v at (rooms f (entry_depth f e))
  link-there y = rw q at y

pub run-falls : (f : List ℕ) (first many e : ℕ) → first ≤ e → e < first + many → {t : ℕ} → 16 * deepest (entry_depth f) first many + 7 ≡ t → 16 * entry_depth f e + 1 < t
run-falls f first many e i h m = omega (arith, deepest-at (entry_depth f) first many e i h)

pub members-fall : (f : List ℕ) (first many e : ℕ) → first ≤ e → e < first + many → {t : ℕ} → 16 * deepest (entry_depth f) first many + 14 ≡ t → 16 * entry_depth f e + 13 < t
members-fall f first many e i h m = omega (arith, deepest-at (entry_depth f) first many e i h)

pub leaf-inside : {f : List ℕ} → Accepted f → {p : Place} → PlaceIn f p → {leaf : Place} → leaf ≡ leaf_place f p → PlaceIn f leaf
leaf-inside {f} g {p} i e = rw e (leaf-in f g p i)

-- ---- less room
pub fillable-less : {s : List ℕ} {l : Filling} {at n : ℕ} {ds : Trees} → Fillable s l at n ds → (m : ℕ) → m ≤ n → Fillable s l at m ds
fillable-less y m h = record { defaults = y.defaults; few = y.few; small = y.small; room = omega (arith, y.room) }

pub current-less : {s : List ℕ} {b e : ℕ} {t : Tree} {at n : ℕ} → Current s b e t at n → (m : ℕ) → m ≤ n → Current s b e t at m
current-less y m h = record { stands = y.stands; before = y.before; good = y.good; few = y.few; room = omega (arith, y.room) }

-- ---- `expand`
abbrev simples : List ℕ
simples = 0 ∷ 1 ∷ 2 ∷ 4 ∷ 5 ∷ 7 ∷ []

simple-is : (M : Memo) (f : List ℕ) (below : ℕ → Init) (leaf : Place) (l : Filling) (ds : Trees) → many ds ≡ l.places → (x : Entry) → OneOf simples (tag_of entry-tags.the_type x)
    → ((y : Entry) → init_from f below y ≡ init_from f (init_at f) y)
    → peek M (expand f (init_from f (init_at f) x) leaf ds l.made l.size) ≡ peek M (pushed l (done (simple_of f leaf.shape x)))
unfolding Defaults.expand init_from simple_of
simple-is M f below leaf l ds n (entry.Constant number) o b = rw n
simple-is M f below leaf l ds n (entry.Enumerated value qualifier) o b = rw n
simple-is M f below leaf l ds n (entry.Array first many) o b =
    peek-nothing M ∙ sym (peek-none M (done none) (λ t. added l.places l.made l.size (one t)) (peek-done M none))
simple-is M f below leaf l ds n (entry.Structure first many) o b = absurd (miss simples 3 tt o)
simple-is M f below leaf l ds n (entry.Expression number) o b = rw n
simple-is M f below leaf l ds n entry.LateBound o b =
    peek-nothing M ∙ sym (peek-none M (done none) (λ t. added l.places l.made l.size (one t)) (peek-done M none))
simple-is M f below leaf l ds n (entry.Repeat many inner) o b = absurd (miss simples 6 tt o)
simple-is M f below leaf l ds n entry.Unknown o b =
    peek-nothing M ∙ sym (peek-none M (done none) (λ t. added l.places l.made l.size (one t)) (peek-done M none))

module _ {f known store : List ℕ} (g : Accepted f) (e : ℕ) (h : e < count f entries) {x : Entry} (is : x ≡ entry_at f e)
    {leaf : Place} {l : Filling} {old : List ℕ} {at : ℕ} {r : Listing} {new : List ℕ} where
  pub expand-structure : {first many : ℕ} → x ≡ entry.Structure first many → ExpandsStructure f known store first many leaf l old at r new → Expands f known store e leaf l old at r new
  expand-structure {first} {many} q w =
      record { says = λ M k ds y. rw (structure-init f g e h is q) (w.says M k ds (fillable-less y (rooms f (run_depth f first many)) (omega (arith, structure-depth f g e h is q)))) }

  pub expand-repeat : {many inner : ℕ} → x ≡ entry.Repeat many inner → Repeats f known store many inner leaf l old at r new → Expands f known store e leaf l old at r new
  expand-repeat {many} {inner} q w =
      record { says = λ M k ds y. rw (repeat-init f g e h is q) (w.says M k ds (fillable-less y (rooms f (on_link inner 0 (entry_depth f))) (omega (arith, repeat-depth f g e h is q)))) }

  pub expand-simple : OneOf simples (tag_of entry-tags.the_type x) → {v : Option Constant} → as_tree (result_of v) ≡ simple_of f leaf.shape (entry_at f e) → Pushes v l old at r new → Expands f known store e leaf l old at r new
  expand-simple o q w =
      record {
        says = λ M k ds y.
            record {
              kept = w.kept;
              lists =
                  lists-same M (pushed l (done (simple_of f leaf.shape (entry_at f e)))) (expand f (init_at f e) leaf ds l.made l.size) l at r new
                  (ap (λ i. peek M (expand f i leaf ds l.made l.size)) (init-is f g e h)
                  ∙ simple-is M f (init_at f) leaf l ds y.defaults.count (entry_at f e) (rw is at o) (λ y. refl))
                  (w.says M (simple_of f leaf.shape (entry_at f e)) q (small-simple f leaf.shape (entry_at f e)) (omega (arith, y.room)));
            };
      }

-- ---- `push_repeat`
module _ {f known store : List ℕ} (k link : ℕ) {leaf : Place} {l : Filling} {old : List ℕ} {at : ℕ} {r : Listing} {new : List ℕ} where
  pub repeats-defaults : link ≡ 0 → PushesDefaults k l old at r new → Repeats f known store k link leaf l old at r new
  unfolding Defaults.expand
  repeats-defaults q w = record { says = λ M kn ds y. rw q (w.says M ds (fillable-less y 12288 (omega arith))) }

  pub repeats-entry : {e : ℕ} → link ≡ suc e → RepeatsEntry f known store k e leaf l old at r new → Repeats f known store k link leaf l old at r new
  repeats-entry q w = record { says = λ M kn ds y. rw q (w.says M kn ds (rw q at y)) }

-- ---- `repeat_entry`
module _ {f known store : List ℕ} (k e : ℕ) {leaf : Place} {l : Filling} {at : ℕ} where
  pub entry-many : (old : List ℕ) → l.places < k → RepeatsEntry f known store k e leaf l old at (Err unbuilt.None) old
  unfolding Defaults.expand
  entry-many old h =
      record { says = λ M kn ds y. let n = y.defaults.count in record { kept = refl; lists = rw (n, lt-leb k l.places h) (peek-nothing M) } }

  module _ (h : k ≤ l.places) {old : List ℕ} {left : Filling} (s : Remains l left) {r : Listing} {mid : List ℕ} (w : Expands f known store e leaf left old at r mid) (g : length mid ≡ length old)
      {r' : Listing} {new : List ℕ} (z : PushesCopies r k l mid at r' new) where
    repeated-is : (M : Memo) (ds : Trees) → many ds ≡ l.places
        → peek M (expand f (Init.repeated k (init_at f e)) leaf ds l.made l.size)
        ≡ peek M (expand f (init_at f e) leaf (rest l.made ds) 0 0 >>= λ ts. copied k ts l.places l.made l.size)
    unfolding Defaults.expand
    repeated-is M ds n = rw (n, le-leb k l.places h)

    pub entry-copied : RepeatsEntry f known store k e leaf l old at r' new
    entry-copied =
        record {
          says = λ M kn ds y.
              let a = s.none_made in
              let b = s.no_size in
              let w' = w.says M kn (rest l.made ds)
              (record { defaults = s.says old ds at y.defaults; few = omega arith; small = omega arith; room = omega (arith, y.room) }) in
              let p : peek M (expand f (init_at f e) leaf (rest l.made ds) 0 0) ≡ peek M (expand f (init_at f e) leaf (rest l.made ds) left.made left.size) =
              ap (λ c. peek M (expand f (init_at f e) leaf (rest l.made ds) c 0)) (sym a) ∙ ap (λ c. peek M (expand f (init_at f e) leaf (rest l.made ds) left.made c)) (sym b) in
              record {
                kept = z.kept ∙ w'.kept;
                lists =
                    lists-same M (expand f (init_at f e) leaf (rest l.made ds) 0 0 >>= λ ts. copied k ts l.places l.made l.size)
                    (expand f (Init.repeated k (init_at f e)) leaf ds l.made l.size) l at r' new (repeated-is M ds y.defaults.count)
                    (z.says M (expand f (init_at f e) leaf (rest l.made ds) 0 0) left a b
                    (lists-same M (expand f (init_at f e) leaf (rest l.made ds) left.made left.size) (expand f (init_at f e) leaf (rest l.made ds) 0 0) left at r mid p w'.lists)
                    y.few y.small (omega (arith, y.room)));
              };
        }

-- ---- what stands for the calls
module _ {f : List ℕ} (g : Accepted f) (e : ℕ) (h : e < count f entries) {x : Entry} (is : x ≡ entry_at f e) {s : List ℕ} where
  module _ {l : Filling} {at : ℕ} (y : DefaultsThere s l at (rooms f (entry_depth f e - 1))) where
    pub structure-there : {first many : ℕ} → x ≡ entry.Structure first many → DefaultsThere s l at (rooms f (run_depth f first many))
    structure-there {first} {many} q = record { trees = y.trees; ready = fillable-less y.ready (rooms f (run_depth f first many)) (omega (arith, structure-depth f g e h is q)) }

    pub repeat-there : {many inner : ℕ} → x ≡ entry.Repeat many inner → DefaultsThere s l at (rooms f (on_link inner 0 (entry_depth f)))
    repeat-there {many} {inner} q = record { trees = y.trees; ready = fillable-less y.ready (rooms f (on_link inner 0 (entry_depth f))) (omega (arith, repeat-depth f g e h is q)) }

  module _ {begin upto at : ℕ} (y : ValueThere s begin upto at (rooms f (entry_depth f e - 1))) where
    pub member-there : {first many : ℕ} → x ≡ entry.Structure first many → ValueThere s begin upto at (rooms f (run_depth f first many))
    member-there {first} {many} q = record { tree = y.tree; there = current-less y.there (rooms f (run_depth f first many)) (omega (arith, structure-depth f g e h is q)) }

    pub array-there : {first many : ℕ} → x ≡ entry.Array first many → RoomThere s at (rooms f (run_depth f first many))
    array-there q = record { room = omega (arith, y.there.room, array-depth f g e h is q) }

pub left_there : (f : List ℕ) (e : ℕ) {s : List ℕ} {l left : Filling} {at : ℕ} → Remains l left → DefaultsThere s l at (rooms f (entry_depth f e)) → DefaultsThere s left at (rooms f (entry_depth f e - 1))
left_there f e {s} {l} {left} {at} r y =
    record {
      trees = rest l.made y.trees;
      ready = record { defaults = r.says s y.trees at y.ready.defaults; few = omega (arith, r.none_made); small = omega (arith, r.no_size); room = omega (arith, y.ready.room) };
    }

pub ruleset lower = (rules, opened, link-some, link-none, place-shape, structure-there, repeat-there, member-there, array-there, link-there, left_there, structure-falls, structure-run, repeat-falls, repeat-link, member-falls, array-falls, array-run, run_fits, link-entry, link-falls, run-falls, members-fall, leaf-inside)

pub ruleset entering = (rules, opened, expand-structure, expand-repeat, expand-simple, repeats-defaults, repeats-entry, entry-many, entry-copied)

pub ruleset expanding = (lower, entering)
