-- Depths from a table of those of lower records. Assumes nothing.
use mathlib.Core.Path.{◌≡◌, refl, ap, ◌∙◌}
use mathlib.Core.Bool.{Bool, true, false}
use borrow.Enum.Refused.{opened}
use types.Run.{OneOf, miss}
use denote.Enum.Declared.{tag_of}
use Rattle.definition.specs.contracts.records.Entry as an_entry
use Rattle.definition.specs.contracts.records.Shape as a_shape
use Rattle.definition.specs.declared.records.Entry.{Entry}
use Rattle.definition.specs.declared.records.Entry.TheVariants as entry
use Rattle.definition.specs.declared.records.Shape.{Shape}
use Rattle.definition.specs.declared.records.Shape.TheVariants as shape
use mathlib.Core.List.{List, [], ◌∷◌}
use Prim.Native.Nat.{ℕ, zero, suc, ◌+◌, ◌-◌, ◌≤◌, ◌<◌, max}
use native.Mathlib.Omega.{arith}
use native.Mathlib.Numerals.{add-one}
use lib.Dec.{ltb}
use lib.ListN.{length, replicate, get_or-eq_default}
use denote.Ref.{Bor}
use Rattle.std.specs.List.{fold, range_with_len}
use Rattle.std.specs.Ordering.{nat_cmp, max_by_ordering}
use denote.Param.Members.{Mut}
use Rattle.std.specs.Fn.{Called}
use Rattle.std.specs.Iterator.{PicksByCmp}
use Rattle.std.specs.Iterator.Adapters.{map_source, map_callee, map_steps}
use Rattle.std.specs.declared.ops.Range.{Range}
use Rattle.std.specs.declared.iter.Map.{Map}
use Rattle.std.proofs.iter.Yields.{nat_range_steps}
use Rattle.std.proofs.lemmas.Iterator.{YieldsList-from_map, YieldsList-from_range}
use Rattle.std.proofs.lemmas.Iterator.Consumers.{reduce_from_yields_List}
use Rattle.std.specs.Prelude.{Option, Some, None, unwrap_or}
use Rattle.std.specs.Option.{SomeIff}
use Rattle.std.proofs.lemmas.List.Folds.{max_of_map}
use mir.Syntax.{w32}
use mir.Val.{Fits}
use borrow.Author.Rules.{rules}
use borrow.Author.Tests.{ltb-true, ltb-false}
use Rattle.definition.specs.Base.{on_link}
use Rattle.definition.specs.Layout.{shapes, entries, count, word}
use Rattle.definition.specs.Records.{shape_at, entry_at}
use Rattle.definition.specs.Depth.{deepest, entry_depth_from, shape_depth_from, entry_depth, shape_depth, levels}
use Rattle.laws.specs.Accepted.{Accepted}
use Rattle.laws.specs.Depths.{deepest-more, entry-depth-from, shape-depth-from, entry-depth-most, shape-depth-most, few-entries, few-shapes, levels-most}
use Rattle.records.specs.Tables.{table_of, table-length, table_at}
use Rattle.acceptance.specs.Nesting.{depth_in, field_depth, Shallow, FromLower, GreatestOf}
use Rattle.records.proofs.Links.{none-linked, one-linked}

-- ---- the greatest so far
pub record Greatest (d : ℕ → ℕ) (n most : ℕ) : Type 0 where
  pub is : most ≡ deepest d 0 n

module _ {d : ℕ → ℕ} where
  pub none-met : Greatest d 0 0
  unfolding deepest
  none-met = record { is = refl }

  pub one-met : {n most : ℕ} → Greatest d n most → {v r : ℕ} → v ≡ d n → r ≡ max most v → Greatest d (n + 1) r
  one-met {n} {most} i {v} {r} e h = let z : 0 + n ≡ n = omega arith in record { is = rw (add-one, ← deepest-more d 0 n, z, ← e, ← i.is) h }

-- ---- the greatest of a run, by the library's `max`
max-in-range : (d : ℕ → ℕ) (first k n most : ℕ) → fold (λ a x. max a (d (first + x))) most (range_with_len k n) ≡ max most (deepest d (first + k) n)
unfolding deepest
max-in-range d first k zero most = omega arith
max-in-range d first k (suc n) most =
    let e : first + (k + 1) ≡ suc (first + k) = omega arith in
    max-in-range d first (k + 1) n (max most (d (first + k))) ∙ rw e (omega arith)

module _ {F : Type 0} {g : Mut F (ℕ × Unit {0}) ℕ} (d : ℕ → ℕ) (first n : ℕ) (s : Map (Range ℕ) F) (o : Option ℕ) {f : F} {m : ℕ} where
  pub deepest-in-run : PicksByCmp (map_steps nat_range_steps g) max_by_ordering nat_cmp s o → map_source s ≡ record { start = 0; end = n } → map_callee s ≡ f
      → ((x r : ℕ) (q : F) → Called g f (x, tt) r q → (q ≡ f) × (r ≡ d (first + x))) → m ≡ unwrap_or o 0 → m + 1 ≡ suc (deepest d first n)
  deepest-in-run ran e c k h =
      let z : first + 0 ≡ first = omega arith in
      let y = YieldsList-from_map g (λ j. d (first + j)) (YieldsList-from_range 0 n n e (omega arith)) c k in
      let most : unwrap_or o 0 ≡ fold (λ a x. max a (d (first + x))) 0 (range_with_len 0 n) = rw (reduce_from_yields_List (λ p z. max_by_ordering (nat_cmp p z) p z) s o ran y) (max_of_map (λ j. d (first + j)) (range_with_len 0 n)) in
      rw (h, most, max-in-range d first 0 n 0, z) (omega arith)

pub one_fits : (depths : List ℕ) → Shallow depths → (n : ℕ) → {r : ℕ} → r ≡ depth_in depths n → Fits w32 (r + 1)
one_fits depths s n e = record { fits = omega (arith, s.most n, e) }

-- ---- a linked entry
module _ (below : ℕ → ℕ) (l : ℕ) {o : Option ℕ} (taken : SomeIff o (1 ≤ l) (l - 1)) where
  pub no_inner : o ≡ None → 1 ≡ suc (on_link l 0 below)
  no_inner e = ap suc (none-linked 0 below l taken e)

  pub an-inner : {n : ℕ} → o ≡ Some n → {r : ℕ} → r ≡ suc (below n) → r ≡ suc (on_link l 0 below)
  an-inner e p = p ∙ ap suc (one-linked 0 below l taken e refl)

-- ---- one entry
-- the kinds that lead to no entry
abbrev flat_entries : List ℕ
flat_entries = 0 ∷ 1 ∷ 4 ∷ 5 ∷ 7 ∷ []

flat-entry : (below : ℕ → ℕ) (x : Entry) → OneOf flat_entries (tag_of an_entry.the_type x) → 1 ≡ entry_depth_from below x
unfolding entry_depth_from
flat-entry below (entry.Constant a) h = refl
flat-entry below (entry.Enumerated a b) h = refl
flat-entry below (entry.Array a b) h = absurd (miss flat_entries 2 tt h)
flat-entry below (entry.Structure a b) h = absurd (miss flat_entries 3 tt h)
flat-entry below (entry.Expression a) h = refl
flat-entry below entry.LateBound h = refl
flat-entry below (entry.Repeat a b) h = absurd (miss flat_entries 6 tt h)
flat-entry below entry.Unknown h = refl

module _ {x y : Entry} (k : x ≡ y) (below : ℕ → ℕ) where
  pub entry-array : {a b r : ℕ} → x ≡ entry.Array a b → r ≡ suc (deepest below a b) → r ≡ entry_depth_from below y
  unfolding entry_depth_from
  entry-array q p = rw (← k, q) p

  pub entry-structure : {a b r : ℕ} → x ≡ entry.Structure a b → r ≡ suc (deepest below a b) → r ≡ entry_depth_from below y
  unfolding entry_depth_from
  entry-structure q p = rw (← k, q) p

  pub entry-repeat : {a b r : ℕ} → x ≡ entry.Repeat a b → r ≡ suc (on_link b 0 below) → r ≡ entry_depth_from below y
  unfolding entry_depth_from
  entry-repeat q p = rw (← k, q) p

  pub entry_other : OneOf flat_entries (tag_of an_entry.the_type x) → 1 ≡ entry_depth_from below y
  entry_other q = rw (← k) (flat-entry below x q)

-- ---- one shape
-- the kinds that lead to no shape
abbrev flat_shapes : List ℕ
flat_shapes = 0 ∷ 1 ∷ 2 ∷ 3 ∷ 4 ∷ 5 ∷ 6 ∷ 7 ∷ 8 ∷ 9 ∷ 10 ∷ 13 ∷ 14 ∷ 15 ∷ 16 ∷ 17 ∷ []

flat-shape : (f : List ℕ) (below : ℕ → ℕ) (x : Shape) → OneOf flat_shapes (tag_of a_shape.the_type x) → 1 ≡ shape_depth_from f below x
unfolding shape_depth_from
flat-shape f below shape.Bool h = refl
flat-shape f below (shape.Int a) h = refl
flat-shape f below (shape.UInt a) h = refl
flat-shape f below (shape.Real a) h = refl
flat-shape f below (shape.Bytes a) h = refl
flat-shape f below (shape.Time a) h = refl
flat-shape f below (shape.Date a) h = refl
flat-shape f below (shape.TimeOfDay a) h = refl
flat-shape f below (shape.DateAndTime a) h = refl
flat-shape f below (shape.String a b) h = refl
flat-shape f below (shape.Enumeration a b c d) h = refl
flat-shape f below (shape.Structure a b) h = absurd (miss flat_shapes 11 tt h)
flat-shape f below (shape.Array a b c) h = absurd (miss flat_shapes 12 tt h)
flat-shape f below (shape.Subrange a b c) h = refl
flat-shape f below (shape.FunctionBlock a) h = refl
flat-shape f below (shape.Interface a) h = refl
flat-shape f below (shape.Reference a) h = refl
flat-shape f below shape.Unknown h = refl

module _ (f depths : List ℕ) {x y : Shape} (k : x ≡ y) where
  pub shape-structure : {a b r : ℕ} → x ≡ shape.Structure a b → r ≡ suc (deepest (field_depth f depths) a b) → r ≡ shape_depth_from f (depth_in depths) y
  unfolding shape_depth_from
  shape-structure q p = rw (← k, q) p

  pub shape-array : {a b c r : ℕ} → x ≡ shape.Array a b c → r ≡ suc (depth_in depths a) → r ≡ shape_depth_from f (depth_in depths) y
  unfolding shape_depth_from
  shape-array q p = rw (← k, q) p

  pub shape-other : OneOf flat_shapes (tag_of a_shape.the_type x) → 1 ≡ shape_depth_from f (depth_in depths) y
  shape-other q = rw (← k) (flat-shape f (depth_in depths) x q)

-- ---- a table of the lower depths
module _ (d : ℕ → ℕ) (n : ℕ) (s : List ℕ) (e : s ≡ table_of d n) where
  lower-at : (j : ℕ) → j < n → depth_in s j ≡ d j
  lower-at j l = rw e (table_at d n j 0 l)

  pub shallow-table : ((k : ℕ) → k < n → d k ≤ 8192) → Shallow s
  shallow-table h = rw e (record { most = λ k. go k (ltb k n) refl })
    where
      go : (k : ℕ) (b : Bool) → ltb k n ≡ b → depth_in (table_of d n) k ≤ 8192
      go k true q = let l = ltb-true k n q in rw (table_at d n k 0 l) (h k l)
      go k false q =
          let l : length (table_of d n) ≤ k = omega (arith, ltb-false k n q, table-length d n) in
          rw (get_or-eq_default (table_of d n) 0 l) (omega arith)

module _ {f : List ℕ} (a : Accepted f) {takes : Bor (List ℕ) → ℕ → Type 0} {gives : Bor (List ℕ) → ℕ → ℕ → Type 0} {many : ℕ}
    (may : (s : Bor (List ℕ)) (n : ℕ) → Shallow s.now → takes s n) where
  module _ (q : many ≡ count f entries) (found : (s : Bor (List ℕ)) (n r : ℕ) → gives s n r → r ≡ entry_depth_from (depth_in s.now) (entry_at f n)) where
    entries-from : FromLower takes gives (entry_depth f) many
    entries-from =
        record {
          may = λ s n h e. may s n (shallow-table _ n s.now e (λ k l. let i : k < count f entries = omega arith in omega (arith, entry-depth-most f a k i, few-entries f a)));
          found = λ s n r h e p. found s n r p ∙ entry-depth-from f a (depth_in s.now) n (omega arith) (lower-at _ n s.now e);
        }

    pub entries-found : (d : ℕ → ℕ) × FromLower takes gives d many
    entries-found = (entry_depth f, entries-from)

    pub deepest-entry : {r : ℕ} → GreatestOf takes gives many r → r ≡ deepest (entry_depth f) 0 (count f entries)
    deepest-entry g = rw (← q) (g.is (entry_depth f) entries-from)

  module _ (q : many ≡ count f shapes) (found : (s : Bor (List ℕ)) (n r : ℕ) → gives s n r → r ≡ shape_depth_from f (depth_in s.now) (shape_at f n)) where
    shapes-from : FromLower takes gives (shape_depth f) many
    shapes-from =
        record {
          may = λ s n h e. may s n (shallow-table _ n s.now e (λ k l. let i : k < count f shapes = omega arith in omega (arith, shape-depth-most f a k i, few-shapes f a)));
          found = λ s n r h e p. found s n r p ∙ shape-depth-from f a (depth_in s.now) n (omega arith) (lower-at _ n s.now e);
        }

    pub shapes-found : (d : ℕ → ℕ) × FromLower takes gives d many
    shapes-found = (shape_depth f, shapes-from)

    pub deepest-shape : {r : ℕ} → GreatestOf takes gives many r → r ≡ deepest (shape_depth f) 0 (count f shapes)
    deepest-shape g = rw (← q) (g.is (shape_depth f) shapes-from)

-- ---- both together
module _ (f : List ℕ) {a b : ℕ} (e : a ≡ deepest (entry_depth f) 0 (count f entries)) (h : b ≡ deepest (shape_depth f) 0 (count f shapes)) where
  pub levels-are : a + b + 1 ≡ levels f
  unfolding levels
  levels-are = rw (e, h) (omega arith)

  pub levels-fit : Accepted f → a + b ≤ 9216
  unfolding levels
  levels-fit k = omega (arith, levels-are, levels-most f k)

  pub sum_fits : Accepted f → Fits w32 (a + b)
  sum_fits k = record { fits = omega (arith, levels-fit k) }

  pub levels_fit : Accepted f → Fits w32 (a + b + 1)
  levels_fit k = record { fits = omega (arith, levels-fit k) }

pub still-room : {k : ℕ} {lent words : List ℕ} → words ≡ lent → k ≤ length lent → k ≤ length words
still-room e h = rw e h

pub still-zero : {lent words : List ℕ} → words ≡ lent → lent ≡ replicate (length lent) 0 → words ≡ replicate (length words) 0
still-zero e h = rw e h

pub ruleset nests =
    (rules, opened, one_fits, no_inner, an-inner, entry-array, entry-structure, entry-repeat, entry_other, shape-structure, shape-array, shape-other)

pub ruleset leveling = (rules, entries-found, deepest-entry, shapes-found, deepest-shape, levels-are, sum_fits, levels_fit, still-room, still-zero)
