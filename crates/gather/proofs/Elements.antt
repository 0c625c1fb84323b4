-- The defaults of an array's elements, as `build` forms them. Assumes nothing.
use borrow.Enum.Refused.{opened}
use mathlib.Core.Path.{◌≡◌, refl, ap, sym, ◌∙◌}
use mathlib.Core.List.{List, [], ◌∷◌}
use Prim.Native.Nat.{ℕ, ◌+◌, ◌*◌, ◌^◌, ◌≤◌, ◌<◌}
use native.Mathlib.Omega.{arith}
use lib.ListN.{length, take}
use borrow.Author.Rules.{rules}
use mir.Syntax.{w64}
use mir.Val.{Fits}
use types.Run.{OneOf, miss}
use denote.Enum.Declared.{tag_of}
use Rattle.definition.specs.contracts.records.Shape.{the_type}
use Rattle.definition.specs.declared.records.Shape.{Shape}
use Rattle.definition.specs.declared.records.Shape.TheVariants as shape
use Rattle.definition.specs.declared.records.Place.{Place}
use Rattle.definition.specs.Layout.{count, shapes}
use Rattle.definition.specs.Tree.{Trees, head, parts, many, nodes_in, headed, array_tree}
use Rattle.definition.specs.Ask.{Result, ok, none, large, Ask, nothing, ◌>>=◌}
use Rattle.definition.specs.Accept.{elements_of}
use Rattle.definition.specs.Shapes.{on_array}
use Rattle.definition.specs.Places.{element_place}
use Rattle.definition.specs.Parts.{flat, repeated_defaults, element_defaults}
use Rattle.definition.specs.Starting.{default_of}
use Rattle.definition.specs.Resolve.{Memo}
use Rattle.definition.specs.Peek.{Peek, got, wants, peek}
use Rattle.definition.specs.Depth.{shape_depth}
use Rattle.laws.specs.Depths.{deepest-at, shape-depth-least}
use Rattle.laws.specs.Gathers.{Gathered, good-array}
use Rattle.laws.specs.Steps.{peek-nothing}
use Rattle.places.specs.Inside.{PlaceIn, element-shape}
use Rattle.build.specs.declared.built.Unbuilt.{Unbuilt}
use Rattle.build.specs.declared.built.Unbuilt.TheVariants as unbuilt
use Rattle.build.specs.Built.{Built}
use Rattle.build.specs.Built.{answer_of, Gives, Ready}
use Rattle.build.specs.Built as of-build
use Rattle.build.specs.Parts.{start_levels, array_words, WholeAt}
use Rattle.build.specs.Spread.{FlatAt, Flattens}
use Rattle.build.proofs.Peeks.{EndsAt, gives-ends}
use Rattle.build.proofs.Smalls.{elements-gathered}
use Rattle.build.proofs.Levels.{element-under}
use Rattle.gather.specs.Answers.{Listing, listed, stopped, Lists}
use Rattle.std.specs.Prelude.{Err, Ok}
use Rattle.gather.specs.Room.{RoomThere, shapes_deep, whole}
use Rattle.gather.specs.Elements.{ElementDefaults}
use Rattle.gather.proofs.Arrays.{many-nodes}

-- ---- the values of an array, moved to where its head was
-- where an answer ends, a whole tree stands
pub record EndsWhole (b : Built) (s : List ℕ) (at : ℕ) : Type 0 where
  pub stands : (e : ℕ) → b ≡ Ok e → WholeAt s at e

-- what `build` says of values under a head, for the values alone
pub record TakesHead (b : Built) (old : List ℕ) (at : ℕ) (r : Listing) (new : List ℕ) : Type 0 where
  pub kept : take at new ≡ take at old
  pub says : (M : Memo) (m : Ask (Result Trees)) → ((ts : Trees) → peek M m ≡ got (ok ts) → Gathered 0 ts) → Gives array_words (peek M m) at b old → Lists M m whole at r new

flat-array : (ts : Trees) → flat (array_tree ts) ≡ ts
unfolding flat array_tree headed head parts
flat-array ts = refl

module _ {b : Built} {old : List ℕ} (at : ℕ) where
  module _ {end : ℕ} (q : b ≡ Ok end) (w : EndsWhole b old at) where
    pub head-whole : WholeAt old at end
    head-whole = w.stands end q

    module _ {n m : ℕ} {new : List ℕ} (x : Flattens at end old n m new) where
      there : FlatAt new at n m head-whole.tree
      there = x.gives head-whole.tree head-whole.good head-whole.stands

      pub head-times : length new ≡ length old → length old * 4 < 2 ^ 63 → Fits w64 (m * 6)
      head-times g l = record { fits = omega (arith, there.stands.fits) }

      pub head-fits : length new ≡ length old → length old * 4 < 2 ^ 63 → Fits w64 (at + m * 6)
      head-fits g l = record { fits = omega (arith, there.stands.fits) }

      pub head-ends : TakesHead b old at (listed (at + m * 6) n m) new
      head-ends = record { kept = x.kept; says = λ M k g y. go M k g (gives-ends (peek M k) y q) }
        where
          go : (M : Memo) (k : Ask (Result Trees)) → ((ts : Trees) → peek M k ≡ got (ok ts) → Gathered 0 ts) → EndsAt array_words (peek M k) at end old → Lists M k whole at (listed (at + m * 6) n m) new
          go M k g y =
              let ts = y.value in
              let h = g y.value y.is in
              let v = x.gives (array_tree y.value) (good-array y.value h.whole) y.stands in
              let f = ap many (flat-array y.value) in
              let d = ap nodes_in (flat-array y.value) in
              record {
                trees = y.value;
                is = y.is;
                ends = omega (arith, v.sizes, d);
                counts = omega (arith, v.counts, f);
                sizes = omega (arith, v.sizes, d);
                stands = rw (flat-array y.value) at v.stands;
                small = h;
                few = omega (arith, v.counts, f, many-nodes y.value, h.room);
              }

  pub head-fails : {u : Unbuilt} → b ≡ Err u → {r : Listing} → r ≡ Err u → TakesHead b old at r old
  head-fails {u} q {r} e = record { kept = refl; says = λ M k g y. rw e (go u (peek M k) (sym q ∙ y.says)) }
    where
      go : (u : Unbuilt) (p : Peek (Result Trees)) → Err u ≡ answer_of array_words at p → p ≡ stopped u
      go u (got (ok a)) s = let z : ◌≡◌ {A = ℕ} 0 1 = cc in absurd (omega arith)
      go u (got none) s = let z : u ≡ unbuilt.None = cc in rw z
      go u (got large) s = let z : u ≡ unbuilt.TooLarge = cc in rw z
      go u (wants d) s = let z : u ≡ unbuilt.Wanted d = cc in rw z

-- ---- `element_defaults`
-- every shape but arrays
abbrev pub plain : List ℕ
plain = 0 ∷ 1 ∷ 2 ∷ 3 ∷ 4 ∷ 5 ∷ 6 ∷ 7 ∷ 8 ∷ 9 ∷ 10 ∷ 11 ∷ 13 ∷ 14 ∷ 15 ∷ 16 ∷ 17 ∷ []

module _ (f : List ℕ) (place : Place) where
  abbrev shaped : Shape → Ask (Result Trees)
  shaped s = on_array s nothing (λ s first count. default_of f (element_place f place s) >>= λ t. repeated_defaults (elements_of f first count) (flat t))

  no-array : (s : Shape) → OneOf plain (tag_of the_type s) → shaped s ≡ nothing
  no-array shape.Bool h = refl
  no-array (shape.Int bits) h = refl
  no-array (shape.UInt bits) h = refl
  no-array (shape.Real bits) h = refl
  no-array (shape.Bytes bits) h = refl
  no-array (shape.Time bits) h = refl
  no-array (shape.Date bits) h = refl
  no-array (shape.TimeOfDay bits) h = refl
  no-array (shape.DateAndTime bits) h = refl
  no-array (shape.String long width) h = refl
  no-array (shape.Enumeration first many default underlying) h = refl
  no-array (shape.Structure first many) h = refl
  no-array (shape.Array element first many) h = absurd (miss plain 12 tt h)
  no-array (shape.Subrange base low high) h = refl
  no-array (shape.FunctionBlock name) h = refl
  no-array (shape.Interface name) h = refl
  no-array (shape.Reference target) h = refl
  no-array shape.Unknown h = refl

module _ {f known store : List ℕ} (place : Place) {old : List ℕ} (at : ℕ) where
  pub elements-none : OneOf plain (tag_of the_type place.shape) → ElementDefaults f known store place old at (Err unbuilt.None) old
  unfolding element_defaults
  elements-none h = record { says = λ M k room. record { kept = refl; lists = ap (peek M) (no-array f place place.shape h) ∙ peek-nothing M } }

module _ {f classes known store : List ℕ} (g : Ready f classes known store) (place : Place) (i : PlaceIn f place) (at : ℕ) where
  module _ {s first many : ℕ} (e : place.shape ≡ shape.Array s first many) {old : List ℕ} (z : RoomThere old at (12282 + 24576 * shapes_deep f)) where
    pub elements-room : at + 6 + start_levels f (element_place f place s) * 12288 ≤ length old
    unfolding shapes_deep
    elements-room =
        let h = element-shape i e in
        omega (arith, z.room, element-under f g.accepted place s first many i e, shape-depth-least f g.accepted s h, deepest-at (shape_depth f) 0 (count f shapes) s (omega arith) (omega arith))

    pub elements-tree : at + 12288 ≤ length old
    unfolding shapes_deep
    elements-tree =
        let h = element-shape i e in
        omega (arith, z.room, shape-depth-least f g.accepted s h, deepest-at (shape_depth f) 0 (count f shapes) s (omega arith) (omega arith))

  module _ {old : List ℕ} {r : Built} {mid : List ℕ} (x : of-build.Builds f known store array_words (element_defaults f (default_of f) place) at old r mid) where
    pub elements-whole : EndsWhole r mid at
    elements-whole =
        record {
          stands = λ e q.
              let v = gives-ends (peek g.memo (element_defaults f (default_of f) place)) (x.gives g.memo g.memory) q in
              record { tree = array_tree v.value; good = good-array v.value (elements-gathered g.accepted g.memory i v.value v.is).whole; stands = v.stands };
        }

    pub elements-listed : {r' : Listing} {new : List ℕ} → TakesHead r mid at r' new → ElementDefaults f known store place old at r' new
    elements-listed w =
        record {
          says = λ M k room.
              record {
                kept = w.kept ∙ x.kept;
                lists = w.says M (element_defaults f (default_of f) place) (elements-gathered g.accepted k i) (x.gives M k);
              };
        }

pub ruleset laws = (
  rules,
  opened,
  head-whole,
  head-times,
  head-fits,
  head-ends,
  head-fails,
  elements-none,
  elements-room,
  elements-tree,
  elements-whole,
  elements-listed,
)
