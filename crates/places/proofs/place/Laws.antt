-- A law for each return of place.rt, and what its calls require. Assumes nothing.
use mathlib.Core.Path.{◌≡◌, refl, ap, sym, ◌∙◌}
use mathlib.Core.Bool.{Bool, true, false}
use mathlib.Core.List.{List}
use Prim.Native.Nat.{ℕ, suc, ◌+◌, ◌-◌, ◌^◌, ◌<◌, ◌≤◌}
use native.Mathlib.Omega.{arith}
use native.Mathlib.Numerals.{add-one}
use borrow.Author.Rules.{rules}
use Rattle.std.specs.Prelude.{Option, Some, None}
use Rattle.std.specs.Option.{option_or}
use Rattle.std.specs.Bool.{then_some}
use Rattle.definition.specs.declared.records.Shape.{Shape}
use Rattle.definition.specs.declared.records.Shape.TheVariants as shape
use Rattle.definition.specs.declared.records.Place.{Place}
use Rattle.definition.specs.Base.{pick, on_link, or_else}
use Rattle.definition.specs.Layout.{word, count, shapes, types}
use Rattle.definition.specs.Records.{shape_at, type_shape, element_type}
use Rattle.definition.specs.Accept.{same_shape}
use Rattle.definition.specs.Shapes.{on_array}
use Rattle.definition.specs.Places.{bare, place_of, typed_place, element_place, innermost, leaf_place}
use Rattle.laws.specs.Cases.{on-link}
use Rattle.laws.specs.Links.{Link, link-to, link-or}
use Rattle.laws.specs.Accepted.{Accepted, few-types}
use Rattle.laws.specs.Nearby.{element-link}
use Rattle.laws.specs.Used.{IsType, leads-inside}
use Rattle.places.specs.Found.{own_link}
use Rattle.places.specs.Links.{link_of, link-of-or}
use Rattle.places.specs.Inside.{PlaceIn, type-shape, element-shape, element-in}
use Rattle.places.proofs.Others.{NoArray, no-array}
use Rattle.places.proofs.Steps.{Comes, starts_at, goes_further, stops_at, ends_at}

-- ---- `bare`, `place_of`
pub bare-made : (s : Shape) → record { shape = s; id = 0; element = 0 } ≡ bare s
unfolding bare
bare-made s = refl

pub place-made : (f : List ℕ) (t : ℕ) {n e : ℕ} {s : Shape} → n ≡ word f types t 0 → s ≡ shape_at f n → e ≡ word f types t 2
    → record { shape = s; id = t + 1; element = e } ≡ place_of f t
unfolding place_of type_shape element_type
place-made f t p q r = rw (q, p, r, add-one)

-- ---- `own_type`
module _ (f : List ℕ) (s : ℕ) (named : Option ℕ) where
  pub no-own : named ≡ None → 0 ≡ own_link f s (link_of named)
  unfolding own_link
  no-own e = rw e

  module _ {t : ℕ} (n : named ≡ Some t) where
    pub own-type : Link (IsType f) (link_of named) → IsType f t
    own-type l = rw n at l

    module _ {w : ℕ} (is : w ≡ word f types t 0) where
      pub own-inside : Accepted f → Link (IsType f) (link_of named) → w < count f shapes
      unfolding type_shape
      own-inside a l = rw is (type-shape f a t (own-type l))

      pub own-kept : {b : Bool} → b ≡ same_shape f w s → {r : Option ℕ} → r ≡ then_some b t → link_of r ≡ own_link f s (link_of named)
      unfolding own_link type_shape
      own-kept {b} e h = rw (n, ← is, ← e, h) (go b)
        where
          go : (b : Bool) → link_of (then_some b t) ≡ pick b (suc t) 0
          go true = refl
          go false = refl

pub kept-near : {f : List ℕ} → Accepted f → {t : ℕ} → IsType f t → (b : Bool) (r : Option ℕ) → r ≡ then_some b t → link_of r < 2 ^ 32
kept-near {f} a {t} h b r e = rw e (go b)
  where
    go : (b : Bool) → link_of (then_some b t) < 2 ^ 32
    go true = omega (arith, few-types f a)
    go false = omega arith

-- ---- `element_of`
module _ (f : List ℕ) (of : Option ℕ) where
  pub no-element : of ≡ None → 0 ≡ on_link (link_of of) 0 (element_type f)
  no-element e = rw e

  pub element-is : {t : ℕ} → of ≡ Some t → (r : Option ℕ) → link_of r ≡ word f types t 2 → link_of r ≡ on_link (link_of of) 0 (element_type f)
  unfolding element_type
  element-is n r h = rw n h

-- ---- `typed_place`, `element_place`
pub or-near : (a b r : Option ℕ) → r ≡ option_or a b → link_of a < 2 ^ 32 → link_of b < 2 ^ 32 → link_of r < 2 ^ 32
or-near None b r e p q = rw e q
or-near (Some n) b r e p q = rw e p

pub typed-made : (f : List ℕ) (s : ℕ) (named element own other both : Option ℕ) {id e : ℕ} {sh : Shape}
    → link_of own ≡ own_link f s (link_of named) → link_of other ≡ on_link (link_of own) 0 (element_type f) → sh ≡ shape_at f s
    → both ≡ option_or element other → id ≡ link_of own → e ≡ link_of both
    → record { shape = sh; id = id; element = e } ≡ typed_place f s (link_of named) (link_of element)
unfolding typed_place own_link
typed-made f s named element own other both p q r o i h = rw (h, o, link-of-or element other, q, i, p, r)

module _ (f : List ℕ) (place : Place) (type element other named : Option ℕ) (t : link_of type ≡ place.id) (e : link_of element ≡ place.element)
    (p : link_of other ≡ on_link (link_of type) 0 (element_type f)) (q : named ≡ option_or element other) where
  element-named : link_of named ≡ or_else place.element (on_link place.id 0 (element_type f))
  element-named = ap link_of q ∙ link-of-or element other ∙ rw (e, p, t)

  pub element-made : (s : ℕ) {r : Place} → r ≡ typed_place f s (link_of named) 0 → r ≡ element_place f place s
  unfolding element_place
  element-made s h = rw (← element-named) h

  pub element-linked : Accepted f → PlaceIn f place → Link (IsType f) (link_of named)
  element-linked a i =
      rw element-named
      (link-or (IsType f) place.element (on_link place.id 0 (element_type f)) i.types.element
      (on-link (Link (IsType f)) place.id 0 (element_type f) tt
      (λ t e. element-link f (IsType f) (IsType f) (leads-inside f a) t (link-to (IsType f) place.id t e i.types.type))))

-- ---- `leaf_place`
module _ (f : List ℕ) (place : Place) where
  -- x is n arrays deep in the place
  abbrev pub Left : ℕ → ℕ → Place → Type 0
  Left many n x = Comes (innermost f) (many - n) x (leaf_place f place)

  pub leaf-starts : {many : ℕ} → many ≡ count f shapes → Left many 0 place
  unfolding leaf_place
  leaf-starts {many} e = starts_at (innermost f) many place (rw e)

  module _ {many n : ℕ} {x : Place} (i : Left many n x) where
    pub leaf-ends : many ≤ n → x ≡ leaf_place f place
    unfolding innermost
    leaf-ends l = ends_at i l refl

    module _ (l : n < many) where
      pub leaf-here : NoArray x.shape → x ≡ leaf_place f place
      unfolding innermost
      leaf-here h = stops_at i l (λ k. no-array x x.shape _ h)

      pub leaf-next : {s first count : ℕ} → x.shape ≡ shape.Array s first count → {r : Place} → r ≡ element_place f x s → Left many (n + 1) r
      unfolding innermost
      leaf-next e h = goes_further i l (λ k. ap (λ s. on_array s x (λ s first count. innermost f k (element_place f x s))) e ∙ ap (innermost f k) (sym h))

pub leaf-made : {f : List ℕ} {place : Place} → Accepted f → PlaceIn f place → {s first many : ℕ} → place.shape ≡ shape.Array s first many → {r : Place} → r ≡ element_place f place s → PlaceIn f r
leaf-made {f} {place} a i {s} e h = rw h (element-in f a place s i (element-shape i e))

pub ruleset laws = (rules, bare-made, place-made, no-own, own-type, own-inside, own-kept, kept-near, no-element, element-is, or-near, typed-made, element-made, element-linked)

pub ruleset walking = (rules, element-shape, leaf-starts, leaf-ends, leaf-here, leaf-next, leaf-made)
