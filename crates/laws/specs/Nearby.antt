-- Places and the types that they lead to: from a place of a type, every place inside has types that are uses. Assumes nothing.
use Rattle.std.specs.Prelude.{◌≡◌, true, ◌||◌, List}
use Rattle.std.proofs.Math.Path.{ap}
use Rattle.std.proofs.Common.{◌∙◌, eqb-true}
use Prim.Native.Nat.{ℕ, zero, suc}
use Rattle.std.proofs.Math.Dec.{eqb}
use Rattle.definition.specs.declared.records.Shape.{Shape}
use Rattle.definition.specs.declared.records.Declaration.TheVariants as decl
use Rattle.definition.specs.Base.{pick, on_link, or_else, inline}
use Rattle.definition.specs.Layout.{word, count, shapes, shape_fields, types, block_fields, elements, variables, initializers}
use Rattle.definition.specs.Records.{shape_at, type_shape, alias_base, element_type, declaration_kind, declaration_of, declaration_at, named_type, initializer_kind, initializer_of, initializer_at}
use Rattle.definition.specs.Accept.{same_shape}
use Rattle.definition.specs.Ask.{none}
use Rattle.definition.specs.declared.records.Place.{Place}
use Rattle.definition.specs.Places.{bare, place_of, typed_place, element_place, innermost, leaf_place, has_block, recorded_up_to, recorded_block, first_named, block_field_type, simple_target, alias_target, field_declaration_up_to, declared_types, field_declaration, declared_type, declared_element, structure_field_place, field_place, string_place, variable_place}
use Rattle.definition.specs.Uses.{linked, initializer_uses, element_uses, block_field_uses, declaration_uses, block_uses}
use Rattle.laws.specs.Asks.{OnOk}
use Rattle.laws.specs.Cases.{either, on-pick, on-link, on_shape_lem}
use Rattle.laws.specs.Every.{Each}
use Rattle.laws.specs.Links.{Link, each-apart, each-linked, link-to, link-or, declared-type, declared-element, uses-apart, Naming, Leads}

-- the type of a place is an M, its element type a P
pub record Placed (M P : ℕ → Type 0) (place : Place) : Type 0 where
  pub type : Link M place.id
  pub element : Link P place.element

-- a place that may be looked into, and one whose type may be asked for too
abbrev pub Near : (N P : ℕ → Type 0) → Place → Type 0
Near N P = Placed N P

abbrev pub Below : (P : ℕ → Type 0) → Place → Type 0
Below P = Placed P P

pub placed-bare : (M P : ℕ → Type 0) (s : Shape) → Placed M P (bare s)
unfolding bare
placed-bare M P s = record { type = tt; element = tt }

-- ---- a declaration and an initializer of a known kind
pub simple-at : (f : List ℕ) (t : ℕ) → eqb (declaration_kind f t) 1 ≡ true → declaration_at f t ≡ decl.Simple (word f types t 6)
unfolding declaration_at declaration_of
simple-at f t e = rw (eqb-true (declaration_kind f t) 1 e)

pub structure-at : (f : List ℕ) (t : ℕ) → eqb (declaration_kind f t) 5 ≡ true → declaration_at f t ≡ decl.Structure (word f types t 7) (word f types t 8)
unfolding declaration_at declaration_of
structure-at f t e = rw (eqb-true (declaration_kind f t) 5 e)

simple-naming : (f : List ℕ) (i : ℕ) → eqb (initializer_kind f i) 7 || eqb (initializer_kind f i) 8 ≡ true → Naming (initializer_at f i)
unfolding initializer_at initializer_of
simple-naming f i e =
    either (eqb (initializer_kind f i) 7) (eqb (initializer_kind f i) 8) e
    (λ q. rw (eqb-true (initializer_kind f i) 7 q) tt) (λ q. rw (eqb-true (initializer_kind f i) 8 q) tt)

-- ---- the record of a run that has a name
module _ (f : List ℕ) (P : ℕ → Type 0) (name : ℕ) where
  field-named : (first n : ℕ) → Each P (block_field_uses f first n) → Link (λ k. Link P (word f block_fields k 1)) (first_named f block_fields name first n)
  unfolding first_named block_field_uses
  field-named first zero e = tt
  field-named first (suc n) e =
      let r = each-apart P (linked (word f block_fields first 1)) (block_field_uses f (suc first) n) e in
      on-pick (Link (λ k. Link P (word f block_fields k 1))) (eqb (word f block_fields first 0) name) (suc first) (first_named f block_fields name (suc first) n)
      (λ q. each-linked P (word f block_fields first 1) r.0) (λ q. field-named (suc first) n r.1)

  element-named : (first n : ℕ) → Each P (element_uses f first n)
      → Link (λ e. Each P (initializer_uses f (word f elements e 1))) (first_named f elements name first n)
  unfolding first_named element_uses
  element-named first zero e = tt
  element-named first (suc n) e =
      let r = each-apart P (initializer_uses f (word f elements first 1)) (element_uses f (suc first) n) e in
      on-pick (Link (λ e. Each P (initializer_uses f (word f elements e 1)))) (eqb (word f elements first 0) name) (suc first)
      (first_named f elements name (suc first) n) (λ q. r.0) (λ q. element-named (suc first) n r.1)

module _ (f : List ℕ) (N P : ℕ → Type 0) (leads : Leads f N P) where
  -- ---- links of a type
  pub alias-link : (t : ℕ) → N t → Link P (alias_base f t)
  alias-link t n = (uses-apart P f t (leads.steps t n)).0

  pub element-link : (t : ℕ) → N t → Link P (element_type f t)
  element-link t n = (uses-apart P f t (leads.steps t n)).1

  pub declared-uses : (t : ℕ) → N t → Each P (declaration_uses f t (declaration_at f t))
  declared-uses t n = (uses-apart P f t (leads.steps t n)).2

  block-uses : (t : ℕ) → N t → Each P (block_uses f t)
  block-uses t n = (uses-apart P f t (leads.steps t n)).3

  near-link : (l : ℕ) → Link P l → Link N l
  near-link zero h = tt
  near-link (suc t) h = leads.near t h

  pub below-near : (place : Place) → Below P place → Near N P place
  below-near place b = record { type = near-link place.id b.type; element = b.element }

  pub near_of : (t : ℕ) → N t → Near N P (place_of f t)
  unfolding place_of
  near_of t n = record { type = n; element = element-link t n }

  pub below_of : (t : ℕ) → P t → Below P (place_of f t)
  unfolding place_of
  below_of t p = record { type = p; element = element-link t (leads.near t p) }

  -- the element type of the type that a link leads to
  element-of : (l : ℕ) → Link N l → Link P (on_link l 0 (element_type f))
  element-of l h = on-link (Link P) l 0 (element_type f) tt (λ t e. element-link t (link-to N l t e h))

  -- ---- elements
  pub below-typed : (s type element : ℕ) → Link P type → Link P element → Below P (typed_place f s type element)
  unfolding typed_place
  below-typed s type element ht he =
      let own : ℕ = on_link type 0 (λ t. pick (same_shape f (type_shape f t) s) type 0) in
      let ho : Link P own = on-link (Link P) type 0 (λ t. pick (same_shape f (type_shape f t) s) type 0) tt
      (λ t e. on-pick (Link P) (same_shape f (type_shape f t) s) type 0 (λ q. ht) (λ q. tt)) in
      record { type = ho; element = link-or P element (on_link own 0 (element_type f)) he (element-of own (near-link own ho)) }

  pub below-element : (place : Place) (s : ℕ) → Near N P place → Below P (element_place f place s)
  unfolding element_place
  below-element place s h =
      below-typed s (or_else place.element (on_link place.id 0 (element_type f))) 0
      (link-or P place.element (on_link place.id 0 (element_type f)) h.element (element-of place.id h.type)) tt

  near-innermost : (k : ℕ) (place : Place) → Near N P place → Near N P (innermost f k place)
  unfolding innermost
  near-innermost zero place h = h
  near-innermost (suc k) place h =
      on_shape_lem (Near N P) place.shape _ _ _ _ _ _ _ (λ a b. h) (λ a b. h) (λ a b. h)
      (λ s first count. near-innermost k (element_place f place s) (below-near (element_place f place s) (below-element place s h))) h h h

  pub near-leaf : (place : Place) → Near N P place → Near N P (leaf_place f place)
  unfolding leaf_place
  near-leaf place h = near-innermost (count f shapes) place h

  -- ---- fields of a block
  near-recorded : (k t : ℕ) → N t → Link N (recorded_up_to f k t)
  unfolding recorded_up_to
  near-recorded zero t n = tt
  near-recorded (suc k) t n =
      on-pick (Link N) (has_block f t) (suc t) (on_link (alias_base f t) 0 (recorded_up_to f k)) (λ q. n)
      (λ q. on-link (Link N) (alias_base f t) 0 (recorded_up_to f k) tt
      (λ d e. near-recorded k d (leads.near d (link-to P (alias_base f t) d e (alias-link t n)))))

  pub near-block : (t : ℕ) → N t → Link N (recorded_block f t)
  unfolding recorded_block
  near-block t n = near-recorded (count f types) t n

  pub block-field : (t name : ℕ) → N t → Link P (block_field_type f t name)
  unfolding block_field_type block_uses
  block-field t name n =
      on-link (Link P) (recorded_block f t) 0 _ tt
      (λ b e. let h : Each P (block_uses f b) = block-uses b (link-to N (recorded_block f t) b e (near-block t n)) in
      on-link (Link P) (first_named f block_fields name (word f types b 9) (word f types b 10)) 0 _ tt
      (λ k q. link-to (λ k. Link P (word f block_fields k 1)) _ k q (field-named f P name (word f types b 9) (word f types b 10) h)))

  -- ---- fields of a structure
  simple-target : (t i : ℕ) → N t → declaration_at f t ≡ decl.Simple (suc i) → Link P (simple_target f i)
  unfolding simple_target
  simple-target t i n e =
      on-pick (Link P) (eqb (initializer_kind f i) 7 || eqb (initializer_kind f i) 8) (named_type f i) 0
      (λ q. leads.names t i n e (simple-naming f i q)) (λ q. tt)

  pub alias-target : (t : ℕ) → N t → Link P (alias_target f t)
  unfolding alias_target
  alias-target t n =
      link-or P (alias_base f t) _ (alias-link t n)
      (on-pick (Link P) (eqb (declaration_kind f t) 1) (on_link (word f types t 6) 0 (simple_target f)) 0
      (λ q. on-link (Link P) (word f types t 6) 0 (simple_target f) tt (λ i e. simple-target t i n (simple-at f t q ∙ ap decl.Simple e))) (λ q. tt))

  structure-uses : (t : ℕ) → N t → eqb (declaration_kind f t) 5 ≡ true → Each P (element_uses f (word f types t 7) (word f types t 8))
  unfolding declaration_uses
  structure-uses t n e = rw (structure-at f t e) at (declared-uses t n)

  declared-up_to : (name k t : ℕ) → N t → Link (λ i. Each P (initializer_uses f i)) (field_declaration_up_to f name k t)
  unfolding field_declaration_up_to
  declared-up_to name zero t n = tt
  declared-up_to name (suc k) t n =
      on-pick (Link (λ i. Each P (initializer_uses f i))) (eqb (declaration_kind f t) 5) _ _
      (λ q. on-link (Link (λ i. Each P (initializer_uses f i))) (first_named f elements name (word f types t 7) (word f types t 8)) 0 _ tt
      (λ e r. link-to (λ e. Each P (initializer_uses f (word f elements e 1))) _ e r
      (element-named f P name (word f types t 7) (word f types t 8) (structure-uses t n q))))
      (λ q. on-link (Link (λ i. Each P (initializer_uses f i))) (alias_target f t) 0 (field_declaration_up_to f name k) tt
      (λ d r. declared-up_to name k d (leads.near d (link-to P (alias_target f t) d r (alias-target t n)))))

  pub declared-field : (name t : ℕ) → N t → Link (λ i. Each P (initializer_uses f i)) (field_declaration f name t)
  unfolding field_declaration
  declared-field name t n = declared-up_to name (suc (declared_types f (count f types))) t n

  pub below-structure : (place : Place) (name s : ℕ) → Near N P place → Below P (structure_field_place f place name s)
  unfolding structure_field_place
  below-structure place name s h =
      on-link (Below P) (on_link place.id 0 (field_declaration f name)) _ _ (placed-bare P P (shape_at f s))
      (λ i e. let u : Each P (initializer_uses f i) = link-to (λ i. Each P (initializer_uses f i)) _ i e
      (on-link (Link (λ i. Each P (initializer_uses f i))) place.id 0 (field_declaration f name) tt
      (λ t q. declared-field name t (link-to N place.id t q h.type))) in
      below-typed s (declared_type f i) (declared_element f i) (declared-type P f i u) (declared-element P f i u))

  -- a field of a place that may be looked into may be asked for
  pub below_field : (place : Place) (name : ℕ) → Near N P place → OnOk (Below P) (field_place f place name)
  unfolding field_place
  below_field place name h =
      on_shape_lem (OnOk (Below P)) place.shape _ _ _ _ _ _ _ (λ a b. tt) (λ a b. tt)
      (λ first many. on-link (OnOk (Below P)) (first_named f shape_fields name first many) none _ tt
      (λ k e. below-structure place name (word f shape_fields k 1) h))
      (λ s a b. tt)
      (on-link (OnOk (Below P)) place.id none _ tt
      (λ t e. on-link (OnOk (Below P)) (block_field_type f t name) none _ tt
      (λ d q. below_of d (link-to P _ d q (block-field t name (link-to N place.id t e h.type))))))
      tt tt

  -- a variable's place is a string's own or that of its type
  pub below-variable : (v i : ℕ) → Link P (word f variables v 2) → OnOk (Below P) (variable_place f v i)
  unfolding variable_place string_place
  below-variable v i h =
      on-pick (OnOk (Below P)) (eqb (initializer_kind f i) 4) (string_place f i) _
      (λ e. on-pick (OnOk (Below P)) (eqb (word f initializers i 6) inline) none _ (λ q. tt) (λ q. placed-bare P P _))
      (λ e. on-link (OnOk (Below P)) (word f variables v 2) none _ tt (λ t q. below_of t (link-to P _ t q h)))
