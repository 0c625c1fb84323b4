-- A law for each return of declared.rt, and what its calls require. Assumes nothing.
use mathlib.Core.Path.{◌≡◌, refl, ap, subst, sym, ◌∙◌}
use mathlib.Core.Bool.{true, false, ◌&&◌, ◌||◌, Bool, or-true}
use mathlib.Core.List.{List}
use Prim.Native.Nat.{ℕ, zero, suc, ◌+◌, ◌-◌, ◌^◌, ◌<◌, ◌≤◌}
use native.Mathlib.Omega.{arith}
use native.Mathlib.Numerals.{add-one}
use lib.Dec.{eqb, leb, lit<}
use borrow.Author.Rules.{rules}
use borrow.Author.Tests.{eq-eqb, ne_eqb, eqb-true, eqb-false, leb-true}
use Rattle.std.specs.Prelude.{Option, Some}
use Rattle.definition.specs.Base.{pick, on_link, inline}
use Rattle.definition.specs.Layout.{word, count, types, elements, initializers, most_records, limits_of_records}
use Rattle.definition.specs.Records.{alias_base, declaration_kind, initializer_kind, named_type}
use Rattle.definition.specs.Places.{first_named, simple_target, alias_target, field_declaration_up_to, declared_types, field_declaration, declared_type, declared_element}
use Rattle.laws.specs.Links.{link-to}
use Rattle.laws.specs.Accepted.{Accepted, count_most, few-types, element-points}
use Rattle.laws.specs.Pointed.{DeclarationPointed, declaration-pointed, named-of}
use Rattle.laws.specs.Nearby.{structure-at, alias-target}
use Rattle.laws.specs.Cases.{on-pick}
use Rattle.laws.specs.Used.{IsType, leads-inside}
use Rattle.places.specs.Found.{declared_target, found_up_to, declared_structure, element_declaration}
use Rattle.places.specs.Links.{link_of}
use Rattle.places.proofs.Chains.{found-passes, chain-ends, chain-here, chain-stops, chain-next}
use Rattle.places.proofs.Steps.{Comes, starts_at}

-- ---- `simple_target`
module _ (f : List ℕ) (i : ℕ) {kind : ℕ} (is : kind ≡ word f initializers i 0) where
  pub named-target : 7 ≤ kind → kind < 9 → (r : Option ℕ) → link_of r ≡ word f initializers i 1 → link_of r ≡ simple_target f i
  unfolding simple_target initializer_kind named_type
  named-target l h r e = rw (← is, go (eqb kind 7) refl) e
    where
      go : (b : Bool) → eqb kind 7 ≡ b → eqb kind 7 || eqb kind 8 ≡ true
      go true q = rw q
      go false q = rw (eq-eqb kind 8 (let n = eqb-false kind 7 q in omega (arith, n))) (or-true (eqb kind 7))

  pub no-target : (7 ≤ kind → 8 < kind) → 0 ≡ simple_target f i
  unfolding simple_target initializer_kind
  no-target h = rw (← is, ne_eqb kind 7 (λ e. omega (arith, h (omega arith))), ne_eqb kind 8 (λ e. omega (arith, h (omega arith))))

-- ---- `declared_target`, `alias_target`
module _ (f : List ℕ) (t : ℕ) {kind : ℕ} (is : kind ≡ word f types t 4) where
  pub not-simple : (kind ≡ 1 → ⊥) → 0 ≡ declared_target f t
  unfolding declared_target declaration_kind
  not-simple n = rw (← is, ne_eqb kind 1 n)

  module _ (s : kind ≡ 1) where
    pub no_start : 0 ≡ word f types t 6 → 0 ≡ declared_target f t
    unfolding declared_target declaration_kind
    no_start z = rw (← is, eq-eqb kind 1 s, ← z)

    pub simple-start : {n : ℕ} → suc n ≡ word f types t 6 → (r : Option ℕ) → link_of r ≡ simple_target f n → link_of r ≡ declared_target f t
    unfolding declared_target declaration_kind
    simple-start z r h = rw (← is, eq-eqb kind 1 s, ← z) h

module _ (f : List ℕ) (t : ℕ) where
  pub alias-base : (o : Option ℕ) → link_of o ≡ word f types t 1 → {base : ℕ} → o ≡ Some base → suc base ≡ alias_target f t
  unfolding alias_target alias_base
  alias-base o e {base} q = let h : suc base ≡ word f types t 1 = rw q at e in rw (← h)

  pub baseless : 0 ≡ word f types t 1 → (r : Option ℕ) → link_of r ≡ declared_target f t → link_of r ≡ alias_target f t
  unfolding alias_target alias_base declared_target
  baseless e r h = rw (← e) h

-- ---- `declared_type`, `declared_element`
module _ (f : List ℕ) (i : ℕ) {w : ℕ} (is : w ≡ word f initializers i 1) where
  pub inline-type : w ≡ inline → 0 ≡ declared_type f i
  unfolding declared_type named_type
  inline-type e = rw (← is, eq-eqb w inline e)

  pub named-type : (w ≡ inline → ⊥) → (r : Option ℕ) → link_of r ≡ w → link_of r ≡ declared_type f i
  unfolding declared_type named_type
  named-type n r e = rw (← is, ne_eqb w inline n) e

  pub inline-element : w ≡ inline → (r : Option ℕ) → link_of r ≡ word f initializers i 2 → link_of r ≡ declared_element f i
  unfolding declared_element named_type
  inline-element q r h = rw (← is, eq-eqb w inline q) h

  pub named-element : (w ≡ inline → ⊥) → 0 ≡ declared_element f i
  unfolding declared_element named_type
  named-element n = rw (← is, ne_eqb w inline n)

-- ---- `element_declaration`
module _ (f : List ℕ) (t : ℕ) {first many : ℕ} (p : first ≡ word f types t 7) (q : many ≡ word f types t 8) where
  elements-inside : Accepted f → IsType f t → declaration_kind f t ≡ 5 → first + many ≤ count f elements
  elements-inside a h e =
      rw (p, q) (subst (DeclarationPointed f) (structure-at f t (eq-eqb (declaration_kind f t) 5 e)) (declaration-pointed f a t h))

  pub elements-fit : Accepted f → IsType f t → declaration_kind f t ≡ 5 → first + many < 2 ^ 32
  unfolding most_records limits_of_records
  elements-fit a h e = omega (arith, elements-inside a h e, count_most f a elements (lit< tt))

  module _ (name : ℕ) where
    pub no-element : 0 ≡ first_named f elements name first many → 0 ≡ element_declaration f name t
    unfolding element_declaration
    no-element z = rw (← p, ← q, ← z)

    pub an-element : {n w : ℕ} → suc n ≡ first_named f elements name first many → w ≡ word f elements n 1 → suc w ≡ element_declaration f name t
    unfolding element_declaration
    an-element z h = rw (← p, ← q, ← z, h)

    pub element-fits : {e : ℕ} → e ≡ first_named f elements name first many → (e ≡ 0 → ⊥) → {w : ℕ} → w ≡ word f elements (e - 1) 1 → Accepted f → IsType f t → declaration_kind f t ≡ 5 → w + 1 < 2 ^ 32
    unfolding most_records limits_of_records
    element-fits {e} is n h a i d =
        let l = elements-inside a i d in
        let z : e ≡ suc (e - 1) = omega (arith, n) in
        let g : e - 1 < count f elements = link-to (λ e. e < count f elements) (first_named f elements name first many) (e - 1) (sym is ∙ z)
        (named-of f elements name (λ e. e < count f elements) first many (λ j m. omega arith)) in
        omega (arith, h, element-points f a (e - 1) g, count_most f a initializers (lit< tt))

-- ---- `is_structure`
pub is-structure : (f : List ℕ) (t : ℕ) {kind : ℕ} → kind ≡ word f types t 4 → eqb kind 5 ≡ eqb (declaration_kind f t) 5
unfolding declaration_kind
is-structure f t e = rw e

-- ---- `field_declaration`
declared-most : (f : List ℕ) (t : ℕ) → declared_types f t ≤ t
unfolding declared_types
declared-most f zero = omega arith
declared-most f (suc t) = omega (arith, declared-most f t, on-pick (λ n. n ≤ 1) (leb 1 (declaration_kind f t) && leb (declaration_kind f t) 8) 1 0 (λ e. omega arith) (λ e. omega arith))

-- a few steps more fit too
pub declared-fits : {f : List ℕ} {d : ℕ} → Accepted f → d ≡ declared_types f (count f types) → (n : ℕ) → leb n 16 ≡ true → d + n < 2 ^ 64
declared-fits {f} a e n h = omega (arith, e, few-types f a, declared-most f (count f types), leb-true n 16 h)

-- ---- `declared_structure`
module _ (f : List ℕ) (t : ℕ) where
  -- so many of the steps from t are done, and x is next
  abbrev pub Left : ℕ → ℕ → ℕ → Type 0
  Left most n x = Comes (found_up_to (alias_target f) (λ t. eqb (declaration_kind f t) 5)) (most - n) x (declared_structure f t)

  pub chain-starts : {most d : ℕ} → d ≡ declared_types f (count f types) → most ≡ d + 1 → Left most 0 t
  unfolding declared_structure
  chain-starts {most} e m = starts_at (found_up_to (alias_target f) (λ t. eqb (declaration_kind f t) 5)) most t (rw (m, e, add-one))

module _ (f : List ℕ) (name : ℕ) where
  declared-found : (k t : ℕ)
      → on_link (found_up_to (alias_target f) (λ t. eqb (declaration_kind f t) 5) k t) 0 (element_declaration f name) ≡ field_declaration_up_to f name k t
  unfolding found_up_to field_declaration_up_to element_declaration
  declared-found zero t = refl
  declared-found (suc k) t = go (eqb (declaration_kind f t) 5) (alias_target f t) (λ d. declared-found k d)
    where
      go : (b : Bool) (l : ℕ)
          → ((d : ℕ) → on_link (found_up_to (alias_target f) (λ t. eqb (declaration_kind f t) 5) k d) 0 (element_declaration f name) ≡ field_declaration_up_to f name k d)
          → on_link (pick b (suc t) (on_link l 0 (found_up_to (alias_target f) (λ t. eqb (declaration_kind f t) 5) k))) 0 (element_declaration f name)
          ≡ pick b (element_declaration f name t) (on_link l 0 (field_declaration_up_to f name k))
      go true l ih = refl
      go false zero ih = refl
      go false (suc d) ih = ih d

  module _ (t : ℕ) where
    pub undeclared : 0 ≡ declared_structure f t → 0 ≡ field_declaration f name t
    unfolding field_declaration declared_structure
    undeclared z = ap (λ (l : ℕ). on_link l 0 (element_declaration f name)) z ∙ declared-found (suc (declared_types f (count f types))) t

    pub declared-here : {x : ℕ} → suc x ≡ declared_structure f t → (r : Option ℕ) → link_of r ≡ element_declaration f name x → link_of r ≡ field_declaration f name t
    unfolding field_declaration declared_structure
    declared-here z r h = h ∙ ap (λ (l : ℕ). on_link l 0 (element_declaration f name)) z ∙ declared-found (suc (declared_types f (count f types))) t

pub target-inside : {f : List ℕ} → Accepted f → (t y : ℕ) → IsType f t → suc y ≡ alias_target f t → IsType f y
target-inside {f} a t y h z = link-to (IsType f) (alias_target f t) y (sym z) (alias-target f (IsType f) (IsType f) (leads-inside f a) t h)

module _ (f : List ℕ) (a : Accepted f) (t : ℕ) (h : IsType f t) {x : ℕ} (z : suc x ≡ declared_structure f t) where
  found : IsType f x × (eqb (declaration_kind f x) 5 ≡ true)
  unfolding declared_structure
  found = found-passes (alias_target f) (λ t. eqb (declaration_kind f t) 5) (IsType f) (target-inside a) (suc (declared_types f (count f types))) t h z

  pub structure-type : IsType f x
  structure-type = found.0

  pub structure-kind : declaration_kind f x ≡ 5
  structure-kind = eqb-true (declaration_kind f x) 5 found.1

pub ruleset laws =
    (rules, inline-type, named-type, inline-element, named-element, elements-fit, no-element, an-element, named-target, no-target, not-simple, no_start, simple-start, alias-base, baseless, is-structure)

pub ruleset walking = (rules, declared-fits, undeclared, declared-here, structure-type, structure-kind)

pub ruleset following = (rules, declared-fits, chain-starts, chain-ends, chain-here, chain-stops, chain-next)
