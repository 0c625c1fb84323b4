-- An accepted file's types use types of the file only. Assumes nothing.
use Rattle.std.specs.Prelude.{◌≡◌, refl, Bool, ◌&&◌, ◌||◌}
use Rattle.std.proofs.Common.{subst, eqb-true, ne_eqb}
use Rattle.std.proofs.Math.Bool.{true, false}
use mathlib.Core.List.{List, [], ◌++◌}
use Prim.Native.Nat.{ℕ, zero, suc, ◌+◌, ◌≤◌, ◌<◌}
use native.Mathlib.Omega.{arith}
use Rattle.std.proofs.Math.Dec.{eqb}
use Rattle.definition.specs.declared.records.Declaration.TheVariants as decl
use Rattle.definition.specs.Base.{on_link, inline}
use Rattle.definition.specs.Layout.{types, block_fields, elements, variables, initializers, count, word}
use Rattle.definition.specs.Records.{alias_base, element_type, referenced_type, declaration_kind, declaration_of, declaration_at, named_type, initializer_kind, initializer_of, initializer_at}
use Rattle.definition.specs.Accept.{number_in, run_in, name_in, declaration_points, block_points}
use Rattle.definition.specs.Uses.{linked, named_use, initializer_uses, element_uses, variable_uses, block_field_uses, declaration_uses, block_uses, uses}
use Rattle.laws.specs.Cases.{both, either, by_kind, on-pick}
use Rattle.laws.specs.Every.{Each}
use Rattle.laws.specs.Links.{Link, each-join, each-name, linked-each, name-each, uses-apart, uses-join, initializer-apart, Naming, Leads}
use Rattle.laws.specs.Pointed.{DeclarationPointed, declaration-pointed}
use Rattle.laws.specs.Accepted.{Accepted, few-types, number-in, link-in, run_in_lem, name_in_lem, name-link, type-points, initializer-points, element-points, block-field-points, variable-points}

-- a type of the file
abbrev pub IsType : List ℕ → ℕ → Type 0
IsType f d = d < count f types

-- inline is not allowed where the named type is read as a link
naming-kind : (kind value first many length width : ℕ) → Naming (initializer_of kind value first many length width) → eqb kind 2 || eqb kind 9 ≡ false
unfolding initializer_of
naming-kind kind value first many length width n = go (eqb kind 2) (eqb kind 9) refl refl
  where
    go : (b c : Bool) → eqb kind 2 ≡ b → eqb kind 9 ≡ c → b || c ≡ false
    go true c p q = absurd (rw (eqb-true kind 2 p) at n)
    go false true p q = absurd (rw (eqb-true kind 9 q) at n)
    go false false p q = refl

module _ (f : List ℕ) (a : Accepted f) where
  pub initializer-inside : (i : ℕ) → i < count f initializers → Each (IsType f) (initializer_uses f i)
  unfolding initializer_uses named_type
  initializer-inside i h =
      let p = initializer-points f a i h in
      each-join (IsType f) (named_use (named_type f i)) (linked (word f initializers i 2)) (name-each (IsType f) (named_type f i) (name_in_lem f _ (named_type f i) p.named))
      (linked-each (IsType f) (word f initializers i 2) (link-in f types (word f initializers i 2) p.element))

  elements-inside : (first many : ℕ) → first + many ≤ count f elements → Each (IsType f) (element_uses f first many)
  unfolding element_uses
  elements-inside first zero h = tt
  elements-inside first (suc k) h =
      each-join (IsType f) (initializer_uses f (word f elements first 1)) (element_uses f (suc first) k)
      (initializer-inside (word f elements first 1) (element-points f a first (omega arith))) (elements-inside (suc first) k (omega arith))

  -- a variable's type, and what its initializer names
  pub variable-inside : (v : ℕ) → v < count f variables → Link (IsType f) (word f variables v 2) × Each (IsType f) (initializer_uses f (word f variables v 3))
  variable-inside v h = let p = variable-points f a v h in (p.0, initializer-inside (word f variables v 3) p.1)

  variables-inside : (first many : ℕ) → first + many ≤ count f variables → Each (IsType f) (variable_uses f first many)
  unfolding variable_uses
  variables-inside first zero h = tt
  variables-inside first (suc k) h =
      let p = variable-inside first (omega arith) in
      each-join (IsType f) (linked (word f variables first 2) ++ initializer_uses f (word f variables first 3)) (variable_uses f (suc first) k)
      (each-join (IsType f) (linked (word f variables first 2)) (initializer_uses f (word f variables first 3)) (linked-each (IsType f) (word f variables first 2) p.0)
      p.1)
      (variables-inside (suc first) k (omega arith))

  fields-inside : (first many : ℕ) → first + many ≤ count f block_fields → Each (IsType f) (block_field_uses f first many)
  unfolding block_field_uses
  fields-inside first zero h = tt
  fields-inside first (suc k) h =
      each-join (IsType f) (linked (word f block_fields first 1)) (block_field_uses f (suc first) k)
      (linked-each (IsType f) (word f block_fields first 1) (block-field-points f a first (omega arith))) (fields-inside (suc first) k (omega arith))

  block_inside : (first many : ℕ) → block_points f first many ≡ true → Each (IsType f) (block_field_uses f first many)
  unfolding block_points block_field_uses
  block_inside first many e =
      either (run_in f block_fields first many) (eqb first inline && eqb many 0) e (λ r. fields-inside first many (run_in_lem f block_fields first many r))
      (λ r. rw (eqb-true many 0 (both (eqb first inline) (eqb many 0) r).1) tt)

  spelled-inside : (w : ℕ) (b : Bool) → name_in f true w && b ≡ true → Each (IsType f) (named_use w)
  spelled-inside w b e = name-each (IsType f) w (name_in_lem f true w (both (name_in f true w) b e).0)

  declared-inside : (t name start first many kind : ℕ) → declaration_points f kind name start first many ≡ true
      → Each (IsType f) (declaration_uses f t (declaration_of kind name start first many))
  unfolding declaration_points declaration_of declaration_uses
  declared-inside t name start first many =
      by_kind 10
      (λ k. declaration_points f k name start first many ≡ true → Each (IsType f) (declaration_uses f t (declaration_of k name start first many)))
      (λ e. tt)
      (λ e. alias start e)
      (λ e. spelled-inside name _ e)
      (λ e. tt)
      (λ e. spelled-inside name _ e)
      (λ e. elements-inside first many (run_in_lem f elements first many e))
      (λ e. on-pick (Each (IsType f)) (eqb name (referenced_type f t)) [] (linked name) (λ q. tt) (λ q. linked-each (IsType f) name (name-link f name e)))
      (λ e. linked-each (IsType f) name (name-link f name e))
      (λ e. linked-each (IsType f) name (name-link f name e))
      (λ e. variables-inside first many (run_in_lem f variables first many e))
      (λ k e. tt)
    where
      alias : (start : ℕ) → on_link start false (number_in f initializers) ≡ true → Each (IsType f) (declaration_uses f t (decl.Simple start))
      alias zero e = tt
      alias (suc i) e = initializer-inside i (number-in f initializers i e)

  pub uses-inside : (t : ℕ) → t < count f types → Each (IsType f) (uses f t)
  unfolding alias_base element_type declaration_at declaration_kind block_uses
  uses-inside t h =
      let p = type-points f a t h in
      uses-join (IsType f) f t (link-in f types (alias_base f t) p.alias) (link-in f types (element_type f t) p.element)
      (declared-inside t (word f types t 5) (word f types t 6) (word f types t 7) (word f types t 8) (word f types t 4) p.declared)
      (block_inside (word f types t 9) (word f types t 10) p.block)

  -- the initializer of an alias
  pub start-inside : (t i : ℕ) → t < count f types → declaration_at f t ≡ decl.Simple (suc i) → i < count f initializers
  start-inside t i h e = subst (DeclarationPointed f) e (declaration-pointed f a t h)

  -- where an alias reads its initializer's named type as a link, it is one, and so a use
  pub named-use : (P : ℕ → Type 0) (t i : ℕ) → t < count f types → Each P (uses f t) → declaration_at f t ≡ decl.Simple (suc i) → Naming (initializer_at f i)
      → Link P (named_type f i)
  unfolding initializer_at initializer_kind named_type declaration_uses
  named-use P t i h u e n =
      let p = initializer-points f a i (start-inside t i h e) in
      let w : ℕ = named_type f i in
      let q : name_in f false w ≡ true = rw (naming-kind (word f initializers i 0) (word f initializers i 3) (word f initializers i 4) (word f initializers i 5)
      (word f initializers i 6) (word f initializers i 7) n) at p.named in
      let s : Each P (initializer_uses f i) = rw e at (uses-apart P f t u).2 in
      each-name P w (ne_eqb w inline (λ z. small w (name-link f w q) z)) (initializer-apart P f i s).0
    where
      small : (w : ℕ) → Link (IsType f) w → w ≡ inline → ⊥
      small zero l z = omega arith
      small (suc d) l z = omega (arith, few-types f a)

  -- so the types of the file lead to types of the file
  pub leads-inside : Leads f (IsType f) (IsType f)
  leads-inside = record { near = λ t p. p; steps = uses-inside; names = λ t i n q k. named-use (IsType f) t i n (uses-inside t n) q k }
