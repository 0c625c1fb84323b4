-- What a type uses, link by link, and what a computation about types rests on. Assumes nothing.
use Rattle.std.specs.Prelude.{◌≡◌, false, eqb}
use mathlib.Core.List.{List, [], ◌∷◌, ◌++◌}
use Prim.Native.Nat.{ℕ, zero, suc}
use Rattle.definition.specs.declared.records.Declaration.TheVariants as decl
use Rattle.definition.specs.declared.records.Initializer.{Initializer}
use Rattle.definition.specs.declared.records.Initializer.TheVariants as init
use Rattle.definition.specs.Base.{or_else, inline}
use Rattle.definition.specs.Layout.{word, initializers}
use Rattle.definition.specs.Records.{alias_base, element_type, declaration_at, named_type, initializer_at}
use Rattle.definition.specs.Places.{declared_type, declared_element}
use Rattle.definition.specs.Uses.{linked, named_use, initializer_uses, declaration_uses, block_uses, uses}
use Rattle.laws.specs.Cases.{on-pick}
use Rattle.laws.specs.Every.{Each}

-- a link is none or leads to a P
abbrev pub Link : (ℕ → Type 0) → ℕ → Type 0
Link P zero = Unit {0}
Link P (suc d) = P d

pub each_map : (P Q : ℕ → Type 0) (l : List ℕ) → ((d : ℕ) → P d → Q d) → Each P l → Each Q l
each_map P Q [] h e = tt
each_map P Q (d ∷ l) h e = (h d e.0, each_map P Q l h e.1)

pub each-any : (P : ℕ → Type 0) (l : List ℕ) → ((d : ℕ) → P d) → Each P l
each-any P [] h = tt
each-any P (d ∷ l) h = (h d, each-any P l h)

module _ (P : ℕ → Type 0) where
  pub each-apart : (l m : List ℕ) → Each P (l ++ m) → Each P l × Each P m
  each-apart [] m e = (tt, e)
  each-apart (d ∷ l) m e = let r = each-apart l m e.1 in ((e.0, r.0), r.1)

  pub each-join : (l m : List ℕ) → Each P l → Each P m → Each P (l ++ m)
  each-join [] m e g = g
  each-join (d ∷ l) m e g = (e.0, each-join l m e.1 g)

  pub link-to : (l d : ℕ) → l ≡ suc d → Link P l → P d
  link-to l d e h = rw e at h

  pub link-any : (l : ℕ) → ((d : ℕ) → P d) → Link P l
  link-any zero h = tt
  link-any (suc d) h = h d

  pub link-or : (a b : ℕ) → Link P a → Link P b → Link P (or_else a b)
  link-or zero b g h = h
  link-or (suc a) b g h = g

  pub each-linked : (l : ℕ) → Each P (linked l) → Link P l
  unfolding linked
  each-linked zero e = tt
  each-linked (suc d) e = e.0

  pub linked-each : (l : ℕ) → Link P l → Each P (linked l)
  unfolding linked
  linked-each zero h = tt
  linked-each (suc d) h = (h, tt)

  -- a name, where it is not inline
  pub each-name : (w : ℕ) → eqb w inline ≡ false → Each P (named_use w) → Link P w
  unfolding named_use
  each-name w b e = each-linked w (rw b at e)

  pub name-each : (w : ℕ) → (eqb w inline ≡ false → Link P w) → Each P (named_use w)
  unfolding named_use
  name-each w h = on-pick (Each P) (eqb w inline) [] (linked w) (λ e. tt) (λ e. linked-each w (h e))

  module _ (f : List ℕ) where
    -- the type and the element type that an initializer declares are uses
    pub initializer-apart : (i : ℕ) → Each P (initializer_uses f i) → Each P (named_use (named_type f i)) × Link P (word f initializers i 2)
    unfolding initializer_uses
    initializer-apart i e =
        let r = each-apart (named_use (named_type f i)) (linked (word f initializers i 2)) e in
        (r.0, each-linked (word f initializers i 2) r.1)

    pub declared-type : (i : ℕ) → Each P (initializer_uses f i) → Link P (declared_type f i)
    unfolding declared_type
    declared-type i e =
        on-pick (Link P) (eqb (named_type f i) inline) 0 (named_type f i) (λ q. tt) (λ q. each-name (named_type f i) q (initializer-apart i e).0)

    pub declared-element : (i : ℕ) → Each P (initializer_uses f i) → Link P (declared_element f i)
    unfolding declared_element
    declared-element i e = on-pick (Link P) (eqb (named_type f i) inline) (word f initializers i 2) 0 (λ q. (initializer-apart i e).1) (λ q. tt)

    -- the four parts of what a type uses
    pub uses-apart : (t : ℕ) → Each P (uses f t)
        → Link P (alias_base f t) × Link P (element_type f t) × Each P (declaration_uses f t (declaration_at f t)) × Each P (block_uses f t)
    unfolding uses
    uses-apart t e =
        let c = each-apart (linked (alias_base f t) ++ linked (element_type f t) ++ declaration_uses f t (declaration_at f t)) (block_uses f t) e in
        let b = each-apart (linked (alias_base f t) ++ linked (element_type f t)) (declaration_uses f t (declaration_at f t)) c.0 in
        let a = each-apart (linked (alias_base f t)) (linked (element_type f t)) b.0 in
        (each-linked (alias_base f t) a.0, each-linked (element_type f t) a.1, b.1, c.1)

    pub uses-join : (t : ℕ) → Link P (alias_base f t) → Link P (element_type f t) → Each P (declaration_uses f t (declaration_at f t)) → Each P (block_uses f t)
        → Each P (uses f t)
    unfolding uses
    uses-join t a b c d =
        each-join (linked (alias_base f t) ++ linked (element_type f t) ++ declaration_uses f t (declaration_at f t)) (block_uses f t)
        (each-join (linked (alias_base f t) ++ linked (element_type f t)) (declaration_uses f t (declaration_at f t))
        (each-join (linked (alias_base f t)) (linked (element_type f t)) (linked-each (alias_base f t) a) (linked-each (element_type f t) b)) c) d

-- the initializers of an alias whose named type is read as a link without asking whether it is inline
abbrev pub Naming : Initializer → Type 0
Naming init.Nothing = ⊥
Naming init.Interface = ⊥
Naming (init.Subrange value) = ⊥
Naming (init.Simple value) = Unit {0}
Naming (init.String value length width) = ⊥
Naming (init.EnumeratedValues value) = ⊥
Naming (init.EnumeratedType value) = ⊥
Naming (init.FunctionBlock first count) = Unit {0}
Naming (init.Structure first count) = Unit {0}
Naming (init.Array first count) = ⊥
Naming (init.Reference value) = ⊥
Naming (init.LateResolved value) = ⊥
Naming init.Call = ⊥
Naming init.SimpleExpression = ⊥
Naming init.StringExpression = ⊥
Naming init.Unknown = ⊥

-- what an N uses are Ps, and a P is an N. In words: an N may be looked at, a P may be asked for too.
-- The third says that an alias of an N names no inline type where none is expected; every accepted file is so.
pub record Leads (f : List ℕ) (N P : ℕ → Type 0) : Type 0 where
  pub near : (t : ℕ) → P t → N t
  pub steps : (t : ℕ) → N t → Each P (uses f t)
  pub names : (t i : ℕ) → N t → declaration_at f t ≡ decl.Simple (suc i) → Naming (initializer_at f i) → Link P (named_type f i)
