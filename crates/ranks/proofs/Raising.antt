-- A number raised record by record, along the uses of the definition. Assumes nothing.
use mathlib.Core.Path.{◌≡◌, refl, ap, ◌∙◌}
use mathlib.Core.List.{List, [], ◌∷◌, ◌++◌, append_assoc, append-nil}
use denote.Param.Members.{Mut}
use Rattle.std.specs.Fn.{Called}
use Rattle.std.specs.List.{range_with_len, FoldsTo}
use Rattle.std.specs.Iterator.{Drains}
use Rattle.std.specs.declared.ops.Range.{Range}
use Rattle.std.proofs.iter.Yields.{nat_range_steps}
use Rattle.std.proofs.lemmas.Fn.{fold_over}
use Rattle.std.proofs.lemmas.Iterator.{YieldsList-from_range}
use Prim.Native.Nat.{ℕ, zero, suc, max, ◌+◌, ◌-◌, ◌≤◌}
use Rattle.std.specs.Prelude.{Option, Some, None}
use Rattle.std.specs.Option.{SomeIff}
use native.Mathlib.Omega.{arith}
use native.Mathlib.Numerals.{add-one}
use lib.ListN.{get_or}
use borrow.Author.Rules.{rules}
use borrow.Author.Tests.{eq-eqb, ne_eqb}
use Rattle.definition.specs.declared.records.Declaration.{Declaration}
use Rattle.definition.specs.declared.records.Declaration.TheVariants as decl
use Rattle.definition.specs.Base.{inline}
use Rattle.definition.specs.Layout.{word, types, block_fields, elements, variables, initializers}
use Rattle.definition.specs.Records.{alias_base, element_type, referenced_type, declaration_at, named_type}
use Rattle.definition.specs.Uses.{linked, named_use, initializer_uses, element_uses, variable_uses, block_field_uses, declaration_uses, block_uses, uses, raise, rank_at}
use Rattle.laws.specs.Ranks.{raise-append}
use Rattle.ranks.specs.Above.{line_rank, rank_in, start_uses, reference_uses, links_of}

-- ---- a rank
pub in_words : (words : List ℕ) (t : ℕ) {r : ℕ} → r ≡ get_or words t 0 → r ≡ rank_in words t
unfolding rank_at
in_words words t h = h

pub in_lines : (index sheet : List ℕ) (t : ℕ) {w p r : ℕ} → w ≡ get_or index t 0 → p ≡ w - 2 → r ≡ get_or sheet p 0 → r ≡ line_rank index sheet t
unfolding line_rank
in_lines index sheet t e q h = rw (← e, ← q) h

-- ---- links
module _ (rank : ℕ → ℕ) (high : ℕ) where
  module _ (link : ℕ) {o : Option ℕ} (taken : SomeIff o (1 ≤ link) (link - 1)) where
    pub link-none : o ≡ None → high ≡ raise rank high (linked link)
    unfolding linked raise
    link-none e = let k : (1 ≤ link → ⊥) = (rw e at taken) in let q : link ≡ 0 = omega (arith, k) in rw q

    pub link-over : {t : ℕ} → o ≡ Some t → {r s : ℕ} → r ≡ rank t + 1 → s ≡ max high r → s ≡ raise rank high (linked link)
    unfolding linked raise
    link-over {t} e p q =
        let k : (1 ≤ link) × (t ≡ link - 1) = (rw e at taken) in
        let z : link ≡ suc t = omega (arith, k.0, k.1) in
        rw z (q ∙ ap (max high) (p ∙ add-one (rank t)))

  pub name-none : (name : ℕ) → name ≡ inline → high ≡ raise rank high (named_use name)
  unfolding named_use raise
  name-none name e = rw (eq-eqb name inline e)

  pub name-over : (name : ℕ) → (name ≡ inline → ⊥) → {s : ℕ} → s ≡ raise rank high (linked name) → s ≡ raise rank high (named_use name)
  unfolding named_use
  name-over name n h = rw (ne_eqb name inline n) h

  module _ (f : List ℕ) where
    pub initializer-over : (i : ℕ) {n e m s : ℕ} → n ≡ word f initializers i 1 → e ≡ word f initializers i 2 → m ≡ raise rank high (named_use n) → s ≡ raise rank m (linked e)
        → s ≡ raise rank high (initializer_uses f i)
    unfolding initializer_uses named_type
    initializer-over i p q h k = rw (raise-append, ← p, ← q, ← h) k

    module _ (start : ℕ) {o : Option ℕ} (taken : SomeIff o (1 ≤ start) (start - 1)) where
      pub start_none : o ≡ None → high ≡ raise rank high (start_uses f start)
      unfolding start_uses raise
      start_none e = let k : (1 ≤ start → ⊥) = (rw e at taken) in let q : start ≡ 0 = omega (arith, k) in rw q

      pub start-over : {i : ℕ} → o ≡ Some i → {s : ℕ} → s ≡ raise rank high (initializer_uses f i) → s ≡ raise rank high (start_uses f start)
      unfolding start_uses
      start-over {i} e h =
          let k : (1 ≤ start) × (i ≡ start - 1) = (rw e at taken) in
          let z : start ≡ suc i = omega (arith, k.0, k.1) in
          rw z h

    module _ (t name : ℕ) {d : ℕ} (q : d ≡ word f types t 3) where
      pub reference-none : name ≡ d → high ≡ raise rank high (reference_uses f t name)
      unfolding reference_uses referenced_type raise
      reference-none e = rw (← q, eq-eqb name d e)

      pub reference-over : (name ≡ d → ⊥) → {s : ℕ} → s ≡ raise rank high (linked name) → s ≡ raise rank high (reference_uses f t name)
      unfolding reference_uses referenced_type
      reference-over n h = rw (← q, ne_eqb name d n) h

pub ruleset raising = (rules, in_words, in_lines, link-none, link-over, name-none, name-over, initializer-over, start_none, start-over, reference-none, reference-over)

-- ---- a run: what its records leads, one after another
used_in : (ℕ → List ℕ) → ℕ → ℕ → List ℕ
used_in leads k zero = []
used_in leads k (suc n) = leads k ++ used_in leads (suc k) n

used_at : (ℕ → List ℕ) → ℕ → List ℕ → List ℕ
used_at leads first [] = []
used_at leads first (j ∷ js) = leads (first + j) ++ used_at leads first js

module _ (leads : ℕ → List ℕ) (first : ℕ) where
  at-range : (a n : ℕ) → used_at leads first (range_with_len a n) ≡ used_in leads (first + a) n
  unfolding used_in used_at
  at-range a zero = refl
  at-range a (suc n) =
      let e : first + (a + 1) ≡ suc (first + a) = omega arith in
      ap (λ (l : List ℕ). leads (first + a) ++ l) (at-range (a + 1) n ∙ ap (λ (k : ℕ). used_in leads k n) e)

  at-more : (js : List ℕ) (j : ℕ) → used_at leads first (js ++ (j ∷ [])) ≡ used_at leads first js ++ leads (first + j)
  unfolding used_at
  at-more [] j = append-nil (leads (first + j))
  at-more (i ∷ js) j = ap (λ (l : List ℕ). leads (first + i) ++ l) (at-more js j) ∙ rw append_assoc

  module _ (rank : ℕ → ℕ) (high n : ℕ) {F : Type 0} {g : Mut F (ℕ × (ℕ × Unit {0})) ℕ} {s : Range ℕ} (f : F) where
    raised-in-range : (r : ℕ)
        → (xs : List ℕ) × (h : F) × Drains nat_range_steps s xs × FoldsTo {P = F × ℕ} (λ p x q. Called g p.0 (p.1, (x, tt)) q.1 q.0) (f, high) xs (h, r)
        → s ≡ record { start = 0; end = n } → ((a x b : ℕ) (q : F) → Called g f (a, (x, tt)) b q → (b ≡ raise rank a (leads (first + x))) × (q ≡ f))
        → r ≡ raise rank high (used_in leads first n)
    unfolding used_at raise
    raised-in-range r ran e step =
        let z : first + 0 ≡ first = omega arith in
        fold_over nat_range_steps (λ x. x) g (λ js a. a ≡ raise rank high (used_at leads first js)) f
        (λ js a x b q i c. let w = step a x b q c in (rw (at-more js x, raise-append, ← i) w.0, w.1))
        s (range_with_len 0 n) high r (YieldsList-from_range 0 n n e (omega arith)).runs refl ran
        ∙ ap (raise rank high) (at-range 0 n) ∙ rw z

-- the runs of the definition
elements-used : (f : List ℕ) (k n : ℕ) → element_uses f k n ≡ used_in (λ k. initializer_uses f (word f elements k 1)) k n
unfolding element_uses used_in
elements-used f k zero = refl
elements-used f k (suc n) = rw (elements-used f (suc k) n)

variables-used : (f : List ℕ) (k n : ℕ) → variable_uses f k n ≡ used_in (λ k. linked (word f variables k 2) ++ initializer_uses f (word f variables k 3)) k n
unfolding variable_uses used_in
variables-used f k zero = refl
variables-used f k (suc n) = rw (variables-used f (suc k) n, append_assoc)

fields-used : (f : List ℕ) (k n : ℕ) → block_field_uses f k n ≡ used_in (λ k. linked (word f block_fields k 1)) k n
unfolding block_field_uses used_in
fields-used f k zero = refl
fields-used f k (suc n) = rw (fields-used f (suc k) n)

module _ (f : List ℕ) (rank : ℕ → ℕ) (first n high r : ℕ) {F : Type 0} {g : Mut F (ℕ × (ℕ × Unit {0})) ℕ} {s : Range ℕ} (h : F)
    (ran : (xs : List ℕ) × (i : F) × Drains nat_range_steps s xs × FoldsTo {P = F × ℕ} (λ p x q. Called g p.0 (p.1, (x, tt)) q.1 q.0) (h, high) xs (i, r))
    (e : s ≡ record { start = 0; end = n }) where
  pub elements_over : ((a x b : ℕ) (q : F) → Called g h (a, (x, tt)) b q → (b ≡ raise rank a (initializer_uses f (word f elements (first + x) 1))) × (q ≡ h))
      → r ≡ raise rank high (element_uses f first n)
  elements_over step = rw (elements-used f first n) (raised-in-range _ first rank high n h r ran e step)

  pub variables_over : ((a x b : ℕ) (q : F) → Called g h (a, (x, tt)) b q
      → (b ≡ raise rank (raise rank a (linked (word f variables (first + x) 2))) (initializer_uses f (word f variables (first + x) 3))) × (q ≡ h))
      → r ≡ raise rank high (variable_uses f first n)
  variables_over step = rw (variables-used f first n) (raised-in-range _ first rank high n h r ran e (λ a x b q c. let w = step a x b q c in (rw raise-append w.0, w.1)))

  pub fields_over : ((a x b : ℕ) (q : F) → Called g h (a, (x, tt)) b q → (b ≡ raise rank a (linked (word f block_fields (first + x) 1))) × (q ≡ h))
      → r ≡ raise rank high (block_field_uses f first n)
  fields_over step = rw (fields-used f first n) (raised-in-range _ first rank high n h r ran e step)

-- ---- a type
module _ (rank : ℕ → ℕ) (high : ℕ) (f : List ℕ) (t : ℕ) where
  module _ {d : Declaration} (q : d ≡ declaration_at f t) where
    module _ {s : ℕ} where
      pub of-nothing : d ≡ decl.Nothing → s ≡ high → s ≡ raise rank high (declaration_uses f t (declaration_at f t))
      unfolding declaration_uses raise
      of-nothing e h = rw (← q, e) h

      pub of_string : {start : ℕ} → d ≡ decl.String start → s ≡ high → s ≡ raise rank high (declaration_uses f t (declaration_at f t))
      unfolding declaration_uses raise
      of_string e h = rw (← q, e) h

      pub of-unknown : d ≡ decl.Unknown → s ≡ high → s ≡ raise rank high (declaration_uses f t (declaration_at f t))
      unfolding declaration_uses raise
      of-unknown e h = rw (← q, e) h

      pub of-simple : {start : ℕ} → d ≡ decl.Simple start → s ≡ raise rank high (start_uses f start) → s ≡ raise rank high (declaration_uses f t (declaration_at f t))
      unfolding declaration_uses start_uses
      of-simple e h = rw (← q, e) h

      pub of_subrange : {name start : ℕ} → d ≡ decl.Subrange name start → s ≡ raise rank high (named_use name) → s ≡ raise rank high (declaration_uses f t (declaration_at f t))
      unfolding declaration_uses
      of_subrange e h = rw (← q, e) h

      pub of_array : {name first many : ℕ} → d ≡ decl.Array name first many → s ≡ raise rank high (named_use name) → s ≡ raise rank high (declaration_uses f t (declaration_at f t))
      unfolding declaration_uses
      of_array e h = rw (← q, e) h

      pub of-structure : {first many : ℕ} → d ≡ decl.Structure first many → s ≡ raise rank high (element_uses f first many) → s ≡ raise rank high (declaration_uses f t (declaration_at f t))
      unfolding declaration_uses
      of-structure e h = rw (← q, e) h

      pub of-reference : {name : ℕ} → d ≡ decl.Reference name → s ≡ raise rank high (reference_uses f t name) → s ≡ raise rank high (declaration_uses f t (declaration_at f t))
      unfolding declaration_uses reference_uses
      of-reference e h = rw (← q, e) h

      pub of_enumeration : {name : ℕ} → d ≡ decl.Enumeration name → s ≡ raise rank high (linked name) → s ≡ raise rank high (declaration_uses f t (declaration_at f t))
      unfolding declaration_uses
      of_enumeration e h = rw (← q, e) h

      pub of-late : {name : ℕ} → d ≡ decl.LateBound name → s ≡ raise rank high (linked name) → s ≡ raise rank high (declaration_uses f t (declaration_at f t))
      unfolding declaration_uses
      of-late e h = rw (← q, e) h

      pub of-block : {first many : ℕ} → d ≡ decl.FunctionBlock first many → s ≡ raise rank high (variable_uses f first many) → s ≡ raise rank high (declaration_uses f t (declaration_at f t))
      unfolding declaration_uses
      of-block e h = rw (← q, e) h

  pub block-over : {a n s : ℕ} → a ≡ word f types t 9 → n ≡ word f types t 10 → s ≡ raise rank high (block_field_uses f a n) → s ≡ raise rank high (block_uses f t)
  unfolding block_uses
  block-over p q h = rw (← p, ← q) h

module _ (rank : ℕ → ℕ) (f : List ℕ) (t : ℕ) where
  pub links-over : {b e m s : ℕ} → b ≡ word f types t 1 → e ≡ word f types t 2 → m ≡ raise rank 0 (linked b) → s ≡ raise rank m (linked e) → s ≡ raise rank 0 (links_of f t)
  unfolding links_of alias_base element_type
  links-over p q h k = rw (raise-append, ← p, ← q, ← h) k

  uses-are : uses f t ≡ (links_of f t ++ declaration_uses f t (declaration_at f t)) ++ block_uses f t
  unfolding uses links_of
  uses-are = refl

  pub type-over : {l d s : ℕ} → l ≡ raise rank 0 (links_of f t) → d ≡ raise rank l (declaration_uses f t (declaration_at f t)) → s ≡ raise rank d (block_uses f t)
      → s ≡ raise rank 0 (uses f t)
  type-over h k g = rw (uses-are, raise-append, raise-append, ← h, ← k) g

pub ruleset types_over =
    (rules, of-nothing, of_string, of-unknown, of-simple, of_subrange, of_array, of-structure, of-reference, of_enumeration, of-late, of-block, block-over, links-over, type-over)
