-- What the records of an accepted file point at, by their views: numbers, links and runs lie inside their sections and at records that may stand there, shapes,
-- entries and expressions point lower, and names that must be there are not 0. Assumes nothing.
use Rattle.std.specs.Prelude.{◌≡◌, Bool, not, ◌&&◌, ◌||◌, List, [], ◌∷◌, get_or}
use Rattle.std.proofs.Math.Path.{refl}
use Rattle.std.proofs.Math.Bool.{true, false}
use Prim.Native.Nat.{ℕ, zero, suc, ◌+◌, ◌-◌, ◌≤◌, ◌<◌}
use Rattle.std.proofs.Common.{arith, lit<}
use Rattle.std.proofs.Math.Dec.{eqb, leb, ltb}
use borrow.Author.Tests.{eqb-true, leb-true, ltb-true}
use Rattle.definition.specs.declared.records.Shape.{Shape}
use Rattle.definition.specs.declared.records.Shape.TheVariants as shape
use Rattle.definition.specs.declared.records.Declaration.{Declaration}
use Rattle.definition.specs.declared.records.Declaration.TheVariants as declaration
use Rattle.definition.specs.declared.records.Initializer.{Initializer}
use Rattle.definition.specs.declared.records.Initializer.TheVariants as initializer
use Rattle.definition.specs.declared.records.Entry.{Entry}
use Rattle.definition.specs.declared.records.Entry.TheVariants as entry
use Rattle.definition.specs.declared.records.Expression.{Expression}
use Rattle.definition.specs.declared.records.Expression.TheVariants as expression
use Rattle.definition.specs.Base.{every, on_link}
use Rattle.definition.specs.Layout.{shapes, members, shape_fields, dimensions, types, block_fields, elements, variables, initializers, entries, expressions, constants, characters, count, word}
use Rattle.definition.specs.Records.{shape_of, shape_at, declaration_of, declaration_at, declaration_kind, initializer_of, initializer_at, initializer_kind, entry_of, entry_at, expression_of, expression_at}
use Rattle.definition.specs.Accept.{is_name, plain_rules, shape_plain, shape_field_plain, block_field_plain, entry_plain, point_rules, number_in, run_in, run_of, constant_in, link_to, member_entry, array_entry, enumerated_entry, shape_points, name_in, declaration_points, reference_points, value_points, lower_run, entry_points, expression_points, constant_points}
use Rattle.definition.specs.Places.{first_named}
use Rattle.laws.specs.Cases.{never, both, either, by_kind, on-pick}
use Rattle.laws.specs.Every.{every_true}
use Rattle.laws.specs.Links.{Link}
use Rattle.laws.specs.Accepted.{Accepted, word-rule, point-rule, number-in, link-in, run_in_lem, type-points, initializer-points}

-- ---- names, links and runs
is_name_lem : (w : ℕ) → is_name w ≡ true → w ≡ 0 → ⊥
unfolding is_name
is_name_lem w e z = never (rw z at e)

link-of : (rule : ℕ → Bool) (P : ℕ → Type 0) → ((n : ℕ) → rule n ≡ true → P n) → (l : ℕ) → link_to rule l ≡ true → Link P l
unfolding link_to
link-of rule P h zero e = tt
link-of rule P h (suc n) e = h n e

-- each record of a run is a P
abbrev pub Run : (ℕ → Type 0) → ℕ → ℕ → Type 0
Run P first many = (j : ℕ) → j < many → P (first + j)

pub run_at : (P : ℕ → Type 0) (first many : ℕ) → Run P first many → (k : ℕ) → first ≤ k → k < first + many → P k
run_at P first many h k l b = let e : first + (k - first) ≡ k = omega arith in rw e at (h (k - first) (omega arith))

module _ (f : List ℕ) where
  -- a constant of a kind
  abbrev pub ConstantOf : ℕ → ℕ → Type 0
  ConstantOf kind c = (c < count f constants) × (word f constants c 0 ≡ kind)

  constant-in : (kind c : ℕ) → constant_in f kind c ≡ true → ConstantOf kind c
  unfolding constant_in
  constant-in kind c e =
      let p = both (number_in f constants c) (eqb (word f constants c 0) kind) e in
      (number-in f constants c p.0, eqb-true (word f constants c 0) kind p.1)

  run-of : (s : ℕ) (rule : ℕ → Bool) (P : ℕ → Type 0) → ((n : ℕ) → n < count f s → rule n ≡ true → P n) → (first many : ℕ) → run_of f s rule first many ≡ true
      → (first + many ≤ count f s) × Run P first many
  unfolding run_of
  run-of s rule P h first many e = go (run_in f s first many) refl e
    where
      go : (b : Bool) → run_in f s first many ≡ b → run_of f s rule first many ≡ true → (first + many ≤ count f s) × Run P first many
      go true q z =
          let l = run_in_lem f s first many q in
          let r : every (λ j. rule (first + j)) many ≡ true = rw q at z in
          (l, λ j m. h (first + j) (omega arith) (every_true (λ j. rule (first + j)) many r j m))
      go false q z = never (rw q at z)

-- ---- where entries may stand
abbrev pub ArrayKind : Entry → Type 0
ArrayKind (entry.Constant number) = Unit {0}
ArrayKind (entry.Enumerated value qualifier) = Unit {0}
ArrayKind (entry.Array first many) = ⊥
ArrayKind (entry.Structure first many) = Unit {0}
ArrayKind (entry.Expression number) = Unit {0}
ArrayKind entry.LateBound = ⊥
ArrayKind (entry.Repeat many inner) = Unit {0}
ArrayKind entry.Unknown = ⊥

abbrev pub MemberKind : Entry → Type 0
MemberKind (entry.Constant number) = Unit {0}
MemberKind (entry.Enumerated value qualifier) = Unit {0}
MemberKind (entry.Array first many) = Unit {0}
MemberKind (entry.Structure first many) = Unit {0}
MemberKind (entry.Expression number) = Unit {0}
MemberKind entry.LateBound = Unit {0}
MemberKind (entry.Repeat many inner) = ⊥
MemberKind entry.Unknown = ⊥

abbrev pub EnumeratedKind : Entry → Type 0
EnumeratedKind (entry.Constant number) = ⊥
EnumeratedKind (entry.Enumerated value qualifier) = Unit {0}
EnumeratedKind (entry.Array first many) = ⊥
EnumeratedKind (entry.Structure first many) = ⊥
EnumeratedKind (entry.Expression number) = ⊥
EnumeratedKind entry.LateBound = ⊥
EnumeratedKind (entry.Repeat many inner) = ⊥
EnumeratedKind entry.Unknown = ⊥

array_kind_lem : (a b kind : ℕ) → get_or (true ∷ true ∷ false ∷ true ∷ true ∷ false ∷ true ∷ []) kind false ≡ true → ArrayKind (entry_of kind a b)
unfolding entry_of
array_kind_lem a b =
    by_kind 7 (λ k. get_or (true ∷ true ∷ false ∷ true ∷ true ∷ false ∷ true ∷ []) k false ≡ true → ArrayKind (entry_of k a b))
    (λ e. tt)
    (λ e. tt)
    (λ e. never e)
    (λ e. tt)
    (λ e. tt)
    (λ e. never e)
    (λ e. tt)
    (λ k e. never e)

member-kind : (a b kind : ℕ) → kind ≤ 5 → MemberKind (entry_of kind a b)
unfolding entry_of
member-kind a b =
    by_kind 6 (λ k. k ≤ 5 → MemberKind (entry_of k a b))
    (λ e. tt)
    (λ e. tt)
    (λ e. tt)
    (λ e. tt)
    (λ e. tt)
    (λ e. tt)
    (λ k e. absurd (omega arith))

module _ (f : List ℕ) where
  -- nameless, of a kind that stands in arrays
  abbrev pub InArray : ℕ → Type 0
  InArray e = (word f entries e 1 ≡ 0) × ArrayKind (entry_at f e)

  -- named, of a kind that stands in member lists
  abbrev pub InMembers : ℕ → Type 0
  InMembers e = (word f entries e 1 ≡ 0 → ⊥) × MemberKind (entry_at f e)

  -- nameless, an enumerated value
  abbrev pub Enumerated : ℕ → Type 0
  Enumerated e = (e < count f entries) × (word f entries e 1 ≡ 0) × EnumeratedKind (entry_at f e)

  array-entry : (e : ℕ) → array_entry f e ≡ true → InArray e
  unfolding array_entry entry_at entry_of
  array-entry e h =
      let p = both (eqb (word f entries e 1) 0) _ h in
      (eqb-true (word f entries e 1) 0 p.0, array_kind_lem (word f entries e 2) (word f entries e 3) (word f entries e 0) p.1)

  member-entry : (e : ℕ) → member_entry f e ≡ true → InMembers e
  unfolding member_entry entry_at
  member-entry e h =
      let p = both (is_name (word f entries e 1)) (leb (word f entries e 0) 5) h in
      (is_name_lem (word f entries e 1) p.0, member-kind (word f entries e 2) (word f entries e 3) (word f entries e 0) (leb-true (word f entries e 0) 5 p.1))

  enumerated-entry : (e : ℕ) → enumerated_entry f e ≡ true → Enumerated e
  unfolding enumerated_entry entry_at entry_of
  enumerated-entry e h =
      let p = both (number_in f entries e && eqb (word f entries e 1) 0) (eqb (word f entries e 0) 1) h in
      let q = both (number_in f entries e) (eqb (word f entries e 1) 0) p.0 in
      (number-in f entries e q.0, eqb-true (word f entries e 1) 0 q.1, rw (eqb-true (word f entries e 0) 1 p.1) tt)

-- ---- shapes
abbrev pub ShapePointed : List ℕ → ℕ → Shape → Type 0
ShapePointed f n shape.Bool = Unit {0}
ShapePointed f n (shape.Int bits) = Unit {0}
ShapePointed f n (shape.UInt bits) = Unit {0}
ShapePointed f n (shape.Real bits) = Unit {0}
ShapePointed f n (shape.Bytes bits) = Unit {0}
ShapePointed f n (shape.Time bits) = Unit {0}
ShapePointed f n (shape.Date bits) = Unit {0}
ShapePointed f n (shape.TimeOfDay bits) = Unit {0}
ShapePointed f n (shape.DateAndTime bits) = Unit {0}
ShapePointed f n (shape.String length width) = Unit {0}
ShapePointed f n (shape.Enumeration first many default underlying) = (first + many ≤ count f members) × Link (λ s. s < n) underlying
ShapePointed f n (shape.Structure first many) = (first + many ≤ count f shape_fields) × Run (λ k. word f shape_fields k 1 < n) first many
ShapePointed f n (shape.Array element first many) = (element < n) × (first + many ≤ count f dimensions) × (0 < many)
ShapePointed f n (shape.Subrange base least greatest) = (base < n) × ConstantOf f 1 least × ConstantOf f 1 greatest
ShapePointed f n (shape.FunctionBlock name) = Unit {0}
ShapePointed f n (shape.Interface name) = Unit {0}
ShapePointed f n (shape.Reference target) = target < n
ShapePointed f n shape.Unknown = ⊥

-- ---- entries
abbrev pub EntryPointed : List ℕ → ℕ → Entry → Type 0
EntryPointed f e (entry.Constant number) = number < count f constants
EntryPointed f e (entry.Enumerated value qualifier) = Unit {0}
EntryPointed f e (entry.Array first many) = (first + many ≤ count f entries) × Run (λ i. (i < e) × InArray f i) first many
EntryPointed f e (entry.Structure first many) = (first + many ≤ count f entries) × Run (λ i. (i < e) × InMembers f i) first many
EntryPointed f e (entry.Expression number) = number < count f expressions
EntryPointed f e entry.LateBound = Unit {0}
EntryPointed f e (entry.Repeat many inner) = Link (λ i. (i < e) × InArray f i) inner
EntryPointed f e entry.Unknown = ⊥

-- ---- expressions
abbrev pub ExpressionPointed : List ℕ → ℕ → Expression → Type 0
ExpressionPointed f x (expression.Constant number) = number < count f constants
ExpressionPointed f x (expression.Enumerated entry) = Enumerated f entry
ExpressionPointed f x (expression.Parentheses inner) = inner < x
ExpressionPointed f x (expression.Conversion inner) = inner < x
ExpressionPointed f x expression.Null = Unit {0}
ExpressionPointed f x expression.Reference = Unit {0}
ExpressionPointed f x expression.Other = Unit {0}
ExpressionPointed f x expression.Unknown = ⊥

-- ---- declarations, their named type aside
abbrev pub DeclarationPointed : List ℕ → Declaration → Type 0
DeclarationPointed f declaration.Nothing = Unit {0}
DeclarationPointed f (declaration.Simple zero) = ⊥
DeclarationPointed f (declaration.Simple (suc i)) = i < count f initializers
DeclarationPointed f (declaration.Subrange name start) = Link (ConstantOf f 1) start
DeclarationPointed f (declaration.String start) = Link (ConstantOf f 8) start
DeclarationPointed f (declaration.Array name first many) = (first + many ≤ count f entries) × Run (InArray f) first many
DeclarationPointed f (declaration.Structure first many) = first + many ≤ count f elements
DeclarationPointed f (declaration.Reference name) = Unit {0}
DeclarationPointed f (declaration.Enumeration name) = Unit {0}
DeclarationPointed f (declaration.LateBound name) = Unit {0}
DeclarationPointed f (declaration.FunctionBlock first many) = first + many ≤ count f variables
DeclarationPointed f declaration.Unknown = ⊥

-- ---- initializers, their named type aside
abbrev pub InitializerPointed : List ℕ → Initializer → Type 0
InitializerPointed f initializer.Nothing = Unit {0}
InitializerPointed f initializer.Interface = Unit {0}
InitializerPointed f (initializer.Subrange value) = Link (ConstantOf f 1) value
InitializerPointed f (initializer.Simple value) = Link (λ c. c < count f constants) value
InitializerPointed f (initializer.String value length width) = Link (ConstantOf f 8) value
InitializerPointed f (initializer.EnumeratedValues value) = Link (Enumerated f) value
InitializerPointed f (initializer.EnumeratedType value) = Link (Enumerated f) value
InitializerPointed f (initializer.FunctionBlock first many) = (first + many ≤ count f entries) × Run (InMembers f) first many
InitializerPointed f (initializer.Structure first many) = (first + many ≤ count f entries) × Run (InMembers f) first many
InitializerPointed f (initializer.Array first many) = (first + many ≤ count f entries) × Run (InArray f) first many
InitializerPointed f (initializer.Reference value) = Link (λ x. x < count f expressions) value
InitializerPointed f (initializer.LateResolved value) = Link (λ c. c < count f constants) value
InitializerPointed f initializer.Call = Unit {0}
InitializerPointed f initializer.SimpleExpression = Unit {0}
InitializerPointed f initializer.StringExpression = Unit {0}
InitializerPointed f initializer.Unknown = ⊥

-- ---- from the rules
module _ (f : List ℕ) where
  shape-rule : (n a b c d kind : ℕ) → shape_points f n kind a b c d ≡ true → ShapePointed f n (shape_of kind a b c d)
  unfolding shape_points shape_of
  shape-rule n a b c d =
      by_kind 17 (λ k. shape_points f n k a b c d ≡ true → ShapePointed f n (shape_of k a b c d))
      (λ e. tt)
      (λ e. tt)
      (λ e. tt)
      (λ e. tt)
      (λ e. tt)
      (λ e. tt)
      (λ e. tt)
      (λ e. tt)
      (λ e. tt)
      (λ e. tt)
      (λ e. let p = both (run_in f members a b) (leb d n) e in (run_in_lem f members a b p.0, lower d (leb-true d n p.1)))
      (λ e. run-of f shape_fields (λ k. ltb (word f shape_fields k 1) n) (λ k. word f shape_fields k 1 < n) (λ k l. ltb-true (word f shape_fields k 1) n) a b e)
      (λ e. array e)
      (λ e. subrange e)
      (λ e. tt)
      (λ e. tt)
      (λ e. ltb-true a n e)
      (λ k e. never e)
    where
      lower : (d : ℕ) → d ≤ n → Link (λ s. s < n) d
      lower zero l = tt
      lower (suc s) l = l

      array : ltb a n && run_in f dimensions b c && not (eqb c 0) ≡ true → (a < n) × (b + c ≤ count f dimensions) × (0 < c)
      array e =
          let p = both (ltb a n && run_in f dimensions b c) (not (eqb c 0)) e in
          let q = both (ltb a n) (run_in f dimensions b c) p.0 in
          (ltb-true a n q.0, run_in_lem f dimensions b c q.1, some c p.1)
        where
          some : (c : ℕ) → not (eqb c 0) ≡ true → 0 < c
          some zero e = never e
          some (suc c) e = omega arith

      subrange : ltb a n && constant_in f 1 b && constant_in f 1 c ≡ true → (a < n) × ConstantOf f 1 b × ConstantOf f 1 c
      subrange e =
          let p = both (ltb a n && constant_in f 1 b) (constant_in f 1 c) e in
          let q = both (ltb a n) (constant_in f 1 b) p.0 in
          (ltb-true a n q.0, constant-in f 1 b q.1, constant-in f 1 c p.1)

  -- a run of lower entries
  lower-run : (e : ℕ) (rule : ℕ → Bool) (P : ℕ → Type 0) → ((i : ℕ) → rule i ≡ true → P i) → (first many : ℕ) → lower_run f e rule first many ≡ true
      → (first + many ≤ count f entries) × Run (λ i. (i < e) × P i) first many
  unfolding lower_run
  lower-run e rule P h first many r =
      let p = both (run_of f entries rule first many) (leb (first + many) e || eqb many 0) r in
      let q = run-of f entries rule P (λ i l. h i) first many p.0 in
      (q.0, λ j l. (below j l p.1, q.1 j l))
    where
      below : (j : ℕ) → j < many → leb (first + many) e || eqb many 0 ≡ true → first + j < e
      below j l z =
          either (leb (first + many) e) (eqb many 0) z (λ b. let m = leb-true (first + many) e b in omega arith)
          (λ b. let m = eqb-true many 0 b in absurd (omega arith))

  entry-rule : (e a b kind : ℕ) → entry_points f e kind a b ≡ true → EntryPointed f e (entry_of kind a b)
  unfolding entry_points entry_of
  entry-rule e a b =
      by_kind 7 (λ k. entry_points f e k a b ≡ true → EntryPointed f e (entry_of k a b))
      (λ r. number-in f constants a r)
      (λ r. tt)
      (λ r. lower-run e (array_entry f) (InArray f) (array-entry f) a b r)
      (λ r. lower-run e (member_entry f) (InMembers f) (member-entry f) a b r)
      (λ r. number-in f expressions a r)
      (λ r. tt)
      (λ r. link-of (λ i. ltb i e && array_entry f i) (λ i. (i < e) × InArray f i) inner b r)
      (λ k r. never r)
    where
      inner : (i : ℕ) → ltb i e && array_entry f i ≡ true → (i < e) × InArray f i
      inner i r = let p = both (ltb i e) (array_entry f i) r in (ltb-true i e p.0, array-entry f i p.1)

  expression-rule : (x a kind : ℕ) → expression_points f x kind a ≡ true → ExpressionPointed f x (expression_of kind a)
  unfolding expression_points expression_of
  expression-rule x a =
      by_kind 7 (λ k. expression_points f x k a ≡ true → ExpressionPointed f x (expression_of k a))
      (λ r. number-in f constants a r)
      (λ r. enumerated-entry f a r)
      (λ r. ltb-true a x r)
      (λ r. ltb-true a x r)
      (λ r. tt)
      (λ r. tt)
      (λ r. tt)
      (λ k r. never r)

  declaration-rule : (name start first many kind : ℕ) → declaration_points f kind name start first many ≡ true
      → DeclarationPointed f (declaration_of kind name start first many)
  unfolding declaration_points declaration_of
  declaration-rule name start first many =
      by_kind 10 (λ k. declaration_points f k name start first many ≡ true → DeclarationPointed f (declaration_of k name start first many))
      (λ r. tt)
      (λ r. simple start r)
      (λ r. link-of (constant_in f 1) (ConstantOf f 1) (constant-in f 1) start (both (name_in f true name) (link_to (constant_in f 1) start) r).1)
      (λ r. link-of (constant_in f 8) (ConstantOf f 8) (constant-in f 8) start r)
      (λ r. run-of f entries (array_entry f) (InArray f) (λ i l. array-entry f i) first many (both (name_in f true name) (run_of f entries (array_entry f) first many) r).1)
      (λ r. run_in_lem f elements first many r)
      (λ r. tt)
      (λ r. tt)
      (λ r. tt)
      (λ r. run_in_lem f variables first many r)
      (λ k r. never r)
    where
      simple : (start : ℕ) → on_link start false (number_in f initializers) ≡ true → DeclarationPointed f (declaration.Simple start)
      simple zero r = never r
      simple (suc i) r = number-in f initializers i r

  value-rule : (value first many length width kind : ℕ) → value_points f kind value first many ≡ true
      → InitializerPointed f (initializer_of kind value first many length width)
  unfolding value_points initializer_of reference_points
  value-rule value first many length width =
      by_kind 15 (λ k. value_points f k value first many ≡ true → InitializerPointed f (initializer_of k value first many length width))
      (λ r. tt)
      (λ r. tt)
      (λ r. link-of (constant_in f 1) (ConstantOf f 1) (constant-in f 1) value r)
      (λ r. link-in f constants value r)
      (λ r. link-of (constant_in f 8) (ConstantOf f 8) (constant-in f 8) value r)
      enumerated
      enumerated
      listed
      listed
      (λ r. run-of f entries (array_entry f) (InArray f) (λ i l. array-entry f i) first many r)
      (λ r. link-of (reference_points f) (λ x. x < count f expressions) reference value r)
      (λ r. link-in f constants value r)
      (λ r. tt)
      (λ r. tt)
      (λ r. tt)
      (λ k r. never r)
    where
      enumerated : link_to (enumerated_entry f) value ≡ true → Link (Enumerated f) value
      enumerated r = link-of (enumerated_entry f) (Enumerated f) (enumerated-entry f) value r

      listed : run_of f entries (member_entry f) first many ≡ true → (first + many ≤ count f entries) × Run (InMembers f) first many
      listed r = run-of f entries (member_entry f) (InMembers f) (λ i l. member-entry f i) first many r

      reference : (x : ℕ) → reference_points f x ≡ true → x < count f expressions
      reference x r = number-in f expressions x (both (number_in f expressions x) (eqb (word f expressions x 0) 4 || eqb (word f expressions x 0) 5) r).0

-- ---- an accepted file
module _ (f : List ℕ) (a : Accepted f) where
  pub shape-pointed : (n : ℕ) → n < count f shapes → ShapePointed f n (shape_at f n)
  unfolding point_rules shape_at
  shape-pointed n h =
      shape-rule f n (word f shapes n 1) (word f shapes n 2) (word f shapes n 3) (word f shapes n 4) (word f shapes n 0) (point-rule f a shapes n (lit< tt) h)

  pub entry-pointed : (e : ℕ) → e < count f entries → EntryPointed f e (entry_at f e)
  unfolding point_rules entry_at
  entry-pointed e h = entry-rule f e (word f entries e 2) (word f entries e 3) (word f entries e 0) (point-rule f a entries e (lit< tt) h)

  pub expression-pointed : (x : ℕ) → x < count f expressions → ExpressionPointed f x (expression_at f x)
  unfolding point_rules expression_at
  expression-pointed x h = expression-rule f x (word f expressions x 1) (word f expressions x 0) (point-rule f a expressions x (lit< tt) h)

  pub declaration-pointed : (t : ℕ) → t < count f types → DeclarationPointed f (declaration_at f t)
  unfolding declaration_at declaration_kind
  declaration-pointed t h =
      declaration-rule f (word f types t 5) (word f types t 6) (word f types t 7) (word f types t 8) (word f types t 4) (type-points f a t h).declared

  pub initializer-pointed : (i : ℕ) → i < count f initializers → InitializerPointed f (initializer_at f i)
  unfolding initializer_at initializer_kind
  initializer-pointed i h =
      value-rule f (word f initializers i 3) (word f initializers i 4) (word f initializers i 5) (word f initializers i 6) (word f initializers i 7) (word f initializers i 0)
      (initializer-points f a i h).value

  -- a string's characters
  pub characters-inside : (c : ℕ) → c < count f constants → word f constants c 0 ≡ 8 → word f constants c 2 + word f constants c 3 ≤ count f characters
  unfolding point_rules constant_points
  characters-inside c h e =
      run_in_lem f characters (word f constants c 2) (word f constants c 3) (rw e at (point-rule f a constants c (lit< tt) h))

  -- ---- names that must be there
  pub member-named : (n : ℕ) → n < count f members → word f members n 0 ≡ 0 → ⊥
  unfolding plain_rules
  member-named n h = is_name_lem (word f members n 0) (word-rule f a members n (lit< tt) h)

  pub field-named : (n : ℕ) → n < count f shape_fields → word f shape_fields n 0 ≡ 0 → ⊥
  unfolding plain_rules shape_field_plain
  field-named n h = is_name_lem (word f shape_fields n 0) (both (is_name (word f shape_fields n 0)) (leb (word f shape_fields n 2) 1) (word-rule f a shape_fields n (lit< tt) h)).0

  pub block-field-named : (n : ℕ) → n < count f block_fields → word f block_fields n 0 ≡ 0 → ⊥
  unfolding plain_rules block_field_plain
  block-field-named n h = is_name_lem (word f block_fields n 0) (both (is_name (word f block_fields n 0)) (leb (word f block_fields n 2) 3) (word-rule f a block_fields n (lit< tt) h)).0

  pub element-named : (n : ℕ) → n < count f elements → word f elements n 0 ≡ 0 → ⊥
  unfolding plain_rules
  element-named n h = is_name_lem (word f elements n 0) (word-rule f a elements n (lit< tt) h)

  -- an enumerated entry's value
  pub value-named : (e : ℕ) → e < count f entries → word f entries e 0 ≡ 1 → word f entries e 2 ≡ 0 → ⊥
  unfolding plain_rules entry_plain
  value-named e h k = is_name_lem (word f entries e 2) (rw k at (word-rule f a entries e (lit< tt) h))

  -- a function block's or an interface's shape
  pub block-named : (n : ℕ) → n < count f shapes → word f shapes n 0 ≡ 14 → word f shapes n 1 ≡ 0 → ⊥
  unfolding plain_rules shape_plain
  block-named n h k = is_name_lem (word f shapes n 1) (both (is_name (word f shapes n 1)) _ (rw k at (word-rule f a shapes n (lit< tt) h))).0

  pub interface-named : (n : ℕ) → n < count f shapes → word f shapes n 0 ≡ 15 → word f shapes n 1 ≡ 0 → ⊥
  unfolding plain_rules shape_plain
  interface-named n h k = is_name_lem (word f shapes n 1) (both (is_name (word f shapes n 1)) _ (rw k at (word-rule f a shapes n (lit< tt) h))).0

-- what holds of every record of a run holds of the one that has a name
pub named-of : (f : List ℕ) (s name : ℕ) (P : ℕ → Type 0) (first many : ℕ) → Run P first many → Link P (first_named f s name first many)
unfolding first_named
named-of f s name P first zero r = tt
named-of f s name P first (suc k) r =
    on-pick (Link P) (eqb (word f s first 0) name) (suc first) (first_named f s name (suc first) k)
    (λ q. run_at P first (suc k) r first (omega arith) (omega arith))
    (λ q. named-of f s name P (suc first) k (λ j l. run_at P first (suc k) r (suc first + j) (omega arith) (omega arith)))
