-- Of two ways to decide the values without parts, the second gives what the first gives with the characters cut taken out: then so do all answers. Assumes nothing.
use Rattle.std.specs.Prelude.{◌≡◌, refl, ◌||◌, leb}
use Rattle.std.proofs.Math.Path.{ap}
use mathlib.Core.List.{List}
use Prim.Native.Nat.{ℕ, zero, suc}
use Rattle.std.proofs.Math.Dec.{eqb}
use Rattle.definition.specs.declared.records.Shape.{Shape}
use Rattle.definition.specs.declared.records.Constant.{Constant}
use Rattle.definition.specs.declared.records.Declaration.{Declaration}
use Rattle.definition.specs.declared.records.Declaration.TheVariants as decl
use Rattle.definition.specs.declared.records.Initializer.{Initializer}
use Rattle.definition.specs.declared.records.Initializer.TheVariants as init
use Rattle.definition.specs.declared.records.Place.{Place}
use Rattle.definition.specs.Base.{inline}
use Rattle.definition.specs.Layout.{word, count, shapes, types, elements, variables, entries, expressions}
use Rattle.definition.specs.Records.{alias_base, declaration_at, named_type, initializer_at, constant_at}
use Rattle.definition.specs.Syntax.{Expr, Init, Inits, inil, icons, inits_at}
use Rattle.definition.specs.Tree.{Tree, Trees, many, rest, enumerated_tree, null_tree, reference_tree, expression_tree}
use Rattle.definition.specs.Ask.{ok, none, large, Outcome, Ask, done}
use Rattle.definition.specs.Iec.{assigned}
use Rattle.definition.specs.Scalar.{is_member, enumerated_value, expression_by}
use Rattle.definition.specs.Shapes.{is_reference}
use Rattle.definition.specs.Places.{place_of, field_place, names_in, block_field_names, variable_place}
use Rattle.definition.specs.Parts.{Starts, fields_by, structured, enumerated_as, reference_as, is_instance}
use Rattle.definition.specs.Defaults.{Leaves, implicit_by, implicit_up_to, implicit, default_of, expand, expand_all, members, member, applied, array_of, constant_as, initializer_by, initializer, declaration, spec_default, alias_default_by, over_base, subrange_default, elements_from, variable_field, instance_from, body_by, body}
use Rattle.definition.specs.Resolve as Resolve
use Rattle.definition.specs.Resolve.{declared_below}
use Rattle.laws.specs.Cases.{on-pick, on_shape_lem}
use Rattle.laws.specs.Uncut.{uncut_tree, uncut_all, uncut_outcome, many-uncut, leaf-uncut, rest-uncut, assigned-uncut}
use Rattle.laws.specs.Alike.{Alike, gives, alike-done, alike-give, alike-nothing, alike_stated, alike-shape, alike-choose, alike-type, alike-bind, alike_then, alike_from, alike-nil, alike-gathered, alike-more, alike-fields, alike-first, alike-named, alike-one, alike-copied, alike-defaulted, alike-field, structure-uncut, alike-structured, alike-name, StartsAlike, FillsAlike, alike-array, alike-fields_by, alike-default_by, after-uncut}

-- ---- values without characters
enumerated-uncut : (f : List ℕ) (s : Shape) (value qualifier : ℕ) → uncut_outcome (enumerated_value f s value qualifier) ≡ enumerated_value f s value qualifier
unfolding enumerated_value enumerated_tree
enumerated-uncut f s value qualifier =
    on_shape_lem (λ o. uncut_outcome o ≡ o) s _ _ _ _ _ _ _ (λ a b. refl)
    (λ first many. on-pick (λ o. uncut_outcome o ≡ o) (is_member f first many value) _ _ (λ e. ap ok (leaf-uncut 9 0 value qualifier 0 refl)) (λ e. refl))
    (λ a b. refl) (λ e a b. refl) refl refl refl

later-uncut : (n : ℕ) → uncut_outcome (ok (expression_tree n)) ≡ ok (expression_tree n)
unfolding expression_tree
later-uncut n = ap ok (leaf-uncut 12 0 n 0 0 refl)

null-uncut : uncut_tree null_tree ≡ null_tree
unfolding null_tree
null-uncut = leaf-uncut 10 0 0 0 0 refl

reference-uncut : (x : ℕ) → uncut_tree (reference_tree x) ≡ reference_tree x
unfolding reference_tree
reference-uncut x = leaf-uncut 11 0 x 0 0 refl

module _ (f : List ℕ) (l m : Leaves) (constants : (s : Shape) (c : Constant) → uncut_outcome (l.constant s c) ≡ m.constant s c)
    (built : (s : Shape) → uncut_outcome (l.built_in s) ≡ m.built_in s) where
  expression-uncut : (s : Shape) (x : Expr) → uncut_outcome (expression_by l.constant f s x) ≡ expression_by m.constant f s x
  unfolding expression_by
  expression-uncut s (Expr.constant c) = constants s c
  expression-uncut s (Expr.enumerated value qualifier) = enumerated-uncut f s value qualifier
  expression-uncut s (Expr.parentheses x) = expression-uncut s x
  expression-uncut s (Expr.conversion n (Expr.constant c)) = constants s c
  expression-uncut s (Expr.conversion n (Expr.enumerated value qualifier)) = enumerated-uncut f s value qualifier
  expression-uncut s (Expr.conversion n (Expr.parentheses x)) = later-uncut n
  expression-uncut s (Expr.conversion n (Expr.conversion m x)) = later-uncut n
  expression-uncut s (Expr.conversion n (Expr.null m)) = later-uncut n
  expression-uncut s (Expr.conversion n (Expr.other m)) = later-uncut n
  expression-uncut s (Expr.null n) = on-pick (λ t. uncut_outcome (ok t) ≡ ok t) (is_reference s) null_tree (expression_tree n) (λ e. ap ok null-uncut) (λ e. later-uncut n)
  expression-uncut s (Expr.other n) = later-uncut n

  -- ---- what a place starts with by itself
  alike-implicit_by : (d d' : Starts) → StartsAlike d d' → StartsAlike (implicit_by l f d) (implicit_by m f d')
  unfolding implicit_by
  alike-implicit_by d d' start place =
      let single : Alike uncut_tree (done (l.built_in place.shape)) (done (m.built_in place.shape)) = alike-done (built place.shape) in
      let fields : (names : List ℕ) → Alike uncut_tree (structured (fields_by f d place names)) (structured (fields_by f d' place names)) =
      λ names. alike-structured _ _ (alike-fields_by f d d' start place names 0 0) in
      alike-shape
      (λ length width. single)
      (λ first many. single)
      (λ first many. fields (names_in f first many))
      (λ s first many. alike-array f d d' start place _ _ (λ leaf defaults made size. alike-nil))
      (alike_from (block_field_names f place) fields)
      single
      single
      place.shape

  alike-implicit_up_to : (k : ℕ) → StartsAlike (implicit_up_to l f k) (implicit_up_to m f k)
  unfolding implicit_up_to
  alike-implicit_up_to zero place = alike-nothing
  alike-implicit_up_to (suc k) place = alike-implicit_by _ _ (alike-default_by (implicit_up_to l f k) (implicit_up_to m f k) (alike-implicit_up_to k)) place

  alike-implicit : StartsAlike (implicit l f) (implicit m f)
  unfolding implicit
  alike-implicit place = alike-implicit_up_to (suc (count f shapes)) place

  alike-default : StartsAlike (default_of l f) (default_of m f)
  unfolding default_of
  alike-default place = alike-default_by (implicit l f) (implicit m f) alike-implicit place

  -- ---- entries
  mutual
    unfolding expand

    alike-expand : (i : Init) → FillsAlike (expand l f i) (expand m f i)
    alike-expand (Init.constant c) leaf defaults made size =
        rw (many-uncut defaults) (alike_then _ (alike-done (constants leaf.shape c)) (alike-one (many defaults) made size))
    alike-expand (Init.enumerated v q) leaf defaults made size =
        rw (many-uncut defaults) (alike_then _ (alike-done (enumerated-uncut f leaf.shape v q)) (alike-one (many defaults) made size))
    alike-expand (Init.array is) leaf defaults made size = alike-nothing
    alike-expand (Init.structure is) leaf defaults made size =
        rw (many-uncut defaults, ← rest-uncut made defaults) (alike-first (rest made defaults) _
        (λ base ts. alike_then _ (alike-fields base (members m f is leaf) (λ fields. alike-members is leaf fields)) (alike-one (many defaults) made size)))
    alike-expand (Init.expr x) leaf defaults made size =
        rw (many-uncut defaults) (alike_then _ (alike-done (expression-uncut leaf.shape x)) (alike-one (many defaults) made size))
    alike-expand Init.late_bound leaf defaults made size = alike-nothing
    alike-expand (Init.repeated k i) leaf defaults made size =
        rw (many-uncut defaults, ← rest-uncut made defaults) (alike-choose (leb k (many defaults))
        (alike_then _ (alike-expand i leaf (rest made defaults) 0 0) (λ ts. alike-copied k ts (many defaults) made size)) alike-nothing)
    alike-expand (Init.defaults k) leaf defaults made size =
        rw (many-uncut defaults, ← rest-uncut made defaults) (alike-choose (leb k (many defaults))
        (alike-defaulted k (rest made defaults) (many defaults) made size) alike-nothing)

    alike-expand_all : (is : Inits) → FillsAlike (expand_all l f is) (expand_all m f is)
    alike-expand_all inil leaf defaults made size = alike-nil
    alike-expand_all (icons name i is) leaf defaults made size =
        alike-more made size (alike-expand i leaf defaults made size) (λ k s. alike-expand_all is leaf defaults k s)

    alike-members : (is : Inits) (place : Place) (fields : Trees) → Alike uncut_tree (members l f is place fields) (members m f is place (uncut_all fields))
    alike-members inil place fields = alike-give _ (structure-uncut fields)
    alike-members (icons name i is) place fields =
        alike-named name fields _ (λ current. alike_from (field_place f place name) (λ inner. alike_then _ (alike-member i inner current)
        (λ t. rw (← assigned-uncut name t fields) (alike_then _ (alike-gathered 0 (assigned name t fields)) (λ changed. alike-members is place changed)))))

    alike-member : (i : Init) (place : Place) (current : Tree) → Alike uncut_tree (member l f i place current) (member m f i place (uncut_tree current))
    alike-member (Init.constant c) place current = alike-done (constants place.shape c)
    alike-member (Init.enumerated v q) place current = alike-done (enumerated-uncut f place.shape v q)
    alike-member (Init.array is) place current =
        alike-array f _ _ alike-default place _ _ (λ leaf defaults made size. alike-expand_all is leaf defaults made size)
    alike-member (Init.structure is) place current = alike-fields current (members m f is place) (λ fields. alike-members is place fields)
    alike-member (Init.expr x) place current = alike-done (expression-uncut place.shape x)
    alike-member Init.late_bound place current = alike-nothing
    alike-member (Init.repeated k i) place current = alike-nothing
    alike-member (Init.defaults k) place current = alike-nothing

  alike-applied : (place : Place) (is : Inits) (base : Tree) → Alike uncut_tree (applied l f place is base) (applied m f place is (uncut_tree base))
  alike-applied place is base = alike-fields base (members m f is place) (alike-members is place)

  alike-array_of : (place : Place) (first many : ℕ) → Alike uncut_tree (array_of l f place first many) (array_of m f place first many)
  unfolding array_of
  alike-array_of place first many = alike-array f _ _ alike-default place _ _ (alike-expand_all (inits_at f first many))

  -- ---- initializers
  alike-constant_as : (place : Place) (c : ℕ) → Alike uncut_tree (constant_as l f place c) (constant_as m f place c)
  unfolding constant_as
  alike-constant_as place c = alike-done (constants place.shape (constant_at f c))

  alike-enumerated_as : (place : Place) (e : ℕ) → Alike uncut_tree (enumerated_as f place e) (enumerated_as f place e)
  unfolding enumerated_as
  alike-enumerated_as place e = alike-done (enumerated-uncut f place.shape (word f entries e 2) (word f entries e 3))

  alike-reference_as : (x : ℕ) → Alike uncut_tree (reference_as f x) (reference_as f x)
  unfolding reference_as
  alike-reference_as x =
      alike-give _ (on-pick (λ t. uncut_tree t ≡ t) (eqb (word f expressions x 0) 4) null_tree (reference_tree x) (λ e. null-uncut) (λ e. reference-uncut x))

  alike-initializer_by : (place : Place) (i : Initializer) → Alike uncut_tree (initializer_by l f place i) (initializer_by m f place i)
  unfolding initializer_by
  alike-initializer_by place init.Nothing = alike-default place
  alike-initializer_by place init.Interface = alike-nothing
  alike-initializer_by place (init.Subrange value) = alike_stated value (alike-default place) (alike-constant_as place)
  alike-initializer_by place (init.Simple value) = alike_stated value (alike-default place) (alike-constant_as place)
  alike-initializer_by place (init.String value length width) = alike_stated value (alike-default place) (alike-constant_as place)
  alike-initializer_by place (init.EnumeratedValues value) = alike_stated value (alike-default place) (alike-enumerated_as place)
  alike-initializer_by place (init.EnumeratedType value) = alike_stated value (alike-default place) (alike-enumerated_as place)
  alike-initializer_by place (init.FunctionBlock first many) = alike_then _ (alike-default place) (alike-applied place (inits_at f first many))
  alike-initializer_by place (init.Structure first many) = alike_then _ (alike-default place) (alike-applied place (inits_at f first many))
  alike-initializer_by place (init.Array first many) = alike-choose (eqb many 0) (alike-default place) (alike-array_of place first many)
  alike-initializer_by place (init.Reference value) = alike_stated value (alike-default place) alike-reference_as
  alike-initializer_by place (init.LateResolved value) = alike_stated value (alike-default place) (λ c. alike-nothing)
  alike-initializer_by place init.Call = alike-nothing
  alike-initializer_by place init.SimpleExpression = alike-nothing
  alike-initializer_by place init.StringExpression = alike-nothing
  alike-initializer_by place init.Unknown = alike-nothing

  alike-initializer : (i : ℕ) → StartsAlike (initializer l f i) (initializer m f i)
  unfolding initializer
  alike-initializer i place = alike-initializer_by place (initializer_at f i)

  alike-declaration : (v : ℕ) → Alike uncut_tree (declaration l f v) (declaration m f v)
  unfolding declaration
  alike-declaration v =
      alike-choose (eqb (word f variables v 1) 2 || eqb (word f variables v 1) 3) alike-nothing
      (alike_from (variable_place f v (word f variables v 3)) (alike-initializer (word f variables v 3)))

  -- ---- aliases
  alike_spec : (place : Place) (w : ℕ) → Alike uncut_tree (spec_default l f place w) (spec_default m f place w)
  unfolding spec_default
  alike_spec place w = alike-choose (eqb w inline) (alike-implicit place) (alike-name w)

  alike-alias_by : (place : Place) (i : ℕ) (k : Initializer) → Alike uncut_tree (alias_default_by l f place i k) (alias_default_by m f place i k)
  unfolding alias_default_by
  alike-alias_by place i init.Nothing = alike-implicit place
  alike-alias_by place i init.Interface = alike-implicit place
  alike-alias_by place i (init.Subrange value) = alike_spec place (named_type f i)
  alike-alias_by place i (init.Simple value) = alike_stated value (alike-name (named_type f i)) (alike-constant_as place)
  alike-alias_by place i (init.String value length width) = alike_stated value (alike-implicit place) (alike-constant_as place)
  alike-alias_by place i (init.EnumeratedValues value) = alike-implicit place
  alike-alias_by place i (init.EnumeratedType value) = alike-implicit place
  alike-alias_by place i (init.FunctionBlock first many) = alike_then _ (alike-name (named_type f i)) (alike-applied place (inits_at f first many))
  alike-alias_by place i (init.Structure first many) = alike_then _ (alike-name (named_type f i)) (alike-applied place (inits_at f first many))
  alike-alias_by place i (init.Array first many) = alike-choose (eqb many 0) (alike_spec place (named_type f i)) (alike-array_of place first many)
  alike-alias_by place i (init.Reference value) = alike-implicit place
  alike-alias_by place i (init.LateResolved value) = alike-implicit place
  alike-alias_by place i init.Call = alike-implicit place
  alike-alias_by place i init.SimpleExpression = alike-implicit place
  alike-alias_by place i init.StringExpression = alike-implicit place
  alike-alias_by place i init.Unknown = alike-nothing

  -- ---- declarations
  alike-over_base : (place : Place) (start : ℕ) (o : Outcome) → Alike uncut_tree (over_base l f place start o) (over_base m f place start (uncut_outcome o))
  alike-over_base place start (ok t) = alike_stated start (alike-give t refl) (alike-constant_as place)
  alike-over_base place start none = alike_stated start alike-nothing (alike-constant_as place)
  alike-over_base place start large = gives large

  alike-subrange : (place : Place) (w start : ℕ) → Alike uncut_tree (subrange_default l f place w start) (subrange_default m f place w start)
  unfolding subrange_default
  alike-subrange place w start =
      alike-choose (eqb w 0) alike-nothing (alike-bind (over_base m f place start) (alike_spec place w) (alike-over_base place start))

  alike-elements_from : (place : Place) (e k made size : ℕ) → Alike uncut_all (elements_from l f place e k made size) (elements_from m f place e k made size)
  unfolding elements_from
  alike-elements_from place e zero made size = alike-nil
  alike-elements_from place e (suc k) made size =
      let name : ℕ = word f elements e 0 in
      alike-more made size (alike_then _ (alike_from (field_place f place name) (alike-initializer (word f elements e 1))) (alike-field size name))
      (λ n s. alike-elements_from place (suc e) k n s)

  alike-variable_field : (v size : ℕ) → Alike uncut_all (variable_field l f v size) (variable_field m f v size)
  unfolding variable_field
  alike-variable_field v size =
      alike-choose (eqb (word f variables v 0) 0) alike-nothing (alike_then _ (alike-declaration v) (alike-field size (word f variables v 0)))

  alike-instance_from : (v k made size : ℕ) → Alike uncut_all (instance_from l f v k made size) (instance_from m f v k made size)
  unfolding instance_from
  alike-instance_from v zero made size = alike-nil
  alike-instance_from v (suc k) made size =
      alike-choose (is_instance (word f variables v 1))
      (alike-more made size (alike-variable_field v size) (λ n s. alike-instance_from (suc v) k n s)) (alike-instance_from (suc v) k made size)

  alike-body_by : (t : ℕ) (place : Place) (d : Declaration) → Alike uncut_tree (body_by l f t place d) (body_by m f t place d)
  unfolding body_by
  alike-body_by t place decl.Nothing = alike_stated (alias_base f t) (alike-implicit place) alike-type
  alike-body_by t place (decl.Simple zero) = alike-nothing
  alike-body_by t place (decl.Simple (suc i)) = alike-alias_by place i (initializer_at f i)
  alike-body_by t place (decl.Subrange name start) = alike-subrange place name start
  alike-body_by t place (decl.String start) = alike_stated start (alike-implicit place) (alike-constant_as place)
  alike-body_by t place (decl.Array name first many) = alike-choose (eqb many 0) (alike_spec place name) (alike-array_of place first many)
  alike-body_by t place (decl.Structure first many) = alike-structured _ _ (alike-elements_from place first many 0 0)
  alike-body_by t place (decl.Reference name) = alike-give null_tree null-uncut
  alike-body_by t place (decl.Enumeration name) = alike-implicit place
  alike-body_by t place (decl.LateBound name) = alike-implicit place
  alike-body_by t place (decl.FunctionBlock first many) = alike-structured _ _ (alike-instance_from first many 0 0)
  alike-body_by t place decl.Unknown = alike-nothing

  alike-body : (t : ℕ) → Alike uncut_tree (body l f t) (body m f t)
  unfolding body
  alike-body t = alike-body_by t (place_of f t) (declaration_at f t)

  -- ---- answers
  answer-uncut : {p q : Ask Outcome} → Alike uncut_tree p q → uncut_outcome (Resolve.answer l f p) ≡ Resolve.answer m f q
  unfolding Resolve.answer Resolve.remembered
  answer-uncut h = after-uncut (body l f) (body m f) alike-body (count f types) (declared_below f (count f types)) h

  pub type-uncut : (t : ℕ) → uncut_outcome (Resolve.type_outcome l f t) ≡ Resolve.type_outcome m f t
  unfolding Resolve.type_outcome
  type-uncut t = answer-uncut (alike-type t)

  pub variable-uncut : (v : ℕ) → uncut_outcome (Resolve.variable_outcome l f v) ≡ Resolve.variable_outcome m f v
  unfolding Resolve.variable_outcome
  variable-uncut v = answer-uncut (alike-declaration v)
