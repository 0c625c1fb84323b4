-- What initializers and types start with: they ask only for uses, and of their trees is kept what is kept of the answers. Assumes nothing.
use Rattle.std.specs.Prelude.{◌≡◌, refl, ◌||◌, List, ◌++◌}
use Prim.Native.Nat.{ℕ, zero, suc, ◌≤◌}
use Rattle.std.proofs.Math.Dec.{eqb}
use Rattle.std.proofs.Common.{lit≤}
use Rattle.definition.specs.declared.records.Declaration.{Declaration}
use Rattle.definition.specs.declared.records.Declaration.TheVariants as decl
use Rattle.definition.specs.declared.records.Initializer.{Initializer}
use Rattle.definition.specs.declared.records.Initializer.TheVariants as init
use Rattle.definition.specs.Base.{inline}
use Rattle.definition.specs.Layout.{word, elements, variables, expressions}
use Rattle.definition.specs.Records.{alias_base, declaration_at, named_type, initializer_at, constant_at}
use Rattle.definition.specs.Syntax.{Inits, inits_at}
use Rattle.definition.specs.Tree.{null_tree, reference_tree, most_nodes}
use Rattle.definition.specs.Ask.{ok, none, large, Outcome, Ask, done, ◌>>=◌, give, nothing, type_default}
use Rattle.definition.specs.declared.records.Place.{Place}
use Rattle.definition.specs.Places.{place_of, field_place, variable_place}
use Rattle.definition.specs.Parts.{if_stated, field, enumerated_as, reference_as, name_default, is_instance}
use Rattle.definition.specs.Defaults as Defaults
use Rattle.definition.specs.Starting.{implicit, default_of, applied, constant_as, initializer_by, initializer, declaration, spec_default, alias_default_by, over_base, subrange_default, elements_from, variable_field, instance_from, body_by, body}
use Rattle.definition.specs.Uses.{linked, named_use, initializer_uses, variable_uses, declaration_uses}
use Rattle.laws.specs.Asks.{OnOk, asks-bind}
use Rattle.laws.specs.Cases.{on-pick, on-choose, on-link, on-stated}
use Rattle.laws.specs.Every.{Each}
use Rattle.laws.specs.Links.{Link, each-apart, each-linked, each-name, link-to, Naming, Leads}
use Rattle.laws.specs.Values.{leaf-null, leaf-reference, leaf-constant_value, leaf-enumerated_value}
use Rattle.laws.specs.Nearby.{Near, Below, below-near, near_of, alias-link, declared-uses, below_field, below-variable}
use Rattle.laws.specs.Gathers.{Kept, Value, Makes, Fields, value-leaf, within_none, within_more, gives_nothing, gives-give, gives_then, gives-field, gives-structured}
use Rattle.laws.specs.Starts.{gives-type, gives-implicit, gives-default}
use Rattle.laws.specs.Entries.{gives-applied, gives-array_of}

-- ---- values that ask for nothing
module _ (K : Kept) (f : List ℕ) (P : ℕ → Type 0) where
  gives-constant_as : (place : Place) (c : ℕ) → Makes K P (Value K) (constant_as f place c)
  unfolding Defaults.constant_as
  gives-constant_as place c = leaf-constant_value (Value K) (value-leaf K) f place.shape (constant_at f c)

  gives-enumerated_as : (place : Place) (e : ℕ) → Makes K P (Value K) (enumerated_as f place e)
  unfolding enumerated_as
  gives-enumerated_as place e = leaf-enumerated_value (Value K) (value-leaf K) f place.shape _ _

  gives-reference_as : (x : ℕ) → Makes K P (Value K) (reference_as f x)
  unfolding reference_as
  gives-reference_as x =
      gives-give K P (Value K) _ (on-pick (Value K) (eqb (word f expressions x 0) 4) null_tree (reference_tree x)
      (λ e. leaf-null (Value K) (value-leaf K)) (λ e. leaf-reference (Value K) (value-leaf K) x))

-- the default of a name that may be asked for
pub gives-name : (K : Kept) (P : ℕ → Type 0) (w : ℕ) → Link P w → Makes K P (Value K) (name_default w)
unfolding name_default
gives-name K P w h = on-link (Makes K P (Value K)) w nothing type_default (gives_nothing K P (Value K)) (λ d e. gives-type K P d (link-to P w d e h))

module _ (K : Kept) (f : List ℕ) (N P : ℕ → Type 0) (leads : Leads f N P) where
  -- ---- what an initializer gives a place
  pub gives-initializer_by : (place : Place) (i : Initializer) → Below P place → Makes K P (Value K) (initializer_by f place i)
  unfolding Defaults.initializer_by
  gives-initializer_by place i b = go i
    where
      start : Makes K P (Value K) (default_of f place)
      start = gives-default K f N P leads place b

      near : Near N P place
      near = below-near f N P leads place b

      stated : (value : ℕ) (g : ℕ → Ask Outcome) → ((n : ℕ) → Makes K P (Value K) (g n)) → Makes K P (Value K) (if_stated value (λ u. default_of f place) g)
      stated value g k = on-stated (Makes K P (Value K)) value (λ u. default_of f place) g start (λ n e. k n)

      applying : (is : Inits) → Makes K P (Value K) (default_of f place >>= applied f place is)
      applying is = gives_then K P (Value K) (Value K) (default_of f place) (applied f place is) start (λ t g. gives-applied K f N P leads place is t near g)

      go : (i : Initializer) → Makes K P (Value K) (initializer_by f place i)
      go init.Nothing = start
      go init.Interface = gives_nothing K P (Value K)
      go (init.Subrange value) = stated value (constant_as f place) (gives-constant_as K f P place)
      go (init.Simple value) = stated value (constant_as f place) (gives-constant_as K f P place)
      go (init.String value length width) = stated value (constant_as f place) (gives-constant_as K f P place)
      go (init.EnumeratedValues value) = stated value (enumerated_as f place) (gives-enumerated_as K f P place)
      go (init.EnumeratedType value) = stated value (enumerated_as f place) (gives-enumerated_as K f P place)
      go (init.FunctionBlock first count) = applying (inits_at f first count)
      go (init.Structure first count) = applying (inits_at f first count)
      go (init.Array first count) = on-choose (Makes K P (Value K)) (eqb count 0) _ _ (λ e. start) (λ e. gives-array_of K f N P leads place first count near)
      go (init.Reference value) = stated value (reference_as f) (gives-reference_as K f P)
      go (init.LateResolved value) = stated value (λ c. nothing) (λ n. gives_nothing K P (Value K))
      go init.Call = gives_nothing K P (Value K)
      go init.SimpleExpression = gives_nothing K P (Value K)
      go init.StringExpression = gives_nothing K P (Value K)
      go init.Unknown = gives_nothing K P (Value K)

  pub gives-initializer : (i : ℕ) (place : Place) → Below P place → Makes K P (Value K) (initializer f i place)
  unfolding Defaults.initializer
  gives-initializer i place b = gives-initializer_by place (initializer_at f i) b

  -- a variable asks for its type alone: what its initializer names is not looked at
  pub gives-declaration : (v : ℕ) → Link P (word f variables v 2) → Makes K P (Value K) (declaration f v)
  unfolding Defaults.declaration
  gives-declaration v h =
      on-choose (Makes K P (Value K)) (eqb (word f variables v 1) 2 || eqb (word f variables v 1) 3) _ _ (λ e. gives_nothing K P (Value K))
      (λ e. gives_then K P (Below P) (Value K) (done (variable_place f v (word f variables v 3))) (initializer f (word f variables v 3))
      (below-variable f N P leads v (word f variables v 3) h) (λ place b. gives-initializer (word f variables v 3) place b))

  -- ---- aliases
  pub gives-spec : (place : Place) (w : ℕ) → Near N P place → Each P (named_use w) → Makes K P (Value K) (spec_default f place w)
  unfolding Defaults.spec_default
  gives-spec place w n e =
      on-choose (Makes K P (Value K)) (eqb w inline) _ _ (λ b. gives-implicit K f N P leads place n) (λ b. gives-name K P w (each-name P w b e))

  pub gives-alias_by : (place : Place) (i : ℕ) (k : Initializer) → Near N P place → Each P (initializer_uses f i) → (Naming k → Link P (named_type f i))
      → Makes K P (Value K) (alias_default_by f place i k)
  unfolding Defaults.alias_default_by initializer_uses
  gives-alias_by place i k n e = go k
    where
      inner : Makes K P (Value K) (implicit f place)
      inner = gives-implicit K f N P leads place n

      spec : Makes K P (Value K) (spec_default f place (named_type f i))
      spec = gives-spec place (named_type f i) n (each-apart P (named_use (named_type f i)) _ e).0

      applying : (is : Inits) → Link P (named_type f i) → Makes K P (Value K) (name_default (named_type f i) >>= applied f place is)
      applying is h =
          gives_then K P (Value K) (Value K) (name_default (named_type f i)) (applied f place is) (gives-name K P (named_type f i) h)
          (λ t g. gives-applied K f N P leads place is t n g)

      go : (k : Initializer) → (Naming k → Link P (named_type f i)) → Makes K P (Value K) (alias_default_by f place i k)
      go init.Nothing h = inner
      go init.Interface h = inner
      go (init.Subrange value) h = spec
      go (init.Simple value) h = on-stated (Makes K P (Value K)) value _ (constant_as f place) (gives-name K P (named_type f i) (h tt)) (λ c q. gives-constant_as K f P place c)
      go (init.String value length width) h = on-stated (Makes K P (Value K)) value _ (constant_as f place) inner (λ c q. gives-constant_as K f P place c)
      go (init.EnumeratedValues value) h = inner
      go (init.EnumeratedType value) h = inner
      go (init.FunctionBlock first count) h = applying (inits_at f first count) (h tt)
      go (init.Structure first count) h = applying (inits_at f first count) (h tt)
      go (init.Array first count) h = on-choose (Makes K P (Value K)) (eqb count 0) _ _ (λ b. spec) (λ b. gives-array_of K f N P leads place first count n)
      go (init.Reference value) h = inner
      go (init.LateResolved value) h = inner
      go init.Call h = inner
      go init.SimpleExpression h = inner
      go init.StringExpression h = inner
      go init.Unknown h = gives_nothing K P (Value K)

  -- ---- declarations
  gives-over_base : (place : Place) (start : ℕ) (o : Outcome) → OnOk (Value K) o → Makes K P (Value K) (over_base f place start o)
  gives-over_base place start (ok t) h =
      on-stated (Makes K P (Value K)) start (λ u. give t) (constant_as f place) (gives-give K P (Value K) t h) (λ c q. gives-constant_as K f P place c)
  gives-over_base place start none h =
      on-stated (Makes K P (Value K)) start (λ u. nothing) (constant_as f place) (gives_nothing K P (Value K)) (λ c q. gives-constant_as K f P place c)
  gives-over_base place start large h = tt

  pub gives-subrange : (place : Place) (w start : ℕ) → Near N P place → Each P (named_use w) → Makes K P (Value K) (subrange_default f place w start)
  unfolding Defaults.subrange_default
  gives-subrange place w start n e =
      on-choose (Makes K P (Value K)) (eqb w 0) _ _ (λ b. gives_nothing K P (Value K))
      (λ b. asks-bind P (λ d o. OnOk (Value K) o) (OnOk (Value K)) (OnOk (Value K)) (spec_default f place w) (over_base f place start) (gives-spec place w n e)
      (gives-over_base place start))

  -- elements ask through their places alone
  pub gives-elements_from : (place : Place) (e k made size : ℕ) → Near N P place → suc size ≤ most_nodes → Makes K P (Fields K size) (elements_from f place e k made size)
  unfolding Defaults.elements_from
  gives-elements_from place e zero made size n r = within_none P _ K.fields size r
  gives-elements_from place e (suc k) made size n r =
      within_more P _ K.fields made size _ (elements_from f place (suc e) k)
      (gives_then K P (Value K) (Fields K size) (done (field_place f place (word f elements e 0)) >>= initializer f (word f elements e 1)) (field size (word f elements e 0))
      (gives_then K P (Below P) (Value K) (done (field_place f place (word f elements e 0))) (initializer f (word f elements e 1))
      (below_field f N P leads place (word f elements e 0) n) (λ inner b. gives-initializer (word f elements e 1) inner b))
      (λ t g. gives-field K P size (word f elements e 0) t g.good))
      (λ m s q. gives-elements_from place (suc e) k m s n q)

  pub gives-variable_field : (v size : ℕ) → Link P (word f variables v 2) → Makes K P (Fields K size) (variable_field f v size)
  unfolding Defaults.variable_field
  gives-variable_field v size h =
      on-choose (Makes K P (Fields K size)) (eqb (word f variables v 0) 0) _ _ (λ e. gives_nothing K P (Fields K size))
      (λ e. gives_then K P (Value K) (Fields K size) (declaration f v) (field size (word f variables v 0)) (gives-declaration v h)
      (λ t g. gives-field K P size (word f variables v 0) t g.good))

  pub gives-instance_from : (v k made size : ℕ) → Each P (variable_uses f v k) → suc size ≤ most_nodes → Makes K P (Fields K size) (instance_from f v k made size)
  unfolding Defaults.instance_from variable_uses
  gives-instance_from v zero made size e r = within_none P _ K.fields size r
  gives-instance_from v (suc k) made size e r =
      let apart = each-apart P (linked (word f variables v 2) ++ initializer_uses f (word f variables v 3)) (variable_uses f (suc v) k) e in
      let own = each-apart P (linked (word f variables v 2)) (initializer_uses f (word f variables v 3)) apart.0 in
      on-choose (Makes K P (Fields K size)) (is_instance (word f variables v 1)) _ _
      (λ q. within_more P _ K.fields made size (variable_field f v size) (instance_from f (suc v) k)
      (gives-variable_field v size (each-linked P (word f variables v 2) own.0)) (λ m s h. gives-instance_from (suc v) k m s apart.1 h))
      (λ q. gives-instance_from (suc v) k made size apart.1 r)

  -- ---- the default of a type
  gives-body_by : (t : ℕ) (place : Place) (d : Declaration) → Near N P place → Link P (alias_base f t) → Each P (declaration_uses f t d)
      → ((i : ℕ) → d ≡ decl.Simple (suc i) → Naming (initializer_at f i) → Link P (named_type f i)) → Makes K P (Value K) (body_by f t place d)
  unfolding Defaults.body_by declaration_uses
  gives-body_by t place decl.Nothing n a e h =
      on-stated (Makes K P (Value K)) (alias_base f t) _ type_default (gives-implicit K f N P leads place n) (λ d q. gives-type K P d (link-to P (alias_base f t) d q a))
  gives-body_by t place (decl.Simple zero) n a e h = gives_nothing K P (Value K)
  gives-body_by t place (decl.Simple (suc i)) n a e h = gives-alias_by place i (initializer_at f i) n e (h i refl)
  gives-body_by t place (decl.Subrange name start) n a e h = gives-subrange place name start n e
  gives-body_by t place (decl.String start) n a e h =
      on-stated (Makes K P (Value K)) start _ (constant_as f place) (gives-implicit K f N P leads place n) (λ c q. gives-constant_as K f P place c)
  gives-body_by t place (decl.Array name first count) n a e h =
      on-choose (Makes K P (Value K)) (eqb count 0) _ _ (λ b. gives-spec place name n e) (λ b. gives-array_of K f N P leads place first count n)
  gives-body_by t place (decl.Structure first count) n a e h =
      gives-structured K P (elements_from f place first count) (gives-elements_from place first count 0 0 n (lit≤ tt))
  gives-body_by t place (decl.Reference name) n a e h = gives-give K P (Value K) null_tree (leaf-null (Value K) (value-leaf K))
  gives-body_by t place (decl.Enumeration name) n a e h = gives-implicit K f N P leads place n
  gives-body_by t place (decl.LateBound name) n a e h = gives-implicit K f N P leads place n
  gives-body_by t place (decl.FunctionBlock first count) n a e h =
      gives-structured K P (instance_from f first count) (gives-instance_from first count 0 0 e (lit≤ tt))
  gives-body_by t place decl.Unknown n a e h = gives_nothing K P (Value K)

  pub body-asks : (t : ℕ) → N t → Makes K P (Value K) (body f t)
  unfolding Defaults.body
  body-asks t n =
      gives-body_by t (place_of f t) (declaration_at f t) (near_of f N P leads t n) (alias-link f N P leads t n) (declared-uses f N P leads t n)
      (λ i e. leads.names t i n e)
