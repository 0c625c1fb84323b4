-- What a place starts with (resolver.rs). The one rule: the initializer written for the place, else the default that its type declares, else the type's implicit
-- default, recursively for every field and element. Each function has the Rust's name and order; refusal 8 stands where a tree is formed.
use Rattle.std.specs.Prelude.{◌||◌, List, ℕ, zero, suc, eqb, leb}
use Rattle.definition.specs.declared.records.Declaration.{Declaration}
use Rattle.definition.specs.declared.records.Declaration.TheVariants as decl
use Rattle.definition.specs.declared.records.Initializer.{Initializer}
use Rattle.definition.specs.declared.records.Initializer.TheVariants as init
use Rattle.definition.specs.declared.records.Place.{Place}
use Rattle.definition.specs.Base.{choose, on_link, inline}
use Rattle.definition.specs.Layout.{word, count, shapes, elements, variables}
use Rattle.definition.specs.Records.{alias_base, declaration_at, named_type, initializer_at, constant_at}
use Rattle.definition.specs.Syntax.{Init, Inits, inil, icons, inits_at}
use Rattle.definition.specs.Tree.{Tree, Trees, tnil, many, one, rest, structure_tree, null_tree}
use Rattle.definition.specs.Ask.{Result, ok, none, large, Outcome, Ask, done, bind, ◌>>=◌, give, nothing, type_default, gathered, and_more}
use Rattle.definition.specs.Iec.{assigned}
use Rattle.definition.specs.Scalar.{enumerated_value, expression_by}
use Rattle.definition.specs.Shapes.{on_shape}
use Rattle.definition.specs.Places.{place_of, field_place, names_in, block_field_names, variable_place}
use Rattle.definition.specs.declared.records.Shape.{Shape}
use Rattle.definition.specs.declared.records.Constant.{Constant}
use Rattle.definition.specs.Parts.{Starts, if_stated, on_fields, on_first, on_named, Fills, array_by, added, copied, defaulted, field, fields_by, structured, default_by, enumerated_as, reference_as, name_default, is_instance}

-- what decides a value without parts: what a constant gives a place of a shape, and what a shape starts at by itself
pub record Leaves : Type 0 where
  pub constant : Shape → Constant → Outcome
  pub built_in : Shape → Outcome

module _ (leaves : Leaves) where
  -- ---- the implicit default (`implicit`), where `default` says how the places inside start
  unfoldable pub implicit_by : List ℕ → Starts → Starts
  implicit_by f default place =
      let single : Unit {0} → Ask Outcome = λ u. done (leaves.built_in place.shape) in
      on_shape place.shape
      (λ length width. single tt)
      (λ first many. single tt)
      (λ first many. structured (fields_by f default place (names_in f first many)))
      (λ s first many. array_by f default place (λ leaf defaults made size. give tnil))
      (λ u. done (block_field_names f place) >>= λ names. structured (fields_by f default place names))
      single
      single

  -- the places inside have lower shapes, so that there are at most as many levels as shapes, and one for a string that has none
  unfoldable pub implicit_up_to : List ℕ → ℕ → Starts
  implicit_up_to f zero place = nothing
  implicit_up_to f (suc k) place = implicit_by f (default_by (implicit_up_to f k)) place

  unfoldable pub implicit : List ℕ → Starts
  implicit f place = implicit_up_to f (suc (count f shapes)) place

  unfoldable pub default_of : List ℕ → Starts
  default_of f place = default_by (implicit f) place

  -- ---- entries (`expand`, `members`, `member`)
  -- Array entries give the values that they append. A member list changes the fields of a structure, the later value of a name last.
  unfoldable mutual
    pub expand : List ℕ → Init → Fills
    expand f (Init.constant c) leaf defaults made size = done (leaves.constant leaf.shape c) >>= λ t. added (many defaults) made size (one t)
    expand f (Init.enumerated v q) leaf defaults made size = done (enumerated_value f leaf.shape v q) >>= λ t. added (many defaults) made size (one t)
    expand f (Init.array is) leaf defaults made size = nothing
    expand f (Init.structure is) leaf defaults made size =
        on_first (rest made defaults) (λ base ts. on_fields base (λ fields. members f is leaf fields) >>= λ t. added (many defaults) made size (one t))
    expand f (Init.expr x) leaf defaults made size = done (expression_by leaves.constant f leaf.shape x) >>= λ t. added (many defaults) made size (one t)
    expand f Init.late_bound leaf defaults made size = nothing
    expand f (Init.repeated k i) leaf defaults made size =
        choose (leb k (many defaults))
        (λ u. expand f i leaf (rest made defaults) 0 0 >>= λ repetition. copied k repetition (many defaults) made size)
        (λ u. nothing)
    expand f (Init.defaults k) leaf defaults made size =
        choose (leb k (many defaults)) (λ u. defaulted k (rest made defaults) (many defaults) made size) (λ u. nothing)

    pub expand_all : List ℕ → Inits → Fills
    expand_all f inil leaf defaults made size = give tnil
    expand_all f (icons name i is) leaf defaults made size = and_more made size (expand f i leaf defaults made size) (λ m s. expand_all f is leaf defaults m s)

    pub members : List ℕ → Inits → Place → Trees → Ask Outcome
    members f inil place fields = give (structure_tree fields)
    members f (icons name i is) place fields =
        on_named name fields (λ current.
        done (field_place f place name)
        >>= λ inner. member f i inner current
        >>= λ t. gathered 0 (assigned name t fields)
        >>= λ changed. members f is place changed)

    pub member : List ℕ → Init → Place → Tree → Ask Outcome
    member f (Init.constant c) place current = done (leaves.constant place.shape c)
    member f (Init.enumerated v q) place current = done (enumerated_value f place.shape v q)
    member f (Init.array is) place current = array_by f (default_of f) place (λ leaf defaults made size. expand_all f is leaf defaults made size)
    member f (Init.structure is) place current = on_fields current (λ fields. members f is place fields)
    member f (Init.expr x) place current = done (expression_by leaves.constant f place.shape x)
    member f Init.late_bound place current = nothing
    member f (Init.repeated k i) place current = nothing
    member f (Init.defaults k) place current = nothing

  abbrev pub applied : List ℕ → Place → Inits → Tree → Ask Outcome
  applied f place is base = on_fields base (members f is place)

  -- the array of a run of entries (`array`)
  unfoldable pub array_of : List ℕ → Place → ℕ → ℕ → Ask Outcome
  array_of f place first count = array_by f (default_of f) place (expand_all f (inits_at f first count))

  -- ---- what an initializer gives a place (`initializer`)
  unfoldable pub constant_as : List ℕ → Place → ℕ → Ask Outcome
  constant_as f place c = done (leaves.constant place.shape (constant_at f c))

  unfoldable pub initializer_by : List ℕ → Place → Initializer → Ask Outcome
  initializer_by f place init.Nothing = default_of f place
  initializer_by f place init.Interface = nothing
  initializer_by f place (init.Subrange value) = if_stated value (λ u. default_of f place) (constant_as f place)
  initializer_by f place (init.Simple value) = if_stated value (λ u. default_of f place) (constant_as f place)
  initializer_by f place (init.String value length width) = if_stated value (λ u. default_of f place) (constant_as f place)
  initializer_by f place (init.EnumeratedValues value) = if_stated value (λ u. default_of f place) (enumerated_as f place)
  initializer_by f place (init.EnumeratedType value) = if_stated value (λ u. default_of f place) (enumerated_as f place)
  initializer_by f place (init.FunctionBlock first count) = default_of f place >>= applied f place (inits_at f first count)
  initializer_by f place (init.Structure first count) = default_of f place >>= applied f place (inits_at f first count)
  initializer_by f place (init.Array first count) = choose (eqb count 0) (λ u. default_of f place) (λ u. array_of f place first count)
  initializer_by f place (init.Reference value) = if_stated value (λ u. default_of f place) (reference_as f)
  initializer_by f place (init.LateResolved value) = if_stated value (λ u. default_of f place) (λ c. nothing)
  initializer_by f place init.Call = nothing
  initializer_by f place init.SimpleExpression = nothing
  initializer_by f place init.StringExpression = nothing
  initializer_by f place init.Unknown = nothing

  unfoldable pub initializer : List ℕ → ℕ → Place → Ask Outcome
  initializer f i place = initializer_by f place (initializer_at f i)

  -- ---- what a variable starts with (`declaration`): none for an in-out or an external
  unfoldable pub declaration : List ℕ → ℕ → Ask Outcome
  declaration f v =
      choose (eqb (word f variables v 1) 2 || eqb (word f variables v 1) 3)
      (λ u. nothing)
      (λ u. done (variable_place f v (word f variables v 3)) >>= initializer f (word f variables v 3))

  -- ---- the default that an alias gives its type (`alias_default`): its own initializer over the default of the type that it names
  -- the default of a named type, or the implicit default where the type is spelled in place
  unfoldable pub spec_default : List ℕ → Place → ℕ → Ask Outcome
  spec_default f place name = choose (eqb name inline) (λ u. implicit f place) (λ u. name_default name)

  unfoldable pub alias_default_by : List ℕ → Place → ℕ → Initializer → Ask Outcome
  alias_default_by f place i init.Nothing = implicit f place
  alias_default_by f place i init.Interface = implicit f place
  alias_default_by f place i (init.Subrange value) = spec_default f place (named_type f i)
  alias_default_by f place i (init.Simple value) = if_stated value (λ u. name_default (named_type f i)) (constant_as f place)
  alias_default_by f place i (init.String value length width) = if_stated value (λ u. implicit f place) (constant_as f place)
  alias_default_by f place i (init.EnumeratedValues value) = implicit f place
  alias_default_by f place i (init.EnumeratedType value) = implicit f place
  alias_default_by f place i (init.FunctionBlock first count) = name_default (named_type f i) >>= applied f place (inits_at f first count)
  alias_default_by f place i (init.Structure first count) = name_default (named_type f i) >>= applied f place (inits_at f first count)
  alias_default_by f place i (init.Array first count) =
      choose (eqb count 0) (λ u. spec_default f place (named_type f i)) (λ u. array_of f place first count)
  alias_default_by f place i (init.Reference value) = implicit f place
  alias_default_by f place i (init.LateResolved value) = implicit f place
  alias_default_by f place i init.Call = implicit f place
  alias_default_by f place i init.SimpleExpression = implicit f place
  alias_default_by f place i init.StringExpression = implicit f place
  alias_default_by f place i init.Unknown = nothing

  -- ---- the default that a type's declaration gives it (`declared_default`)
  -- a subrange's own start value wins although its base gives none, but not where the base is too large
  abbrev pub over_base : List ℕ → Place → ℕ → Outcome → Ask Outcome
  over_base f place start (ok t) = if_stated start (λ u. give t) (constant_as f place)
  over_base f place start none = if_stated start (λ u. nothing) (constant_as f place)
  over_base f place start large = done large

  unfoldable pub subrange_default : List ℕ → Place → ℕ → ℕ → Ask Outcome
  subrange_default f place name start = choose (eqb name 0) (λ u. nothing) (λ u. bind (spec_default f place name) (over_base f place start))

  -- each element of a structure's declaration
  unfoldable pub elements_from : List ℕ → Place → ℕ → ℕ → ℕ → ℕ → Ask (Result Trees)
  elements_from f place e zero made size = give tnil
  elements_from f place e (suc k) made size =
      and_more made size
      (done (field_place f place (word f elements e 0)) >>= initializer f (word f elements e 1) >>= field size (word f elements e 0))
      (elements_from f place (suc e) k)

  -- ---- an instance of a function block (`block_default`): its inputs, outputs and internal variables, each of which has a name
  unfoldable pub variable_field : List ℕ → ℕ → ℕ → Ask (Result Trees)
  variable_field f v size = choose (eqb (word f variables v 0) 0) (λ u. nothing) (λ u. declaration f v >>= field size (word f variables v 0))

  unfoldable pub instance_from : List ℕ → ℕ → ℕ → ℕ → ℕ → Ask (Result Trees)
  instance_from f v zero made size = give tnil
  instance_from f v (suc k) made size =
      choose (is_instance (word f variables v 1))
      (λ u. and_more made size (variable_field f v size) (instance_from f (suc v) k))
      (λ u. instance_from f (suc v) k made size)

  unfoldable pub body_by : List ℕ → ℕ → Place → Declaration → Ask Outcome
  body_by f t place decl.Nothing = if_stated (alias_base f t) (λ u. implicit f place) type_default
  body_by f t place (decl.Simple start) = on_link start nothing (λ i. alias_default_by f place i (initializer_at f i))
  body_by f t place (decl.Subrange name start) = subrange_default f place name start
  body_by f t place (decl.String start) = if_stated start (λ u. implicit f place) (constant_as f place)
  body_by f t place (decl.Array name first count) = choose (eqb count 0) (λ u. spec_default f place name) (λ u. array_of f place first count)
  body_by f t place (decl.Structure first count) = structured (elements_from f place first count)
  body_by f t place (decl.Reference name) = give null_tree
  body_by f t place (decl.Enumeration name) = implicit f place
  body_by f t place (decl.LateBound name) = implicit f place
  body_by f t place (decl.FunctionBlock first count) = structured (instance_from f first count)
  body_by f t place decl.Unknown = nothing

  -- ---- the default of the type t as its record says it (`type_default`)
  unfoldable pub body : List ℕ → ℕ → Ask Outcome
  body f t = body_by f t (place_of f t) (declaration_at f t)

-- what this file computes with
unfoldable pub opened : Unit {0}
unfolding implicit_by implicit_up_to implicit default_of expand array_of constant_as initializer_by initializer declaration spec_default alias_default_by subrange_default elements_from variable_field instance_from body_by body
opened = tt
