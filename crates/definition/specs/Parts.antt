-- What arrays and structures are made of, and where a link leads (resolver.rs). Each function has the Rust's name and order; refusal 8 stands where a tree is formed.
use Rattle.std.specs.Prelude.{Bool, ◌||◌, List, [], ◌∷◌, ℕ, zero, suc, ◌+◌, ◌*◌, eqb, leb}
use Rattle.definition.specs.declared.records.Place.{Place}
use Rattle.definition.specs.Base.{pick, choose, on_link}
use Rattle.definition.specs.Layout.{word, entries, expressions}
use Rattle.definition.specs.Accept.{elements_of}
use Rattle.definition.specs.Tree.{Tree, Trees, tnil, tcons, head, parts, many, nodes_in, one, times, named, array_tree, structure_tree, null_tree, reference_tree, most_nodes}
use Rattle.definition.specs.Ask.{Result, large, Outcome, Ask, done, ◌>>=◌, give, nothing, type_default, formed, gathered, and_more}
use Rattle.definition.specs.Iec.{filled}
use Rattle.definition.specs.Scalar.{enumerated_value}
use Rattle.definition.specs.Shapes.{on_array}
use Rattle.definition.specs.Places.{element_place, leaf_place, field_place}

-- how a place starts
abbrev pub Starts : Type 0
Starts = Place → Ask Outcome

-- where a link states something, else what is computed then
abbrev pub if_stated : {A : Type 0} → ℕ → (Unit {0} → A) → (ℕ → A) → A
if_stated zero other go = other tt
if_stated (suc n) other go = go n

-- a structure is taken apart or the answer is none
abbrev pub on_fields : Tree → (Trees → Ask Outcome) → Ask Outcome
on_fields t go = choose (eqb (head t).kind 14) (λ u. go (parts t)) (λ u. nothing)

abbrev pub on_first : {A : Type 0} → Trees → (Tree → Trees → Ask (Result A)) → Ask (Result A)
on_first tnil go = nothing
on_first (tcons t ts) go = go t ts

-- the first field of a name, as a value of its own, or none
unfoldable pub on_named : ℕ → Trees → (Tree → Ask Outcome) → Ask Outcome
on_named name tnil go = nothing
on_named name (tcons t ts) go = choose (eqb (head t).name name) (λ u. go (named 0 t)) (λ u. on_named name ts go)

-- ---- arrays
-- the values that an element's default stands for: an array's entries, listed flat, or itself
unfoldable pub flat : Tree → Trees
flat t = pick (eqb (head t).kind 13) (parts t) (one t)

-- so many defaults, counted under a head before they are copied
unfoldable pub repeated_defaults : ℕ → Trees → Ask (Result Trees)
repeated_defaults k ts = choose (leb (suc (k * nodes_in ts)) most_nodes) (λ u. give (times k ts)) (λ u. done large)

-- every element's default, listed flat (`element_defaults`)
unfoldable pub element_defaults : List ℕ → Starts → Place → Ask (Result Trees)
element_defaults f default place =
    on_array place.shape nothing (λ s first count. default (element_place f place s) >>= λ t. repeated_defaults (elements_of f first count) (flat t))

-- entries give values, knowing the innermost place, the defaults, how many values there are so far and how many nodes those have
abbrev pub Fills : Type 0
Fills = Place → Trees → ℕ → ℕ → Ask (Result Trees)

-- an array whose leading places are filled, and the rest at the element default (`array`)
unfoldable pub array_by : List ℕ → Starts → Place → Fills → Ask Outcome
array_by f default place fill =
    element_defaults f default place >>= λ defaults. fill (leaf_place f place) defaults 0 0 >>= λ values. formed (array_tree (filled defaults values))

-- values that are pushed or copied: none once there are more than places
unfoldable pub added : ℕ → ℕ → ℕ → Trees → Ask (Result Trees)
added places made size values = gathered size values >>= λ ts. pick (leb (made + many ts) places) (give ts) nothing

-- a repetition, copied so many times
unfoldable pub copied : ℕ → Trees → ℕ → ℕ → ℕ → Ask (Result Trees)
copied zero repetition places made size = give tnil
copied (suc k) repetition places made size = and_more made size (added places made size repetition) (copied k repetition places)

-- n() takes each place's own default, of those that are left
unfoldable pub defaulted : ℕ → Trees → ℕ → ℕ → ℕ → Ask (Result Trees)
defaulted zero left places made size = give tnil
defaulted (suc k) left places made size = on_first left (λ t ts. and_more made size (added places made size (one t)) (defaulted k ts places))

-- ---- structures
-- a field's value under its name
unfoldable pub field : ℕ → ℕ → Tree → Ask (Result Trees)
field size name t = gathered size (one (named name t))

unfoldable pub fields_by : List ℕ → Starts → Place → List ℕ → ℕ → ℕ → Ask (Result Trees)
fields_by f default place [] made size = give tnil
fields_by f default place (name ∷ names) made size =
    and_more made size (done (field_place f place name) >>= default >>= field size name) (fields_by f default place names)

-- all fields of a structure or a block
unfoldable pub structured : (ℕ → ℕ → Ask (Result Trees)) → Ask Outcome
structured fields = fields 0 0 >>= λ ts. give (structure_tree ts)

-- a place starts at its type's default, or at the implicit default of its shape (`default_of`)
unfoldable pub default_by : Starts → Starts
default_by implicit place = if_stated place.id (λ u. implicit place) type_default

unfoldable pub enumerated_as : List ℕ → Place → ℕ → Ask Outcome
enumerated_as f place e = done (enumerated_value f place.shape (word f entries e 2) (word f entries e 3))

-- null, or the variable that it refers to
unfoldable pub reference_as : List ℕ → ℕ → Ask Outcome
reference_as f x = give (pick (eqb (word f expressions x 0) 4) null_tree (reference_tree x))

-- the default of a named type; none for a name that is unknown
unfoldable pub name_default : ℕ → Ask Outcome
name_default name = on_link name nothing type_default

-- an instance of a function block has its inputs, outputs and internal variables
unfoldable pub is_instance : ℕ → Bool
is_instance kind = eqb kind 0 || eqb kind 1 || eqb kind 4

-- what this file computes with
unfoldable pub opened : Unit {0}
unfolding on_named flat repeated_defaults element_defaults array_by added copied defaulted field fields_by structured default_by enumerated_as reference_as name_default is_instance
opened = tt
