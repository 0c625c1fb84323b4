-- Places (`Place` in resolver.rs): a variable, a field or an element, described by its shape, and by links to its type and its element type where it has them.
use Rattle.std.specs.Prelude.{Bool, not, ◌&&◌, ◌||◌, List, [], ◌∷◌, ℕ, zero, suc, ◌+◌, eqb, leb}
use Rattle.definition.specs.declared.records.Shape.{Shape}
use Rattle.definition.specs.declared.records.Shape.TheVariants as shape
use Rattle.definition.specs.declared.records.Place.{Place}
use Rattle.definition.specs.Base.{pick, on_link, or_else, inline}
use Rattle.definition.specs.Layout.{word, count, shapes, shape_fields, types, block_fields, elements, variables, initializers}
use Rattle.definition.specs.Records.{shape_at, type_shape, alias_base, element_type, declaration_kind, initializer_kind, named_type}
use Rattle.definition.specs.Accept.{same_shape}
use Rattle.definition.specs.Ask.{Result, ok, none}
use Rattle.definition.specs.Shapes.{on_shape, on_array}

-- a value of a shape that has no type (`Place::of`)
unfoldable pub bare : Shape → Place
bare s = record { shape = s; id = 0; element = 0 }

-- a value of the type t (`place_of`)
unfoldable pub place_of : List ℕ → ℕ → Place
place_of f t = record { shape = shape_at f (type_shape f t); id = suc t; element = element_type f t }

-- the type is kept only where it has that very shape (`typed_place`)
unfoldable pub typed_place : List ℕ → ℕ → ℕ → ℕ → Place
typed_place f s type element =
    let own : ℕ = on_link type 0 (λ t. pick (same_shape f (type_shape f t) s) type 0) in
    record { shape = shape_at f s; id = own; element = or_else element (on_link own 0 (element_type f)) }

-- an element, of the shape s, of an array (`element_place`)
unfoldable pub element_place : List ℕ → Place → ℕ → Place
element_place f place s = typed_place f s (or_else place.element (on_link place.id 0 (element_type f))) 0

-- what an array of arrays is filled with: an element of its innermost arrays (the loop in `array`)
unfoldable pub innermost : List ℕ → ℕ → Place → Place
innermost f zero place = place
innermost f (suc k) place = on_array place.shape place (λ s first count. innermost f k (element_place f place s))

unfoldable pub leaf_place : List ℕ → Place → Place
leaf_place f place = innermost f (count f shapes) place

-- ---- function blocks: fields of the block record that alias bases lead to (`recorded_block`); none in a circle without one
unfoldable pub has_block : List ℕ → ℕ → Bool
has_block f t = not (eqb (word f types t 9) inline)

unfoldable pub recorded_up_to : List ℕ → ℕ → ℕ → ℕ
recorded_up_to f zero t = 0
recorded_up_to f (suc k) t = pick (has_block f t) (suc t) (on_link (alias_base f t) 0 (recorded_up_to f k))

unfoldable pub recorded_block : List ℕ → ℕ → ℕ
recorded_block f t = recorded_up_to f (count f types) t

-- the first record of a run that has a name, as a link (`find`, `position`)
unfoldable pub first_named : List ℕ → ℕ → ℕ → ℕ → ℕ → ℕ
first_named f s name first zero = 0
first_named f s name first (suc k) = pick (eqb (word f s first 0) name) (suc first) (first_named f s name (suc first) k)

-- the type of a block's field, as a link (`block_field`)
unfoldable pub block_field_type : List ℕ → ℕ → ℕ → ℕ
block_field_type f t name =
    on_link (recorded_block f t) 0 (λ b. on_link (first_named f block_fields name (word f types b 9) (word f types b 10)) 0 (λ k. word f block_fields k 1))

-- ---- structures: the initializer that the declaration of a field states, as a link (`field_declaration`)
-- an alias leads to its base, or to what a simple declaration's function block or structure initializer names (`alias_target`)
unfoldable pub simple_target : List ℕ → ℕ → ℕ
simple_target f i = pick (eqb (initializer_kind f i) 7 || eqb (initializer_kind f i) 8) (named_type f i) 0

unfoldable pub alias_target : List ℕ → ℕ → ℕ
alias_target f t = or_else (alias_base f t) (pick (eqb (declaration_kind f t) 1) (on_link (word f types t 6) 0 (simple_target f)) 0)

-- the element of that name in a structure's declaration, or in that of the type that an alias leads to
unfoldable pub field_declaration_up_to : List ℕ → ℕ → ℕ → ℕ → ℕ
field_declaration_up_to f name zero t = 0
field_declaration_up_to f name (suc k) t =
    pick (eqb (declaration_kind f t) 5)
    (on_link (first_named f elements name (word f types t 7) (word f types t 8)) 0 (λ e. suc (word f elements e 1)))
    (on_link (alias_target f t) 0 (field_declaration_up_to f name k))

-- how many types a `TYPE` declaration declares: those are the steps that the Rust goes, and one more
unfoldable pub declared_types : List ℕ → ℕ → ℕ
declared_types f zero = 0
declared_types f (suc t) = declared_types f t + pick (leb 1 (declaration_kind f t) && leb (declaration_kind f t) 8) 1 0

unfoldable pub field_declaration : List ℕ → ℕ → ℕ → ℕ
field_declaration f name t = field_declaration_up_to f name (suc (declared_types f (count f types))) t

-- the type and, for an array spelled in place, the element type that an initializer names (`declared_ids`)
unfoldable pub declared_type : List ℕ → ℕ → ℕ
declared_type f i = pick (eqb (named_type f i) inline) 0 (named_type f i)

unfoldable pub declared_element : List ℕ → ℕ → ℕ
declared_element f i = pick (eqb (named_type f i) inline) (word f initializers i 2) 0

unfoldable pub structure_field_place : List ℕ → Place → ℕ → ℕ → Place
structure_field_place f place name s =
    on_link (on_link place.id 0 (field_declaration f name)) (bare (shape_at f s)) (λ i. typed_place f s (declared_type f i) (declared_element f i))

-- a field of a structure or a function block, by its name (`field_place`)
unfoldable pub field_place : List ℕ → Place → ℕ → Result Place
field_place f place name =
    on_shape place.shape (λ a b. none) (λ a b. none)
    (λ first many. on_link (first_named f shape_fields name first many) none (λ k. ok (structure_field_place f place name (word f shape_fields k 1))))
    (λ s a b. none)
    (λ u. on_link place.id none (λ t. on_link (block_field_type f t name) none (λ d. ok (place_of f d))))
    (λ u. none) (λ u. none)

-- the names of a block's fields but for in-outs, and of a structure's (`field_names`)
unfoldable pub names_in : List ℕ → ℕ → ℕ → List ℕ
names_in f first zero = []
names_in f first (suc k) = word f shape_fields first 0 ∷ names_in f (suc first) k

unfoldable pub block_names : List ℕ → ℕ → ℕ → List ℕ
block_names f first zero = []
block_names f first (suc k) =
    let more : List ℕ = block_names f (suc first) k in
    pick (eqb (word f block_fields first 2) 2) more (word f block_fields first 0 ∷ more)

unfoldable pub block_field_names : List ℕ → Place → Result (List ℕ)
block_field_names f place = on_link place.id none (λ t. on_link (recorded_block f t) none (λ b. ok (block_names f (word f types b 9) (word f types b 10))))

-- ---- a variable's place (`declaration_place`): a string's comes from its initializer, any other's from its type
unfoldable pub string_place : List ℕ → ℕ → Result Place
string_place f i = pick (eqb (word f initializers i 6) inline) none (ok (bare (shape.String (word f initializers i 6) (word f initializers i 7))))

unfoldable pub variable_place : List ℕ → ℕ → ℕ → Result Place
variable_place f v i = pick (eqb (initializer_kind f i) 4) (string_place f i) (on_link (word f variables v 2) none (λ t. ok (place_of f t)))

-- what this file computes with
unfoldable pub opened : Unit {0}
unfolding bare place_of typed_place element_place innermost leaf_place has_block recorded_up_to recorded_block first_named block_field_type simple_target alias_target field_declaration_up_to declared_types field_declaration declared_type declared_element structure_field_place field_place names_in block_names block_field_names string_place variable_place
opened = tt
