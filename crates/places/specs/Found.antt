-- What the answers of block.rt and field.rt stand for. Assumes nothing.
use Rattle.std.specs.Prelude.{Bool, Option, Some, None, ◌≡◌, refl, List, ℕ, zero, suc, eqb}
use Rattle.definition.specs.declared.records.Place.{Place}
use Rattle.definition.specs.declared.records.Shape.TheVariants as shape
use Rattle.definition.specs.Base.{pick, on_link, inline}
use Rattle.definition.specs.Layout.{word, count, types, shape_fields, elements}
use Rattle.definition.specs.Records.{type_shape, declaration_kind}
use Rattle.definition.specs.Accept.{same_shape}
use Rattle.definition.specs.Ask.{Result, ok, none}
use Rattle.definition.specs.Places.{bare, place_of, simple_target, alias_target, declared_types, first_named, recorded_block, block_field_type, structure_field_place, block_names, block_field_names}
use Rattle.places.specs.declared.block.Run.{Run}

-- what a simple declaration's initializer names, as a link
unfoldable pub declared_target : List ℕ → ℕ → ℕ
declared_target f t = pick (eqb (declaration_kind f t) 1) (on_link (word f types t 6) 0 (simple_target f)) 0

-- the first of so many in a chain of links that passes a test, as a link
unfoldable pub found_up_to : (ℕ → ℕ) → (ℕ → Bool) → ℕ → ℕ → ℕ
found_up_to next test zero x = 0
found_up_to next test (suc k) x = pick (test x) (suc x) (on_link (next x) 0 (found_up_to next test k))

-- the structure that aliases lead to, as a link
unfoldable pub declared_structure : List ℕ → ℕ → ℕ
declared_structure f t = found_up_to (alias_target f) (λ t. eqb (declaration_kind f t) 5) (suc (declared_types f (count f types))) t

-- the initializer of the element of a name in a structure's declaration, as a link
unfoldable pub element_declaration : List ℕ → ℕ → ℕ → ℕ
element_declaration f name t = on_link (first_named f elements name (word f types t 7) (word f types t 8)) 0 (λ e. suc (word f elements e 1))

-- a type, as a link, where it has that very shape
unfoldable pub own_link : List ℕ → ℕ → ℕ → ℕ
own_link f s id = on_link id 0 (λ t. pick (same_shape f (type_shape f t) s) id 0)

-- a string's place, by 1 + its length and its width
unfoldable pub string_of : ℕ → ℕ → Result Place
string_of length width = pick (eqb length inline) none (ok (bare (shape.String length width)))

-- the place of the type that a link leads to
unfoldable pub linked_place : List ℕ → ℕ → Result Place
linked_place f l = on_link l none (λ t. ok (place_of f t))

-- a field of a structure whose fields are a run, and one of a block, by the link to its type
unfoldable pub structure_field : List ℕ → Place → ℕ → ℕ → ℕ → Result Place
structure_field f place name first many =
    on_link (first_named f shape_fields name first many) none (λ k. ok (structure_field_place f place name (word f shape_fields k 1)))

unfoldable pub block_field : List ℕ → ℕ → ℕ → Result Place
block_field f l name = on_link l none (λ t. linked_place f (block_field_type f t name))

-- the run of a block's fields
abbrev pub run_of_block : List ℕ → ℕ → Run
run_of_block f b = record { first = word f types b 9; count = word f types b 10 }

unfoldable pub block_run : List ℕ → Place → Option Run
block_run f place =
    on_link place.id None (λ t. on_link (recorded_block f t) None (λ b. Some (record { first = word f types b 9; count = word f types b 10 })))

-- its names
unfoldable pub names_of : List ℕ → Option Run → Result (List ℕ)
names_of f (Some run) = ok (block_names f run.first run.count)
names_of f None = none

pub names-of-run : (f : List ℕ) (place : Place) → block_field_names f place ≡ names_of f (block_run f place)
unfolding block_field_names block_run names_of
names-of-run f place = typed place.id
  where
    recorded : (b : ℕ) → on_link b none (λ b. ok (block_names f (word f types b 9) (word f types b 10)))
        ≡ names_of f (on_link b None (λ b. Some (record { first = word f types b 9; count = word f types b 10 })))
    recorded zero = refl
    recorded (suc b) = refl

    typed : (l : ℕ) → on_link l none (λ t. on_link (recorded_block f t) none (λ b. ok (block_names f (word f types b 9) (word f types b 10))))
        ≡ names_of f (on_link l None (λ t. on_link (recorded_block f t) None (λ b. Some (record { first = word f types b 9; count = word f types b 10 }))))
    typed zero = refl
    typed (suc t) = recorded (recorded_block f t)
