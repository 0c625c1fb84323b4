-- Which files are accepted: refusals 1 to 6 of document 01 ("Refusals, in checking order"), each over the whole file before the next.
use Rattle.std.specs.Prelude.{Bool, true, false, not, ◌&&◌, ◌||◌, List, [], ◌∷◌, ℕ, zero, suc, ◌+◌, ◌-◌, ◌*◌, ◌%◌, ◌^◌, eqb, leb, ltb, length, get_or}
use Rattle.definition.specs.declared.records.Shape.{Shape}
use Rattle.definition.specs.declared.records.Shape.TheVariants as shape
use Rattle.definition.specs.Base.{choose, on_link, every, unused, inline}
use Rattle.definition.specs.Layout.{settings, shapes, members, shape_fields, dimensions, types, block_fields, elements, variables, initializers, entries, expressions, constants, characters, most_records, count_at, count, word}
use Rattle.definition.specs.Records.{shape_at}

-- ---- 1: the words end before or after the last section does
unfoldable pub ends_right : List ℕ → Bool
ends_right f = eqb (count_at f 14) (length f)

-- ---- 2: a section has more records than stated, or Settings not one
unfoldable pub counts_right : List ℕ → Bool
counts_right f = every (λ s. leb (count f s) (most_records s)) 14 && eqb (count f settings) 1

-- ---- 3: a word, used numbers, links and runs aside, has a value that its record does not allow
-- a name that must be there is not 0
unfoldable pub is_name : ℕ → Bool
is_name w = not (eqb w 0)

unfoldable pub is_bits : ℕ → Bool
is_bits w = eqb w 8 || eqb w 16 || eqb w 32 || eqb w 64

-- two's complement words are in order where they are with 2 ^ 31 added
unfoldable pub biased : ℕ → ℕ
biased w = (w + 2 ^ 31) % 2 ^ 32

unfoldable pub shape_plain : ℕ → ℕ → ℕ → ℕ → ℕ → Bool
shape_plain kind a b c d =
    let sized : Bool = is_bits a && unused (b ∷ c ∷ d ∷ []) in
    let name : Bool = is_name a && unused (b ∷ c ∷ d ∷ []) in
    get_or (
    -- 0 Bool
    unused (a ∷ b ∷ c ∷ d ∷ []) ∷
    -- 1 Int, 2 UInt, 3 Real, 4 Bytes, 5 Time, 6 Date, 7 TimeOfDay, 8 DateAndTime: bits
    sized ∷ sized ∷ sized ∷ sized ∷ sized ∷ sized ∷ sized ∷ sized ∷
    -- 9 String: 1 + length, width
    (leb b 1 && unused (c ∷ d ∷ [])) ∷
    -- 10 Enumeration: run of members, default's place, link to underlying shape
    true ∷
    -- 11 Structure: run of shape fields
    unused (c ∷ d ∷ []) ∷
    -- 12 Array: element shape, run of dimensions
    unused (d ∷ []) ∷
    -- 13 Subrange: base shape, least and greatest
    unused (d ∷ []) ∷
    -- 14 FunctionBlock, 15 Interface: name
    name ∷ name ∷
    -- 16 Reference: target shape
    unused (b ∷ c ∷ d ∷ []) ∷
    []) kind false

unfoldable pub shape_field_plain : ℕ → ℕ → Bool
shape_field_plain name has_default = is_name name && leb has_default 1

unfoldable pub dimension_plain : ℕ → ℕ → Bool
dimension_plain lower upper = leb (biased lower) (biased upper)

unfoldable pub type_plain : ℕ → ℕ → ℕ → ℕ → ℕ → Bool
type_plain kind named start first many =
    get_or (
    -- 0 none
    unused (named ∷ start ∷ first ∷ many ∷ []) ∷
    -- 1 simple: start value
    unused (named ∷ first ∷ many ∷ []) ∷
    -- 2 subrange: named type, start value
    unused (first ∷ many ∷ []) ∷
    -- 3 string: start value
    unused (named ∷ first ∷ many ∷ []) ∷
    -- 4 array: named type, run of entries
    unused (start ∷ []) ∷
    -- 5 structure: run of elements
    unused (named ∷ start ∷ []) ∷
    -- 6 reference, 7 enumeration, 8 late bound: named type
    unused (start ∷ first ∷ many ∷ []) ∷
    unused (start ∷ first ∷ many ∷ []) ∷
    unused (start ∷ first ∷ many ∷ []) ∷
    -- 9 function block: run of variables
    unused (named ∷ start ∷ []) ∷
    []) kind false

unfoldable pub block_field_plain : ℕ → ℕ → Bool
block_field_plain name kind = is_name name && leb kind 3

unfoldable pub initializer_plain : ℕ → ℕ → ℕ → ℕ → ℕ → ℕ → ℕ → ℕ → Bool
initializer_plain kind named element value first many length width =
    let none : Bool = unused (element ∷ value ∷ first ∷ many ∷ length ∷ width ∷ []) in
    let valued : Bool = unused (element ∷ first ∷ many ∷ length ∷ width ∷ []) in
    let listed : Bool = unused (element ∷ value ∷ length ∷ width ∷ []) in
    get_or (
    -- 0 none, 1 interface
    none ∷ none ∷
    -- 2 subrange, 3 simple: value
    valued ∷ valued ∷
    -- 4 string: value, 1 + length, width
    (unused (element ∷ first ∷ many ∷ []) && leb width 1) ∷
    -- 5 enumerated values, 6 enumerated type: value
    valued ∷ valued ∷
    -- 7 function block, 8 structure: run of entries
    listed ∷ listed ∷
    -- 9 array: run of entries; an element type only where the named type is inline
    (unused (value ∷ length ∷ width ∷ []) && (eqb named inline || eqb element 0)) ∷
    -- 10 reference: value, no named type
    (eqb named 0 && valued) ∷
    -- 11 late resolved: value
    valued ∷
    -- 12 call, 13 and 14 expressions
    none ∷ none ∷ none ∷
    []) kind false

unfoldable pub entry_plain : ℕ → ℕ → ℕ → Bool
entry_plain kind a b =
    get_or (
    -- 0 constant
    unused (b ∷ []) ∷
    -- 1 enumerated: value name, qualifier
    is_name a ∷
    -- 2 array, 3 structure: run
    true ∷ true ∷
    -- 4 expression
    unused (b ∷ []) ∷
    -- 5 late bound
    unused (a ∷ b ∷ []) ∷
    -- 6 repeat: count, link to inner entry
    true ∷
    []) kind false

-- 0 constant, 1 enumerated entry, 2 parentheses, 3 implicit conversion, 4 null, 5 variable reference, 6 other
unfoldable pub expression_plain : ℕ → ℕ → Bool
expression_plain kind a = get_or (true ∷ true ∷ true ∷ true ∷ unused (a ∷ []) ∷ unused (a ∷ []) ∷ unused (a ∷ []) ∷ []) kind false

unfoldable pub constant_plain : ℕ → ℕ → ℕ → ℕ → ℕ → Bool
constant_plain kind sign low high width =
    let signed : Bool = eqb sign 0 || (eqb sign 1 && not (unused (low ∷ high ∷ []))) in
    let wide : Bool = eqb sign 0 && leb width 1 in
    get_or (
    -- 0 boolean
    (leb low 1 && unused (sign ∷ high ∷ width ∷ [])) ∷
    -- 1 integer
    (signed && unused (width ∷ [])) ∷
    -- 2 bit string, 3 real
    unused (sign ∷ width ∷ []) ∷
    unused (sign ∷ width ∷ []) ∷
    -- 4 duration
    (signed && leb width 1) ∷
    -- 5 time of day, 6 date, 7 date and time, 8 string
    wide ∷ wide ∷ wide ∷ wide ∷
    []) kind false

-- the rule of each section, in the order of the file
unfoldable pub plain_rules : List ℕ → List (ℕ → Bool)
plain_rules f =
    (λ n. leb (word f settings n 0) 65535) ∷
    (λ n. shape_plain (word f shapes n 0) (word f shapes n 1) (word f shapes n 2) (word f shapes n 3) (word f shapes n 4)) ∷
    (λ n. is_name (word f members n 0)) ∷
    (λ n. shape_field_plain (word f shape_fields n 0) (word f shape_fields n 2)) ∷
    (λ n. dimension_plain (word f dimensions n 0) (word f dimensions n 1)) ∷
    (λ n. type_plain (word f types n 4) (word f types n 5) (word f types n 6) (word f types n 7) (word f types n 8)) ∷
    (λ n. block_field_plain (word f block_fields n 0) (word f block_fields n 2)) ∷
    (λ n. is_name (word f elements n 0)) ∷
    (λ n. leb (word f variables n 1) 5) ∷
    (λ n. initializer_plain (word f initializers n 0) (word f initializers n 1) (word f initializers n 2) (word f initializers n 3)
    (word f initializers n 4) (word f initializers n 5) (word f initializers n 6) (word f initializers n 7)) ∷
    (λ n. entry_plain (word f entries n 0) (word f entries n 2) (word f entries n 3)) ∷
    (λ n. expression_plain (word f expressions n 0) (word f expressions n 1)) ∷
    (λ n. constant_plain (word f constants n 0) (word f constants n 1) (word f constants n 2) (word f constants n 3) (word f constants n 4)) ∷
    (λ n. true) ∷
    []

-- a rule for each section holds of every record
unfoldable pub every_record : List ℕ → List (ℕ → Bool) → Bool
every_record f rules = every (λ s. every (get_or rules s (λ n. false)) (count f s)) 14

unfoldable pub words_right : List ℕ → Bool
words_right f = every_record f (plain_rules f)

-- ---- 4: a used number, link or run points outside its section or at a record not allowed there, or is 0 or empty against its rule
unfoldable pub number_in : List ℕ → ℕ → ℕ → Bool
number_in f s n = ltb n (count f s)

unfoldable pub link_in : List ℕ → ℕ → ℕ → Bool
link_in f s n = leb n (count f s)

unfoldable pub run_in : List ℕ → ℕ → ℕ → ℕ → Bool
run_in f s first many = leb (first + many) (count f s)

-- a run inside its section, each of whose records meets a rule
unfoldable pub run_of : List ℕ → ℕ → (ℕ → Bool) → ℕ → ℕ → Bool
run_of f s rule first many = choose (run_in f s first many) (λ u. every (λ j. rule (first + j)) many) (λ u. false)

-- a constant of a kind
unfoldable pub constant_in : List ℕ → ℕ → ℕ → Bool
constant_in f kind c = number_in f constants c && eqb (word f constants c 0) kind

-- no link, or one to a record that meets a rule
unfoldable pub link_to : (ℕ → Bool) → ℕ → Bool
link_to rule l = on_link l true rule

-- where entries may stand: kinds 2 and 5 only in member lists, 6 only in arrays; member lists take named entries only, other places nameless ones
unfoldable pub member_entry : List ℕ → ℕ → Bool
member_entry f e = is_name (word f entries e 1) && leb (word f entries e 0) 5

unfoldable pub array_entry : List ℕ → ℕ → Bool
array_entry f e = eqb (word f entries e 1) 0 && get_or (true ∷ true ∷ false ∷ true ∷ true ∷ false ∷ true ∷ []) (word f entries e 0) false

unfoldable pub enumerated_entry : List ℕ → ℕ → Bool
enumerated_entry f e = number_in f entries e && eqb (word f entries e 1) 0 && eqb (word f entries e 0) 1

-- shapes point only to lower shapes
unfoldable pub shape_points : List ℕ → ℕ → ℕ → ℕ → ℕ → ℕ → ℕ → Bool
shape_points f n kind a b c d =
    get_or (
    true ∷ true ∷ true ∷ true ∷ true ∷ true ∷ true ∷ true ∷ true ∷ true ∷
    -- 10 Enumeration
    (run_in f members a b && leb d n) ∷
    -- 11 Structure
    run_of f shape_fields (λ k. ltb (word f shape_fields k 1) n) a b ∷
    -- 12 Array: at least one dimension
    (ltb a n && run_in f dimensions b c && not (eqb c 0)) ∷
    -- 13 Subrange: two integer constants
    (ltb a n && constant_in f 1 b && constant_in f 1 c) ∷
    true ∷ true ∷
    -- 16 Reference
    ltb a n ∷
    []) kind false

-- a type's name: a link, or inline where that is allowed
unfoldable pub name_in : List ℕ → Bool → ℕ → Bool
name_in f inlined w = link_in f types w || (inlined && eqb w inline)

unfoldable pub declaration_points : List ℕ → ℕ → ℕ → ℕ → ℕ → ℕ → Bool
declaration_points f kind name start first many =
    get_or (
    true ∷
    -- 1 simple: an initializer, never 0
    on_link start false (number_in f initializers) ∷
    -- 2 subrange: an integer
    (name_in f true name && link_to (constant_in f 1) start) ∷
    -- 3 string: a string
    link_to (constant_in f 8) start ∷
    -- 4 array
    (name_in f true name && run_of f entries (array_entry f) first many) ∷
    -- 5 structure
    run_in f elements first many ∷
    -- 6 reference, 7 enumeration, 8 late bound
    name_in f false name ∷ name_in f false name ∷ name_in f false name ∷
    -- 9 function block
    run_in f variables first many ∷
    []) kind false

-- no block record is first 4294967295, count 0
unfoldable pub block_points : List ℕ → ℕ → ℕ → Bool
block_points f first many = run_in f block_fields first many || (eqb first inline && eqb many 0)

unfoldable pub type_points : List ℕ → ℕ → Bool
type_points f t =
    number_in f shapes (word f types t 0)
    && link_in f types (word f types t 1)
    && link_in f types (word f types t 2)
    && link_in f types (word f types t 3)
    && declaration_points f (word f types t 4) (word f types t 5) (word f types t 6) (word f types t 7) (word f types t 8)
    && block_points f (word f types t 9) (word f types t 10)

-- a reference's value is an expression of kind 4 or 5
unfoldable pub reference_points : List ℕ → ℕ → Bool
reference_points f x = number_in f expressions x && (eqb (word f expressions x 0) 4 || eqb (word f expressions x 0) 5)

unfoldable pub value_points : List ℕ → ℕ → ℕ → ℕ → ℕ → Bool
value_points f kind value first many =
    let constant : ℕ → Bool = λ k. link_to (constant_in f k) value in
    let enumerated : Bool = link_to (enumerated_entry f) value in
    let listed : Bool = run_of f entries (member_entry f) first many in
    get_or (
    true ∷ true ∷
    -- 2 subrange: an integer
    constant 1 ∷
    -- 3 simple: any constant
    link_in f constants value ∷
    -- 4 string: a string
    constant 8 ∷
    -- 5 enumerated values, 6 enumerated type
    enumerated ∷ enumerated ∷
    -- 7 function block, 8 structure: member lists
    listed ∷ listed ∷
    -- 9 array
    run_of f entries (array_entry f) first many ∷
    -- 10 reference
    link_to (reference_points f) value ∷
    -- 11 late resolved
    link_in f constants value ∷
    true ∷ true ∷ true ∷
    []) kind false

-- inline only in kinds 2 and 9
unfoldable pub initializer_points : List ℕ → ℕ → Bool
initializer_points f i =
    let kind : ℕ = word f initializers i 0 in
    name_in f (eqb kind 2 || eqb kind 9) (word f initializers i 1)
    && link_in f types (word f initializers i 2)
    && value_points f kind (word f initializers i 3) (word f initializers i 4) (word f initializers i 5)

-- entries point only to lower entries; an empty run points at none
unfoldable pub lower_run : List ℕ → ℕ → (ℕ → Bool) → ℕ → ℕ → Bool
lower_run f e rule first many = run_of f entries rule first many && (leb (first + many) e || eqb many 0)

unfoldable pub entry_points : List ℕ → ℕ → ℕ → ℕ → ℕ → Bool
entry_points f e kind a b =
    get_or (
    number_in f constants a ∷
    true ∷
    lower_run f e (array_entry f) a b ∷
    lower_run f e (member_entry f) a b ∷
    number_in f expressions a ∷
    true ∷
    link_to (λ i. ltb i e && array_entry f i) b ∷
    []) kind false

-- parentheses and conversions point lower
unfoldable pub expression_points : List ℕ → ℕ → ℕ → ℕ → Bool
expression_points f x kind a = get_or (number_in f constants a ∷ enumerated_entry f a ∷ ltb a x ∷ ltb a x ∷ true ∷ true ∷ true ∷ []) kind false

-- only a string points: at a run of characters
unfoldable pub constant_points : List ℕ → ℕ → ℕ → ℕ → Bool
constant_points f kind low high = not (eqb kind 8) || run_in f characters low high

unfoldable pub point_rules : List ℕ → List (ℕ → Bool)
point_rules f =
    (λ n. true) ∷
    (λ n. shape_points f n (word f shapes n 0) (word f shapes n 1) (word f shapes n 2) (word f shapes n 3) (word f shapes n 4)) ∷
    (λ n. true) ∷
    (λ n. number_in f shapes (word f shape_fields n 1)) ∷
    (λ n. true) ∷
    (λ n. type_points f n) ∷
    (λ n. link_in f types (word f block_fields n 1)) ∷
    (λ n. number_in f initializers (word f elements n 1)) ∷
    (λ n. link_in f types (word f variables n 2) && number_in f initializers (word f variables n 3)) ∷
    (λ n. initializer_points f n) ∷
    (λ n. entry_points f n (word f entries n 0) (word f entries n 2) (word f entries n 3)) ∷
    (λ n. expression_points f n (word f expressions n 0) (word f expressions n 1)) ∷
    (λ n. constant_points f (word f constants n 0) (word f constants n 2) (word f constants n 3)) ∷
    (λ n. true) ∷
    []

unfoldable pub points_right : List ℕ → Bool
points_right f = every_record f (point_rules f)

-- ---- comparing shapes: for refusal 5, and as the Rust's `==` does
-- two runs list the same
unfoldable pub listed : (ℕ → ℕ → Bool) → ℕ → ℕ → ℕ → ℕ → Bool
listed same a m b n = choose (eqb m n) (λ u. every (λ j. same (a + j) (b + j)) m) (λ u. false)

unfoldable pub same_member : List ℕ → ℕ → ℕ → Bool
same_member f m n = eqb (word f members m 0) (word f members n 0)

unfoldable pub same_field : List ℕ → (ℕ → ℕ → Bool) → ℕ → ℕ → Bool
same_field f same m n =
    eqb (word f shape_fields m 0) (word f shape_fields n 0)
    && same (word f shape_fields m 1) (word f shape_fields n 1)
    && eqb (word f shape_fields m 2) (word f shape_fields n 2)

unfoldable pub same_dimension : List ℕ → ℕ → ℕ → Bool
same_dimension f m n = eqb (word f dimensions m 0) (word f dimensions n 0) && eqb (word f dimensions m 1) (word f dimensions n 1)

-- two integer constants have one value
unfoldable pub same_integer : List ℕ → ℕ → ℕ → Bool
same_integer f c d =
    eqb (word f constants c 1) (word f constants d 1) && eqb (word f constants c 2) (word f constants d 2) && eqb (word f constants c 3) (word f constants d 3)

unfoldable pub same_link : (ℕ → ℕ → Bool) → ℕ → ℕ → Bool
same_link same zero l = eqb l 0
same_link same (suc m) l = on_link l false (same m)

-- a shape and the words a b c d of one of the same kind, where `same` compares the shapes inside and `enumerated` says whether members and default count
unfoldable pub like_by : List ℕ → (ℕ → ℕ → Bool) → Bool → Shape → ℕ → ℕ → ℕ → ℕ → Bool
like_by f same enumerated shape.Bool a b c d = true
like_by f same enumerated (shape.Int bits) a b c d = eqb bits a
like_by f same enumerated (shape.UInt bits) a b c d = eqb bits a
like_by f same enumerated (shape.Real bits) a b c d = eqb bits a
like_by f same enumerated (shape.Bytes bits) a b c d = eqb bits a
like_by f same enumerated (shape.Time bits) a b c d = eqb bits a
like_by f same enumerated (shape.Date bits) a b c d = eqb bits a
like_by f same enumerated (shape.TimeOfDay bits) a b c d = eqb bits a
like_by f same enumerated (shape.DateAndTime bits) a b c d = eqb bits a
like_by f same enumerated (shape.String length width) a b c d = eqb length a && eqb width b
like_by f same enumerated (shape.Enumeration first many default underlying) a b c d =
    (not enumerated || (listed (same_member f) first many a b && eqb default c)) && same_link same underlying d
like_by f same enumerated (shape.Structure first many) a b c d = listed (same_field f same) first many a b
like_by f same enumerated (shape.Array element first many) a b c d = same element a && listed (same_dimension f) first many b c
like_by f same enumerated (shape.Subrange base least greatest) a b c d = same base a && same_integer f least b && same_integer f greatest c
like_by f same enumerated (shape.FunctionBlock name) a b c d = eqb name a
like_by f same enumerated (shape.Interface name) a b c d = eqb name a
like_by f same enumerated (shape.Reference target) a b c d = same target a
like_by f same enumerated shape.Unknown a b c d = false

unfoldable pub shapes_like : List ℕ → (ℕ → ℕ → Bool) → Bool → ℕ → ℕ → Bool
shapes_like f same enumerated m n =
    choose (eqb (word f shapes m 0) (word f shapes n 0))
    (λ u. like_by f same enumerated (shape_at f m) (word f shapes n 1) (word f shapes n 2) (word f shapes n 3) (word f shapes n 4))
    (λ u. false)

-- ---- 5: two shapes are alike: lower shapes by number, since no two of those are alike
unfoldable pub alike : List ℕ → ℕ → ℕ → Bool
alike f m n = shapes_like f eqb true m n

unfoldable pub shapes_differ : List ℕ → Bool
shapes_differ f = every (λ n. every (λ m. not (alike f m n)) n) (count f shapes)

-- the Rust's `==` on representations (`EnumerationMembers` compares equal always): shapes nest less deep than their number
unfoldable pub same_up_to : List ℕ → ℕ → ℕ → ℕ → Bool
same_up_to f zero m n = false
same_up_to f (suc k) m n = shapes_like f (same_up_to f k) false m n

unfoldable pub same_shape : List ℕ → ℕ → ℕ → Bool
same_shape f m n = same_up_to f (count f shapes) m n

-- ---- 6: an array shape has more than 65,536 elements
unfoldable pub dimension_span : List ℕ → ℕ → ℕ
dimension_span f n = biased (word f dimensions n 1) + 1 - biased (word f dimensions n 0)

unfoldable pub elements_of : List ℕ → ℕ → ℕ → ℕ
elements_of f first zero = 1
elements_of f first (suc k) = elements_of f first k * dimension_span f (first + k)

unfoldable pub array_small : List ℕ → ℕ → Bool
array_small f n = choose (eqb (word f shapes n 0) 12) (λ u. leb (elements_of f (word f shapes n 2) (word f shapes n 3)) 65536) (λ u. true)

unfoldable pub arrays_small : List ℕ → Bool
arrays_small f = every (array_small f) (count f shapes)

-- ---- the first refusal of 1 to 6, or 0
-- a refusal, unless its test holds; then what comes after it
abbrev pub need : Bool → ℕ → (Unit {0} → ℕ) → ℕ
need true k next = next tt
need false k next = k

unfoldable pub verdict : List ℕ → ℕ
verdict f =
    need (ends_right f) 1 λ u1.
    need (counts_right f) 2 λ u2.
    need (words_right f) 3 λ u3.
    need (points_right f) 4 λ u4.
    need (shapes_differ f) 5 λ u5.
    need (arrays_small f) 6 λ u6. 0

-- what this file computes with
unfoldable pub opened : Unit {0}
unfolding ends_right counts_right is_name is_bits biased shape_plain shape_field_plain dimension_plain type_plain block_field_plain initializer_plain entry_plain expression_plain constant_plain plain_rules every_record words_right number_in link_in run_in run_of constant_in link_to member_entry array_entry enumerated_entry shape_points name_in declaration_points block_points type_points reference_points value_points initializer_points lower_run entry_points expression_points constant_points point_rules points_right listed same_member same_field same_dimension same_integer same_link like_by shapes_like alike shapes_differ same_up_to same_shape dimension_span elements_of array_small arrays_small verdict
opened = tt
