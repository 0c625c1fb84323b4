-- A constant or an enumerated value as a value of the shape that it initializes, and what a shape without parts starts at (scalar.rs, and the string functions of
-- resolver.rs).
use Rattle.std.specs.Prelude.{Bool, true, false, ◌&&◌, ◌||◌, List, ℕ, zero, suc, ◌+◌, ◌-◌, ◌*◌, ◌/◌, ◌%◌, ◌^◌, min, eqb, leb, ltb, ℤ}
use Rattle.definition.specs.declared.records.Shape.{Shape}
use Rattle.definition.specs.declared.records.Shape.TheVariants as shape
use Rattle.definition.specs.declared.records.Constant.{Constant}
use Rattle.definition.specs.Base.{pick, joined}
use Rattle.definition.specs.Layout.{word, settings, members}
use Rattle.definition.specs.Records.{constant_of, constant_at}
use Rattle.definition.specs.Syntax.{Expr}
use Rattle.definition.specs.Tree.{Tree, constant_tree, enumerated_tree, null_tree, expression_tree}
use Rattle.definition.specs.Ask.{Result, ok, none, large, Outcome}
use Rattle.definition.specs.Iec.{number, between, in_range}
use Rattle.definition.specs.Ieee.{rounded}
use Rattle.definition.specs.Shapes.{on_enumeration, is_reference}

-- ---- a constant's number
unfoldable pub size_of : Constant → ℕ
size_of c = joined c.low c.high

unfoldable pub value_of : Constant → ℤ
value_of c = number (eqb c.sign 1) (size_of c)

-- ---- conversion (`convert`): a constant that the place can hold, as a literal of the kind that it stores
unfoldable pub is_integer : Constant → Bool
is_integer c = eqb c.kind 1

unfoldable pub kept : Bool → Constant → Result Constant
kept test c = pick test (ok c) none

-- BOOL takes booleans, and the integers 0 and 1
unfoldable pub as_bool : Constant → Result Constant
as_bool c = pick (is_integer c && eqb c.sign 0 && leb (size_of c) 1) (ok (constant_of 0 0 c.low 0 0)) (kept (eqb c.kind 0) c)

-- integers and bit strings between two numbers
unfoldable pub as_integer : (ℤ → Bool) → Constant → Result Constant
as_integer holds c = kept ((is_integer c || eqb c.kind 2) && holds (value_of c)) c

-- REAL literals are kept, integers are rounded
unfoldable pub as_real : ℕ → Constant → Result Constant
as_real bits c =
    let r : ℕ = rounded bits (eqb c.sign 1) (size_of c) in
    pick (is_integer c) (ok (constant_of 3 0 (r % 2 ^ 32) (r / 2 ^ 32) 0)) (kept (eqb c.kind 3) c)

-- a time or date of its own kind, counted in so many bits
unfoldable pub as_count : ℕ → Bool → ℕ → Constant → Result Constant
as_count kind signed bits c = kept (eqb c.kind kind && in_range signed bits (value_of c)) c

-- ---- strings
-- the most characters that a string holds: its length, or the Settings' for one without (`max_length`)
unfoldable pub max_length : List ℕ → ℕ → Result ℕ
max_length f zero = ok (word f settings 0 0)
max_length f (suc length) = pick (leb length 65535) (ok length) none

abbrev pub on_result : {A B : Type 0} → Result A → (A → Result B) → Result B
on_result (ok a) g = g a
on_result none g = none
on_result large g = large

-- a run of characters cut to what the place holds; an empty one begins at 0. The last word is the place's width plus 2 × the characters cut (document 02, Q-2).
unfoldable pub cut_string : List ℕ → ℕ → ℕ → ℕ → ℕ → Result Constant
cut_string f length width first many =
    on_result (max_length f length)
    (λ most. ok (constant_of 8 0 (pick (eqb (min many most) 0) 0 first) (min many most) (width + 2 * (many - min many most))))

-- a node's last word by its kind, with the characters cut taken out of a string's
unfoldable pub uncut_word : ℕ → ℕ → ℕ
uncut_word kind last = pick (eqb kind 8) (last % 2) last

-- a string takes string literals of either width (`string_value`)
unfoldable pub as_string : List ℕ → ℕ → ℕ → Constant → Result Constant
as_string f length width c = pick (eqb c.kind 8) (cut_string f length width c.low c.high) none

unfoldable pub converted : List ℕ → Shape → Constant → Result Constant
converted f shape.Bool c = as_bool c
converted f (shape.Int bits) c = as_integer (in_range true bits) c
converted f (shape.UInt bits) c = as_integer (in_range false bits) c
converted f (shape.Real bits) c = as_real bits c
converted f (shape.Bytes bits) c = as_integer (in_range false bits) c
converted f (shape.Time bits) c = as_count 4 true bits c
converted f (shape.Date bits) c = as_count 6 false bits c
converted f (shape.TimeOfDay bits) c = as_count 5 false bits c
converted f (shape.DateAndTime bits) c = as_count 7 false bits c
converted f (shape.String length width) c = as_string f length width c
converted f (shape.Enumeration first count default underlying) c = none
converted f (shape.Structure first count) c = none
converted f (shape.Array element first count) c = none
converted f (shape.Subrange base low high) c = as_integer (between (value_of (constant_at f low)) (value_of (constant_at f high))) c
converted f (shape.FunctionBlock name) c = none
converted f (shape.Interface name) c = none
converted f (shape.Reference target) c = none
converted f shape.Unknown c = none

-- what a constant gives a place (`constant`)
unfoldable pub as_tree : Result Constant → Outcome
as_tree r = on_result r (λ c. ok (constant_tree c))

unfoldable pub constant_value : List ℕ → Shape → Constant → Outcome
constant_value f s c = as_tree (converted f s c)

-- ---- what a shape without parts starts at (`implicit_default`, and `implicit` for strings and references): IEC 61131-3, 6.4.2 and table 10
-- zero, as a constant of a kind; table 10 leaves DATE and DATE_AND_TIME to the implementer: 1970-01-01, as for the long types
unfoldable pub zero_of : ℕ → ℕ → Outcome
zero_of kind width = ok (constant_tree (constant_of kind 0 0 0 width))

-- a temporal literal is long for a type of 64 bits (the Rust's `width`)
unfoldable pub long : ℕ → ℕ
long bits = pick (eqb bits 64) 1 0

-- a string is empty
unfoldable pub empty_string : List ℕ → ℕ → ℕ → Outcome
empty_string f length width = as_tree (cut_string f length width 0 0)

-- 6.4.4.2: an enumeration starts at its default member; a default's place past the members gives none (document 01, Shapes)
unfoldable pub default_member : List ℕ → ℕ → ℕ → ℕ → Outcome
default_member f first count default = pick (ltb default count) (ok (enumerated_tree (word f members (first + default) 0) 0)) none

-- 6.4.4.4: a subrange starts at its lower limit, as an integer
unfoldable pub as_integer_tree : Constant → Tree
as_integer_tree c = constant_tree (constant_of 1 c.sign c.low c.high 0)

-- structures, arrays and function blocks start at what their parts start at, and an interface has none (docs/DIFFERENCES.md)
unfoldable pub built_in : List ℕ → Shape → Outcome
built_in f shape.Bool = zero_of 0 0
built_in f (shape.Int bits) = zero_of 1 0
built_in f (shape.UInt bits) = zero_of 1 0
built_in f (shape.Real bits) = zero_of 3 0
built_in f (shape.Bytes bits) = zero_of 1 0
built_in f (shape.Time bits) = zero_of 4 (long bits)
built_in f (shape.Date bits) = zero_of 6 (long bits)
built_in f (shape.TimeOfDay bits) = zero_of 5 (long bits)
built_in f (shape.DateAndTime bits) = zero_of 7 (long bits)
built_in f (shape.String length width) = empty_string f length width
built_in f (shape.Enumeration first count default underlying) = default_member f first count default
built_in f (shape.Structure first count) = none
built_in f (shape.Array element first count) = none
built_in f (shape.Subrange base low high) = ok (as_integer_tree (constant_at f low))
built_in f (shape.FunctionBlock name) = none
built_in f (shape.Interface name) = none
-- 6.4.4.10: a reference is null
built_in f (shape.Reference target) = ok null_tree
built_in f shape.Unknown = none

-- ---- enumerated values: one of the members, its qualifier kept (`from_enumerated_value`)
unfoldable pub is_member : List ℕ → ℕ → ℕ → ℕ → Bool
is_member f first zero value = false
is_member f first (suc k) value = is_member f first k value || eqb (word f members (first + k) 0) value

unfoldable pub enumerated_value : List ℕ → Shape → ℕ → ℕ → Outcome
enumerated_value f s value qualifier = on_enumeration s none (λ first count. pick (is_member f first count value) (ok (enumerated_tree value qualifier)) none)

-- ---- what an expression gives a place (`expression`): the constant that it is, or itself, to be evaluated later
-- parentheses are gone through always, a conversion only directly over a constant or an enumerated value
unfoldable pub expression_by : (Shape → Constant → Outcome) → List ℕ → Shape → Expr → Outcome
expression_by constant f s (Expr.constant c) = constant s c
expression_by constant f s (Expr.enumerated value qualifier) = enumerated_value f s value qualifier
expression_by constant f s (Expr.parentheses x) = expression_by constant f s x
expression_by constant f s (Expr.conversion n (Expr.constant c)) = constant s c
expression_by constant f s (Expr.conversion n (Expr.enumerated value qualifier)) = enumerated_value f s value qualifier
expression_by constant f s (Expr.conversion n (Expr.parentheses x)) = ok (expression_tree n)
expression_by constant f s (Expr.conversion n (Expr.conversion m x)) = ok (expression_tree n)
expression_by constant f s (Expr.conversion n (Expr.null m)) = ok (expression_tree n)
expression_by constant f s (Expr.conversion n (Expr.other m)) = ok (expression_tree n)
expression_by constant f s (Expr.null n) = ok (pick (is_reference s) null_tree (expression_tree n))
expression_by constant f s (Expr.other n) = ok (expression_tree n)

abbrev pub expression_value : List ℕ → Shape → Expr → Outcome
expression_value f = expression_by (constant_value f) f

-- what this file computes with
unfoldable pub opened : Unit {0}
unfolding size_of value_of is_integer kept as_bool as_integer as_real as_count max_length cut_string uncut_word as_string converted as_tree constant_value zero_of long empty_string default_member as_integer_tree built_in is_member enumerated_value expression_by
opened = tt
