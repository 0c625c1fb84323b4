-- One record as a value of its enum, from its words (document 01, "Sections, their makers and readers"). Kinds are listed in the paper's order.
use Rattle.std.specs.Prelude.{List, [], ◌∷◌, ℕ, get_or}
use Rattle.definition.specs.declared.records.Shape.{Shape}
use Rattle.definition.specs.declared.records.Shape.TheVariants as shape
use Rattle.definition.specs.declared.records.Declaration.{Declaration}
use Rattle.definition.specs.declared.records.Declaration.TheVariants as declaration
use Rattle.definition.specs.declared.records.Initializer.{Initializer}
use Rattle.definition.specs.declared.records.Initializer.TheVariants as initializer
use Rattle.definition.specs.declared.records.Entry.{Entry}
use Rattle.definition.specs.declared.records.Entry.TheVariants as entry
use Rattle.definition.specs.declared.records.Expression.{Expression}
use Rattle.definition.specs.declared.records.Expression.TheVariants as expression
use Rattle.definition.specs.declared.records.Constant.{Constant}
use Rattle.definition.specs.Layout.{word, shapes, types, initializers, entries, expressions, constants}

-- ---- Shapes: five words, kind first
unfoldable pub shape_of : ℕ → ℕ → ℕ → ℕ → ℕ → Shape
shape_of kind a b c d =
    get_or (
    shape.Bool ∷
    shape.Int a ∷
    shape.UInt a ∷
    shape.Real a ∷
    shape.Bytes a ∷
    shape.Time a ∷
    shape.Date a ∷
    shape.TimeOfDay a ∷
    shape.DateAndTime a ∷
    shape.String a b ∷
    shape.Enumeration a b c d ∷
    shape.Structure a b ∷
    shape.Array a b c ∷
    shape.Subrange a b c ∷
    shape.FunctionBlock a ∷
    shape.Interface a ∷
    shape.Reference a ∷
    []) kind shape.Unknown

unfoldable pub shape_at : List ℕ → ℕ → Shape
shape_at f n = shape_of (word f shapes n 0) (word f shapes n 1) (word f shapes n 2) (word f shapes n 3) (word f shapes n 4)

-- ---- Types: shape; links for alias base, element and referenced type; declaration; named type; start value; run; run of block fields
unfoldable pub type_shape : List ℕ → ℕ → ℕ
type_shape f t = word f types t 0

unfoldable pub alias_base : List ℕ → ℕ → ℕ
alias_base f t = word f types t 1

unfoldable pub element_type : List ℕ → ℕ → ℕ
element_type f t = word f types t 2

unfoldable pub referenced_type : List ℕ → ℕ → ℕ
referenced_type f t = word f types t 3

unfoldable pub declaration_kind : List ℕ → ℕ → ℕ
declaration_kind f t = word f types t 4

unfoldable pub declaration_of : ℕ → ℕ → ℕ → ℕ → ℕ → Declaration
declaration_of kind named start first many =
    get_or (
    declaration.Nothing ∷
    declaration.Simple start ∷
    declaration.Subrange named start ∷
    declaration.String start ∷
    declaration.Array named first many ∷
    declaration.Structure first many ∷
    declaration.Reference named ∷
    declaration.Enumeration named ∷
    declaration.LateBound named ∷
    declaration.FunctionBlock first many ∷
    []) kind declaration.Unknown

unfoldable pub declaration_at : List ℕ → ℕ → Declaration
declaration_at f t = declaration_of (declaration_kind f t) (word f types t 5) (word f types t 6) (word f types t 7) (word f types t 8)

-- ---- Initializers: kind; named type; link to inline element type; value link; run of entries; 1 + string length; width
unfoldable pub named_type : List ℕ → ℕ → ℕ
named_type f i = word f initializers i 1

unfoldable pub initializer_kind : List ℕ → ℕ → ℕ
initializer_kind f i = word f initializers i 0

unfoldable pub initializer_of : ℕ → ℕ → ℕ → ℕ → ℕ → ℕ → Initializer
initializer_of kind value first many length width =
    get_or (
    initializer.Nothing ∷
    initializer.Interface ∷
    initializer.Subrange value ∷
    initializer.Simple value ∷
    initializer.String value length width ∷
    initializer.EnumeratedValues value ∷
    initializer.EnumeratedType value ∷
    initializer.FunctionBlock first many ∷
    initializer.Structure first many ∷
    initializer.Array first many ∷
    initializer.Reference value ∷
    initializer.LateResolved value ∷
    initializer.Call ∷
    initializer.SimpleExpression ∷
    initializer.StringExpression ∷
    []) kind initializer.Unknown

unfoldable pub initializer_at : List ℕ → ℕ → Initializer
initializer_at f i =
    initializer_of (initializer_kind f i) (word f initializers i 3) (word f initializers i 4) (word f initializers i 5) (word f initializers i 6) (word f initializers i 7)

-- ---- Entries: kind, name, two more
unfoldable pub entry_of : ℕ → ℕ → ℕ → Entry
entry_of kind a b =
    get_or (
    entry.Constant a ∷
    entry.Enumerated a b ∷
    entry.Array a b ∷
    entry.Structure a b ∷
    entry.Expression a ∷
    entry.LateBound ∷
    entry.Repeat a b ∷
    []) kind entry.Unknown

unfoldable pub entry_at : List ℕ → ℕ → Entry
entry_at f e = entry_of (word f entries e 0) (word f entries e 2) (word f entries e 3)

unfoldable pub entry_name : List ℕ → ℕ → ℕ
entry_name f e = word f entries e 1

-- ---- Expressions: kind, word
unfoldable pub expression_of : ℕ → ℕ → Expression
expression_of kind a =
    get_or (
    expression.Constant a ∷
    expression.Enumerated a ∷
    expression.Parentheses a ∷
    expression.Conversion a ∷
    expression.Null ∷
    expression.Reference ∷
    expression.Other ∷
    []) kind expression.Unknown

unfoldable pub expression_at : List ℕ → ℕ → Expression
expression_at f x = expression_of (word f expressions x 0) (word f expressions x 1)

-- ---- Constants: kind, sign, low, high, width
unfoldable pub constant_of : ℕ → ℕ → ℕ → ℕ → ℕ → Constant
constant_of kind sign low high width = record { kind = kind; sign = sign; low = low; high = high; width = width }

unfoldable pub constant_at : List ℕ → ℕ → Constant
constant_at f c = constant_of (word f constants c 0) (word f constants c 1) (word f constants c 2) (word f constants c 3) (word f constants c 4)

-- what this file computes with
unfoldable pub opened : Unit {0}
unfolding shape_of shape_at type_shape alias_base element_type referenced_type declaration_kind declaration_of declaration_at named_type initializer_kind initializer_of initializer_at entry_of entry_at entry_name expression_of expression_at constant_of constant_at
opened = tt
