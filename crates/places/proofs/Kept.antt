-- The expressions that the last arm of a `match` leaves to expressions.rt, told by their tags: each stays itself. Assumes nothing.
use mathlib.Core.Path.{◌≡◌, refl}
use mathlib.Core.List.{List, [], ◌∷◌}
use Prim.Native.Nat.{ℕ}
use types.Run.{OneOf, miss}
use denote.Enum.Declared.{tag_of}
use Rattle.definition.specs.contracts.records.Expression.{the_type}
use Rattle.definition.specs.declared.records.Shape.{Shape}
use Rattle.definition.specs.declared.records.Expression.{Expression}
use Rattle.definition.specs.declared.records.Expression.TheVariants as expression
use Rattle.definition.specs.Ask.{ok}
use Rattle.definition.specs.Scalar.{expression_value, expression_by}
use Rattle.definition.specs.Syntax.{Expr, expr_from}
use Rattle.definition.specs.Tree.{expression_tree}

-- all but a constant and an enumerated value
abbrev composed : List ℕ
composed = 2 ∷ 3 ∷ 4 ∷ 5 ∷ 6 ∷ 7 ∷ []

abbrev pub Composed : Expression → Type 0
Composed e = OneOf composed (tag_of the_type e)

-- a variable reference, another expression, and a kind that is unknown
abbrev others : List ℕ
others = 5 ∷ 6 ∷ 7 ∷ []

abbrev pub Other : Expression → Type 0
Other e = OneOf others (tag_of the_type e)

module _ (f : List ℕ) (s : Shape) (below : ℕ → Expr) (x : ℕ) where
  pub kept-over : (i : ℕ) (e : Expression) → Composed e → ok (expression_tree x) ≡ expression_value f s (Expr.conversion x (expr_from f below i e))
  unfolding expression_by expr_from
  kept-over i (expression.Constant number) h = absurd (miss composed 0 tt h)
  kept-over i (expression.Enumerated entry) h = absurd (miss composed 1 tt h)
  kept-over i (expression.Parentheses inner) h = refl
  kept-over i (expression.Conversion inner) h = refl
  kept-over i expression.Null h = refl
  kept-over i expression.Reference h = refl
  kept-over i expression.Other h = refl
  kept-over i expression.Unknown h = refl

  pub kept : (e : Expression) → Other e → ok (expression_tree x) ≡ expression_value f s (expr_from f below x e)
  unfolding expression_by expr_from
  kept (expression.Constant number) h = absurd (miss others 0 tt h)
  kept (expression.Enumerated entry) h = absurd (miss others 1 tt h)
  kept (expression.Parentheses inner) h = absurd (miss others 2 tt h)
  kept (expression.Conversion inner) h = absurd (miss others 3 tt h)
  kept expression.Null h = absurd (miss others 4 tt h)
  kept expression.Reference h = refl
  kept expression.Other h = refl
  kept expression.Unknown h = refl
