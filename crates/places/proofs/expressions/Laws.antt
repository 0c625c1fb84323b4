-- A law for each return of expressions.rt, and what its calls require. Assumes nothing.
use mathlib.Core.Path.{◌≡◌, refl, ap, sym, ◌∙◌}
use mathlib.Core.List.{List}
use Prim.Native.Nat.{ℕ, ◌<◌}
use native.Mathlib.Omega.{arith}
use borrow.Author.Rules.{rules}
use Rattle.definition.specs.declared.records.Shape.{Shape}
use Rattle.definition.specs.declared.records.Shape.TheVariants as shape
use Rattle.definition.specs.declared.records.Constant.{Constant}
use Rattle.definition.specs.declared.records.Expression.{Expression}
use Rattle.definition.specs.declared.records.Expression.TheVariants as expression
use Rattle.definition.specs.Base.{pick}
use Rattle.definition.specs.Layout.{word, count, entries, expressions, constants}
use Rattle.definition.specs.Records.{constant_at, expression_at}
use Rattle.definition.specs.Shapes.{is_reference}
use Rattle.definition.specs.Tree.{constant_tree, null_tree, expression_tree}
use Rattle.definition.specs.Ask.{ok, Outcome}
use Rattle.definition.specs.Scalar.{as_tree, constant_value, enumerated_value, expression_value, expression_by}
use Rattle.definition.specs.Syntax.{Expr, expr_from, expr_at}
use Rattle.laws.specs.Accepted.{Accepted}
use Rattle.laws.specs.Decoded.{expr-is}
use Rattle.laws.specs.Pointed.{expression-pointed}
use Rattle.places.proofs.Others.{NoTarget, no_target}
use Rattle.places.proofs.Kept.{Composed, kept-over, Other, kept}

-- ---- `enumerated_entry`
pub entry_value : (f : List ℕ) (s : Shape) (e : ℕ) {value qualifier : ℕ} → value ≡ word f entries e 2 → qualifier ≡ word f entries e 3
    → {r : Outcome} → r ≡ enumerated_value f s value qualifier → r ≡ enumerated_value f s (word f entries e 2) (word f entries e 3)
entry_value f s e p q h = rw (← p, ← q) h

-- ---- `later`, `null_value`
pub later-is : (x : ℕ) (c : Constant) → constant_tree c ≡ expression_tree x → as_tree (ok c) ≡ ok (expression_tree x)
unfolding as_tree
later-is x c e = ap ok e

pub null_is : (s : Shape) (x : ℕ) {n : ℕ} → s ≡ shape.Reference n → (c : Constant) → constant_tree c ≡ null_tree → as_tree (ok c) ≡ ok (pick (is_reference s) null_tree (expression_tree x))
unfolding as_tree
null_is s x e c h = rw (e, h)

pub no-null : (s : Shape) (x : ℕ) → NoTarget s → {r : Outcome} → r ≡ ok (expression_tree x) → r ≡ ok (pick (is_reference s) null_tree (expression_tree x))
no-null s x n h = rw (no_target s n) h

-- ---- `conversion`, `expression`
module _ (f : List ℕ) (a : Accepted f) (s : Shape) (x : ℕ) (l : x < count f expressions) {e : Expression} (is : e ≡ expression_at f x) where
  -- the expression, by its record
  decoded : {d : Expression} → e ≡ d → expr_at f x ≡ expr_from f (expr_at f) x d
  decoded q = expr-is f a x l ∙ ap (expr_from f (expr_at f) x) (sym is ∙ q)

  module _ {r : Outcome} where
    module _ {number : ℕ} (q : e ≡ expression.Constant number) (h : r ≡ constant_value f s (constant_at f number)) where
      pub from-constant : r ≡ expression_value f s (expr_at f x)
      unfolding expression_by expr_from
      from-constant = rw (decoded q) h

      pub over-constant : (n : ℕ) → r ≡ expression_value f s (Expr.conversion n (expr_at f x))
      unfolding expression_by expr_from
      over-constant n = rw (decoded q) h

    module _ {entry : ℕ} (q : e ≡ expression.Enumerated entry) (h : r ≡ enumerated_value f s (word f entries entry 2) (word f entries entry 3)) where
      pub from-enumerated : r ≡ expression_value f s (expr_at f x)
      unfolding expression_by expr_from
      from-enumerated = rw (decoded q) h

      pub over-enumerated : (n : ℕ) → r ≡ expression_value f s (Expr.conversion n (expr_at f x))
      unfolding expression_by expr_from
      over-enumerated n = rw (decoded q) h

    pub over-other : Composed e → (n : ℕ) → r ≡ ok (expression_tree n) → r ≡ expression_value f s (Expr.conversion n (expr_at f x))
    over-other o n h = h ∙ kept-over f s (expr_at f) n x e o ∙ ap (λ d. expression_value f s (Expr.conversion n d)) (sym (decoded refl))

    pub from-parentheses : {inner : ℕ} → e ≡ expression.Parentheses inner → r ≡ expression_value f s (expr_at f inner) → r ≡ expression_value f s (expr_at f x)
    unfolding expression_by expr_from
    from-parentheses q h = rw (decoded q) h

    pub from-conversion : {inner : ℕ} → e ≡ expression.Conversion inner → r ≡ expression_value f s (Expr.conversion x (expr_at f inner)) → r ≡ expression_value f s (expr_at f x)
    unfolding expr_from
    from-conversion q h = rw (decoded q) h

    pub from_null : e ≡ expression.Null → r ≡ ok (pick (is_reference s) null_tree (expression_tree x)) → r ≡ expression_value f s (expr_at f x)
    unfolding expression_by expr_from
    from_null q h = rw (decoded q) h

    pub from-other : Other e → r ≡ ok (expression_tree x) → r ≡ expression_value f s (expr_at f x)
    from-other o h = h ∙ kept f s (expr_at f) x e o ∙ ap (expression_value f s) (sym (decoded refl))

  pub constant-inside : {number : ℕ} → e ≡ expression.Constant number → number < count f constants
  constant-inside q = rw (sym is ∙ q) at (expression-pointed f a x l)

  pub inner-lower : {inner : ℕ} → e ≡ expression.Parentheses inner → inner < x
  inner-lower q = rw (sym is ∙ q) at (expression-pointed f a x l)

  pub inner-inside : {inner : ℕ} → e ≡ expression.Parentheses inner → inner < count f expressions
  inner-inside q = omega (arith, inner-lower q)

  pub inner-falls : {inner t : ℕ} → e ≡ expression.Parentheses inner → x ≡ t → inner < t
  inner-falls q z = omega (arith, inner-lower q)

  pub converted-lower : {inner : ℕ} → e ≡ expression.Conversion inner → inner < count f expressions
  converted-lower {inner} q = let p : inner < x = rw (sym is ∙ q) at (expression-pointed f a x l) in omega arith

pub ruleset laws =
    (rules, entry_value, later-is, null_is, no-null, from-constant, over-constant, from-enumerated, over-enumerated, over-other, from-parentheses, from-conversion, from_null, from-other, constant-inside, inner-inside, inner-falls, converted-lower)
