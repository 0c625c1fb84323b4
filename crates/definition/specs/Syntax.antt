-- Initializers as finite trees, as the Rust's syntax types are. Expressions and entries point only lower, so decoding ends.
use Rattle.std.specs.Prelude.{List, ℕ, zero, suc}
use Rattle.definition.specs.declared.records.Entry.{Entry}
use Rattle.definition.specs.declared.records.Entry.TheVariants as entry
use Rattle.definition.specs.declared.records.Expression.{Expression}
use Rattle.definition.specs.declared.records.Expression.TheVariants as expression
use Rattle.definition.specs.declared.records.Constant.{Constant}
use Rattle.definition.specs.Base.{on_link}
use Rattle.definition.specs.Layout.{word, entries}
use Rattle.definition.specs.Records.{entry_at, entry_name, expression_at, constant_at}

-- an expression, with its number where it may be left as it is (the Rust's `Expr`)
pub data Expr : Type 0 where
  constant : Constant → Expr
  enumerated : ℕ → ℕ → Expr
  parentheses : Expr → Expr
  conversion : ℕ → Expr → Expr
  null : ℕ → Expr
  other : ℕ → Expr

-- an entry of a member list or of an array; n(..) repeats an entry, n() stands for n defaults
mutual
  pub data Init : Type 0 where
    constant : Constant → Init
    enumerated : ℕ → ℕ → Init
    array : Inits → Init
    structure : Inits → Init
    expr : Expr → Init
    late_bound : Init
    repeated : ℕ → Init → Init
    defaults : ℕ → Init

  -- each with its name, 0 where it has none
  pub data Inits : Type 0 where
    inil : Inits
    icons : ℕ → Init → Inits → Inits

-- an expression's record, where what it points to is decoded already
unfoldable pub expr_from : List ℕ → (ℕ → Expr) → ℕ → Expression → Expr
expr_from f below x (expression.Constant number) = Expr.constant (constant_at f number)
expr_from f below x (expression.Enumerated e) = Expr.enumerated (word f entries e 2) (word f entries e 3)
expr_from f below x (expression.Parentheses inner) = Expr.parentheses (below inner)
expr_from f below x (expression.Conversion inner) = Expr.conversion x (below inner)
expr_from f below x expression.Null = Expr.null x
expr_from f below x expression.Reference = Expr.other x
expr_from f below x expression.Other = Expr.other x
expr_from f below x expression.Unknown = Expr.other x

unfoldable pub expr_up_to : List ℕ → ℕ → ℕ → Expr
expr_up_to f zero x = Expr.other x
expr_up_to f (suc k) x = expr_from f (expr_up_to f k) x (expression_at f x)

unfoldable pub expr_at : List ℕ → ℕ → Expr
expr_at f x = expr_up_to f (suc x) x

unfoldable pub run_from : List ℕ → (ℕ → Init) → ℕ → ℕ → Inits
run_from f below first zero = inil
run_from f below first (suc k) = icons (entry_name f first) (below first) (run_from f below (suc first) k)

unfoldable pub init_from : List ℕ → (ℕ → Init) → Entry → Init
init_from f below (entry.Constant number) = Init.constant (constant_at f number)
init_from f below (entry.Enumerated value qualifier) = Init.enumerated value qualifier
init_from f below (entry.Array first many) = Init.array (run_from f below first many)
init_from f below (entry.Structure first many) = Init.structure (run_from f below first many)
init_from f below (entry.Expression number) = Init.expr (expr_at f number)
init_from f below entry.LateBound = Init.late_bound
init_from f below (entry.Repeat many inner) = on_link inner (Init.defaults many) (λ e. Init.repeated many (below e))
init_from f below entry.Unknown = Init.late_bound

unfoldable pub init_up_to : List ℕ → ℕ → ℕ → Init
init_up_to f zero e = Init.late_bound
init_up_to f (suc k) e = init_from f (init_up_to f k) (entry_at f e)

unfoldable pub init_at : List ℕ → ℕ → Init
init_at f e = init_up_to f (suc e) e

-- a run of entries
unfoldable pub inits_at : List ℕ → ℕ → ℕ → Inits
inits_at f first many = run_from f (init_at f) first many

-- what this file computes with
unfoldable pub opened : Unit {0}
unfolding expr_from expr_up_to expr_at run_from init_from init_up_to init_at inits_at
opened = tt
