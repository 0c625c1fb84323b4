-- Entries and expressions of an accepted file, decoded: what they point to is lower, so that each is decoded from those before it, and fuel does not matter.
-- Assumes nothing.
use Rattle.std.specs.Prelude.{◌≡◌, List, ℕ, zero, suc, ◌+◌, ◌≤◌, ◌<◌}
use Rattle.std.proofs.Math.Path.{refl}
use Rattle.std.proofs.Common.{ap, arith}
use Rattle.definition.specs.declared.records.Entry.{Entry}
use Rattle.definition.specs.declared.records.Entry.TheVariants as entry
use Rattle.definition.specs.declared.records.Expression.{Expression}
use Rattle.definition.specs.declared.records.Expression.TheVariants as expression
use Rattle.definition.specs.Layout.{count, entries, expressions}
use Rattle.definition.specs.Records.{entry_at, entry_name, expression_at}
use Rattle.definition.specs.Syntax.{Expr, Init, inil, icons, expr_from, expr_up_to, expr_at, run_from, init_from, init_up_to, init_at, inits_at}
use Rattle.laws.specs.Lower.{from-lower}
use Rattle.laws.specs.Accepted.{Accepted}
use Rattle.laws.specs.Pointed.{run_at, InArray, InMembers, EntryPointed, ExpressionPointed, entry-pointed, expression-pointed}

-- ---- one record
same-expr : (f : List ℕ) (x : ℕ) (v : Expression) → ExpressionPointed f x v → (d g : ℕ → Expr) → ((i : ℕ) → i < x → d i ≡ g i) → expr_from f d x v ≡ expr_from f g x v
unfolding expr_from
same-expr f x (expression.Constant number) p d g h = refl
same-expr f x (expression.Enumerated e) p d g h = refl
same-expr f x (expression.Parentheses inner) p d g h = ap Expr.parentheses (h inner p)
same-expr f x (expression.Conversion inner) p d g h = ap (Expr.conversion x) (h inner p)
same-expr f x expression.Null p d g h = refl
same-expr f x expression.Reference p d g h = refl
same-expr f x expression.Other p d g h = refl
same-expr f x expression.Unknown p d g h = refl

same-run : (f : List ℕ) (d g : ℕ → Init) (first many : ℕ) → ((k : ℕ) → first ≤ k → k < first + many → d k ≡ g k) → run_from f d first many ≡ run_from f g first many
unfolding run_from
same-run f d g first zero h = refl
same-run f d g first (suc many) h = rw (h first (omega arith) (omega arith), same-run f d g (suc first) many (λ k l b. h k (omega arith) (omega arith)))

same-init : (f : List ℕ) (e : ℕ) (v : Entry) → EntryPointed f e v → (d g : ℕ → Init) → ((i : ℕ) → i < e → d i ≡ g i) → init_from f d v ≡ init_from f g v
unfolding init_from
same-init f e (entry.Constant number) p d g h = refl
same-init f e (entry.Enumerated value qualifier) p d g h = refl
same-init f e (entry.Array first many) p d g h =
    ap Init.array (same-run f d g first many (λ k l b. h k (run_at (λ i. (i < e) × InArray f i) first many p.1 k l b).0))
same-init f e (entry.Structure first many) p d g h =
    ap Init.structure (same-run f d g first many (λ k l b. h k (run_at (λ i. (i < e) × InMembers f i) first many p.1 k l b).0))
same-init f e (entry.Expression number) p d g h = refl
same-init f e entry.LateBound p d g h = refl
same-init f e (entry.Repeat many zero) p d g h = refl
same-init f e (entry.Repeat many (suc i)) p d g h = ap (Init.repeated many) (h i p.0)
same-init f e entry.Unknown p d g h = refl

-- ---- an accepted file
module _ (f : List ℕ) (a : Accepted f) where
  next-expr : (k x : ℕ) → expr_up_to f (suc k) x ≡ expr_from f (expr_up_to f k) x (expression_at f x)
  unfolding expr_up_to
  next-expr k x = refl

  next-init : (k e : ℕ) → init_up_to f (suc k) e ≡ init_from f (init_up_to f k) (entry_at f e)
  unfolding init_up_to
  next-init k e = refl

  pub expr-is : (x : ℕ) → x < count f expressions → expr_at f x ≡ expr_from f (expr_at f) x (expression_at f x)
  unfolding expr_at
  expr-is =
      from-lower (count f expressions) (λ x d. expr_from f d x (expression_at f x)) (expr_up_to f)
      (λ x h d g e. same-expr f x (expression_at f x) (expression-pointed f a x h) d g e) next-expr

  pub init-is : (e : ℕ) → e < count f entries → init_at f e ≡ init_from f (init_at f) (entry_at f e)
  unfolding init_at
  init-is =
      from-lower (count f entries) (λ e d. init_from f d (entry_at f e)) (init_up_to f) (λ e h d g q. same-init f e (entry_at f e) (entry-pointed f a e h) d g q) next-init

-- ---- runs of entries
module _ (f : List ℕ) (first : ℕ) where
  pub inits-none : inits_at f first 0 ≡ inil
  unfolding inits_at run_from
  inits-none = refl

  pub inits-next : (k : ℕ) → inits_at f first (suc k) ≡ icons (entry_name f first) (init_at f first) (inits_at f (suc first) k)
  unfolding inits_at run_from
  inits-next k = refl

-- a run inside an entry
pub run-inits : (f : List ℕ) (first many : ℕ) → run_from f (init_at f) first many ≡ inits_at f first many
unfolding inits_at
run-inits f first many = refl
