-- A law for each return of values.rt. Assumes nothing.
use mathlib.Core.Path.{◌≡◌, ap, sym, ◌∙◌}
use mathlib.Core.List.{List}
use Prim.Native.Nat.{ℕ, zero, suc}
use native.Mathlib.Omega.{arith}
use lib.Dec.{eqb}
use borrow.Author.Rules.{rules}
use borrow.Author.Tests.{ne_eqb, eq-eqb}
use Rattle.definition.specs.declared.records.Constant.{Constant}
use Rattle.definition.specs.declared.records.Expression.{Expression}
use Rattle.definition.specs.declared.records.Expression.TheVariants as expression
use Rattle.definition.specs.Ask.{ok}
use Rattle.definition.specs.Base.{pick}
use Rattle.definition.specs.Layout.{word, expressions}
use Rattle.definition.specs.Records.{expression_of, expression_at}
use Rattle.definition.specs.Scalar.{as_tree}
use Rattle.definition.specs.Tree.{constant_tree, null_tree, reference_tree}

is-null : (k a : ℕ) → expression_of k a ≡ expression.Null → k ≡ 4
unfolding expression_of
is-null zero a e = let z : ◌≡◌ {A = ℕ} 0 1 = cc in absurd (omega arith)
is-null (suc zero) a e = let z : ◌≡◌ {A = ℕ} 0 1 = cc in absurd (omega arith)
is-null (suc (suc zero)) a e = let z : ◌≡◌ {A = ℕ} 0 1 = cc in absurd (omega arith)
is-null (suc (suc (suc zero))) a e = let z : ◌≡◌ {A = ℕ} 0 1 = cc in absurd (omega arith)
is-null (suc (suc (suc (suc zero)))) a e = omega arith
is-null (suc (suc (suc (suc (suc zero))))) a e = let z : ◌≡◌ {A = ℕ} 0 1 = cc in absurd (omega arith)
is-null (suc (suc (suc (suc (suc (suc zero)))))) a e = let z : ◌≡◌ {A = ℕ} 0 1 = cc in absurd (omega arith)
is-null (suc (suc (suc (suc (suc (suc (suc k))))))) a e = let z : ◌≡◌ {A = ℕ} 0 1 = cc in absurd (omega arith)

null-is : (k a : ℕ) → k ≡ 4 → expression_of k a ≡ expression.Null
unfolding expression_of
null-is k a e = ap (λ (j : ℕ). expression_of j a) e

module _ (f : List ℕ) (x : ℕ) {e : Expression} (q : e ≡ expression_at f x) (c : Constant) where
  pub reference-null : e ≡ expression.Null → constant_tree c ≡ null_tree → as_tree (ok c) ≡ ok (pick (eqb (word f expressions x 0) 4) null_tree (reference_tree x))
  unfolding expression_at as_tree
  reference-null n h = let k : word f expressions x 0 ≡ 4 = is-null (word f expressions x 0) (word f expressions x 1) (sym q ∙ n) in rw (eq-eqb (word f expressions x 0) 4 k, h)

  pub reference-named : (e ≡ expression.Null → ⊥) → constant_tree c ≡ reference_tree x → as_tree (ok c) ≡ ok (pick (eqb (word f expressions x 0) 4) null_tree (reference_tree x))
  unfolding expression_at as_tree
  reference-named n h = rw (ne_eqb (word f expressions x 0) 4 (λ k. n (q ∙ null-is (word f expressions x 0) (word f expressions x 1) k)), h)

pub ruleset laws = (rules, reference-null, reference-named)
