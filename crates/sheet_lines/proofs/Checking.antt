-- For the loops that compare lines: where a line stands, and that what was built has the words that it is compared with. Assumes nothing.
use mathlib.Core.Path.{◌≡◌, refl, ap, sym, ◌∙◌}
use mathlib.Core.List.{List, ◌∷◌}
use Prim.Native.Nat.{ℕ, suc, ◌+◌, ◌*◌}
use native.Mathlib.Omega.{arith}
use native.Mathlib.Numerals.{add-one}
use lib.ListN.{length, take}
use Rattle.definition.specs.Tree.{Tree, nodes, flatten}
use Rattle.definition.specs.Ask.{ok, none, large}
use Rattle.definition.specs.Complete.{completed, left}
use Rattle.definition.specs.Lines.{outcome_words, completed_words}
use Rattle.tree.specs.Words.{Stand}
use Rattle.sheet_lines.specs.declared.ends.Form.{Form}
use Rattle.sheet_lines.specs.declared.ends.Form.TheVariants as form
use Rattle.sheet_lines.specs.Compare.{Within}
use Rattle.sheet_lines.specs.Ends.{head_words, line_end, line_at}
use Rattle.sheet_lines.specs.Judged.{type_at, variable_at, completed_at, type_same, variable_same, completed_same}
use Rattle.sheet_lines.proofs.Ending.{EndsAt}
use Rattle.sheet_lines.proofs.Reading.{line-within}
use Rattle.sheet_lines.proofs.Shapes.{line-next, place_is}
use Rattle.std.specs.Prelude.{Some}

-- ---- the line that a loop is at
module _ {kind : Form} {s : List ℕ} {at t p e : ℕ} (i : EndsAt kind s at t p) (q : line_end kind s p ≡ Some e) where
  next-is : line_at kind s at (suc t) ≡ e
  next-is = ap (line_at kind s at) (sym (add-one t)) ∙ place_is (line-next i q)

module _ (f : List ℕ) {s : List ℕ} {p e : ℕ} where
  pub type-same-at : {t : ℕ} → EndsAt form.Types s 1 t p → line_end form.Types s p ≡ Some e → type_same f s t ≡ type_at f s t p e
  unfolding type_same
  type-same-at i q = rw (place_is i, next-is i q)

  pub variable-same-at : (v : ℕ) {u : ℕ} → EndsAt form.Variables s (v + 1) u p → line_end form.Variables s p ≡ Some e → variable_same f s v u ≡ variable_at f s u p e
  unfolding variable_same
  variable-same-at v i q = rw (place_is i, next-is i q)

  pub completed-same-at : (c : ℕ) {u : ℕ} → EndsAt form.Completed s (c + 1) u p → line_end form.Completed s p ≡ Some e → completed_same f s c u ≡ completed_at f s u p e
  unfolding completed_same
  completed-same-at c i q = rw (place_is i, next-is i q)

-- ---- where its words are: a type's behind its rank
module _ (s : List ℕ) (p e : ℕ) where
  pub type-in : line_end form.Types s p ≡ Some e → Within (length s) (p + 1) 2 e
  unfolding head_words
  type-in q = let r = line-within form.Types s p e q in record { starts = omega (arith, r.0); inside = r.1 }

  pub variable-in : line_end form.Variables s p ≡ Some e → Within (length s) p 2 e
  unfolding head_words
  variable-in q = let r = line-within form.Variables s p e q in record { starts = r.0; inside = r.1 }

  pub completed-in : line_end form.Completed s p ≡ Some e → Within (length s) p 3 e
  unfolding head_words
  completed-in q = let r = line-within form.Completed s p e q in record { starts = r.0; inside = r.1 }

-- ---- what was built
module _ (words : List ℕ) where
  pub none-built : 1 ∷ 0 ∷ take (0 * 6) words ≡ outcome_words none
  unfolding outcome_words
  none-built = refl

  pub large-built : 2 ∷ 0 ∷ take (0 * 6) words ≡ outcome_words large
  unfolding outcome_words
  large-built = refl

  pub left-built : 1 ∷ 0 ∷ 0 ∷ take (0 * 6) words ≡ completed_words left
  unfolding completed_words
  left-built = refl

  module _ (t : Tree) {n : ℕ} (k : nodes t ≡ n) (x : Stand words 0 (flatten t) (n * 6)) where
    pub tree-built : 0 ∷ n ∷ take (n * 6) words ≡ outcome_words (ok t)
    unfolding outcome_words
    tree-built = rw (x.is, k)

    pub completed-built : (i : ℕ) → 0 ∷ i ∷ n ∷ take (n * 6) words ≡ completed_words (completed i t)
    unfolding completed_words
    completed-built i = rw (x.is, k)
