-- A completed initializer as a number: its tree has as many nodes as the variable's, which is not too large. Assumes nothing.
use mathlib.Core.Path.{◌≡◌, refl, ap, sym, ◌∙◌}
use mathlib.Core.Bool.{Bool, true, false}
use mathlib.Core.List.{List, [], ◌∷◌}
use Prim.Native.Nat.{ℕ, ◌*◌, ◌≤◌}
use native.Mathlib.Omega.{arith}
use lib.Dec.{eqb, leb}
use Rattle.std.specs.Prelude.{Option, Some, None, Result, Ok, Err}
use Rattle.definition.specs.declared.answers.Refusal.{Refusal}
use Rattle.definition.specs.declared.answers.Slot.{Slot}
use Rattle.definition.specs.Base.{pick, choose}
use Rattle.definition.specs.Tree.{Tree, nodes, node_words, most_nodes}
use Rattle.definition.specs.Ask.{ok, none, large, Outcome}
use Rattle.definition.specs.Starting.{variable_outcome}
use Rattle.definition.specs.Complete.{Completed, completed, left, completion}
use Rattle.definition.specs.Answers.{refuses, says, completed_says, variable_refused, slot_answer, completion_answer, completed_answer}
use Rattle.laws.specs.Asks.{OnOk}
use Rattle.laws.specs.Values.{Small}
use Rattle.laws.specs.Sizes.{variable-small}
use Rattle.laws.specs.Completes.{completion-in}
use Rattle.codes.specs.Counted.{Counted}
use Rattle.start_values.proofs.Numbers.{numbers}

-- ---- what is answered of a variable's completed initializer
module _ (f : List ℕ) (v out kind n : ℕ) where
  slot-few : (t : Tree) → Small t → (d : Completed) → completion f v (ok t) ≡ d → says 0 (kind ∷ n ∷ []) ≡ slot_answer d out → n ≤ most_nodes
  unfolding slot_answer
  slot-few t s (completed i u) e h = go (leb (node_words * nodes u) out) h
    where
      go : (b : Bool) → says 0 (kind ∷ n ∷ []) ≡ pick b (says 0 (i ∷ nodes u ∷ [])) (refuses 10) → n ≤ most_nodes
      go true q = let k : n ≡ nodes u = cc in omega (arith, (completion-in f v i t u s e).same_nodes, s.few)
      go false q = let z : ◌≡◌ {A = ℕ} 0 1 = cc in absurd (omega arith)
  slot-few t s left e h = let z : ◌≡◌ {A = ℕ} 0 1 = cc in absurd (omega arith)

  outcome-few : (o : Outcome) → OnOk Small o → says 0 (kind ∷ n ∷ []) ≡ completion_answer f v o out → n ≤ most_nodes
  unfolding completion_answer
  outcome-few (ok t) s h = slot-few t s (completion f v (ok t)) refl h
  outcome-few none s h = let z : ◌≡◌ {A = ℕ} 0 1 = cc in absurd (omega arith)
  outcome-few large s h = let z : ◌≡◌ {A = ℕ} 0 1 = cc in absurd (omega arith)

  answer-few : (lines room : ℕ) → says 0 (kind ∷ n ∷ []) ≡ completed_answer f v out lines room → n ≤ most_nodes
  unfolding completed_answer
  answer-few lines room h = go (eqb (variable_refused f v lines room) 0) h
    where
      go : (b : Bool) → says 0 (kind ∷ n ∷ []) ≡ choose b (λ u. completion_answer f v (variable_outcome f v) out) (λ u. refuses (variable_refused f v lines room)) → n ≤ most_nodes
      go true q = outcome-few (variable_outcome f v) (variable-small f v) q
      go false q = let z : ◌≡◌ {A = ℕ} 0 1 = cc in absurd (omega arith)

pub answer-counted : (f : List ℕ) (v out lines room : ℕ) {a : Result (Option Slot) Refusal} → completed_says a ≡ completed_answer f v out lines room → Counted a
unfolding completed_says
answer-counted f v out lines room e = record { few = λ slot q. answer-few f v out slot.kind slot.nodes lines room (ap completed_says (sym q) ∙ e) }

pub ruleset completed_numbers = (numbers, answer-counted)
