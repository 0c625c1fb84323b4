-- A law for each call and each return of completed.rt. Assumes nothing.
use mathlib.Core.Path.{◌≡◌, ap, sym, ◌∙◌}
use mathlib.Core.Bool.{Bool, true, false}
use mathlib.Core.List.{List, [], ◌∷◌}
use Prim.Native.Nat.{ℕ, ◌*◌}
use native.Mathlib.Omega.{arith}
use lib.Dec.{leb}
use lib.ListN.{length}
use borrow.Author.Rules.{rules}
use Rattle.definition.specs.Base.{pick}
use Rattle.definition.specs.Tree.{Tree, nodes}
use Rattle.definition.specs.Ask.{ok, Outcome}
use Rattle.definition.specs.Complete.{Completed, completed, completion}
use Rattle.definition.specs.Answers.{refuses, number_of, says, words_say, completed_says, answered, tree_answer, tree_out, slot_answer, completion_answer, slot_out}
use Rattle.complete.specs.Completion.{Completing}
use Rattle.complete.proofs.Answering.{Takes, Leaves, answer-takes, answer-leaves}
use Rattle.resolver.specs.Trees.{Stands, WritesTree}
use Rattle.resolver.specs.Completed.{WritesCompleted}
use Rattle.driver.proofs.Telling.{TreeIn}
use Rattle.acceptance.proofs.Wanting.{not-zero}
use Rattle.resolver.proofs.Answering.{stands-tree, stands_none, stands-large}
use Rattle.std.specs.Prelude.{Option, Some, None, Ok, Err}
use Rattle.std.specs.Prelude as std
use Rattle.definition.specs.declared.answers.Refusal.{Refusal}
use Rattle.definition.specs.declared.answers.Slot.{Slot}

-- ---- `write_completed`
-- a tree in the slot of an initializer of a kind
kind-written : (i : ℕ) (u : Tree) (out n : ℕ) → words_say (Ok n) ≡ tree_answer (ok u) out → completed_says (Ok (Some (record { kind = i; nodes = n }))) ≡ slot_answer (completed i u) out
unfolding words_say completed_says tree_answer slot_answer
kind-written i u out n e = go (leb (6 * nodes u) out) e
  where
    go : (b : Bool) → says 0 (n ∷ []) ≡ pick b (says 0 (nodes u ∷ [])) (refuses 10) → says 0 (i ∷ n ∷ []) ≡ pick b (says 0 (i ∷ nodes u ∷ [])) (refuses 10)
    go true h = let k : n ≡ nodes u = cc in ap (λ (m : ℕ). says 0 (i ∷ m ∷ [])) k
    go false h = let z : ◌≡◌ {A = ℕ} 0 1 = cc in absurd (omega arith)

kind-full : (i : ℕ) (u : Tree) (out : ℕ) (y : Refusal) → words_say (Err y) ≡ tree_answer (ok u) out → completed_says (Err y) ≡ slot_answer (completed i u) out
unfolding words_say completed_says tree_answer slot_answer
kind-full i u out y e = go (leb (6 * nodes u) out) e
  where
    go : (b : Bool) → refuses (number_of y) ≡ pick b (says 0 (nodes u ∷ [])) (refuses 10) → refuses (number_of y) ≡ pick b (says 0 (i ∷ nodes u ∷ [])) (refuses 10)
    go true h = let z : ◌≡◌ {A = ℕ} 0 1 = cc in absurd (omega arith)
    go false h = h

-- what is answered of a tree whose completion is known
module _ (f : List ℕ) (v : ℕ) {o : Outcome} {t : Tree} (e : o ≡ ok t) {d : Completed} (z : completion f v (ok t) ≡ d) where
  outcome-is : (out : ℕ) → slot_answer d out ≡ completion_answer f v o out
  unfolding completion_answer
  outcome-is out = rw e (rw z)

  tree_is : (old : List ℕ) → slot_out d old ≡ slot_out (completion f v o) old
  tree_is old = rw e (rw z)

module _ {f : List ℕ} {v : ℕ} {o : Outcome} {room : List ℕ} where
  pub completes-large : {old : List ℕ} {x : Refusal} → Stands o (Err x) room → {r : std.Result (Option Slot) Refusal} → r ≡ Err x → WritesCompleted f v o old r old
  unfolding number_of completed_says completion_answer slot_out completion
  completes-large h e = let k = stands-large o h in record { says = rw (e, k.0, k.1); is = rw k.0 }

  module _ {a : std.Result (Option ℕ) Refusal} (h : Stands o a room) {x : Option ℕ} (q : a ≡ Ok x) where
    pub completes-none : {old : List ℕ} → x ≡ None → WritesCompleted f v o old (Ok None) old
    unfolding completed_says completion_answer slot_out completion
    completes-none i = let k = stands_none o h (q ∙ ap (λ (x : Option ℕ). Ok x) i) in record { says = rw k; is = rw k }

    module _ {e : ℕ} (i : x ≡ Some e) {c : Option ℕ} {mid : List ℕ} (m : Completing f v room 0 e c mid) where
      there : TreeIn o e room
      there = stands-tree o h (q ∙ ap (λ (x : Option ℕ). Ok x) i)

      pub completes-left : {old : List ℕ} → c ≡ None → WritesCompleted f v o old (Ok None) old
      unfolding completed_says slot_answer slot_out
      completes-left {old} p =
          let l : Leaves f v there.tree room mid = answer-leaves m there.tree there.stands p in
          record { says = outcome-is f v there.is l.is (length old); is = tree_is f v there.is l.is old }

      module _ {kind : ℕ} (p : c ≡ Some kind) {old : List ℕ} {w : std.Result ℕ Refusal} {new : List ℕ} (s : WritesTree mid e old w new) where
        takes : Takes f v there.tree kind 0 e mid
        takes = answer-takes m there.tree there.stands p

        slot-is : new ≡ slot_out (completion f v o) old
        unfolding slot_out tree_out
        slot-is = s.is takes.tree takes.stands ∙ tree_is f v there.is takes.is old

        pub completes-tree : {n : ℕ} → w ≡ Ok n → WritesCompleted f v o old (Ok (Some (record { kind = kind; nodes = n }))) new
        completes-tree {n} j =
            record {
              says = kind-written kind takes.tree (length old) n (ap words_say (sym j) ∙ s.says takes.tree takes.stands) ∙ outcome-is f v there.is takes.is (length old);
              is = slot-is;
            }

        pub completes-full : {y : Refusal} → w ≡ Err y → {r : std.Result (Option Slot) Refusal} → r ≡ Err y → WritesCompleted f v o old r new
        completes-full {y} j k =
            record {
              says = ap completed_says k ∙ kind-full kind takes.tree (length old) y (ap words_say (sym j) ∙ s.says takes.tree takes.stands) ∙ outcome-is f v there.is takes.is (length old);
              is = slot-is;
            }

pub ruleset completing_laws = (rules, completes-large, completes-none, completes-left, completes-tree, completes-full)

-- ---- `slot_answer`: the answer and the words of out, by the refusal
module _ {refused : ℕ} (f : List ℕ) (v : ℕ) (o : Outcome) (old : List ℕ) where
  pub slot-refused : (x : Refusal) → number_of x ≡ refused → {r : std.Result (Option Slot) Refusal} → r ≡ Err x → completed_says r ≡ answered refused refuses (λ u. completion_answer f v o (length old))
  unfolding completed_says
  slot-refused x e q = rw (q, ← e) (rw (not-zero x))

  pub room-refused : (x : Refusal) → number_of x ≡ refused → old ≡ answered refused (λ n. old) (λ u. slot_out (completion f v o) old)
  room-refused x e = rw (← e) (rw (not-zero x))

  module _ (z : refused ≡ 0) {s : List ℕ} (is : s ≡ f) {p : Outcome} (q : p ≡ o) {r : std.Result (Option Slot) Refusal} {new : List ℕ} (w : WritesCompleted s v p old r new) where
    pub slot-passed : completed_says r ≡ answered refused refuses (λ u. completion_answer f v o (length old))
    slot-passed = rw (z, ← is, ← q) w.says

    pub room-passed : new ≡ answered refused (λ n. old) (λ u. slot_out (completion f v o) old)
    room-passed = rw (z, ← is, ← q) w.is
