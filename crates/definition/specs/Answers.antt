-- What each public function answers, in document 01's numbers, and what it leaves in the words that it is lent: out holds the answer at its front and keeps the
-- rest; a refusal, none and left keep all of out; work words always end as 0 (document 01, after the refusals).
use Rattle.std.specs.Prelude.{Bool, ◌&&◌, List, [], ◌∷◌, ◌++◌, ℕ, ◌+◌, ◌*◌, ◌^◌, min, eqb, leb, ltb, length, drop, replicate, Option, Some, None, Result, Ok, Err}
use Rattle.definition.specs.declared.answers.Refusal.{Refusal}
use Rattle.definition.specs.declared.answers.Refusal.TheVariants as refusal
use Rattle.definition.specs.declared.answers.Slot.{Slot}
use Rattle.definition.specs.Base.{pick, choose}
use Rattle.definition.specs.Layout.{count, types, variables}
use Rattle.definition.specs.Accept.{need, verdict}
use Rattle.definition.specs.Tree.{nodes, flatten, node_words, tree_words}
use Rattle.definition.specs.Ask.{ok, none, large, Outcome}
use Rattle.definition.specs.Starting.{type_outcome, variable_outcome}
use Rattle.definition.specs.Complete.{Completed, completed, left, completion}
use Rattle.definition.specs.Uses.{ranks_of, rank_at}
use Rattle.definition.specs.Sheet.{on_ranking, sheet_with, check_answer}
use Rattle.definition.specs.Depth.{levels}

-- ---- what an answer says: a refusal's number, or a state (0 value, 1 none or left) with its values
pub data Says : Type 0 where
  refuses : ℕ → Says
  says : ℕ → List ℕ → Says

-- a refusal's number
unfoldable pub number_of : Refusal → ℕ
number_of refusal.Ends = 1
number_of refusal.Counts = 2
number_of refusal.Words = 3
number_of refusal.Points = 4
number_of refusal.Alike = 5
number_of refusal.Elements = 6
number_of refusal.Missing = 7
number_of refusal.Large = 8
number_of refusal.Circle = 9
number_of refusal.Short = 10
number_of refusal.Sections = 11
number_of refusal.Ranks = 12
number_of refusal.Lines = 13
number_of refusal.NotHeld = 14
number_of refusal.Wide = 15

unfoldable pub acceptance_says : Result (Unit {0}) Refusal → Says
acceptance_says (Ok u) = says 0 []
acceptance_says (Err r) = refuses (number_of r)

unfoldable pub words_say : Result ℕ Refusal → Says
words_say (Ok n) = says 0 (n ∷ [])
words_say (Err r) = refuses (number_of r)

unfoldable pub tree_says : Result (Option ℕ) Refusal → Says
tree_says (Ok (Some nodes)) = says 0 (nodes ∷ [])
tree_says (Ok None) = says 1 []
tree_says (Err r) = refuses (number_of r)

unfoldable pub completed_says : Result (Option Slot) Refusal → Says
completed_says (Ok (Some slot)) = says 0 (slot.kind ∷ slot.nodes ∷ [])
completed_says (Ok None) = says 1 []
completed_says (Err r) = refuses (number_of r)

-- a sheet's number of words
abbrev pub sheet_says : Result ℕ Refusal → Says
sheet_says = words_say

abbrev pub check_says : Result (Unit {0}) Refusal → Says
check_says = acceptance_says

-- ---- the same as a number, for C
-- of a function that only passes or refuses: 0, or the refusal's number
unfoldable pub pass_code : Says → ℕ
pass_code (refuses n) = n
pass_code (says state values) = 0

-- a value: 0 for none and left, a number of words or nodes, or a completed initializer's kind and nodes
unfoldable pub packed : List ℕ → ℕ
packed [] = 0
packed (n ∷ []) = n
packed (kind ∷ nodes ∷ l) = kind * 65536 + nodes

-- of any other: the refusal's number times 2 ^ 32, or the value
unfoldable pub value_code : Says → ℕ
value_code (refuses n) = n * 2 ^ 32
value_code (says state values) = packed values

-- ---- refusals first
-- a refusal's number, or 0: then the answer itself
abbrev pub answered : {A : Type 0} → ℕ → (ℕ → A) → (Unit {0} → A) → A
answered refusal refused value = choose (eqb refusal 0) (λ u. value tt) (λ u. refused refusal)

-- a file's refusal of 1 to 6, or what comes after it
abbrev pub after_file : List ℕ → (Unit {0} → ℕ) → ℕ
after_file f next = choose (eqb (verdict f) 0) next (λ u. verdict f)

unfoldable pub accept_answer : List ℕ → Says
accept_answer f = answered (verdict f) refuses (λ u. says 0 [])

-- ---- work words, in two slices: lines, for what is remembered of types, and room, for trees under construction
-- a line for each type: rank, state, count and a tree
unfoldable pub line_words : List ℕ → ℕ
line_words f = count f types * (3 + tree_words)

-- two trees for each level
unfoldable pub room_words : List ℕ → ℕ
room_words f = levels f * (2 * tree_words)

-- how many words a slice must have, of an accepted file
unfoldable pub words_answer : List ℕ → ℕ → Says
words_answer f n = answered (verdict f) refuses (λ u. says 0 (n ∷ []))

-- they end as 0, however many were lent
unfoldable pub cleared : List ℕ → List ℕ
cleared work = replicate (length work) 0

-- ---- trees: refusals 1 to 7, 10 for too few work words, 8, and 10 for too short an out
unfoldable pub enough : List ℕ → ℕ → ℕ → Bool
enough f lines room = leb (line_words f) lines && leb (room_words f) room

-- the refusals before the answer itself is known; `there` says whether the file has what is asked for
unfoldable pub refused_tree : List ℕ → Bool → ℕ → ℕ → ℕ
refused_tree f there lines room = after_file f λ u. need there 7 λ v. need (enough f lines room) 10 λ w. 0

-- an answer's words at the front of out
unfoldable pub over : List ℕ → List ℕ → List ℕ
over words out = pick (leb (length words) (length out)) (words ++ drop (length words) out) out

unfoldable pub tree_answer : Outcome → ℕ → Says
tree_answer (ok t) out = pick (leb (node_words * nodes t) out) (says 0 (nodes t ∷ [])) (refuses 10)
tree_answer none out = says 1 []
tree_answer large out = refuses 8

unfoldable pub tree_out : Outcome → List ℕ → List ℕ
tree_out (ok t) out = over (flatten t) out
tree_out none out = out
tree_out large out = out

unfoldable pub type_refused : List ℕ → ℕ → ℕ → ℕ → ℕ
type_refused f t lines room = refused_tree f (ltb t (count f types)) lines room

unfoldable pub type_tree_answer : List ℕ → ℕ → ℕ → ℕ → ℕ → Says
type_tree_answer f t out lines room = answered (type_refused f t lines room) refuses (λ u. tree_answer (type_outcome f t) out)

unfoldable pub type_tree_out : List ℕ → ℕ → List ℕ → ℕ → ℕ → List ℕ
type_tree_out f t out lines room = answered (type_refused f t lines room) (λ n. out) (λ u. tree_out (type_outcome f t) out)

unfoldable pub variable_refused : List ℕ → ℕ → ℕ → ℕ → ℕ
variable_refused f v lines room = refused_tree f (ltb v (count f variables)) lines room

unfoldable pub variable_tree_answer : List ℕ → ℕ → ℕ → ℕ → ℕ → Says
variable_tree_answer f v out lines room = answered (variable_refused f v lines room) refuses (λ u. tree_answer (variable_outcome f v) out)

unfoldable pub variable_tree_out : List ℕ → ℕ → List ℕ → ℕ → ℕ → List ℕ
variable_tree_out f v out lines room = answered (variable_refused f v lines room) (λ n. out) (λ u. tree_out (variable_outcome f v) out)

-- ---- completed initializers: a too large variable is refused when it is asked alone
unfoldable pub slot_answer : Completed → ℕ → Says
slot_answer (completed i t) out = pick (leb (node_words * nodes t) out) (says 0 (i ∷ nodes t ∷ [])) (refuses 10)
slot_answer left out = says 1 []

unfoldable pub completion_answer : List ℕ → ℕ → Outcome → ℕ → Says
completion_answer f v (ok t) out = slot_answer (completion f v (ok t)) out
completion_answer f v none out = says 1 []
completion_answer f v large out = refuses 8

unfoldable pub slot_out : Completed → List ℕ → List ℕ
slot_out (completed i t) out = over (flatten t) out
slot_out left out = out

unfoldable pub completed_answer : List ℕ → ℕ → ℕ → ℕ → ℕ → Says
completed_answer f v out lines room = answered (variable_refused f v lines room) refuses (λ u. completion_answer f v (variable_outcome f v) out)

unfoldable pub completed_out : List ℕ → ℕ → List ℕ → ℕ → ℕ → List ℕ
completed_out f v out lines room = answered (variable_refused f v lines room) (λ n. out) (λ u. slot_out (completion f v (variable_outcome f v)) out)

-- ---- the sheet writer: refusals 1 to 6, 10 for too few work words, 9, and 10 for too short an out
-- the lines of types never need more words than the sheet itself
unfoldable pub enough_sheet : List ℕ → ℕ → ℕ → ℕ → Bool
enough_sheet f out lines room = leb (min out (line_words f)) lines && leb (room_words f) room

unfoldable pub write_refused : List ℕ → ℕ → ℕ → ℕ → ℕ
write_refused f out lines room = after_file f λ u. need (enough_sheet f out lines room) 10 λ v. 0

unfoldable pub written_answer : List ℕ → ℕ → Says
written_answer sheet out = pick (leb (length sheet) out) (says 0 (length sheet ∷ [])) (refuses 10)

unfoldable pub ranked_answer : List ℕ → ℕ → Says
ranked_answer f out = on_ranking (ranks_of f) (λ w. written_answer (sheet_with f (rank_at w)) out) (refuses 9)

unfoldable pub ranked_out : List ℕ → List ℕ → List ℕ
ranked_out f out = on_ranking (ranks_of f) (λ w. over (sheet_with f (rank_at w)) out) out

unfoldable pub write_answer : List ℕ → ℕ → ℕ → ℕ → Says
write_answer f out lines room = answered (write_refused f out lines room) refuses (λ u. ranked_answer f out)

unfoldable pub write_out : List ℕ → List ℕ → ℕ → ℕ → List ℕ
write_out f out lines room = answered (write_refused f (length out) lines room) (λ n. out) (λ u. ranked_out f out)

-- ---- the sheet check: refusals 1 to 6, 10 for too little room, 11, 12, 13; the sheet itself holds the lines
unfoldable pub check_refused : List ℕ → List ℕ → ℕ → ℕ
check_refused f sheet room = after_file f λ u. need (leb (room_words f) room) 10 λ v. check_answer f sheet

unfoldable pub pass_answer : List ℕ → List ℕ → ℕ → Says
pass_answer f sheet room = answered (check_refused f sheet room) refuses (λ u. says 0 [])

-- what this file computes with
unfoldable pub opened : Unit {0}
unfolding number_of acceptance_says words_say tree_says completed_says pass_code packed value_code accept_answer line_words room_words words_answer cleared enough refused_tree over tree_answer tree_out type_refused type_tree_answer type_tree_out variable_refused variable_tree_answer variable_tree_out slot_answer completion_answer slot_out completed_answer completed_out enough_sheet write_refused written_answer ranked_answer ranked_out write_answer write_out check_refused pass_answer
opened = tt
