-- What the public functions answer and leave in the lent words, on given files: each refusal in its order, and what comes before it (document 01, Refusals).
use Rattle.std.specs.Prelude.{◌≡◌, refl, List, [], ◌∷◌, ◌++◌, map, ℕ, replicate, Some, None, Ok, Err}
use Rattle.definition.specs.declared.answers.Refusal.TheVariants as refusal
use Rattle.definition.specs.Answers.{Says, refuses, says, acceptance_says, words_say, tree_says, completed_says, sheet_says, check_says, pass_code, value_code, accept_answer, words_answer, cleared, type_tree_answer, type_tree_out, variable_tree_answer, variable_tree_out, completed_answer, completed_out, write_answer, write_out, pass_answer}
use Rattle.definition.specs.Computing.{computing}
use Rattle.definition.specs.ExampleFiles.{file, bool, variable, naming, plain, circle, array_of, opened}

-- what a row computes, and what document 01 says
record Row (A : Type 0) : Type 0 where
  computed : A
  is : A

row : {A : Type 0} → A → A → Row A
row computed is = record { computed = computed; is = is }

-- two shapes BOOL: refusal 5
alike : List ℕ
alike = file 254 (bool ∷ bool ∷ []) [] [] [] [] [] [] [] []

-- a variable of ARRAY 1..2048 OF INT, whose tree is too large; a variable of no type with a call, which has none
large : List ℕ
large = array_of 2048 (variable 2 ∷ []) (naming 3 2 ∷ [])

valueless : List ℕ
valueless = array_of 1 (variable 0 ∷ []) (naming 12 0 ∷ [])

-- what is lent: `plain` wants 12,291 words of lines and 49,152 of room, `large` and `valueless` 24,582 and 73,728
rows : List (Row Says)
rows =
    row (accept_answer plain) (says 0 []) ∷
    row (accept_answer alike) (refuses 5) ∷
    row (words_answer plain 7) (says 0 (7 ∷ [])) ∷
    row (words_answer alike 7) (refuses 5) ∷
    -- a tree: its nodes; a slice of six words is long enough for one
    row (type_tree_answer plain 0 6 12291 49152) (says 0 (1 ∷ [])) ∷
    row (variable_tree_answer plain 0 6 12291 49152) (says 0 (1 ∷ [])) ∷
    row (completed_answer plain 0 6 12291 49152) (says 0 (3 ∷ 1 ∷ [])) ∷
    row (type_tree_answer plain 0 5 12291 49152) (refuses 10) ∷
    row (variable_tree_answer plain 0 5 12291 49152) (refuses 10) ∷
    row (completed_answer plain 0 5 12291 49152) (refuses 10) ∷
    -- none and left need no words
    row (variable_tree_answer valueless 0 0 24582 73728) (says 1 []) ∷
    row (completed_answer valueless 0 0 24582 73728) (says 1 []) ∷
    -- the file's refusal, then 7, then 10 for either work slice, then 8, then 10 for the answer
    row (type_tree_answer alike 9 0 0 0) (refuses 5) ∷
    row (variable_tree_answer alike 9 0 0 0) (refuses 5) ∷
    row (completed_answer alike 9 0 0 0) (refuses 5) ∷
    row (type_tree_answer plain 1 0 0 0) (refuses 7) ∷
    row (variable_tree_answer plain 1 0 0 0) (refuses 7) ∷
    row (completed_answer plain 1 0 0 0) (refuses 7) ∷
    row (type_tree_answer plain 0 6 12290 49152) (refuses 10) ∷
    row (type_tree_answer plain 0 6 12291 49151) (refuses 10) ∷
    row (type_tree_answer large 1 0 24582 73727) (refuses 10) ∷
    row (type_tree_answer large 1 0 24582 73728) (refuses 8) ∷
    row (variable_tree_answer large 0 0 24582 73727) (refuses 10) ∷
    row (variable_tree_answer large 0 0 24582 73728) (refuses 8) ∷
    row (completed_answer large 0 0 24582 73728) (refuses 8) ∷
    -- a sheet of 29 words: lines need no more than the answer slice has
    row (write_answer plain 29 29 49152) (says 0 (29 ∷ [])) ∷
    row (write_answer plain 20000 12291 49152) (says 0 (29 ∷ [])) ∷
    row (write_answer plain 20000 12290 49152) (refuses 10) ∷
    row (write_answer plain 29 29 49151) (refuses 10) ∷
    row (write_answer plain 28 28 49152) (refuses 10) ∷
    row (write_answer alike 0 0 0) (refuses 5) ∷
    -- 9 after the work words and before the answer slice
    row (write_answer circle 0 0 49152) (refuses 9) ∷
    row (write_answer circle 0 0 49151) (refuses 10) ∷
    -- the check: 10 before 11
    row (pass_answer alike [] 0) (refuses 5) ∷
    row (pass_answer plain [] 49151) (refuses 10) ∷
    row (pass_answer plain [] 49152) (refuses 11) ∷
    row (pass_answer plain (write_out plain (replicate 29 0) 29 49152) 49152) (says 0 []) ∷
    -- each case of an answer
    row (acceptance_says (Ok tt)) (says 0 []) ∷
    row (acceptance_says (Err refusal.Points)) (refuses 4) ∷
    row (words_say (Ok 9)) (says 0 (9 ∷ [])) ∷
    row (words_say (Err refusal.Points)) (refuses 4) ∷
    row (tree_says (Ok (Some 9))) (says 0 (9 ∷ [])) ∷
    row (tree_says (Ok None)) (says 1 []) ∷
    row (tree_says (Err refusal.Large)) (refuses 8) ∷
    row (completed_says (Ok (Some (record { kind = 3; nodes = 9 })))) (says 0 (3 ∷ 9 ∷ [])) ∷
    row (completed_says (Ok None)) (says 1 []) ∷
    row (completed_says (Err refusal.Large)) (refuses 8) ∷
    row (sheet_says (Ok 29)) (says 0 (29 ∷ [])) ∷
    row (sheet_says (Err refusal.Circle)) (refuses 9) ∷
    row (check_says (Ok tt)) (says 0 []) ∷
    row (check_says (Err refusal.Lines)) (refuses 13) ∷
    []

answers : map (λ r. r.computed) rows ≡ map (λ r. r.is) rows
unfolding computing opened rows row alike large valueless
answers = refl

-- ---- words afterwards: the answer at the front of out and the rest as it was; all of it as it was otherwise; work words as 0
leaf_node : List ℕ
leaf_node = replicate 6 0

outs : List (Row (List ℕ))
outs =
    row (type_tree_out plain 0 (replicate 8 9) 12291 49152) (leaf_node ++ replicate 2 9) ∷
    row (variable_tree_out plain 0 (replicate 8 9) 12291 49152) (leaf_node ++ replicate 2 9) ∷
    row (completed_out plain 0 (replicate 8 9) 12291 49152) (leaf_node ++ replicate 2 9) ∷
    row (type_tree_out plain 0 (replicate 5 9) 12291 49152) (replicate 5 9) ∷
    row (variable_tree_out plain 0 (replicate 8 9) 12290 49152) (replicate 8 9) ∷
    row (completed_out plain 1 (replicate 8 9) 12291 49152) (replicate 8 9) ∷
    row (type_tree_out large 1 (replicate 8 9) 24582 73728) (replicate 8 9) ∷
    row (variable_tree_out valueless 0 (replicate 8 9) 24582 73728) (replicate 8 9) ∷
    row (completed_out valueless 0 (replicate 8 9) 24582 73728) (replicate 8 9) ∷
    row (write_out plain (replicate 31 9) 31 49152)
    ((1 ∷ 0 ∷ 0 ∷ 1 ∷ leaf_node) ++ (1 ∷ 0 ∷ 1 ∷ leaf_node) ++ (1 ∷ 0 ∷ 3 ∷ 1 ∷ leaf_node) ++ replicate 2 9) ∷
    row (write_out plain (replicate 28 9) 28 49152) (replicate 28 9) ∷
    row (write_out circle (replicate 28 9) 28 49152) (replicate 28 9) ∷
    row (cleared (5 ∷ 6 ∷ [])) (0 ∷ 0 ∷ []) ∷
    []

written : map (λ r. r.computed) outs ≡ map (λ r. r.is) outs
unfolding computing opened outs row large valueless leaf_node
written = refl

-- ---- the same as numbers, for C
codes : map pass_code (refuses 9 ∷ says 0 [] ∷ []) ++ map value_code (refuses 3 ∷ says 1 [] ∷ says 0 (7 ∷ []) ∷ says 0 (3 ∷ 2 ∷ []) ∷ [])
    ≡ 9 ∷ 0 ∷ 12884901888 ∷ 0 ∷ 7 ∷ 196610 ∷ []
unfolding computing
codes = refl
