-- The start sheet (document 01): three sections, each after its count; what the writer gives, and what the check answers.
use Rattle.std.specs.Prelude.{Bool, true, false, ◌&&◌, List, [], ◌∷◌, ◌++◌, ℕ, zero, suc, ◌+◌, ◌*◌, eqb, leb, ltb, length, get_or, take, drop}
use Rattle.definition.specs.Base.{pick, choose, every}
use Rattle.definition.specs.Layout.{count, types, variables}
use Rattle.definition.specs.Accept.{need, verdict}
use Rattle.definition.specs.Tree.{node_words}
use Rattle.definition.specs.Lines.{type_line, variable_line, completed_line}
use Rattle.definition.specs.Uses.{Ranking, ranked, circle, ranks_of, rank_at, rising, uses}

-- ---- what the writer gives
-- so many lines, one behind the other
unfoldable pub lines_from : (ℕ → List ℕ) → ℕ → ℕ → List ℕ
lines_from line i zero = []
lines_from line i (suc k) = line i ++ lines_from line (suc i) k

unfoldable pub sheet_with : List ℕ → (ℕ → ℕ) → List ℕ
sheet_with f rank =
    (count f types ∷ lines_from (λ t. rank t ∷ type_line f t) 0 (count f types))
    ++ (count f variables ∷ lines_from (variable_line f) 0 (count f variables))
    ++ (count f variables ∷ lines_from (completed_line f) 0 (count f variables))

abbrev pub on_ranking : {X : Type 0} → Ranking → (List ℕ → X) → X → X
on_ranking (ranked w) g x = g w
on_ranking circle g x = x

-- with the lowest ranks; nothing where the uses run in a circle
unfoldable pub sheet_words : List ℕ → List ℕ
sheet_words f = on_ranking (ranks_of f) (λ w. sheet_with f (rank_at w)) []

-- ---- 11: a sheet's words are its three sections with the file's counts and known states, one whole tree after a state 0 and only zeros after any other
-- the words are exactly k whole trees of kinds 0 to 14, one behind the other
abbrev pub on_more : ℕ → Bool → (ℕ → Bool) → Bool
on_more zero b g = b
on_more (suc k) b g = g k

unfoldable pub parts_of : ℕ → ℕ → ℕ
parts_of kind low = pick (ltb kind 13) 0 low

unfoldable pub are_trees : List ℕ → ℕ → Bool
are_trees [] k = eqb k 0
are_trees (a ∷ []) k = false
are_trees (a ∷ b ∷ []) k = false
are_trees (a ∷ b ∷ c ∷ []) k = false
are_trees (a ∷ b ∷ c ∷ d ∷ []) k = false
are_trees (a ∷ b ∷ c ∷ d ∷ e ∷ []) k = false
are_trees (name ∷ kind ∷ sign ∷ low ∷ high ∷ width ∷ l) k = on_more k false (λ j. leb kind 14 && are_trees l (parts_of kind low + j))

-- a line's words and what follows it
pub data Cut : Type 0 where
  cut : List ℕ → List ℕ → Cut
  broken : Cut

-- so many nodes that are one whole tree
unfoldable pub tree_cut : List ℕ → ℕ → List ℕ → Cut
tree_cut front many l =
    let size : ℕ = node_words * many in
    choose (leb size (length l) && are_trees (take size l) 1) (λ u. cut (front ++ take size l) (drop size l)) (λ u. broken)

-- no nodes
unfoldable pub empty_cut : List ℕ → Bool → List ℕ → Cut
empty_cut front zeros l = pick zeros (cut front l) broken

-- per type rank, state, count, nodes
unfoldable pub type_cut : List ℕ → Cut
type_cut [] = broken
type_cut (rank ∷ []) = broken
type_cut (rank ∷ state ∷ []) = broken
type_cut (rank ∷ state ∷ many ∷ l) =
    let front : List ℕ = rank ∷ state ∷ many ∷ [] in
    choose (eqb state 0) (λ u. tree_cut front many l) (λ u. empty_cut front (leb state 2 && eqb many 0) l)

-- per variable state, count, nodes
unfoldable pub variable_cut : List ℕ → Cut
variable_cut [] = broken
variable_cut (state ∷ []) = broken
variable_cut (state ∷ many ∷ l) =
    let front : List ℕ = state ∷ many ∷ [] in
    choose (eqb state 0) (λ u. tree_cut front many l) (λ u. empty_cut front (leb state 2 && eqb many 0) l)

-- per variable 0 completed or 1 left, initializer kind, count, nodes
unfoldable pub completed_cut : List ℕ → Cut
completed_cut [] = broken
completed_cut (state ∷ []) = broken
completed_cut (state ∷ kind ∷ []) = broken
completed_cut (state ∷ kind ∷ many ∷ l) =
    let front : List ℕ = state ∷ kind ∷ many ∷ [] in
    choose (eqb state 0) (λ u. tree_cut front many l) (λ u. empty_cut front (eqb state 1 && eqb kind 0 && eqb many 0) l)

-- a section's lines and what follows them
pub data Section : Type 0 where
  section : List (List ℕ) → List ℕ → Section
  unreadable : Section

abbrev pub on_cut : {X : Type 0} → Cut → X → (List ℕ → List ℕ → X) → X
on_cut (cut line l) x g = g line l
on_cut broken x g = x

abbrev pub on_section : {X : Type 0} → Section → X → (List (List ℕ) → List ℕ → X) → X
on_section (section ls l) x g = g ls l
on_section unreadable x g = x

unfoldable pub cut_lines : (List ℕ → Cut) → ℕ → List ℕ → Section
cut_lines line zero l = section [] l
cut_lines line (suc k) l = on_cut (line l) unreadable (λ w m. on_section (cut_lines line k m) unreadable (λ ws n. section (w ∷ ws) n))

-- a count that is the file's, and as many lines
unfoldable pub read_section : (List ℕ → Cut) → ℕ → List ℕ → Section
read_section line n [] = unreadable
read_section line n (c ∷ l) = choose (eqb c n) (λ u. cut_lines line n l) (λ u. unreadable)

pub record Sheet : Type 0 where
  pub type_lines : List (List ℕ)
  pub variable_lines : List (List ℕ)
  pub completed_lines : List (List ℕ)

pub data Read : Type 0 where
  read : Sheet → Read
  no : Read

unfoldable pub read_sheet : List ℕ → List ℕ → Read
read_sheet f s =
    on_section (read_section type_cut (count f types) s) no λ ts l.
    on_section (read_section variable_cut (count f variables) l) no λ vs m.
    on_section (read_section completed_cut (count f variables) m) no λ cs n.
    pick (eqb (length n) 0) (read (record { type_lines = ts; variable_lines = vs; completed_lines = cs })) no

-- ---- 12: a rank is not above that of a used type
unfoldable pub sheet_rank : Sheet → ℕ → ℕ
sheet_rank sheet t = get_or (get_or sheet.type_lines t []) 0 0

unfoldable pub ranks_rise : List ℕ → Sheet → Bool
ranks_rise f sheet = rising (count f types) (uses f) (sheet_rank sheet)

-- ---- 13: a line, its rank aside, is not its fixed words
unfoldable pub same_words : List ℕ → List ℕ → Bool
same_words [] [] = true
same_words [] (w ∷ ws) = false
same_words (v ∷ vs) [] = false
same_words (v ∷ vs) (w ∷ ws) = eqb v w && same_words vs ws

unfoldable pub lines_right : List ℕ → Sheet → Bool
lines_right f sheet =
    every (λ t. same_words (drop 1 (get_or sheet.type_lines t [])) (type_line f t)) (count f types)
    && every (λ v. same_words (get_or sheet.variable_lines v []) (variable_line f v)) (count f variables)
    && every (λ v. same_words (get_or sheet.completed_lines v []) (completed_line f v)) (count f variables)

abbrev pub on_read : Read → (Sheet → ℕ) → ℕ → ℕ
on_read (read sheet) g x = g sheet
on_read no g x = x

-- ---- what the check answers: 0 where the sheet passes, or the first refusal
unfoldable pub check_answer : List ℕ → List ℕ → ℕ
check_answer f s =
    choose (eqb (verdict f) 0)
    (λ u. on_read (read_sheet f s) (λ sheet. need (ranks_rise f sheet) 12 λ v. need (lines_right f sheet) 13 λ w. 0) 11)
    (λ u. verdict f)

-- what this file computes with
unfoldable pub opened : Unit {0}
unfolding lines_from sheet_with sheet_words parts_of are_trees tree_cut empty_cut type_cut variable_cut completed_cut cut_lines read_section read_sheet sheet_rank ranks_rise same_words lines_right check_answer
opened = tt
