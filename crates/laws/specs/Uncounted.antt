-- The answers of a file with the characters cut taken out are those of the rules in which nothing counts them. Runs against the Rust, whose strings have a width only,
-- compare a string's width and all other words. Assumes nothing.
use Rattle.std.specs.Prelude.{◌≡◌, refl, Bool, true, false, ◌&&◌, ◌||◌, List, [], ◌∷◌, ◌++◌, ℕ, ◌+◌, ◌*◌, ◌-◌, ◌%◌, ◌≤◌, min, eqb, ltb, ℤ, take, drop}
use Rattle.std.proofs.Math.Path.{ap}
use Rattle.std.proofs.Common.{◌∙◌, append_assoc, append-nil, arith, mod-eq_of_lt, eqb-true}
use Rattle.std.proofs.Math.Nat.{add-mul-mod_self_left}
use Rattle.definition.specs.declared.records.Shape.{Shape}
use Rattle.definition.specs.declared.records.Shape.TheVariants as shape
use Rattle.definition.specs.declared.records.Constant.{Constant}
use Rattle.definition.specs.Base.{pick}
use Rattle.definition.specs.Records.{constant_of, constant_at}
use Rattle.definition.specs.Tree.{Tree, Trees, node, tnil, tcons, flatten, flatten_all, leaf, constant_tree, enumerated_tree, null_tree}
use Rattle.definition.specs.Ask.{Result, ok, none, large, Outcome}
use Rattle.definition.specs.Iec.{in_range, between}
use Rattle.definition.specs.Scalar.{is_integer, kept, as_bool, as_integer, as_real, as_count, max_length, on_result, cut_string, uncut_word, as_string, converted, as_tree, constant_value, zero_of, empty_string, default_member, as_integer_tree, built_in, value_of}
use Rattle.definition.specs.Shapes.{on_string}
use Rattle.definition.specs.Complete.{Completed, completed, left, completion}
use Rattle.definition.specs.Lines.{outcome_words, completed_words, type_line, variable_line, completed_line}
use Rattle.definition.specs.Defaults.{Leaves}
use Rattle.definition.specs.Resolve as Resolve
use Rattle.definition.specs.Starting.{type_outcome, variable_outcome, leaves}
use Rattle.laws.specs.Asks.{OnOk}
use Rattle.laws.specs.Cases.{both, either, on-pick}
use Rattle.laws.specs.Uncut.{uncut, uncut_tree, uncut_all, uncut_outcome, uncut_completed, nodes-uncut, leaf-uncut, completion-uncut}
use Rattle.laws.specs.TwoLeaves.{type-uncut, variable-uncut}

-- ---- the rules in which nothing counts the characters cut
-- a run of characters cut to what the place holds, in the place's width; an empty one begins at 0
unfoldable pub plain_string : List ℕ → ℕ → ℕ → ℕ → ℕ → Result Constant
plain_string f length width first many =
    on_result (max_length f length) (λ most. ok (constant_of 8 0 (pick (eqb (min many most) 0) 0 first) (min many most) width))

-- a string's width is a word's last bit, in an accepted file the word itself (`last_bit` below)
unfoldable pub uncounted : List ℕ → Leaves
uncounted f =
    record {
      constant =
          λ s c. on_string s (constant_value f s c) (λ length width. as_tree (pick (eqb c.kind 8) (plain_string f length (width % 2) c.low c.high) none));
      built_in = λ s. on_string s (built_in f s) (λ length width. as_tree (plain_string f length (width % 2) 0 0));
    }

string-uncut : (f : List ℕ) (length width first many : ℕ)
    → uncut_outcome (as_tree (cut_string f length width first many)) ≡ as_tree (plain_string f length (width % 2) first many)
unfolding as_tree cut_string plain_string constant_tree constant_of leaf uncut_tree uncut uncut_word
string-uncut f length width first many = go (max_length f length)
  where
    cut : ℕ → ℕ → Result Constant
    cut last most = ok (constant_of 8 0 (pick (eqb (min many most) 0) 0 first) (min many most) last)

    go : (r : Result ℕ) → uncut_outcome (as_tree (on_result r (λ most. cut (width + 2 * (many - min many most)) most))) ≡ as_tree (on_result r (cut (width % 2)))
    go (ok most) = rw (add-mul-mod_self_left width 2 (many - min many most))
    go none = refl
    go large = refl

-- a string takes string literals only
literal-uncut : (f : List ℕ) (length width : ℕ) (c : Constant) (b : Bool)
    → uncut_outcome (as_tree (pick b (cut_string f length width c.low c.high) none)) ≡ as_tree (pick b (plain_string f length (width % 2) c.low c.high) none)
unfolding as_tree
literal-uncut f length width c true = string-uncut f length width c.low c.high
literal-uncut f length width c false = refl

-- ---- every other shape: no constant of a string's kind
abbrev Other : Constant → Type 0
Other c = eqb c.kind 8 ≡ false

other-uncut : (r : Result Constant) → OnOk Other r → uncut_outcome (as_tree r) ≡ as_tree r
unfolding as_tree constant_tree
other-uncut (ok c) h = ap ok (leaf-uncut c.kind c.sign c.low c.high c.width h)
other-uncut none h = refl
other-uncut large h = refl

other-of : (c : Constant) (kind : ℕ) → eqb kind 8 ≡ false → eqb c.kind kind ≡ true → Other c
other-of c kind h e = rw (eqb-true c.kind kind e) h

other-kept : (b : Bool) (c : Constant) → (b ≡ true → Other c) → OnOk Other (kept b c)
unfolding kept
other-kept b c h = on-pick (OnOk Other) b (ok c) none h (λ e. tt)

other-bool : (c : Constant) → OnOk Other (as_bool c)
unfolding as_bool constant_of
other-bool c = on-pick (OnOk Other) (is_integer c && eqb c.sign 0 && _) _ _ (λ e. refl) (λ e. other-kept (eqb c.kind 0) c (other-of c 0 refl))

other-integer : (holds : ℤ → Bool) (c : Constant) → OnOk Other (as_integer holds c)
unfolding as_integer is_integer
other-integer holds c =
    other-kept ((is_integer c || eqb c.kind 2) && holds (value_of c)) c
    (λ e. either (is_integer c) (eqb c.kind 2) (both (is_integer c || eqb c.kind 2) (holds (value_of c)) e).0 (other-of c 1 refl) (other-of c 2 refl))

other-real : (bits : ℕ) (c : Constant) → OnOk Other (as_real bits c)
unfolding as_real constant_of
other-real bits c = on-pick (OnOk Other) (is_integer c) _ _ (λ e. refl) (λ e. other-kept (eqb c.kind 3) c (other-of c 3 refl))

other-count : (kind : ℕ) (signed : Bool) (bits : ℕ) (c : Constant) → eqb kind 8 ≡ false → OnOk Other (as_count kind signed bits c)
unfolding as_count
other-count kind signed bits c h =
    other-kept (eqb c.kind kind && in_range signed bits (value_of c)) c
    (λ e. other-of c kind h (both (eqb c.kind kind) (in_range signed bits (value_of c)) e).0)

pub constant-uncounted : (f : List ℕ) (s : Shape) (c : Constant) → uncut_outcome (constant_value f s c) ≡ (uncounted f).constant s c
unfolding uncounted constant_value converted as_string
constant-uncounted f shape.Bool c = other-uncut _ (other-bool c)
constant-uncounted f (shape.Int bits) c = other-uncut _ (other-integer (in_range true bits) c)
constant-uncounted f (shape.UInt bits) c = other-uncut _ (other-integer (in_range false bits) c)
constant-uncounted f (shape.Real bits) c = other-uncut _ (other-real bits c)
constant-uncounted f (shape.Bytes bits) c = other-uncut _ (other-integer (in_range false bits) c)
constant-uncounted f (shape.Time bits) c = other-uncut _ (other-count 4 true bits c refl)
constant-uncounted f (shape.Date bits) c = other-uncut _ (other-count 6 false bits c refl)
constant-uncounted f (shape.TimeOfDay bits) c = other-uncut _ (other-count 5 false bits c refl)
constant-uncounted f (shape.DateAndTime bits) c = other-uncut _ (other-count 7 false bits c refl)
constant-uncounted f (shape.String length width) c = literal-uncut f length width c (eqb c.kind 8)
constant-uncounted f (shape.Enumeration first many default underlying) c = other-uncut none tt
constant-uncounted f (shape.Structure first many) c = other-uncut none tt
constant-uncounted f (shape.Array element first many) c = other-uncut none tt
constant-uncounted f (shape.Subrange base low high) c = other-uncut _ (other-integer (between (value_of (constant_at f low)) (value_of (constant_at f high))) c)
constant-uncounted f (shape.FunctionBlock name) c = other-uncut none tt
constant-uncounted f (shape.Interface name) c = other-uncut none tt
constant-uncounted f (shape.Reference target) c = other-uncut none tt
constant-uncounted f shape.Unknown c = other-uncut none tt

member-uncut : (f : List ℕ) (first many default : ℕ) → uncut_outcome (default_member f first many default) ≡ default_member f first many default
unfolding default_member enumerated_tree
member-uncut f first many default =
    on-pick (λ o. uncut_outcome o ≡ o) (ltb default many) _ none (λ e. ap ok (leaf-uncut 9 0 _ 0 0 refl)) (λ e. refl)

pub built_in-uncounted : (f : List ℕ) (s : Shape) → uncut_outcome (built_in f s) ≡ (uncounted f).built_in s
unfolding uncounted built_in empty_string zero_of as_integer_tree constant_tree constant_of null_tree leaf uncut_tree uncut uncut_word
built_in-uncounted f shape.Bool = refl
built_in-uncounted f (shape.Int bits) = refl
built_in-uncounted f (shape.UInt bits) = refl
built_in-uncounted f (shape.Real bits) = refl
built_in-uncounted f (shape.Bytes bits) = refl
built_in-uncounted f (shape.Time bits) = refl
built_in-uncounted f (shape.Date bits) = refl
built_in-uncounted f (shape.TimeOfDay bits) = refl
built_in-uncounted f (shape.DateAndTime bits) = refl
built_in-uncounted f (shape.String length width) = string-uncut f length width 0 0
built_in-uncounted f (shape.Enumeration first many default underlying) = member-uncut f first many default
built_in-uncounted f (shape.Structure first many) = refl
built_in-uncounted f (shape.Array element first many) = refl
built_in-uncounted f (shape.Subrange base low high) = refl
built_in-uncounted f (shape.FunctionBlock name) = refl
built_in-uncounted f (shape.Interface name) = refl
built_in-uncounted f (shape.Reference target) = refl
built_in-uncounted f shape.Unknown = refl

-- ---- the words of lines, with the characters cut taken out
-- nodes
unfoldable pub uncut_nodes : List ℕ → List ℕ
uncut_nodes [] = []
uncut_nodes (a ∷ []) = a ∷ []
uncut_nodes (a ∷ b ∷ []) = a ∷ b ∷ []
uncut_nodes (a ∷ b ∷ c ∷ []) = a ∷ b ∷ c ∷ []
uncut_nodes (a ∷ b ∷ c ∷ d ∷ []) = a ∷ b ∷ c ∷ d ∷ []
uncut_nodes (a ∷ b ∷ c ∷ d ∷ e ∷ []) = a ∷ b ∷ c ∷ d ∷ e ∷ []
uncut_nodes (name ∷ kind ∷ sign ∷ low ∷ high ∷ width ∷ l) = name ∷ kind ∷ sign ∷ low ∷ high ∷ uncut_word kind width ∷ uncut_nodes l

-- a line whose nodes begin behind so many words
unfoldable pub uncut_line : ℕ → List ℕ → List ℕ
uncut_line n l = take n l ++ uncut_nodes (drop n l)

mutual
  unfolding flatten uncut_tree uncut uncut_nodes

  flatten-uncut : (t : Tree) (l : List ℕ) → uncut_nodes (flatten t ++ l) ≡ flatten (uncut_tree t) ++ uncut_nodes l
  flatten-uncut (node h ts) l = rw (flatten_all-uncut ts l)

  flatten_all-uncut : (ts : Trees) (l : List ℕ) → uncut_nodes (flatten_all ts ++ l) ≡ flatten_all (uncut_all ts) ++ uncut_nodes l
  flatten_all-uncut tnil l = refl
  flatten_all-uncut (tcons t ts) l = simp append_assoc (flatten-uncut t (flatten_all ts ++ l) ∙ ap (λ k. flatten (uncut_tree t) ++ k) (flatten_all-uncut ts l))

tree-words : (t : Tree) → uncut_nodes (flatten t) ≡ flatten (uncut_tree t)
unfolding uncut_nodes
tree-words t = simp append-nil at (flatten-uncut t [])

outcome-words : (o : Outcome) → uncut_line 2 (outcome_words o) ≡ outcome_words (uncut_outcome o)
unfolding outcome_words uncut_line uncut_nodes
outcome-words (ok t) = rw (tree-words t, nodes-uncut t)
outcome-words none = refl
outcome-words large = refl

completed-words : (c : Completed) → uncut_line 3 (completed_words c) ≡ completed_words (uncut_completed c)
unfolding completed_words uncut_line uncut_nodes
completed-words (completed i t) = rw (tree-words t, nodes-uncut t)
completed-words left = refl

-- ---- the law, of outcomes and of lines
module _ (f : List ℕ) where
  pub type-uncounted : (t : ℕ) → uncut_outcome (type_outcome f t) ≡ Resolve.type_outcome (uncounted f) f t
  type-uncounted = type-uncut f (leaves f) (uncounted f) (constant-uncounted f) (built_in-uncounted f)

  pub variable-uncounted : (v : ℕ) → uncut_outcome (variable_outcome f v) ≡ Resolve.variable_outcome (uncounted f) f v
  variable-uncounted = variable-uncut f (leaves f) (uncounted f) (constant-uncounted f) (built_in-uncounted f)

  pub completed-uncounted : (v : ℕ) → uncut_completed (completion f v (variable_outcome f v)) ≡ completion f v (Resolve.variable_outcome (uncounted f) f v)
  completed-uncounted v = completion-uncut f v (variable_outcome f v) ∙ ap (completion f v) (variable-uncounted v)

  pub type_line-uncounted : (t : ℕ) → uncut_line 2 (type_line f t) ≡ outcome_words (Resolve.type_outcome (uncounted f) f t)
  unfolding type_line
  type_line-uncounted t = outcome-words (type_outcome f t) ∙ ap outcome_words (type-uncounted t)

  pub variable_line-uncounted : (v : ℕ) → uncut_line 2 (variable_line f v) ≡ outcome_words (Resolve.variable_outcome (uncounted f) f v)
  unfolding variable_line
  variable_line-uncounted v = outcome-words (variable_outcome f v) ∙ ap outcome_words (variable-uncounted v)

  pub completed_line-uncounted : (v : ℕ) → uncut_line 3 (completed_line f v) ≡ completed_words (completion f v (Resolve.variable_outcome (uncounted f) f v))
  unfolding completed_line
  completed_line-uncounted v = completed-words (completion f v (variable_outcome f v)) ∙ ap completed_words (completed-uncounted v)

-- ---- in an accepted file the width of a string is 0 or 1 (`shape-width` and `initializer-width` of Strings.antt), so that its last bit is itself
pub last_bit : (w : ℕ) → w ≤ 1 → w % 2 ≡ w
last_bit w h = mod-eq_of_lt (omega arith)
