-- Every value that a constant, an enumerated value or an expression gives is a small tree: one node, with no name. Assumes nothing.
use Rattle.std.specs.Prelude.{◌≡◌, refl, Bool, true, false, ◌&&◌, ◌||◌, List, ℕ, ◌≤◌, eqb, ltb, ℤ}
use Rattle.std.proofs.Common.{arith, lit≤, eqb-true, lt-ltb}
use Rattle.definition.specs.declared.records.Shape.{Shape}
use Rattle.definition.specs.declared.records.Shape.TheVariants as shape
use Rattle.definition.specs.declared.records.Constant.{Constant}
use Rattle.definition.specs.Records.{constant_of, constant_at}
use Rattle.definition.specs.Syntax.{Expr}
use Rattle.definition.specs.Tree.{Tree, head, many, nodes, leaf, constant_tree, enumerated_tree, null_tree, reference_tree, expression_tree, most_nodes}
use Rattle.definition.specs.Ask.{Result, ok, none, large}
use Rattle.definition.specs.Iec.{in_range, between}
use Rattle.definition.specs.Shapes.{is_reference}
use Rattle.definition.specs.Scalar.{is_integer, kept, as_bool, as_integer, as_real, as_count, max_length, on_result, cut_string, as_string, converted, as_tree, constant_value, zero_of, empty_string, default_member, as_integer_tree, built_in, enumerated_value, expression_value, expression_by, value_of, is_member}
use Rattle.definition.specs.Sheet.{parts_of}
use Rattle.laws.specs.Asks.{OnOk}
use Rattle.laws.specs.Cases.{both, either, on-pick, on_shape_lem}
use Rattle.laws.specs.Whole.{Good}

-- a tree that a place may start with: an X with few nodes and no name
pub record Sized (X : Tree → Type 0) (t : Tree) : Type 0 where
  pub few : nodes t ≤ most_nodes
  pub good : X t
  pub nameless : (head t).name ≡ 0

abbrev pub Small : Tree → Type 0
Small t = Sized Good t

-- kinds up to 12 have no parts
pub parts_none : (kind low : ℕ) → kind ≤ 12 → parts_of kind low ≡ 0
unfolding parts_of
parts_none kind low h = rw (lt-ltb kind 13 (omega arith))

pub good-leaf : (kind sign low high width : ℕ) → kind ≤ 12 → Good (leaf kind sign low high width)
unfolding leaf Good many
good-leaf kind sign low high width h = (omega arith, rw (parts_none kind low h), tt)

pub sized-leaf : (X : Tree → Type 0) (kind sign low high width : ℕ) → X (leaf kind sign low high width) → Sized X (leaf kind sign low high width)
unfolding leaf nodes head
sized-leaf X kind sign low high width h = record { few = lit≤ tt; good = h; nameless = refl }

-- ---- constants
-- a constant of a kind that a node may have
Fits : Constant → Type 0
Fits c = c.kind ≤ 12

pub any-ok : {A : Type 0} (r : Result A) → OnOk (λ a. Unit {0}) r
any-ok (ok a) = tt
any-ok none = tt
any-ok large = tt

result-on : {A B : Type 0} (Q : A → Type 0) (R : B → Type 0) (r : Result A) (g : A → Result B) → OnOk Q r → ((a : A) → Q a → OnOk R (g a)) → OnOk R (on_result r g)
result-on Q R (ok a) g h k = k a h
result-on Q R none g h k = tt
result-on Q R large g h k = tt

fits-of : (kind sign low high width : ℕ) → kind ≤ 12 → Fits (constant_of kind sign low high width)
unfolding Fits constant_of
fits-of kind sign low high width h = h

fits_kept : (b : Bool) (c : Constant) → (b ≡ true → c.kind ≤ 12) → OnOk Fits (kept b c)
unfolding kept Fits
fits_kept b c h = on-pick (OnOk Fits) b (ok c) none h (λ e. tt)

fits_bool : (c : Constant) → OnOk Fits (as_bool c)
unfolding as_bool
fits_bool c =
    on-pick (OnOk Fits) (is_integer c && eqb c.sign 0 && _) _ _ (λ e. fits-of 0 0 c.low 0 0 (lit≤ tt))
    (λ e. fits_kept (eqb c.kind 0) c (λ k. omega (arith, eqb-true c.kind 0 k)))

fits-integer : (holds : ℤ → Bool) (c : Constant) → OnOk Fits (as_integer holds c)
unfolding as_integer is_integer
fits-integer holds c =
    fits_kept ((is_integer c || eqb c.kind 2) && holds (value_of c)) c
    (λ e. either (is_integer c) (eqb c.kind 2) (both (is_integer c || eqb c.kind 2) (holds (value_of c)) e).0
    (λ k. omega (arith, eqb-true c.kind 1 k)) (λ k. omega (arith, eqb-true c.kind 2 k)))

fits-real : (bits : ℕ) (c : Constant) → OnOk Fits (as_real bits c)
unfolding as_real
fits-real bits c =
    on-pick (OnOk Fits) (is_integer c) _ _ (λ e. fits-of 3 0 _ _ 0 (lit≤ tt)) (λ e. fits_kept (eqb c.kind 3) c (λ k. omega (arith, eqb-true c.kind 3 k)))

fits_count : (kind : ℕ) (signed : Bool) (bits : ℕ) (c : Constant) → kind ≤ 12 → OnOk Fits (as_count kind signed bits c)
unfolding as_count
fits_count kind signed bits c h =
    fits_kept (eqb c.kind kind && in_range signed bits (value_of c)) c
    (λ e. omega (arith, eqb-true c.kind kind (both (eqb c.kind kind) (in_range signed bits (value_of c)) e).0))

fits_cut : (f : List ℕ) (length width first many : ℕ) → OnOk Fits (cut_string f length width first many)
unfolding cut_string
fits_cut f length width first many =
    result-on (λ n. Unit {0}) Fits (max_length f length) _ (any-ok (max_length f length)) (λ most u. fits-of 8 0 _ _ _ (lit≤ tt))

fits-string : (f : List ℕ) (length width : ℕ) (c : Constant) → OnOk Fits (as_string f length width c)
unfolding as_string
fits-string f length width c = on-pick (OnOk Fits) (eqb c.kind 8) _ none (λ e. fits_cut f length width c.low c.high) (λ e. tt)

fits-converted : (f : List ℕ) (s : Shape) (c : Constant) → OnOk Fits (converted f s c)
unfolding converted
fits-converted f shape.Bool c = fits_bool c
fits-converted f (shape.Int bits) c = fits-integer (in_range true bits) c
fits-converted f (shape.UInt bits) c = fits-integer (in_range false bits) c
fits-converted f (shape.Real bits) c = fits-real bits c
fits-converted f (shape.Bytes bits) c = fits-integer (in_range false bits) c
fits-converted f (shape.Time bits) c = fits_count 4 true bits c (lit≤ tt)
fits-converted f (shape.Date bits) c = fits_count 6 false bits c (lit≤ tt)
fits-converted f (shape.TimeOfDay bits) c = fits_count 5 false bits c (lit≤ tt)
fits-converted f (shape.DateAndTime bits) c = fits_count 7 false bits c (lit≤ tt)
fits-converted f (shape.String length width) c = fits-string f length width c
fits-converted f (shape.Enumeration first count default underlying) c = tt
fits-converted f (shape.Structure first count) c = tt
fits-converted f (shape.Array element first count) c = tt
fits-converted f (shape.Subrange base low high) c = fits-integer (between (value_of (constant_at f low)) (value_of (constant_at f high))) c
fits-converted f (shape.FunctionBlock name) c = tt
fits-converted f (shape.Interface name) c = tt
fits-converted f (shape.Reference target) c = tt
fits-converted f shape.Unknown c = tt

-- ---- trees: what holds of every node without parts
module _ (T : Tree → Type 0) (leaves : (kind sign low high width : ℕ) → kind ≤ 12 → T (leaf kind sign low high width)) where
  leaf-constant : (c : Constant) → c.kind ≤ 12 → T (constant_tree c)
  unfolding constant_tree
  leaf-constant c h = leaves c.kind c.sign c.low c.high c.width h

  leaf-as_tree : (r : Result Constant) → OnOk Fits r → OnOk T (as_tree r)
  unfolding as_tree Fits
  leaf-as_tree r h = result-on Fits T r (λ c. ok (constant_tree c)) h leaf-constant

  pub leaf-constant_value : (f : List ℕ) (s : Shape) (c : Constant) → OnOk T (constant_value f s c)
  unfolding constant_value
  leaf-constant_value f s c = leaf-as_tree (converted f s c) (fits-converted f s c)

  pub leaf-empty_string : (f : List ℕ) (length width : ℕ) → OnOk T (empty_string f length width)
  unfolding empty_string
  leaf-empty_string f length width = leaf-as_tree (cut_string f length width 0 0) (fits_cut f length width 0 0)

  pub leaf-enumerated : (value qualifier : ℕ) → T (enumerated_tree value qualifier)
  unfolding enumerated_tree
  leaf-enumerated value qualifier = leaves 9 0 value qualifier 0 (lit≤ tt)

  pub leaf-null : T null_tree
  unfolding null_tree
  leaf-null = leaves 10 0 0 0 0 (lit≤ tt)

  pub leaf-reference : (x : ℕ) → T (reference_tree x)
  unfolding reference_tree
  leaf-reference x = leaves 11 0 x 0 0 (lit≤ tt)

  pub leaf-expression : (x : ℕ) → T (expression_tree x)
  unfolding expression_tree
  leaf-expression x = leaves 12 0 x 0 0 (lit≤ tt)

  pub leaf-enumerated_value : (f : List ℕ) (s : Shape) (value qualifier : ℕ) → OnOk T (enumerated_value f s value qualifier)
  unfolding enumerated_value
  leaf-enumerated_value f s value qualifier =
      on_shape_lem (OnOk T) s _ _ _ _ _ _ _ (λ a b. tt)
      (λ first count. on-pick (OnOk T) (is_member f first count value) (ok (enumerated_tree value qualifier)) none (λ e. leaf-enumerated value qualifier) (λ e. tt))
      (λ a b. tt) (λ e a b. tt) tt tt tt

  pub leaf-expression_value : (f : List ℕ) (s : Shape) (x : Expr) → OnOk T (expression_value f s x)
  unfolding expression_by
  leaf-expression_value f s (Expr.constant c) = leaf-constant_value f s c
  leaf-expression_value f s (Expr.enumerated value qualifier) = leaf-enumerated_value f s value qualifier
  leaf-expression_value f s (Expr.parentheses x) = leaf-expression_value f s x
  leaf-expression_value f s (Expr.conversion n (Expr.constant c)) = leaf-constant_value f s c
  leaf-expression_value f s (Expr.conversion n (Expr.enumerated value qualifier)) = leaf-enumerated_value f s value qualifier
  leaf-expression_value f s (Expr.conversion n (Expr.parentheses x)) = leaf-expression n
  leaf-expression_value f s (Expr.conversion n (Expr.conversion m x)) = leaf-expression n
  leaf-expression_value f s (Expr.conversion n (Expr.null m)) = leaf-expression n
  leaf-expression_value f s (Expr.conversion n (Expr.other m)) = leaf-expression n
  leaf-expression_value f s (Expr.null n) = on-pick T (is_reference s) null_tree (expression_tree n) (λ e. leaf-null) (λ e. leaf-expression n)
  leaf-expression_value f s (Expr.other n) = leaf-expression n

  -- implicit values
  leaf-zero : (kind width : ℕ) → kind ≤ 12 → OnOk T (zero_of kind width)
  unfolding zero_of constant_of
  leaf-zero kind width h = leaf-constant (constant_of kind 0 0 0 width) h

  leaf-member : (f : List ℕ) (first count default : ℕ) → OnOk T (default_member f first count default)
  unfolding default_member
  leaf-member f first count default = on-pick (OnOk T) (ltb default count) _ none (λ e. leaf-enumerated _ 0) (λ e. tt)

  leaf-least : (c : Constant) → T (as_integer_tree c)
  unfolding as_integer_tree constant_of
  leaf-least c = leaf-constant (constant_of 1 c.sign c.low c.high 0) (lit≤ tt)

  pub leaf-built_in : (f : List ℕ) (s : Shape) → OnOk T (built_in f s)
  unfolding built_in
  leaf-built_in f shape.Bool = leaf-zero 0 _ (lit≤ tt)
  leaf-built_in f (shape.Int bits) = leaf-zero 1 _ (lit≤ tt)
  leaf-built_in f (shape.UInt bits) = leaf-zero 1 _ (lit≤ tt)
  leaf-built_in f (shape.Real bits) = leaf-zero 3 _ (lit≤ tt)
  leaf-built_in f (shape.Bytes bits) = leaf-zero 1 _ (lit≤ tt)
  leaf-built_in f (shape.Time bits) = leaf-zero 4 _ (lit≤ tt)
  leaf-built_in f (shape.Date bits) = leaf-zero 6 _ (lit≤ tt)
  leaf-built_in f (shape.TimeOfDay bits) = leaf-zero 5 _ (lit≤ tt)
  leaf-built_in f (shape.DateAndTime bits) = leaf-zero 7 _ (lit≤ tt)
  leaf-built_in f (shape.String length width) = leaf-empty_string f length width
  leaf-built_in f (shape.Enumeration first count default underlying) = leaf-member f first count default
  leaf-built_in f (shape.Structure first count) = tt
  leaf-built_in f (shape.Array element first count) = tt
  leaf-built_in f (shape.Subrange base low high) = leaf-least (constant_at f low)
  leaf-built_in f (shape.FunctionBlock name) = tt
  leaf-built_in f (shape.Interface name) = tt
  leaf-built_in f (shape.Reference target) = leaf-null
  leaf-built_in f shape.Unknown = tt
