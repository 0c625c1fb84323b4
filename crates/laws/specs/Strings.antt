-- Strings of an accepted file: a place's width is 0 or 1, and a literal is a run of the Characters section, so that the characters cut are counted in a word. Assumes nothing.
use Rattle.std.specs.Prelude.{◌≡◌, true, leb}
use mathlib.Core.List.{List, [], ◌∷◌}
use Prim.Native.Nat.{ℕ, ◌≤◌, ◌<◌}
use Rattle.std.proofs.Common.{arith, lit<, lit≤}
use borrow.Author.Tests.{leb-true}
use Rattle.definition.specs.declared.records.Shape.{Shape}
use Rattle.definition.specs.Layout.{word, count, shapes, initializers, constants, characters, most_records, limits_of_records}
use Rattle.definition.specs.Records.{shape_of, shape_at, initializer_kind, constant_of, constant_at}
use Rattle.definition.specs.Base.{unused}
use Rattle.definition.specs.Accept.{plain_rules, shape_plain, initializer_plain}
use Rattle.definition.specs.Shapes.{on_string}
use Rattle.laws.specs.Cases.{both, by_kind}
use Rattle.laws.specs.Accepted.{Accepted, count_most, word-rule}
use Rattle.laws.specs.Pointed.{characters-inside}

-- the width of a string's place, and 0 for any other
abbrev pub width_in : Shape → ℕ
width_in s = on_string s 0 (λ length width. width)

width-rule : (a b c d kind : ℕ) → shape_plain kind a b c d ≡ true → width_in (shape_of kind a b c d) ≤ 1
unfolding shape_plain shape_of
width-rule a b c d =
    by_kind 17 (λ k. shape_plain k a b c d ≡ true → width_in (shape_of k a b c d) ≤ 1) no no no no no no no no no
    (λ e. leb-true b 1 (both (leb b 1) (unused (c ∷ d ∷ [])) e).0) no no no no no no no (λ k. no)
  where
    no : {X : Type 0} → X → 0 ≤ 1
    no x = lit≤ tt

module _ (f : List ℕ) (a : Accepted f) where
  pub shape-width : (n : ℕ) → n < count f shapes → width_in (shape_at f n) ≤ 1
  unfolding plain_rules shape_at
  shape-width n h =
      width-rule (word f shapes n 1) (word f shapes n 2) (word f shapes n 3) (word f shapes n 4) (word f shapes n 0) (word-rule f a shapes n (lit< tt) h)

  -- an initializer of a string
  pub initializer-width : (i : ℕ) → i < count f initializers → initializer_kind f i ≡ 4 → word f initializers i 7 ≤ 1
  unfolding plain_rules initializer_plain initializer_kind
  initializer-width i h e =
      let rest : List ℕ = word f initializers i 2 ∷ word f initializers i 4 ∷ word f initializers i 5 ∷ [] in
      leb-true (word f initializers i 7) 1 (both (unused rest) (leb (word f initializers i 7) 1) (rw e at (word-rule f a initializers i (lit< tt) h))).1

  -- a literal
  pub literal-length : (c : ℕ) → c < count f constants → (constant_at f c).kind ≡ 8 → (constant_at f c).high ≤ 65536
  unfolding constant_at constant_of most_records limits_of_records
  literal-length c h e = omega (arith, characters-inside f a c h e, count_most f a characters (lit< tt))
