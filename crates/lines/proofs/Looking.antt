-- What the functions of `look` answer at each return. Assumes nothing.
use mathlib.Core.Path.{◌≡◌, sym, ◌∙◌}
use mathlib.Core.Bool.{Bool, true, false}
use mathlib.Core.List.{List}
use Prim.Native.Nat.{ℕ, ◌+◌, ◌-◌, ◌≤◌, ◌<◌}
use lib.Dec.{leb}
use lib.ListN.{length, get_or}
use borrow.Author.Tests.{ne_eqb, lt-ltb, le-ltb}
use Rattle.tree.proofs.Writes.{writes}
use Rattle.std.specs.Prelude.{Err}
use Rattle.lines.specs.declared.look.Absent.TheVariants.{Unknown, None, TooLarge}
use Rattle.lines.specs.Look.{Remembered, there, state_of, line_of, word_of, remembered_of}

module _ (state at count : ℕ) where
  pub state-tree : state ≡ 0 → there at count ≡ state_of state at count
  unfolding state_of
  state-tree e = rw e

  pub state-large : state ≡ 2 → Err TooLarge ≡ state_of state at count
  unfolding state_of
  state-large e = rw e

  pub state-none : (state ≡ 0 → ⊥) → (state ≡ 2 → ⊥) → Err None ≡ state_of state at count
  unfolding state_of
  state-none d e = rw (ne_eqb state 0 d, ne_eqb state 2 e)

module _ (store : List ℕ) (at : ℕ) {b : Bool} (e : b ≡ leb (at + 3) (length store)) where
  pub line-is : b ≡ true → {r : Remembered} → r ≡ state_of (get_or store (at + 1) 0) (at + 3) (get_or store (at + 2) 0) → r ≡ line_of store at
  unfolding line_of
  line-is t i = let k : leb (at + 3) (length store) ≡ true = sym e ∙ t in rw (k, i)

  pub line-past : b ≡ false → Err None ≡ line_of store at
  unfolding line_of
  line-past t = let k : leb (at + 3) (length store) ≡ false = sym e ∙ t in rw k

module _ (store : List ℕ) (word : ℕ) where
  pub word-unknown : word ≡ 0 → Err Unknown ≡ word_of store word
  unfolding word_of
  word-unknown e = rw e

  pub word_none : word ≡ 1 → Err None ≡ word_of store word
  unfolding word_of
  word_none e = rw e

  pub word_line : (word ≡ 0 → ⊥) → (word ≡ 1 → ⊥) → {r : Remembered} → r ≡ line_of store (word - 2) → r ≡ word_of store word
  unfolding word_of
  word_line d e i = rw (ne_eqb word 0 d, ne_eqb word 1 e, i)

module _ (index store : List ℕ) (t : ℕ) where
  pub up_is : t < length index → {r : Remembered} → r ≡ word_of store (get_or index t 0) → r ≡ remembered_of index store t
  unfolding remembered_of
  up_is h i = rw (lt-ltb t (length index) h, i)

  pub up-past : length index ≤ t → Err None ≡ remembered_of index store t
  unfolding remembered_of
  up-past h = rw (le-ltb t (length index) h)

pub ruleset reads = (writes, state-tree, state-large, state-none, line-is, line-past, word-unknown, word_none, word_line, up_is, up-past)
