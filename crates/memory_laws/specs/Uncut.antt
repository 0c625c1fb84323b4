-- Characters cut (document 02, Q-2: "14 disregards it"): a tree is held, refused and written as the same tree with none cut. Assumes nothing.
use Rattle.std.specs.Prelude.{◌≡◌, Bool, true, false, List, [], ◌∷◌, map, ℕ, ◌%◌, ◌≤◌, eqb, length}
use Rattle.std.proofs.Math.Path.{refl}
use Rattle.std.proofs.Common.{ap, arith, mod-lt, mod-eq_of_lt, eqb-true}
use Rattle.definition.specs.Base.{pick}
use Rattle.definition.specs.Records.{constant_of}
use Rattle.definition.specs.Tree.{Node}
use Rattle.definition.specs.Scalar.{uncut_word}
use Rattle.laws.specs.Uncut.{uncut}
use Rattle.memory_definition.specs.declared.form.Form.{Form}
use Rattle.memory_definition.specs.declared.form.Form.TheVariants as form
use Rattle.memory_definition.specs.Cells.{Cell, cell}
use Rattle.memory_definition.specs.Forms.{Characters, form_of, constant_on, held_constant, held_head, member_link, held_as, held, text_on, narrow_as, narrow, bytes_as, bytes}
use Rattle.memory_definition.specs.Memory.{held_all, narrow_all, bytes_all}
use Rattle.memory_definition.specs.Answers.{cell_bytes, cells_refused, cells_answer, cells_out}

-- a node with no characters cut, at its place
abbrev pub uncut_cell : Cell → Cell
uncut_cell c = cell c.shape (uncut c.node)

-- a last word that is 0 or 1, or not a string's, counts none
pub uncut-word : (kind last : ℕ) → (kind ≡ 8 → last ≤ 1) → uncut_word kind last ≡ last
unfolding uncut_word
uncut-word kind last h = go (eqb kind 8) refl
  where
    go : (b : Bool) → eqb kind 8 ≡ b → pick b (last % 2) last ≡ last
    go true e = mod-eq_of_lt (omega (arith, h (eqb-true kind 8 e)))
    go false e = refl

pub none-cut : (c : Cell) → c.node.width ≤ 1 → uncut_cell c ≡ c
unfolding uncut
none-cut c h = rw (uncut-word c.node.kind c.node.width (λ k. h))

uncut-twice : (kind last : ℕ) → uncut_word kind (uncut_word kind last) ≡ uncut_word kind last
unfolding uncut_word
uncut-twice kind last = go (eqb kind 8)
  where
    go : (b : Bool) → pick b (pick b (last % 2) last % 2) (pick b (last % 2) last) ≡ pick b (last % 2) last
    go true = mod-eq_of_lt (mod-lt last (omega arith))
    go false = refl

-- ---- one node
constant-uncut : (h : Node) → constant_on (uncut h) ≡ constant_on h
unfolding uncut constant_on
constant-uncut h = ap (constant_of h.kind h.sign h.low h.high) (uncut-twice h.kind h.width)

module _ (f : List ℕ) (c : Cell) where
  held-constant-uncut : held_constant f (uncut_cell c) ≡ held_constant f c
  unfolding held_constant
  held-constant-uncut = rw (constant-uncut c.node)

  held-as-uncut : (F : Form) → held_as f F (uncut_cell c) ≡ held_as f F c
  unfolding uncut held_as held_head member_link
  held-as-uncut form.Head = refl
  held-as-uncut form.Null = refl
  held-as-uncut form.Bool = held-constant-uncut
  held-as-uncut (form.Number signed bits kind width) = held-constant-uncut
  held-as-uncut form.Real = rw (held-constant-uncut, constant-uncut c.node)
  held-as-uncut form.LongReal = held-constant-uncut
  held-as-uncut (form.String most width) = held-constant-uncut
  held-as-uncut (form.Enumeration first count) = refl
  held-as-uncut form.Nothing = refl

  pub held-uncut : held f (uncut_cell c) ≡ held f c
  unfolding uncut held form_of
  held-uncut = held-as-uncut (form_of f c)

  module _ (text : Characters) where
    narrow-as-uncut : (F : Form) → narrow_as F text (uncut_cell c) ≡ narrow_as F text c
    unfolding uncut narrow_as text_on
    narrow-as-uncut form.Head = refl
    narrow-as-uncut form.Null = refl
    narrow-as-uncut form.Bool = refl
    narrow-as-uncut (form.Number signed bits kind width) = refl
    narrow-as-uncut form.Real = refl
    narrow-as-uncut form.LongReal = refl
    narrow-as-uncut (form.String most width) = refl
    narrow-as-uncut (form.Enumeration first count) = refl
    narrow-as-uncut form.Nothing = refl

    pub narrow-uncut : narrow f text (uncut_cell c) ≡ narrow f text c
    unfolding uncut narrow form_of
    narrow-uncut = narrow-as-uncut (form_of f c)

    bytes-as-uncut : (F : Form) → bytes_as f F text (uncut_cell c) ≡ bytes_as f F text c
    unfolding uncut bytes_as text_on member_link
    bytes-as-uncut form.Head = refl
    bytes-as-uncut form.Null = refl
    bytes-as-uncut form.Bool = refl
    bytes-as-uncut (form.Number signed bits kind width) = rw (constant-uncut c.node)
    bytes-as-uncut form.Real = rw (constant-uncut c.node)
    bytes-as-uncut form.LongReal = rw (constant-uncut c.node)
    bytes-as-uncut (form.String most width) = refl
    bytes-as-uncut (form.Enumeration first count) = refl
    bytes-as-uncut form.Nothing = refl

    pub bytes-uncut : bytes f text (uncut_cell c) ≡ bytes f text c
    unfolding uncut bytes form_of
    bytes-uncut = bytes-as-uncut (form_of f c)

-- ---- a whole tree
pub held-all-uncut : (f : List ℕ) (cs : List Cell) → held_all f (map uncut_cell cs) ≡ held_all f cs
unfolding held_all
held-all-uncut f [] = refl
held-all-uncut f (c ∷ cs) = rw (held-uncut f c, held-all-uncut f cs)

pub narrow-all-uncut : (f : List ℕ) (text : Characters) (cs : List Cell) → narrow_all f text (map uncut_cell cs) ≡ narrow_all f text cs
unfolding narrow_all
narrow-all-uncut f text [] = refl
narrow-all-uncut f text (c ∷ cs) = rw (narrow-uncut f c text, narrow-all-uncut f text cs)

pub bytes-all-uncut : (f : List ℕ) (text : Characters) (cs : List Cell) → bytes_all f text (map uncut_cell cs) ≡ bytes_all f text cs
unfolding bytes_all
bytes-all-uncut f text [] = refl
bytes-all-uncut f text (c ∷ cs) = rw (bytes-uncut f c text, bytes-all-uncut f text cs)

-- what `write_memory` answers, and what it leaves in the lent bytes
module _ (f : List ℕ) (cs : List Cell) where
  cell-bytes-uncut : cell_bytes f (map uncut_cell cs) ≡ cell_bytes f cs
  unfolding cell_bytes
  cell-bytes-uncut = bytes-all-uncut f _ cs

  refused-uncut : (out : ℕ) → cells_refused f (map uncut_cell cs) out ≡ cells_refused f cs out
  unfolding cells_refused
  refused-uncut out = rw (held-all-uncut f cs, narrow-all-uncut f _ cs, cell-bytes-uncut)

  pub answer-uncut : (out : ℕ) → cells_answer f (map uncut_cell cs) out ≡ cells_answer f cs out
  unfolding cells_answer
  answer-uncut out = rw (refused-uncut out, cell-bytes-uncut)

  pub out-uncut : (out : List ℕ) → cells_out f (map uncut_cell cs) out ≡ cells_out f cs out
  unfolding cells_out
  out-uncut out = rw (refused-uncut (length out), cell-bytes-uncut)
