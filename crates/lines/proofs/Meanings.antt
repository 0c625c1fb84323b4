-- What is read of an index and a store that stand for a memo: what the memo knows, and what a computation gets that asks for it. Assumes nothing.
use mathlib.Core.Path.{◌≡◌, refl, ap, sym, ◌∙◌}
use mathlib.Core.Bool.{Bool, true, false}
use mathlib.Core.Logic.{inl, inr}
use mathlib.Core.List.{List, [], ◌∷◌, ◌++◌}
use Prim.Native.Nat.{ℕ, ◌+◌, ◌-◌, ◌*◌, ◌≤◌, ◌<◌}
use native.Mathlib.Omega.{arith}
use native.Mathlib.Nat.{add-zero}
use lib.Dec.{leb}
use lib.ListN.{length, get_or, take, drop}
use lib.Seq.{get_or-drop, paste, take_all}
use borrow.Author.Tests.{le-leb, leb-true, leb-false}
use Rattle.std.specs.Prelude.{Result, Ok, Err}
use Rattle.definition.specs.Base.{pick}
use Rattle.definition.specs.Tree as trees
use Rattle.definition.specs.Ask.{ok, none, large, Outcome, Ask, done, ask, type_default}
use Rattle.definition.specs.Resolve.{Look, known, unknown, Memo, at}
use Rattle.definition.specs.Peek.{got, wants, peek}
use Rattle.definition.specs.Lines.{outcome_words}
use Rattle.laws.specs.Asks.{OnOk}
use Rattle.laws.specs.Values.{Small}
use Rattle.laws.specs.Whole.{flatten-length}
use Rattle.tree.specs.Words.{Stand}
use Rattle.tree.proofs.Stands.{take-drop, stand-rest, stand-back}
use Rattle.tree.proofs.Standing.{paste-stands}
use Rattle.lines.specs.declared.look.Tree.{Tree}
use Rattle.lines.specs.declared.look.Absent.TheVariants as absent
use Rattle.lines.specs.declared.copy.Uncopied.{Uncopied}
use Rattle.lines.specs.declared.copy.Uncopied.TheVariants.{Unknown, None, TooLarge, Full}
use Rattle.lines.specs.Look.{Remembered, there, state_of, line_of, word_of, remembered_of}
use Rattle.lines.specs.Copy.{copied_of, copied_words, Copies}
use Rattle.lines.specs.Memory.{LineAt, Holds, Remembers, TreeThere, Looks, CopyThere, CopyFull, CopyLooks}
use Rattle.lines.proofs.Looking.{word-unknown, word_none, word_line, up_is}

-- ---- a line
pub stand-word : {s : List ℕ} {p : ℕ} {ws : List ℕ} {end : ℕ} → Stand s p ws end → (i : ℕ) → get_or s (p + i) 0 ≡ get_or (ws ++ drop end s) i 0
stand-word {s} {p} {ws} {end} x i = sym (get_or-drop p s i 0) ∙ ap (λ (l : List ℕ). get_or l i 0) (stand-rest x)

-- a line whose state and count are known
module _ {store : List ℕ} (p : ℕ) {stop : ℕ} (state count : ℕ) (ws : List ℕ) (x : Stand store (p + 1) (state ∷ count ∷ ws) stop) where
  line-says : line_of store p ≡ state_of state (p + 3) count
  unfolding line_of
  line-says =
      let a : get_or store (p + 1) 0 ≡ state = ap (λ (k : ℕ). get_or store k 0) (sym (add-zero (p + 1))) ∙ stand-word x 0 in
      let e : p + 1 + 1 ≡ p + 2 = omega arith in
      let b : get_or store (p + 2) 0 ≡ count = ap (λ (k : ℕ). get_or store k 0) (sym e) ∙ stand-word x 1 in
      let h : p + 3 ≤ length store = omega (arith, x.long, x.fits) in
      rw (le-leb (p + 3) (length store) h, a, b)

module _ {store : List ℕ} {end p : ℕ} where
  pub line-looks : (o : Outcome) → LineAt store end p o → OnOk Small o → Looks (line_of store p) store (known o)
  unfolding outcome_words state_of
  line-looks none y s = rw (line-says p 1 0 [] y.stands) refl
  line-looks large y s = rw (line-says p 2 0 [] y.stands) refl
  line-looks (ok tree) y s =
      let n = trees.nodes tree in
      let f : length (trees.flatten tree) ≡ 6 * n = flatten-length tree in
      let z = stand-back (0 ∷ n ∷ []) (trees.flatten tree) y.stands in
      let e : p + 1 + 2 ≡ p + 3 = omega arith in
      let g : y.stop ≡ p + 3 + n * 6 = omega (arith, z.long) in
      rw (line-says p 0 n (trees.flatten tree) y.stands) (record { tree = tree; is = refl; stands = rw (e, g) at z; count = refl; small = s })

-- ---- a word of the index
word-looks : (word : ℕ) (store : List ℕ) (end : ℕ) (l : Look) → Holds word store end l → Looks (word_of store word) store l
word-looks word store end unknown e = rw (← word-unknown store word e) refl
word-looks word store end (known o) (inl e) = rw (← word_none store word e.0) (ap known e.1)
word-looks word store end (known o) (inr y) =
    let p : word - 2 ≡ y.place = omega (arith, y.is) in
    let e : line_of store y.place ≡ word_of store word = word_line store word (λ z. omega (arith, y.is)) (λ z. omega (arith, y.is)) (ap (line_of store) (sym p)) in
    rw (← e) (line-looks o y.line y.small)

-- ---- a type
module _ {index store : List ℕ} {end : ℕ} {M : Memo} (x : Remembers index store end M) (t : ℕ) (h : t < length M) where
  pub looks : Looks (remembered_of index store t) store (at M t)
  looks =
      let e : word_of store (get_or index t 0) ≡ remembered_of index store t = up_is index store t (omega (arith, x.wide)) refl in
      rw (← e) (word-looks (get_or index t 0) store end (at M t) (x.holds t h))

  -- the same by cases, as a `match` on what was read has them
  module _ {r : Remembered} (e : r ≡ remembered_of index store t) where
    pub looks-unknown : r ≡ Err absent.Unknown → at M t ≡ unknown
    looks-unknown i = rw (sym e ∙ i) at looks

    pub looks-none : r ≡ Err absent.None → at M t ≡ known none
    looks-none i = rw (sym e ∙ i) at looks

    pub looks-large : r ≡ Err absent.TooLarge → at M t ≡ known large
    looks-large i = rw (sym e ∙ i) at looks

    pub looks-tree : {y : Tree} → r ≡ Ok y → TreeThere store y.at y.nodes (at M t)
    looks-tree i = rw (sym e ∙ i) at looks

-- ---- a computation that asks for the type
pub asks-known : {A : Type 0} (M : Memo) (t : ℕ) (o : Outcome) (k : Outcome → Ask A) → at M t ≡ known o → peek M (ask t k) ≡ peek M (k o)
unfolding peek
asks-known M t o k e = rw e

pub asks-unknown : {A : Type 0} (M : Memo) (t : ℕ) (k : Outcome → Ask A) → at M t ≡ unknown → peek M (ask t k) ≡ wants t
unfolding peek
asks-unknown M t k e = rw e

-- so each case of what was read is the default that is asked for, or that it is wanted
module _ {index store : List ℕ} {end : ℕ} {M : Memo} (x : Remembers index store end M) (t : ℕ) (h : t < length M) {r : Remembered} (e : r ≡ remembered_of index store t) where
  pub peeks-unknown : r ≡ Err absent.Unknown → peek M (type_default t) ≡ wants t
  unfolding type_default
  peeks-unknown i = asks-unknown M t done (looks-unknown x t h e i)

  pub peeks-none : r ≡ Err absent.None → peek M (type_default t) ≡ got none
  unfolding type_default peek
  peeks-none i = asks-known M t none done (looks-none x t h e i)

  pub peeks-large : r ≡ Err absent.TooLarge → peek M (type_default t) ≡ got large
  unfolding type_default peek
  peeks-large i = asks-known M t large done (looks-large x t h e i)

  pub peeks-tree : {y : Tree} (i : r ≡ Ok y) → peek M (type_default t) ≡ got (ok (looks-tree x t h e i).tree)
  unfolding type_default peek
  peeks-tree i = let y = looks-tree x t h e i in asks-known M t (ok y.tree) done y.is

-- ---- copies
module _ {store : List ℕ} (old : List ℕ) (p : ℕ) {r : Result ℕ Uncopied} {new : List ℕ} {l : Look} where
  tree-copied : (a n : ℕ) → TreeThere store a n l → r ≡ copied_of (there a n) store old p → new ≡ copied_words (there a n) store old p → CopyLooks r old p new l
  unfolding copied_of copied_words
  tree-copied a n y z v = go (leb (p + n * 6) (length old)) refl (rw k at z) (rw k at v)
    where
      k : leb (a + n * 6) (length store) ≡ true
      k = le-leb (a + n * 6) (length store) y.stands.fits

      w : take (n * 6) (drop a store) ≡ take (n * 6) (trees.flatten y.tree)
      w = take-drop a (n * 6) store ∙ y.stands.is ∙ sym (take_all (n * 6) (trees.flatten y.tree) (omega (arith, y.stands.long)))

      go : (b : Bool) → leb (p + n * 6) (length old) ≡ b → r ≡ pick b (Ok (p + n * 6)) (Err Full) → new ≡ pick b (paste old p (drop a store) (n * 6)) old → CopyLooks r old p new l
      go true f i j =
          let m = leb-true (p + n * 6) (length old) f in
          rw i (record { tree = y.tree; is = y.is; ends = rw y.count; room = m; wrote = j ∙ rw (y.count, w); small = y.small })
      go false f i j =
          let m = leb-false (p + n * 6) (length old) f in
          rw i (record { tree = y.tree; is = y.is; full = rw y.count m; kept = j })

module _ {index store : List ℕ} {end : ℕ} {M : Memo} (x : Remembers index store end M) (t : ℕ) (h : t < length M)
    {old : List ℕ} {p : ℕ} {r : Result ℕ Uncopied} {new : List ℕ} (c : Copies index store t old p r new) where
  pub copy-looks : CopyLooks r old p new (at M t)
  unfolding copied_of copied_words
  copy-looks = go (remembered_of index store t) refl (looks x t h)
    where
      go : (w : Remembered) → remembered_of index store t ≡ w → Looks w store (at M t) → CopyLooks r old p new (at M t)
      go (Ok w) q y = tree-copied old p w.at w.nodes y (rw q at c.says) (rw q at c.is)
      go (Err absent.Unknown) q y = let z : r ≡ Err Unknown = rw q at c.says in rw z (y, rw q at c.is)
      go (Err absent.None) q y = let z : r ≡ Err None = rw q at c.says in rw z (y, rw q at c.is)
      go (Err absent.TooLarge) q y = let z : r ≡ Err TooLarge = rw q at c.says in rw z (y, rw q at c.is)

  -- the same by cases
  pub copy-unknown : r ≡ Err Unknown → (at M t ≡ unknown) × (new ≡ old)
  copy-unknown i = rw i at copy-looks

  pub copy-none : r ≡ Err None → (at M t ≡ known none) × (new ≡ old)
  copy-none i = rw i at copy-looks

  pub copy-large : r ≡ Err TooLarge → (at M t ≡ known large) × (new ≡ old)
  copy-large i = rw i at copy-looks

  pub copy-ends : {e : ℕ} → r ≡ Ok e → CopyThere old p e new (at M t)
  copy-ends i = rw i at copy-looks

  pub copy-full : r ≡ Err Full → CopyFull old p new (at M t)
  copy-full i = rw i at copy-looks

-- the tree stands where it was copied to
pub copy-stands : {old : List ℕ} {p e : ℕ} {new : List ℕ} {l : Look} (y : CopyThere old p e new l) → Stand new p (trees.flatten y.tree) e
copy-stands {old} {p} {e} {new} y =
    let m = trees.nodes y.tree * 6 in
    let f : length (trees.flatten y.tree) ≡ 6 * trees.nodes y.tree = flatten-length y.tree in
    let s = paste-stands old p (trees.flatten y.tree) m (omega (arith, y.ends, y.room)) (omega arith) y.wrote in
    rw y.ends (rw (take_all m (trees.flatten y.tree) (omega arith)) at s)
