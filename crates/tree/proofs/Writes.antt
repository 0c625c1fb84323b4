-- What is written at each return, and what stands in the words then. Assumes nothing.
use mathlib.Core.Path.{◌≡◌, refl, sym, ◌∙◌}
use mathlib.Core.Bool.{Bool, true, false, ◌&&◌}
use mathlib.Core.List.{List, [], ◌∷◌}
use Prim.Native.Nat.{ℕ, suc, ◌+◌, ◌-◌, ◌*◌, ◌/◌, ◌^◌, ◌≤◌, ◌<◌}
use native.Mathlib.Omega.{arith}
use lib.Dec.{leb}
use lib.ListN.{length, set}
use lib.Seq.{sets-eq, paste}
use borrow.Author.Rules.{rules}
use borrow.Author.Tests.{leb-true, leb-false, le-leb, lt-leb}
use mir.Syntax.{w64}
use mir.Val.{Fits}
use Rattle.std.specs.Prelude.{Some, None}
use Rattle.tree.specs.declared.node.Node.{Node}
use Rattle.tree.specs.Words.{Wrote}
use Rattle.tree.specs.Node.{node_of, node_at, Renamed}

-- ---- whether words fit
pub fits_out : (len at n : ℕ) → len < at → false ≡ leb (at + n) len
fits_out len at n h = sym (lt-leb (at + n) len (omega arith))

pub fits_in : (len at n : ℕ) → at ≤ len → leb n (len - at) ≡ leb (at + n) len
fits_in len at n h = go (leb n (len - at)) refl
  where
    go : (b : Bool) → leb n (len - at) ≡ b → b ≡ leb (at + n) len
    go true e = let k = leb-true n (len - at) e in sym (le-leb (at + n) len (omega arith))
    go false e = let k = leb-false n (len - at) e in sym (lt-leb (at + n) len (omega arith))

pub nodes-out : (len at n : ℕ) → len < at → false ≡ leb (at + n * 6) len
nodes-out len at n h = fits_out len at (n * 6) h

pub nodes-in : (len at n : ℕ) → at ≤ len → leb n ((len - at) / 6) ≡ leb (at + n * 6) len
nodes-in len at n h = go (leb n ((len - at) / 6)) refl
  where
    go : (b : Bool) → leb n ((len - at) / 6) ≡ b → b ≡ leb (at + n * 6) len
    go true e = let k = leb-true n ((len - at) / 6) e in sym (le-leb (at + n * 6) len (omega arith))
    go false e = let k = leb-false n ((len - at) / 6) e in sym (lt-leb (at + n * 6) len (omega arith))

-- what the test showed
pub test-le : {b : Bool} {m n : ℕ} → b ≡ leb m n → b ≡ true → m ≤ n
test-le {b} {m} {n} e t = leb-true m n (sym e ∙ t)

pub test_fits : {b : Bool} {m n : ℕ} → b ≡ leb m n → b ≡ true → n < 2 ^ 64 → Fits w64 m
test_fits {b} {m} {n} e t h = let k : m ≤ n = test-le e t in record { fits = omega arith }

pub nodes-fits : (at n : ℕ) {b : Bool} {len : ℕ} → b ≡ leb (at + n * 6) len → b ≡ true → len < 2 ^ 64 → Fits w64 (n * 6)
nodes-fits at n {b} {len} e t h = let k : at + n * 6 ≤ len = test-le e t in record { fits = omega arith }

-- ---- where a test held or not
module _ {test : Bool} {old : List ℕ} {at : ℕ} {src : List ℕ} {n : ℕ} {b : Bool} (e : b ≡ test) where
  pub wrote_so : b ≡ true → {new : List ℕ} → new ≡ paste old at src n → Wrote test old at src n (Some (at + n)) new
  wrote_so t i = let k : test ≡ true = sym e ∙ t in record { says = rw k; is = rw k i }

  pub wrote-not : b ≡ false → Wrote test old at src n None old
  wrote-not t = let k : test ≡ false = sym e ∙ t in record { says = rw k; is = rw k }

-- the same, of two tests
module _ (x y : Bool) {old : List ℕ} {at : ℕ} {src : List ℕ} {n : ℕ} {b : Bool} (e : b ≡ x) where
  pub wrote-both : b ≡ true → {d : Bool} → d ≡ y → d ≡ true → {new : List ℕ} → new ≡ paste old at src n → Wrote (x && y) old at src n (Some (at + n)) new
  wrote-both t f u i =
      let k : x ≡ true = sym e ∙ t in
      let l : y ≡ true = sym f ∙ u in
      rw (k, l) (record { says = refl; is = i })

  pub wrote-first : b ≡ false → Wrote (x && y) old at src n None old
  wrote-first t = let k : x ≡ false = sym e ∙ t in rw k (record { says = refl; is = refl })

  pub wrote-second : b ≡ true → {d : Bool} → d ≡ y → d ≡ false → Wrote (x && y) old at src n None old
  wrote-second t f u =
      let k : x ≡ true = sym e ∙ t in
      let l : y ≡ false = sym f ∙ u in
      rw (k, l) (record { says = refl; is = refl })

-- ---- nodes
module _ (s : List ℕ) (at : ℕ) {b : Bool} (e : b ≡ leb (at + 6) (length s)) where
  pub node-is : b ≡ true → {r : Node} → r ≡ node_of s at → Some r ≡ node_at s at
  node-is t i = let k : leb (at + 6) (length s) ≡ true = sym e ∙ t in rw (k, i)

  pub node-past : b ≡ false → None ≡ node_at s at
  node-past t = let k : leb (at + 6) (length s) ≡ false = sym e ∙ t in rw k

-- six stores
pub six-stores : (l : List ℕ) (at a b c d e f : ℕ) → at + 6 ≤ length l
    → set (set (set (set (set (set l at a) (at + 1) b) (at + 2) c) (at + 3) d) (at + 4) e) (at + 5) f ≡ paste l at (a ∷ b ∷ c ∷ d ∷ e ∷ f ∷ []) 6
six-stores l at a b c d e f h =
    let k₁ : at + 1 ≡ suc at = omega arith in
    let k₂ : at + 2 ≡ suc (suc at) = omega arith in
    let k₃ : at + 3 ≡ suc (suc (suc at)) = omega arith in
    let k₄ : at + 4 ≡ suc (suc (suc (suc at))) = omega arith in
    let k₅ : at + 5 ≡ suc (suc (suc (suc (suc at)))) = omega arith in
    rw (k₁, k₂, k₃, k₄, k₅) (sets-eq (a ∷ b ∷ c ∷ d ∷ e ∷ f ∷ []) l at h)

-- ---- a name
module _ (s : List ℕ) (at name : ℕ) {b : Bool} (e : b ≡ leb (at + 6) (length s)) where
  pub name-place : b ≡ true → at < length s
  name-place t = let h : at + 6 ≤ length s = test-le e t in omega arith

  pub name_set : b ≡ true → Renamed s at name true (set s at name)
  name_set t = record { says = sym t ∙ e; is = refl }

  pub name-not : b ≡ false → Renamed s at name false s
  name-not t = record { says = sym t ∙ e; is = refl }

pub ruleset writes = (rules, name-place, name_set, name-not, fits_out, fits_in, nodes-out, nodes-in, test-le, test_fits, nodes-fits, wrote_so, wrote-not, wrote-both, wrote-first, wrote-second, node-is, node-past)
