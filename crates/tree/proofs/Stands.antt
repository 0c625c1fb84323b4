-- Words that stand at a place: side by side, in parts, and after writes elsewhere. Assumes nothing.
use mathlib.Core.Path.{◌≡◌, refl, ap, sym, ◌∙◌}
use mathlib.Core.List.{List, [], ◌∷◌, ◌++◌, append_assoc}
use Prim.Native.Nat.{ℕ, zero, suc, ◌+◌, ◌-◌, ◌≤◌}
use native.Mathlib.Omega.{arith}
use native.Mathlib.Nat.{zero-add, suc-add}
use lib.ListN.{length, take, drop, length-append, length-take, length-drop, take-append-drop}
use lib.Seq.{take-nil, take-take, take_at, drop_at, drop-drop, drop-append-le, take-append-add, length-take-le, slice}
use Rattle.tree.specs.Words.{Stand}

pub take-drop : (a n : ℕ) (l : List ℕ) → take n (drop a l) ≡ slice a (a + n) l
take-drop zero n l = rw zero-add
take-drop (suc a) n [] = rw suc-add (take-nil n)
take-drop (suc a) n (x ∷ l) = rw suc-add (take-drop a n l)

-- lists that are the same from a place on are so further on
pub drop_past : (n k : ℕ) (s t : List ℕ) → n ≤ k → drop n s ≡ drop n t → drop k s ≡ drop k t
drop_past n k s t h e =
    let i : n + (k - n) ≡ k = omega arith in
    ap (λ (j : ℕ). drop j s) (sym i) ∙ sym (drop-drop (k - n) n s) ∙ ap (drop (k - n)) e ∙ drop-drop (k - n) n t ∙ ap (λ (j : ℕ). drop j t) i

-- ---- what stands, and what is behind it
pub stand-rest : {s : List ℕ} {at : ℕ} {ws : List ℕ} {end : ℕ} → Stand s at ws end → drop at s ≡ ws ++ drop end s
stand-rest {s} {at} {ws} {end} x =
    ap (drop at) (sym (take-append-drop end s))
    ∙ drop-append-le at (take end s) (drop end s) (omega (arith, length-take-le end s x.fits, x.long))
    ∙ ap (λ (l : List ℕ). l ++ drop end s) x.is

pub rest-stand : (s : List ℕ) (at : ℕ) (ws m : List ℕ) → at ≤ length s → drop at s ≡ ws ++ m → Stand s at ws (at + length ws)
rest-stand s at ws m h e =
    record {
      long = refl;
      fits = omega (arith, simp (length-drop, length-append) at (ap length e));
      is = sym (take-drop at (length ws) s) ∙ ap (take (length ws)) e ∙ take_at ws m (length ws) refl;
    }

-- ---- side by side
pub stand-append : {s : List ℕ} {a b c : ℕ} {ws vs : List ℕ} → Stand s a ws b → Stand s b vs c → Stand s a (ws ++ vs) c
stand-append {s} {a} {b} {c} {ws} {vs} x y =
    record {
      long = simp length-append (omega (arith, x.long, y.long));
      fits = y.fits;
      is =
          let n : c - a ≡ length ws + length vs = omega (arith, x.long, y.long) in
          let m : a + (c - a) ≡ c = omega (arith, x.long, y.long) in
          let k : c - b ≡ length vs = omega (arith, y.long) in
          let j : b + (c - b) ≡ c = omega (arith, y.long) in
          ap (λ (z : ℕ). slice a z s) (sym m) ∙ sym (take-drop a (c - a) s) ∙ rw (n, stand-rest x) (take-append-add ws (drop b s) (length vs))
          ∙ ap (λ (l : List ℕ). ws ++ l) (ap (λ (z : ℕ). take z (drop b s)) (sym k) ∙ take-drop b (c - b) s ∙ ap (λ (z : ℕ). slice b z s) j ∙ y.is);
    }

module _ {s : List ℕ} {a c : ℕ} (ws vs : List ℕ) (x : Stand s a (ws ++ vs) c) where
  split_rest : drop a s ≡ ws ++ (vs ++ drop c s)
  split_rest = stand-rest x ∙ simp append_assoc

  inside : a + length ws + length vs ≡ c
  inside = omega (arith, simp length-append at x.long)

  pub stand-front : Stand s a ws (a + length ws)
  stand-front = rest-stand s a ws (vs ++ drop c s) (omega (arith, inside, x.fits)) split_rest

  pub stand-back : Stand s (a + length ws) vs c
  stand-back =
      let e : drop (a + length ws) s ≡ vs ++ drop c s = sym (drop-drop (length ws) a s) ∙ ap (drop (length ws)) split_rest ∙ drop_at ws (vs ++ drop c s) (length ws) refl in
      let y = rest-stand s (a + length ws) vs (drop c s) (omega (arith, inside, x.fits)) e in
      rw (sym inside) y

-- ---- after writes elsewhere
-- nothing was written before `to`
pub stand-kept : {old : List ℕ} {at : ℕ} {ws : List ℕ} {end : ℕ} → Stand old at ws end → (s : List ℕ) (to : ℕ) → length s ≡ length old → end ≤ to → take to s ≡ take to old
    → Stand s at ws end
stand-kept {old} {at} {ws} {end} x s to l h e =
    let f : take end s ≡ take end old = sym (take-take end to s h) ∙ ap (take end) e ∙ take-take end to old h in
    record { long = x.long; fits = rw l x.fits; is = rw f x.is }

-- nothing was written from `from` on
pub stand-behind : {old : List ℕ} {at : ℕ} {ws : List ℕ} {end : ℕ} → Stand old at ws end → (s : List ℕ) (from : ℕ) → length s ≡ length old → from ≤ at → drop from s ≡ drop from old
    → Stand s at ws end
stand-behind {old} {at} {ws} {end} x s from l h e =
    let n : from + (at - from) ≡ at = omega arith in
    let f : drop at s ≡ drop at old =
    ap (λ (k : ℕ). drop k s) (sym n) ∙ sym (drop-drop (at - from) from s) ∙ ap (drop (at - from)) e ∙ drop-drop (at - from) from old ∙ ap (λ (k : ℕ). drop k old) n in
    let y = rest-stand s at ws (drop end old) (omega (arith, x.long, x.fits)) (f ∙ stand-rest x) in
    rw x.long at y

-- ---- what was written
-- the front up to `end` is what stood before `at`, and the words
pub wrote-stand : (old s : List ℕ) (at : ℕ) (ws : List ℕ) (end : ℕ) → at ≤ length old → end ≡ at + length ws → take end s ≡ take at old ++ ws → Stand s at ws end
wrote-stand old s at ws end h n e =
    let m : length (take at old) ≡ at = length-take-le at old h in
    record {
      long = sym n;
      fits = omega (arith, length-take end s, simp length-append at (ap length e));
      is = ap (drop at) e ∙ drop_at (take at old) ws at m;
    }
