-- A part that gives way to a tree that is no longer: what follows it closes up. Assumes nothing.
use mathlib.Core.Path.{◌≡◌, ap, ◌∙◌}
use mathlib.Core.List.{List, ◌++◌, append_assoc}
use Prim.Native.Nat.{ℕ, ◌+◌, ◌-◌, ◌≤◌}
use native.Mathlib.Omega.{arith}
use lib.ListN.{length, take, drop, length-drop}
use lib.Seq.{paste, length-paste, take-paste, drop-paste, take-add, slice}
use borrow.Author.Rules.{rules}
use Rattle.tree.specs.declared.extent.Span.{Span}
use Rattle.tree_changes.specs.Grow.{Ordered, tail, moved, Within, Spliced}
use Rattle.tree.proofs.Stands.{take-drop, drop_past}

module _ {old : List ℕ} {tree part fresh : Span} (w : Within old tree part fresh) where
  abbrev seam : ℕ
  seam = part.begin + (fresh.end - fresh.begin)

  abbrev mid : List ℕ
  mid = paste old part.begin (drop fresh.begin old) (fresh.end - fresh.begin)

  order : Ordered tree part fresh
  order = w.room.ordered

  inside : fresh.end + tail tree part ≤ length old
  inside = w.room.room

  fresh-long : fresh.end - fresh.begin ≤ length (drop fresh.begin old)
  fresh-long = let o = order in simp length-drop (omega (arith, inside))

  mid-length : length mid ≡ length old
  mid-length = let o = order in length-paste old part.begin (drop fresh.begin old) (fresh.end - fresh.begin) (omega (arith, inside, w.short)) fresh-long

  mid-front : take seam mid ≡ take part.begin old ++ slice fresh.begin fresh.end old
  mid-front =
      let o = order in
      let e : fresh.begin + (fresh.end - fresh.begin) ≡ fresh.end = omega arith in
      take-paste old part.begin (drop fresh.begin old) (fresh.end - fresh.begin) (omega (arith, inside)) fresh-long
      ∙ ap (λ (x : List ℕ). take part.begin old ++ x) (take-drop fresh.begin (fresh.end - fresh.begin) old ∙ ap (λ (k : ℕ). slice fresh.begin k old) e)

  mid-rest : (k : ℕ) → seam ≤ k → drop k mid ≡ drop k old
  mid-rest k h =
      let o = order in
      drop_past seam k mid old h (drop-paste old part.begin (drop fresh.begin old) (fresh.end - fresh.begin) (omega (arith, inside)) fresh-long)

  closed : take seam mid ++ take (tail tree part) (drop part.end mid) ≡ take part.begin old ++ (slice fresh.begin fresh.end old ++ slice part.end tree.end old)
  closed =
      let o = order in
      let e : part.end + tail tree part ≡ tree.end = omega arith in
      rw (mid-front, mid-rest part.end (omega (arith, w.short)))
      (append_assoc (take part.begin old) (slice fresh.begin fresh.end old) (take (tail tree part) (drop part.end old))
      ∙ ap (λ (x : List ℕ). take part.begin old ++ (slice fresh.begin fresh.end old ++ x)) (take-drop part.end (tail tree part) old ∙ ap (λ (k : ℕ). slice part.end k old) e))

  -- ---- the moves are possible
  pub fresh-room : part.begin + (fresh.end - fresh.begin) ≤ length old
  fresh-room = let o = order in omega (arith, inside, w.short)

  pub rest-room : part.begin + (fresh.end - fresh.begin) + (tree.end - part.end) ≤ length old
  rest-room = let o = order in omega (arith, inside, w.short)

  -- ---- and give the tree
  module _ {s : List ℕ} (p : s ≡ mid) where
    far : seam + tail tree part ≤ fresh.end + tail tree part
    far = let o = order in omega (arith, w.short)

    moved-is : part.begin + moved tree part fresh ≡ seam + tail tree part
    moved-is = omega arith

    pub spliced-same : part.end ≤ seam → Spliced old tree part fresh s
    spliced-same h =
        let o = order in
        let e : seam ≡ part.end = omega (arith, w.short) in
        record {
          front =
              rw p (ap (λ (k : ℕ). take k mid) moved-is ∙ take-add seam (tail tree part) mid
              ∙ ap (λ (k : ℕ). take seam mid ++ take (tail tree part) (drop k mid)) e ∙ closed);
          back = rw p (mid-rest (fresh.end + tail tree part) (omega (arith, far)));
        }

    pub spliced-shorter : {t : List ℕ} → t ≡ paste s seam (drop part.end s) (tail tree part) → Spliced old tree part fresh t
    spliced-shorter {t} q =
        let o = order in
        let a : seam ≤ length mid = omega (arith, mid-length, inside, w.short) in
        let b : tail tree part ≤ length (drop part.end mid) = simp length-drop (omega (arith, mid-length, inside)) in
        let i : t ≡ paste mid seam (drop part.end mid) (tail tree part) = rw p at q in
        record {
          front = rw i (ap (λ (k : ℕ). take k (paste mid seam (drop part.end mid) (tail tree part))) moved-is ∙ take-paste mid seam (drop part.end mid) (tail tree part) a b ∙ closed);
          back =
              rw i (drop_past (seam + tail tree part) (fresh.end + tail tree part) (paste mid seam (drop part.end mid) (tail tree part)) mid far
              (drop-paste mid seam (drop part.end mid) (tail tree part) a b)
              ∙ mid-rest (fresh.end + tail tree part) (omega (arith, far)));
        }

pub ruleset closes = (rules, fresh-room, rest-room, spliced-same, spliced-shorter)
