-- From an accepted file to each rule at each record, and from the rules to the types that a record leads to. Assumes nothing.
use Rattle.std.specs.Prelude.{◌≡◌, refl, Bool, ◌&&◌, ◌||◌, List, get_or}
use Rattle.std.proofs.Common.{sym, ◌∙◌, arith, lit<}
use Rattle.std.proofs.Math.Bool.{true, false}
use Prim.Native.Nat.{ℕ, zero, suc, ◌+◌, ◌≤◌, ◌<◌}
use Rattle.std.proofs.Math.Dec.{eqb, leb}
use borrow.Author.Tests.{ltb-true, leb-true}
use Rattle.definition.specs.Base.{every, inline}
use Rattle.definition.specs.Layout.{settings, shapes, types, block_fields, elements, variables, initializers, limits_of_records, most_records, count, word}
use Rattle.definition.specs.Accept.{ends_right, counts_right, words_right, points_right, shapes_differ, arrays_small, need, verdict, every_record, plain_rules, point_rules, number_in, link_in, run_in, name_in, declaration_points, block_points, type_points, value_points, initializer_points}
use Rattle.laws.specs.Cases.{never, both, either}
use Rattle.laws.specs.Every.{every_true}
use Rattle.laws.specs.Links.{Link}

-- ---- tests of every record
pub record-at : (f : List ℕ) (rules : List (ℕ → Bool)) (s n : ℕ) → every_record f rules ≡ true → s < 14 → n < count f s → get_or rules s (λ n. false) n ≡ true
unfolding every_record
record-at f rules s n e hs hn =
    every_true (get_or rules s (λ n. false)) (count f s) (every_true (λ s. every (get_or rules s (λ n. false)) (count f s)) 14 e s hs) n hn

-- ---- what acceptance says
pub record Accepted (f : List ℕ) : Type 0 where
  pub ends : ends_right f ≡ true
  pub counts : counts_right f ≡ true
  pub words : words_right f ≡ true
  pub points : points_right f ≡ true
  pub differ : shapes_differ f ≡ true
  pub small : arrays_small f ≡ true

need-next : (b : Bool) (k : ℕ) (next : Unit {0} → ℕ) → need b (suc k) next ≡ 0 → (b ≡ true) × (next tt ≡ 0)
need-next true k next e = (refl, e)
need-next false k next e = absurd (omega arith)

pub accepted : (f : List ℕ) → verdict f ≡ 0 → Accepted f
unfolding verdict
accepted f e =
    let a = need-next (ends_right f) 0 _ e in
    let b = need-next (counts_right f) 1 _ a.1 in
    let c = need-next (words_right f) 2 _ b.1 in
    let d = need-next (points_right f) 3 _ c.1 in
    let g = need-next (shapes_differ f) 4 _ d.1 in
    let h = need-next (arrays_small f) 5 _ g.1 in
    record { ends = a.0; counts = b.0; words = c.0; points = d.0; differ = g.0; small = h.0 }

module _ (f : List ℕ) (a : Accepted f) where
  pub count_most : (s : ℕ) → s < 14 → count f s ≤ most_records s
  unfolding counts_right
  count_most s h =
      leb-true (count f s) (most_records s)
      (every_true (λ s. leb (count f s) (most_records s)) 14 (both (every (λ s. leb (count f s) (most_records s)) 14) (eqb (count f settings) 1) a.counts).0 s h)

  -- the rule of a section holds of each record
  pub word-rule : (s n : ℕ) → s < 14 → n < count f s → get_or (plain_rules f) s (λ n. false) n ≡ true
  unfolding words_right
  word-rule s n hs hn = record-at f (plain_rules f) s n a.words hs hn

  pub point-rule : (s n : ℕ) → s < 14 → n < count f s → get_or (point_rules f) s (λ n. false) n ≡ true
  unfolding points_right
  point-rule s n hs hn = record-at f (point_rules f) s n a.points hs hn

  pub few-types : count f types ≤ 1024
  unfolding most_records limits_of_records
  few-types = count_most types (lit< tt)

-- ---- numbers, links, runs and names
module _ (f : List ℕ) where
  pub number-in : (s n : ℕ) → number_in f s n ≡ true → n < count f s
  unfolding number_in
  number-in s n e = ltb-true n (count f s) e

  pub link-in : (s l : ℕ) → link_in f s l ≡ true → Link (λ n. n < count f s) l
  unfolding link_in
  link-in s zero e = tt
  link-in s (suc n) e = leb-true (suc n) (count f s) e

  pub run_in_lem : (s first many : ℕ) → run_in f s first many ≡ true → first + many ≤ count f s
  unfolding run_in
  run_in_lem s first many e = leb-true (first + many) (count f s) e

  -- a type's name that is not inline, or where inline is not allowed
  pub name_in_lem : (inlined : Bool) (w : ℕ) → name_in f inlined w ≡ true → eqb w inline ≡ false → Link (λ d. d < count f types) w
  unfolding name_in
  name_in_lem inlined w e q =
      either (link_in f types w) (inlined && eqb w inline) e (link-in types w)
      (λ b. let s : eqb w inline ≡ true = (both inlined (eqb w inline) b).1 in never (sym q ∙ s))

  pub name-link : (w : ℕ) → name_in f false w ≡ true → Link (λ d. d < count f types) w
  unfolding name_in
  name-link w e = either (link_in f types w) false e (link-in types w) never

-- ---- the parts of a type's and an initializer's rule
pub record TypePoints (f : List ℕ) (t : ℕ) : Type 0 where
  pub shape : number_in f shapes (word f types t 0) ≡ true
  pub alias : link_in f types (word f types t 1) ≡ true
  pub element : link_in f types (word f types t 2) ≡ true
  pub referenced : link_in f types (word f types t 3) ≡ true
  pub declared : declaration_points f (word f types t 4) (word f types t 5) (word f types t 6) (word f types t 7) (word f types t 8) ≡ true
  pub block : block_points f (word f types t 9) (word f types t 10) ≡ true

pub record InitializerPoints (f : List ℕ) (i : ℕ) : Type 0 where
  pub named : name_in f (eqb (word f initializers i 0) 2 || eqb (word f initializers i 0) 9) (word f initializers i 1) ≡ true
  pub element : link_in f types (word f initializers i 2) ≡ true
  pub value : value_points f (word f initializers i 0) (word f initializers i 3) (word f initializers i 4) (word f initializers i 5) ≡ true

module _ (f : List ℕ) (a : Accepted f) where
  pub type-points : (t : ℕ) → t < count f types → TypePoints f t
  unfolding point_rules type_points
  type-points t h =
      let r : type_points f t ≡ true = point-rule f a types t (lit< tt) h in
      let p5 = both _ (block_points f (word f types t 9) (word f types t 10)) r in
      let p4 = both _ (declaration_points f (word f types t 4) (word f types t 5) (word f types t 6) (word f types t 7) (word f types t 8)) p5.0 in
      let p3 = both _ (link_in f types (word f types t 3)) p4.0 in
      let p2 = both _ (link_in f types (word f types t 2)) p3.0 in
      let p1 = both (number_in f shapes (word f types t 0)) (link_in f types (word f types t 1)) p2.0 in
      record { shape = p1.0; alias = p1.1; element = p2.1; referenced = p3.1; declared = p4.1; block = p5.1 }

  pub initializer-points : (i : ℕ) → i < count f initializers → InitializerPoints f i
  unfolding point_rules initializer_points
  initializer-points i h =
      let r : initializer_points f i ≡ true = point-rule f a initializers i (lit< tt) h in
      let p2 = both _ (value_points f (word f initializers i 0) (word f initializers i 3) (word f initializers i 4) (word f initializers i 5)) r in
      let p1 = both (name_in f (eqb (word f initializers i 0) 2 || eqb (word f initializers i 0) 9) (word f initializers i 1)) (link_in f types (word f initializers i 2)) p2.0 in
      record { named = p1.0; element = p1.1; value = p2.1 }

  pub element-points : (e : ℕ) → e < count f elements → word f elements e 1 < count f initializers
  unfolding point_rules
  element-points e h = number-in f initializers (word f elements e 1) (point-rule f a elements e (lit< tt) h)

  pub block-field-points : (k : ℕ) → k < count f block_fields → Link (λ d. d < count f types) (word f block_fields k 1)
  unfolding point_rules
  block-field-points k h = link-in f types (word f block_fields k 1) (point-rule f a block_fields k (lit< tt) h)

  pub variable-points : (v : ℕ) → v < count f variables
      → Link (λ d. d < count f types) (word f variables v 2) × (word f variables v 3 < count f initializers)
  unfolding point_rules
  variable-points v h =
      let r = both (link_in f types (word f variables v 2)) (number_in f initializers (word f variables v 3)) (point-rule f a variables v (lit< tt) h) in
      (link-in f types (word f variables v 2) r.0, number-in f initializers (word f variables v 3) r.1)
