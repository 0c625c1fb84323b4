-- What the limits and the functions that grow a tree answer at each return. Assumes nothing.
use mathlib.Core.Path.{◌≡◌, refl, ap, sym, ◌∙◌}
use mathlib.Core.Bool.{Bool, true, false, ◌&&◌}
use mathlib.Core.List.{List}
use Prim.Native.Nat.{ℕ, suc, ◌+◌, ◌-◌, ◌*◌, ◌/◌, ◌≤◌, ◌<◌}
use native.Mathlib.Omega.{arith}
use native.Mathlib.Nat.{mul-zero, mul_comm, mul_assoc, le-div_iff_mul-le, div-lt_iff_lt-mul}
use lib.Dec.{leb, ltb}
use lib.Seq.{paste}
use mir.Syntax.{w64}
use mir.Val.{Fits}
use borrow.Author.Tests.{leb-true, leb-false, le-leb, lt-leb, ltb-true, ltb-false}
use Rattle.std.specs.Prelude.{Option, Some, None, Ok, Err, Result}
use Rattle.std.specs.Option.{ok_or}
use Rattle.definition.specs.Base.{pick}
use Rattle.definition.specs.Tree.{most_nodes}
use Rattle.tree_changes.specs.declared.grow.Unfit.{Unfit}
use Rattle.tree_changes.specs.declared.grow.Unfit.TheVariants.{TooLarge, Outside}
use Rattle.tree.specs.Words.{Wrote}
use Rattle.tree_changes.specs.Grow.{Grew}
use Rattle.tree.proofs.Writes.{writes}

-- ---- limits
pub gather-full : (size more : ℕ) → 2048 ≤ size → false ≡ leb (suc (size + more)) most_nodes
gather-full size more h = sym (lt-leb (suc (size + more)) most_nodes (omega arith))

pub gather-more : (size more : ℕ) → size < 2048 → ltb more (2048 - size) ≡ leb (suc (size + more)) most_nodes
gather-more size more h = go (ltb more (2048 - size)) refl
  where
    go : (b : Bool) → ltb more (2048 - size) ≡ b → b ≡ leb (suc (size + more)) most_nodes
    go true e = let k = ltb-true more (2048 - size) e in sym (le-leb (suc (size + more)) most_nodes (omega arith))
    go false e = let k = ltb-false more (2048 - size) e in sym (lt-leb (suc (size + more)) most_nodes (omega arith))

pub repeat-empty : (times nodes : ℕ) → nodes ≡ 0 → true ≡ leb (suc (times * nodes)) most_nodes
repeat-empty times nodes e = rw (e, mul-zero)

pub repeat-most : (times nodes : ℕ) → (nodes ≡ 0 → ⊥) → leb times (2047 / nodes) ≡ leb (suc (times * nodes)) most_nodes
repeat-most times nodes e = go (leb times (2047 / nodes)) refl
  where
    go : (b : Bool) → leb times (2047 / nodes) ≡ b → b ≡ leb (suc (times * nodes)) most_nodes
    go true q =
        let k : times * nodes ≤ 2047 = (le-div_iff_mul-le {k = nodes} (omega arith)).0 (leb-true times (2047 / nodes) q) in
        sym (le-leb (suc (times * nodes)) most_nodes (omega arith))
    go false q =
        let k : 2047 < times * nodes = (div-lt_iff_lt-mul {k = nodes} (omega arith)).0 (leb-false times (2047 / nodes) q) in
        sym (lt-leb (suc (times * nodes)) most_nodes (omega arith))

-- what the limit showed: the words can be counted
pub gather-words : (size nodes : ℕ) {b : Bool} → b ≡ leb (suc (size + nodes)) most_nodes → b ≡ true → Fits w64 (nodes * 6)
gather-words size nodes e t = let k = leb-true (suc (size + nodes)) most_nodes (sym e ∙ t) in record { fits = omega arith }

pub repeat-words : (times nodes : ℕ) {b : Bool} → b ≡ leb (suc (times * nodes)) most_nodes → b ≡ true → Fits w64 (nodes * 6 * times)
repeat-words times nodes e t =
    let h = leb-true (suc (times * nodes)) most_nodes (sym e ∙ t) in
    let e : nodes * 6 * times ≡ times * nodes * 6 = mul_comm (nodes * 6) times ∙ sym (mul_assoc times nodes 6) in
    record { fits = omega arith }

-- ---- gathering
module _ (small : Bool) (old : List ℕ) (at : ℕ) (src : List ℕ) (n : ℕ) {b : Bool} (e : b ≡ small) where
  pub grew-large : b ≡ false → (test : Bool) → Grew small test old at src n (Err TooLarge) old
  grew-large t test = let k : small ≡ false = sym e ∙ t in rw k (record { says = refl; is = refl })

  module _ (t : b ≡ true) where
    -- what was copied, or not
    pub grew-copied : (test : Bool) {w : Option ℕ} {new : List ℕ} → Wrote test old at src n w new → {r : Result ℕ Unfit} → r ≡ ok_or w Outside → Grew small test old at src n r new
    grew-copied test {w} {new} q {r} i = let k : small ≡ true = sym e ∙ t in rw k (go test q.says q.is)
      where
        go : (c : Bool) → w ≡ pick c (Some (at + n)) None → new ≡ pick c (paste old at src n) old → Grew true c old at src n r new
        go true p v = record { says = i ∙ ap (λ (x : Option ℕ). ok_or x Outside) p; is = v }
        go false p v = record { says = i ∙ ap (λ (x : Option ℕ). ok_or x Outside) p; is = v }

    module _ (x y : Bool) {c : Bool} (f : c ≡ x) where
      pub grew-first : c ≡ false → Grew small (x && y) old at src n (Err Outside) old
      grew-first u = let k : small ≡ true = sym e ∙ t in let l : x ≡ false = sym f ∙ u in rw (k, l) (record { says = refl; is = refl })

      module _ (u : c ≡ true) {d : Bool} (g : d ≡ y) where
        pub grew-second : d ≡ false → Grew small (x && y) old at src n (Err Outside) old
        grew-second v =
            let k : small ≡ true = sym e ∙ t in
            let l : x ≡ true = sym f ∙ u in
            let m : y ≡ false = sym g ∙ v in
            rw (k, l, m) (record { says = refl; is = refl })

        pub grew-ends : d ≡ true → {new : List ℕ} → new ≡ paste old at src n → Grew small (x && y) old at src n (Ok (at + n)) new
        grew-ends v i =
            let k : small ≡ true = sym e ∙ t in
            let l : x ≡ true = sym f ∙ u in
            let m : y ≡ true = sym g ∙ v in
            rw (k, l, m) (record { says = refl; is = i })

pub ruleset grows = (writes, gather-full, gather-more, repeat-empty, repeat-most, gather-words, repeat-words, grew-large, grew-copied, grew-first, grew-second, grew-ends)
