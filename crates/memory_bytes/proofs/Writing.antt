-- All nodes, one after another. Assumes nothing.
use mathlib.Core.Path.{◌≡◌, refl, ap, sym, subst, ◌∙◌}
use mathlib.Core.Bool.{true, ◌&&◌}
use mathlib.Core.List.{List, [], ◌∷◌, ◌++◌}
use Prim.Native.Nat.{ℕ, zero, suc, ◌+◌, ◌*◌, ◌^◌, ◌≤◌, ◌<◌}
use native.Mathlib.Omega.{arith}
use lib.ListN.{length, get_or, length-append}
use borrow.Author.Rules.{rules}
use Rattle.std.specs.List.{list_all}
use Rattle.laws.specs.Cases.{both}
use Rattle.laws.specs.Puts.{Puts}
use Rattle.text.proofs.Putting.{Putting, putting-first, putting-more, putting-done}
use Rattle.memory_definition.specs.declared.form.Form.{Form}
use Rattle.memory_definition.specs.Cells.{Cell}
use Rattle.memory_definition.specs.Forms.{form_of, held, narrow, file_characters, size_as, bytes}
use Rattle.memory_definition.specs.Memory.{held_all, narrow_all, bytes_all, size, size_all}
use Rattle.memory_laws.specs.Placed.{Placed, PlacedAll}
use Rattle.memory_laws.specs.Lengths.{bytes-long, bytes-all-long}

-- ---- `held_all`, `narrow_all`
pub placed-there : (f : List ℕ) (cs : List Cell) → PlacedAll f cs → (c : Cell) (k : ℕ) → k < length cs → c ≡ get_or cs k c → Placed f c.shape
placed-there f [] p c k h e = absurd (omega arith)
placed-there f (x ∷ xs) p c zero h e = subst (λ (d : Cell). Placed f d.shape) (sym e) p.0
placed-there f (x ∷ xs) p c (suc k) h e = placed-there f xs p.1 c k (omega arith) e

pub held-listed : (f : List ℕ) (cs : List Cell) → list_all (held f) cs ≡ held_all f cs
unfolding held_all
held-listed f [] = refl
held-listed f (c ∷ cs) = ap (λ b. held f c && b) (held-listed f cs)

pub narrow-listed : (f : List ℕ) (cs : List Cell) → list_all (narrow f (file_characters f)) cs ≡ narrow_all f (file_characters f) cs
unfolding narrow_all
narrow-listed f [] = refl
narrow-listed f (c ∷ cs) = ap (λ b. narrow f (file_characters f) c && b) (narrow-listed f cs)

-- ---- `size_all`: the sum so far, and the nodes that are left
pub record Summed (f : List ℕ) (all rest : List Cell) (sum : ℕ) : Type 0 where
  pub same : sum + size_all f rest ≡ size_all f all
  pub small : sum + length rest * 2 ^ 34 ≤ 2048 * 2 ^ 34

module _ (f : List ℕ) (cs : List Cell) where
  pub none-summed : length cs ≤ 2048 → Summed f cs cs 0
  none-summed h = record { same = omega arith; small = omega arith }

  module _ {rest : List Cell} {sum : ℕ} (x : Summed f cs rest sum) where
    pub all-summed : rest ≡ [] → sum ≡ size_all f cs
    unfolding size_all
    all-summed e = let z : size_all f rest ≡ 0 = rw e in omega (arith, x.same, z)

    module _ {c : Cell} {others : List Cell} (e : rest ≡ c ∷ others) {n : ℕ} (l : n ≤ 2 ^ 34) where
      long : length rest ≡ suc (length others)
      long = ap length e

      pub sum_fits : sum + n < 2 ^ 64
      sum_fits = omega (arith, x.small, long)

      pub one-summed : n ≡ size f c → Summed f cs others (sum + n)
      unfolding size_all
      one-summed z =
          let v : size_all f rest ≡ n + size_all f others = rw (e, z) in
          record { same = omega (arith, x.same, v); small = omega (arith, x.small, long) }

pub size-is : (f : List ℕ) (c : Cell) {y : Form} → y ≡ form_of f c → {n : ℕ} → n ≡ size_as y → n ≡ size f c
unfolding size
size-is f c i z = z ∙ ap size_as i

-- ---- `write_all`: the bytes of the nodes that are left are still to be put
pub record Written (f : List ℕ) (all : List Cell) (old : List ℕ) (rest : List Cell) (text : List ℕ) (end : ℕ) : Type 0 where
  pub putting : Putting (bytes_all f (file_characters f) all) old 0 (bytes_all f (file_characters f) rest) text end
  pub holds : held_all f rest ≡ true

module _ (f : List ℕ) (cs : List Cell) where
  pub none_written : (old : List ℕ) → held_all f cs ≡ true → size_all f cs ≤ length old → Written f cs old cs old 0
  none_written old h l = record { putting = putting-first (bytes_all f (file_characters f) cs) old 0 (omega (arith, bytes-all-long f (file_characters f) cs h)); holds = h }

  module _ {old : List ℕ} {rest : List Cell} {text : List ℕ} {end : ℕ} (x : Written f cs old rest text end) where
    pub all-written : rest ≡ [] → Puts (bytes_all f (file_characters f) cs) old 0 end text
    unfolding bytes_all
    all-written e = putting-done x.putting (rw e)

    module _ {c : Cell} {others : List Cell} (e : rest ≡ c ∷ others) where
      held_both : (held f c ≡ true) × (held_all f others ≡ true)
      unfolding held_all
      held_both = both (held f c) (held_all f others) (rw e at x.holds)

      bytes-are : bytes_all f (file_characters f) rest ≡ bytes f (file_characters f) c ++ bytes_all f (file_characters f) others
      unfolding bytes_all
      bytes-are = ap (bytes_all f (file_characters f)) e

      pub cell-held : held f c ≡ true
      cell-held = held_both.0

      pub cell_room : end + size f c ≤ length text
      cell_room = omega (arith, x.putting.room, ap length bytes-are, length-append (bytes f (file_characters f) c) (bytes_all f (file_characters f) others), bytes-long f (file_characters f) c held_both.0)

      pub one_written : {e : ℕ} {new : List ℕ} → Puts (bytes f (file_characters f) c) text end e new → Written f cs old others new e
      one_written o = record { putting = putting-more x.putting o (bytes_all f (file_characters f) others) bytes-are; holds = held_both.1 }

pub ruleset summing = (rules, none-summed, all-summed)

pub ruleset writing = (rules, none_written, all-written, cell-held, cell_room, one_written)
