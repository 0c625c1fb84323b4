-- The characters of a string, one after another. Assumes nothing.
use mathlib.Core.Path.{◌≡◌, refl, ap, ◌∙◌}
use mathlib.Core.Bool.{Bool, ◌&&◌}
use mathlib.Core.List.{List, [], ◌∷◌, ◌++◌}
use Prim.Native.Nat.{ℕ, zero, suc, ◌+◌, ◌-◌, ◌*◌, ◌^◌, ◌≤◌, ◌<◌}
use native.Mathlib.Omega.{arith}
use native.Mathlib.Nat.{add-zero, mul-le-mul_left, mul-suc, mul-add}
use lib.ListN.{length, replicate, length-append}
use borrow.Author.Rules.{rules}
use lib.Dec.{ltb}
use Rattle.std.specs.List.{list_all, range_with_len}
use Rattle.definition.specs.Layout.{word, characters}
use Rattle.laws.specs.Puts.{Puts, puts-long, puts_then}
use Rattle.text.proofs.Putting.{Putting, putting-first, putting-more, putting-done}
use Rattle.memory_definition.specs.Numbers.{little_endian, character_bytes, text_bytes, string_bytes}
use Rattle.memory_definition.specs.Forms.{file_characters, characters_from, every_below}
use Rattle.memory_laws.specs.Bytes.{le-long, text-long}
use Rattle.memory_laws.specs.Lengths.{characters-many}

-- the characters from place k on
abbrev pub left : List ℕ → ℕ → ℕ → ℕ → List ℕ
left f first many k = characters_from (file_characters f) (first + k) (many - k)

module _ (f : List ℕ) (first many : ℕ) where
  left-all : left f first many 0 ≡ characters_from (file_characters f) first many
  left-all = let e : many - 0 ≡ many = omega arith in rw (add-zero first, e)

  left-none : (k : ℕ) → many ≤ k → left f first many k ≡ []
  unfolding characters_from
  left-none k h = let e : many - k ≡ 0 = omega arith in rw e

  left-more : (k : ℕ) → k < many → left f first many k ≡ word f characters (first + k) 0 ∷ left f first many (k + 1)
  unfolding characters_from file_characters
  left-more k h =
      let e : many - k ≡ suc (many - (k + 1)) = omega arith in
      let q : suc (first + k) ≡ first + (k + 1) = omega arith in
      rw (e, q)

-- ---- `put_text`
module _ (f : List ℕ) (first many size : ℕ) where
  text-size : (k : ℕ) → length (text_bytes size (left f first many k)) ≡ size * (many - k)
  text-size k = text-long size (left f first many k) ∙ ap (λ n. size * n) (characters-many (file_characters f) (first + k) (many - k))

  pub text-first : (at : ℕ) (old : List ℕ) → at + size * many ≤ length old
      → Putting (text_bytes size (characters_from (file_characters f) first many)) old at (text_bytes size (left f first many 0)) old at
  text-first at old h =
      let e : many - 0 ≡ many = omega arith in
      let l : length (text_bytes size (left f first many 0)) ≡ size * many = text-size 0 ∙ ap (λ n. size * n) e in
      rw (← left-all f first many) (putting-first (text_bytes size (left f first many 0)) old at (omega (arith, l)))

  module _ {whole old : List ℕ} {at : ℕ} (k : ℕ) {text : List ℕ} {end : ℕ} (x : Putting whole old at (text_bytes size (left f first many k)) text end) where
    pub text-room : k < many → end + size ≤ length text
    text-room h =
        let e : many - k ≡ suc (many - suc k) = omega arith in
        omega (arith, x.room, text-size k, ap (λ n. size * n) e, mul-suc size (many - suc k))

    pub text-less : k < many → {w : ℕ} → w ≡ word f characters (first + k) 0 → {e : ℕ} {new : List ℕ} → Puts (little_endian size w) text end e new
        → Putting whole old at (text_bytes size (left f first many (k + 1))) new e
    unfolding text_bytes
    text-less h {w} q p = putting-more x p (text_bytes size (left f first many (k + 1))) (rw (left-more f first many k h, ← q))

    pub text-done : many ≤ k → Puts whole old at end text
    unfolding text_bytes
    text-done h = putting-done x (rw (left-none f first many k h))

-- ---- `put_lengths`, `put_string`
-- the greatest length and the length
abbrev lengths : ℕ → ℕ → List ℕ
lengths most many = little_endian 2 most ++ little_endian 2 many

pub second-room : (most : ℕ) {at : ℕ} {old : List ℕ} {a : ℕ} {m : List ℕ} → Puts (little_endian 2 most) old at a m → at + 4 ≤ length old → a + 2 ≤ length m
second-room most p h = omega (arith, p.ends, puts-long p, le-long 2 most)

pub lengths-put : (most many : ℕ) {at : ℕ} {old : List ℕ} {a : ℕ} {m : List ℕ} → Puts (little_endian 2 most) old at a m → {r : ℕ} {new : List ℕ} → Puts (little_endian 2 many) m a r new
    → Puts (lengths most many) old at r new
lengths-put most many p q = puts_then p q

lengths-long : (most many : ℕ) → length (lengths most many) ≡ 4
lengths-long most many = length-append (little_endian 2 most) (little_endian 2 many) ∙ rw (le-long 2 most, le-long 2 many)

module _ (most many : ℕ) {at : ℕ} {old : List ℕ} {b : ℕ} {l : List ℕ} (p : Puts (lengths most many) old at b l) where
  pub string-room : {size : ℕ} (width : ℕ) → size ≡ character_bytes width → many ≤ most → at + (4 + character_bytes width * most) ≤ length old → b + size * many ≤ length l
  string-room width is few room = rw is (omega (arith, p.ends, puts-long p, lengths-long most many, mul-le-mul_left (character_bytes width) few))

  module _ (f : List ℕ) (first size : ℕ) {c : ℕ} {t : List ℕ} (s : Puts (text_bytes size (characters_from (file_characters f) first many)) l b c t) (width : ℕ) (is : size ≡ character_bytes width)
      {z : ℕ} (e : z ≡ character_bytes width * (most - many)) where
    long : length (characters_from (file_characters f) first many) ≡ many
    long = characters-many (file_characters f) first many

    pub fill-room : many ≤ most → at + (4 + character_bytes width * most) ≤ length old → c + z ≤ length t
    fill-room few room =
        let sum : most ≡ many + (most - many) = omega arith in
        let all : character_bytes width * most ≡ character_bytes width * many + character_bytes width * (most - many) = ap (λ n. character_bytes width * n) sum ∙ mul-add (character_bytes width) many (most - many) in
        let own : length (text_bytes size (characters_from (file_characters f) first many)) ≡ character_bytes width * many = text-long size (characters_from (file_characters f) first many) ∙ rw (is, long) in
        omega (arith, p.ends, puts-long p, lengths-long most many, s.ends, puts-long s, own, all)

    pub string-put : {r : ℕ} {new : List ℕ} → Puts (replicate z 0) t c r new → Puts (string_bytes most width (characters_from (file_characters f) first many)) old at r new
    unfolding string_bytes
    string-put o = rw (long, ← e, ← is) (puts_then (puts_then p s) o)

-- ---- `every_below`
module _ (f : List ℕ) (limit first : ℕ) where
  below-listed : (k a : ℕ) → list_all (λ n. ltb (word f characters (first + n) 0) limit) (range_with_len a k) ≡ every_below limit (characters_from (file_characters f) (first + a) k)
  unfolding every_below characters_from file_characters
  below-listed zero a = refl
  below-listed (suc k) a =
      let e : first + (a + 1) ≡ suc (first + a) = omega arith in
      ap (λ b. ltb (word f characters (first + a) 0) limit && b) (below-listed k (a + 1) ∙ ap (λ j. every_below limit (characters_from (file_characters f) j k)) e)

  pub below-every : (many : ℕ) {r : Bool} → r ≡ list_all (λ n. ltb (word f characters (first + n) 0) limit) (range_with_len 0 many) → r ≡ every_below limit (characters_from (file_characters f) first many)
  below-every many e = e ∙ below-listed many 0 ∙ ap (λ j. every_below limit (characters_from (file_characters f) j many)) (add-zero first)

-- ---- `character_limit`
pub limit-fits : (n : ℕ) → n ≤ 2 → 256 ^ n < 2 ^ 32
limit-fits zero h = omega arith
limit-fits (suc zero) h = omega arith
limit-fits (suc (suc zero)) h = omega arith
limit-fits (suc (suc (suc n))) h = absurd (omega arith)

pub ruleset spelling = (rules, text-first, text-room, text-less, text-done, second-room, lengths-put, string-room, fill-room, string-put, below-every, limit-fits)
