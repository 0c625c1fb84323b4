-- The words of bytes, one by one. Assumes nothing.
use mathlib.Core.Path.{◌≡◌, refl, ap, sym, ◌∙◌}
use mathlib.Core.List.{List, [], ◌∷◌}
use Prim.Native.Nat.{ℕ, zero, suc, ◌+◌, ◌*◌, ◌/◌, ◌%◌, ◌^◌, ◌≤◌, ◌<◌}
use native.Mathlib.Omega.{arith}
use native.Mathlib.Nat.{div-add-mod'}
use native.Mathlib.Numerals.{add-one}
use lib.ListN.{length, get_or, take, drop, set, drop_of_length-le}
use lib.Seq.{drop-cons, drop-drop, get_or-drop}
use mir.Syntax.{w32}
use Rattle.std.specs.Int.{from_le_bytes}
use Rattle.std.specs.Simd.{first_chunks}
use Rattle.std.proofs.lemmas.List.{get_or-take}
use borrow.Author.Rules.{rules}
use borrow.Author.Tests.{eqb-true}
use Rattle.definition.specs.Program.{whole_words, words_from}
use Rattle.laws.specs.Puts.{Puts, put_one}
use Rattle.text.proofs.Putting.{Putting, putting-first, putting-more, putting-done}
use Rattle.sheet_text.specs.Texts.{WordRoom}

-- four bytes, the low one first
abbrev pub word_at : List ℕ → ℕ → ℕ
word_at bytes at = get_or bytes at 0 + get_or bytes (at + 1) 0 * 2 ^ 8 + get_or bytes (at + 2) 0 * 2 ^ 16 + get_or bytes (at + 3) 0 * 2 ^ 24

words-few : (bytes : List ℕ) → length (words_from bytes) * 4 ≤ length bytes
unfolding words_from
words-few [] = omega arith
words-few (a ∷ []) = omega arith
words-few (a ∷ b ∷ []) = omega arith
words-few (a ∷ b ∷ c ∷ []) = omega arith
words-few (a ∷ b ∷ c ∷ d ∷ l) = omega (arith, words-few l)

words-next : (bytes : List ℕ) (at : ℕ) → at + 4 ≤ length bytes → words_from (drop at bytes) ≡ word_at bytes at ∷ words_from (drop (at + 4) bytes)
unfolding words_from
words-next bytes at h =
    let one : (k : ℕ) → k < length bytes → drop k bytes ≡ get_or bytes k 0 ∷ drop (k + 1) bytes = λ k i. rw (add-one k) (drop-cons bytes k 0 i) in
    let p : at + 1 + 1 ≡ at + 2 = omega arith in
    let q : at + 2 + 1 ≡ at + 3 = omega arith in
    let r : at + 3 + 1 ≡ at + 4 = omega arith in
    rw (one at (omega arith), one (at + 1) (omega arith), p, one (at + 2) (omega arith), q, one (at + 3) (omega arith), r)

-- ---- four bytes
pub four-at : (count i : ℕ) (bytes : List ℕ) → i < count → get_or (first_chunks 4 count bytes) i [] ≡ take 4 (drop (i * 4) bytes)
four-at zero i bytes h = absurd (omega arith)
four-at (suc count) zero bytes h = refl
four-at (suc count) (suc i) bytes h =
    let e : 4 + i * 4 ≡ suc i * 4 = omega arith in
    four-at count i (drop 4 bytes) (omega arith) ∙ ap (take 4) (drop-drop (i * 4) 4 bytes ∙ ap (λ (n : ℕ). drop n bytes) e)

four-word : (bytes : List ℕ) (at : ℕ) → from_le_bytes w32 (take 4 (drop at bytes)) ≡ word_at bytes at
four-word bytes at =
    let one : (k : ℕ) → k < 4 → get_or (take 4 (drop at bytes)) k 0 ≡ get_or bytes (at + k) 0 = λ k h. get_or-take 4 (drop at bytes) k 0 h ∙ get_or-drop at bytes k 0 in
    let z : at + 0 ≡ at = omega arith in
    rw (one 0 (omega arith), one 1 (omega arith), one 2 (omega arith), one 3 (omega arith), z) refl

-- ---- the loop
-- of the bytes, cut into fours, the first i are read
pub record Filling (bytes old : List ℕ) (fours : List (List ℕ)) (i : ℕ) (words : List ℕ) : Type 0 where
  pub putting : Putting (words_from bytes) old 0 (words_from (drop (i * 4) bytes)) words i
  pub cut : fours ≡ first_chunks 4 (length fours) bytes
  pub whole : length bytes ≡ length fours * 4
  pub most : i ≤ length fours

pub filling-first : {bytes : List ℕ} (old : List ℕ) → WordRoom bytes (length old) → {fours : List (List ℕ)} → fours ≡ first_chunks 4 (length bytes / 4) bytes → length fours ≡ length bytes / 4
    → Filling bytes old fours 0 old
unfolding whole_words
filling-first {bytes} old x {fours} c l =
    let e : length bytes % 4 ≡ 0 = eqb-true (length bytes % 4) 0 x.whole in
    record {
      putting = putting-first (words_from bytes) old 0 (omega (arith, x.room, words-few bytes));
      cut = c ∙ ap (λ (n : ℕ). first_chunks 4 n bytes) (sym l);
      whole = omega (arith, div-add-mod' (length bytes) 4);
      most = omega arith;
    }

module _ {bytes old : List ℕ} {fours : List (List ℕ)} {i : ℕ} {words : List ℕ} (x : Filling bytes old fours i words) where
  four-inside : i < length fours → i * 4 + 4 ≤ length bytes
  four-inside h = omega (arith, x.whole)

  pub word_room : i < length fours → i < length words
  word_room h = omega (arith, x.putting.room, ap length (words-next bytes (i * 4) (four-inside h)))

  pub filling-more : i < length fours → {w : ℕ} → w ≡ from_le_bytes w32 (get_or fours i []) → Filling bytes old fours (i + 1) (set words i w)
  filling-more h {w} e =
      let n : (i + 1) * 4 ≡ i * 4 + 4 = omega arith in
      let rest = words_from (drop (i * 4 + 4) bytes) in
      let v : w ≡ word_at bytes (i * 4) =
      e ∙ ap (λ (l : List (List ℕ)). from_le_bytes w32 (get_or l i [])) x.cut ∙ ap (from_le_bytes w32) (four-at (length fours) i bytes h) ∙ four-word bytes (i * 4) in
      record {
        putting = rw n (putting-more x.putting (put_one words i w (word_room h)) rest (words-next bytes (i * 4) (four-inside h) ∙ ap (λ (n : ℕ). n ∷ rest) (sym v)));
        cut = x.cut;
        whole = x.whole;
        most = omega arith;
      }

  pub filling-done : length fours ≤ i → Puts (words_from bytes) old 0 (length fours) words
  unfolding words_from
  filling-done h =
      let n : i ≡ length fours = omega (arith, x.most) in
      rw n at (putting-done x.putting (ap words_from (drop_of_length-le bytes {i = i * 4} (omega (arith, x.whole, x.most)))))

pub ruleset fills = (rules, filling-first, word_room, filling-more, filling-done)
