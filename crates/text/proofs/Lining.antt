-- A line's words, one by one. Assumes nothing.
use mathlib.Core.Path.{◌≡◌, refl, ap, sym, ◌∙◌}
use mathlib.Core.List.{List, [], ◌∷◌, ◌++◌, append_assoc, append-nil}
use Prim.Native.Nat.{ℕ, suc, ◌+◌, ◌-◌, ◌≤◌, ◌<◌}
use native.Mathlib.Omega.{arith}
use native.Mathlib.Numerals.{add-one}
use lib.ListN.{length, get_or, take, drop, length-append, length-drop}
use lib.Seq.{drop-cons, get_or-drop, length-take-le}
use Rattle.std.proofs.lemmas.List.{get_or-take}
use borrow.Author.Rules.{rules}
use Rattle.definition.specs.Program.{bytes_of, decimal, spaced, line_text, lines_text}
use Rattle.laws.specs.Puts.{Puts, puts_then}
use Rattle.text.specs.declared.part.Places.{Places}
use Rattle.text.specs.Forms.{line_form}
use Rattle.text.specs.Printed.{Printable, Printed}
use Rattle.text.proofs.Putting.{Putting, putting-first, putting-more, putting-last}

-- ---- the text of a line
-- a number and the byte behind it
abbrev pub word_text : ℕ → ℕ → List ℕ
word_text n behind = decimal n ++ (behind ∷ [])

last-text : (n : ℕ) → line_text (n ∷ []) ≡ word_text n 10
unfolding line_text spaced bytes_of
last-text n = refl

more-text : (n m : ℕ) (l : List ℕ) → line_text (n ∷ m ∷ l) ≡ word_text n 32 ++ line_text (m ∷ l)
unfolding line_text spaced bytes_of
more-text n m l = append_assoc (word_text n 32) (spaced (m ∷ l)) (10 ∷ [])

pub one_line : (l : List ℕ) → lines_text (l ∷ []) ≡ line_text l
unfolding lines_text
one_line l = append-nil (line_text l)

-- ---- the words from a place on
front : (words : List ℕ) (i left : ℕ) → 0 < left → i + left ≤ length words → take left (drop i words) ≡ get_or words i 0 ∷ take (left - 1) (drop (i + 1) words)
front words i left h k =
    let e : left ≡ suc (left - 1) = omega arith in
    ap (λ (n : ℕ). take n (drop i words)) e ∙ rw (drop-cons words i 0 (omega arith), add-one i)

module _ (words : List ℕ) (i left : ℕ) (k : i + left ≤ length words) where
  pub text-more : 1 < left → line_text (take left (drop i words)) ≡ word_text (get_or words i 0) 32 ++ line_text (take (left - 1) (drop (i + 1) words))
  text-more h =
      let n = get_or words i 0 in
      let m = get_or words (i + 1) 0 in
      let rest = take (left - 1 - 1) (drop (i + 1 + 1) words) in
      let e : take (left - 1) (drop (i + 1) words) ≡ m ∷ rest = front words (i + 1) (left - 1) (omega arith) (omega arith) in
      ap line_text (front words i left (omega arith) k ∙ ap (λ (l : List ℕ). n ∷ l) e) ∙ more-text n m rest ∙ ap (λ (l : List ℕ). word_text n 32 ++ line_text l) (sym e)

  pub text-last : 0 < left → left ≤ 1 → line_text (take left (drop i words)) ≡ word_text (get_or words i 0) 10
  text-last g h =
      let e : left ≡ 1 = omega arith in
      ap line_text (ap (λ (n : ℕ). take n (drop i words)) e ∙ front words i 1 (omega arith) (omega arith)) ∙ last-text (get_or words i 0)

-- ---- the loop: the words from the k-th of the line up to the last are still to be put
pub record Lining (many : ℕ) (words old : List ℕ) (at : Places) (k last : ℕ) (text : List ℕ) (end : ℕ) : Type 0 where
  pub putting : Putting (line_text (take many (drop at.word words))) old at.byte (line_text (take (last + 1 - (at.word + k)) (drop (at.word + k) words))) text end
  pub some : at.word + k ≤ last
  pub inside : last < length words
  pub passes : last + 1 ≡ at.word + many

module _ (before : ℕ) {words : List ℕ} (old : List ℕ) {at : Places} (x : Printable (line_form (before + 1)) words (length old) at) where
  pub lining-inside : at.word + (before + 1) ≤ length words
  lining-inside = x.inside

  pub lining-first : Lining (before + 1) words old at 0 (at.word + before) old at.byte
  lining-first =
      let line = take (before + 1) (drop at.word words) in
      let z : at.word + 0 ≡ at.word = omega arith in
      let k : at.word + before + 1 - at.word ≡ before + 1 = omega arith in
      record {
        putting = rw (z, k) (putting-first (line_text line) old at.byte (omega (arith, x.room, ap length (one_line line))));
        some = omega arith;
        inside = omega (arith, x.inside);
        passes = omega arith;
      }

module _ {many : ℕ} {words old : List ℕ} {at : Places} {k last : ℕ} {text : List ℕ} {end : ℕ} (x : Lining many words old at k last text end) where
  all-inside : at.word + k + (last + 1 - (at.word + k)) ≤ length words
  all-inside = omega (arith, x.some, x.inside)

  -- the words before the last, of which the loop is at the k-th
  front-long : length (take (last - at.word) (drop at.word words)) ≡ last - at.word
  front-long = length-take-le (last - at.word) (drop at.word words) (simp length-drop (omega (arith, x.inside)))

  module _ (h : k < length (take (last - at.word) (drop at.word words))) where
    before : at.word + k < last
    before = omega (arith, front-long)

    word-is : get_or (take (last - at.word) (drop at.word words)) k 0 ≡ get_or words (at.word + k) 0
    word-is = get_or-take (last - at.word) (drop at.word words) k 0 (omega (arith, front-long)) ∙ get_or-drop at.word words k 0

    text_is : line_text (take (last + 1 - (at.word + k)) (drop (at.word + k) words))
        ≡ word_text (get_or (take (last - at.word) (drop at.word words)) k 0) 32 ++ line_text (take (last + 1 - (at.word + (k + 1))) (drop (at.word + (k + 1)) words))
    text_is =
        let n : last + 1 - (at.word + k) - 1 ≡ last + 1 - (at.word + (k + 1)) = omega (arith, before) in
        let m : at.word + k + 1 ≡ at.word + (k + 1) = omega arith in
        rw (word-is, ← n, ← m) (text-more words (at.word + k) (last + 1 - (at.word + k)) all-inside (omega (arith, before)))

    pub more_room : end + length (decimal (get_or (take (last - at.word) (drop at.word words)) k 0)) < length text
    more_room =
        let n = get_or (take (last - at.word) (drop at.word words)) k 0 in
        omega (arith, x.putting.room, ap length text_is, length-append (word_text n 32) (line_text (take (last + 1 - (at.word + (k + 1))) (drop (at.word + (k + 1)) words))), length-append (decimal n) (32 ∷ []))

    pub lining-more : {e : ℕ} {new : List ℕ} → Puts (word_text (get_or (take (last - at.word) (drop at.word words)) k 0) 32) text end e new → Lining many words old at (k + 1) last new e
    lining-more p =
        record {
          putting = putting-more x.putting p (line_text (take (last + 1 - (at.word + (k + 1))) (drop (at.word + (k + 1)) words))) text_is;
          some = omega (arith, before);
          inside = x.inside;
          passes = x.passes;
        }

  pub last-inside : last < length words
  last-inside = x.inside

  module _ (h : length (take (last - at.word) (drop at.word words)) ≤ k) where
    last-is : line_text (take (last + 1 - (at.word + k)) (drop (at.word + k) words)) ≡ word_text (get_or words last 0) 10
    last-is =
        let e : at.word + k ≡ last = omega (arith, x.some, front-long) in
        text-last words (at.word + k) (last + 1 - (at.word + k)) all-inside (omega (arith, x.some)) (omega (arith, e)) ∙ ap (λ (n : ℕ). word_text (get_or words n 0) 10) e

    pub last-room : end + length (decimal (get_or words last 0)) < length text
    last-room = omega (arith, x.putting.room, ap length last-is, length-append (decimal (get_or words last 0)) (10 ∷ []))

    pub lining-last : {e : ℕ} {new : List ℕ} → Puts (word_text (get_or words last 0) 10) text end e new → Printed (line_form many) words old at (record { word = last + 1; byte = e }) new
    lining-last p =
        record {
          passes = x.passes;
          puts = rw (one_line (take many (drop at.word words))) (putting-last x.putting (rw last-is p));
        }

pub ruleset lining = (rules, puts_then, lining-inside, lining-first, more_room, lining-more, last-inside, last-room, lining-last)
