-- From bytes to a text at the front of a slice. Assumes nothing.
use mathlib.Core.Path.{◌≡◌, refl, ap, sym, subst, ◌∙◌}
use mathlib.Core.Bool.{Bool, true, false}
use mathlib.Core.List.{List, [], ◌∷◌, ◌++◌}
use Prim.Native.Nat.{ℕ, ◌+◌, ◌%◌, ◌≤◌, ◌<◌}
use native.Mathlib.Omega.{arith}
use lib.Dec.{eqb, leb, ltb}
use lib.ListN.{length, take, drop, length-append}
use lib.Seq.{length-take-le}
use borrow.Author.Rules.{rules}
use borrow.Author.Tests.{lt-ltb, le-ltb, le-leb, lt-leb, eq-eqb, ne_eqb}
use Rattle.definition.specs.Base.{pick, choose}
use Rattle.definition.specs.Layout.{count, types}
use Rattle.definition.specs.Uses.{Ranking, ranked, circle, ranks_of, rank_at}
use Rattle.definition.specs.Sheet.{sheet_with, on_ranking}
use Rattle.definition.specs.Answers.{refuses, says, over, write_refused, written_answer, ranked_answer}
use Rattle.definition.specs.Program.{whole_words, words_from, lines_with, section_lines, sheet_lines, bytes_of, spaced, line_text, lines_text, most_bytes, most_sheet_words, long_text, refused_text, answer_text, file_text, sheet_text}
use Rattle.laws.specs.Puts.{Puts, puts-front, puts-long}
use Rattle.sheet_text.specs.Texts.{most_text, Texts, WordRoom}

-- ---- what stands at the front
module _ {ws old : List ℕ} {r : ℕ} {new : List ℕ} (p : Puts ws old 0 r new) where
  front-is : take r new ≡ ws
  front-is = puts-front p

  pub front-counted : r ≡ length (take r new)
  front-counted = sym (length-take-le r new (omega (arith, p.fits, puts-long p)))

  pub front-room : {n : ℕ} → r ≤ n → 0 + length (take r new) ≤ n
  front-room h = omega (arith, front-counted)

  pub front-file : (lines room : ℕ) {t : List ℕ} {e : ℕ} {t' : List ℕ} → Puts (file_text lines room (take r new)) t 0 e t' → Puts (file_text lines room ws) t 0 e t'
  front-file lines room {t} {e} {t'} q = subst (λ (l : List ℕ). Puts (file_text lines room l) t 0 e t') front-is q

-- ---- which text it is
module _ (lines room : ℕ) (bytes : List ℕ) where
  long-is : most_bytes < length bytes → sheet_text lines room bytes ≡ long_text
  unfolding sheet_text
  long-is h = rw (lt-ltb most_bytes (length bytes) h)

  module _ (h : length bytes ≤ most_bytes) where
    odd_is : (length bytes % 4 ≡ 0 → ⊥) → sheet_text lines room bytes ≡ refused_text 1
    unfolding sheet_text whole_words
    odd_is z = rw (le-ltb most_bytes (length bytes) h, ne_eqb (length bytes % 4) 0 z)

    whole_is : length bytes % 4 ≡ 0 → sheet_text lines room bytes ≡ file_text lines room (words_from bytes)
    unfolding sheet_text whole_words
    whole_is z = rw (le-ltb most_bytes (length bytes) h, eq-eqb (length bytes % 4) 0 z)

    pub whole_room : length bytes % 4 ≡ 0 → WordRoom bytes 8192
    unfolding whole_words
    whole_room z = record { whole = eq-eqb (length bytes % 4) 0 z; room = omega arith }

  module _ {t : List ℕ} {r : ℕ} {new : List ℕ} where
    pub long-text : most_bytes < length bytes → Puts long_text t 0 r new → Puts (sheet_text lines room bytes) t 0 r new
    long-text h p = rw (long-is h) p

    pub odd-text : length bytes ≤ most_bytes → (length bytes % 4 ≡ 0 → ⊥) → Puts (refused_text 1) t 0 r new → Puts (sheet_text lines room bytes) t 0 r new
    odd-text h z p = rw (odd_is h z) p

    pub whole-text : length bytes ≤ most_bytes → length bytes % 4 ≡ 0 → Puts (file_text lines room (words_from bytes)) t 0 r new → Puts (sheet_text lines room bytes) t 0 r new
    whole-text h z p = rw (whole_is h z) p

-- ---- no text is empty
lines-some : (l : List ℕ) (ls : List (List ℕ)) → 0 < length (lines_text (l ∷ ls))
unfolding lines_text line_text bytes_of
lines-some l ls = omega (arith, length-append (line_text l) (lines_text ls), length-append (spaced l) (10 ∷ []))

long-some : 0 < length long_text
unfolding long_text bytes_of
long-some = omega arith

refused-some : (n : ℕ) → 0 < length (refused_text n)
unfolding refused_text bytes_of
refused-some n = omega arith

sheet-some : (f : List ℕ) (rank : ℕ → ℕ) → 0 < length (lines_text (lines_with f rank))
unfolding lines_with section_lines
sheet-some f rank = lines-some (count f types ∷ []) _

answer-some : (f : List ℕ) → 0 < length (answer_text f (ranked_answer f most_sheet_words))
unfolding answer_text ranked_answer written_answer sheet_lines
answer-some f = go (ranks_of f) refl
  where
    go : (r : Ranking) → ranks_of f ≡ r → 0 < length (answer_text f (on_ranking r (λ w. written_answer (sheet_with f (rank_at w)) most_sheet_words) (refuses 9)))
    go circle e = refused-some 9
    go (ranked w) e = by_length (leb (length (sheet_with f (rank_at w))) most_sheet_words)
      where
        by_length : (b : Bool) → 0 < length (answer_text f (pick b (says 0 (length (sheet_with f (rank_at w)) ∷ [])) (refuses 10)))
        by_length true = rw e (sheet-some f (rank_at w))
        by_length false = long-some

file-some : (lines room : ℕ) (f : List ℕ) → 0 < length (file_text lines room f)
unfolding file_text
file-some lines room f = go (eqb (write_refused f most_sheet_words lines room) 0)
  where
    go : (b : Bool) → 0 < length (choose b (λ u. answer_text f (ranked_answer f most_sheet_words)) (λ u. refused_text (write_refused f most_sheet_words lines room)))
    go true = answer-some f
    go false = refused-some (write_refused f most_sheet_words lines room)

text-some : (lines room : ℕ) (bytes : List ℕ) → 0 < length (sheet_text lines room bytes)
unfolding sheet_text
text-some lines room bytes = go (ltb most_bytes (length bytes)) (whole_words bytes)
  where
    go : (a b : Bool) → 0 < length (choose a (λ u. long_text) (λ u. choose b (λ v. file_text lines room (words_from bytes)) (λ v. refused_text 1)))
    go true b = long-some
    go false true = file-some lines room (words_from bytes)
    go false false = refused-some 1

-- ---- a text that was printed, in another slice
module _ (lines room : ℕ) (bytes : List ℕ) {printed : List ℕ} {end : ℕ} {mid : List ℕ} (p : Puts (sheet_text lines room bytes) printed 0 end mid) (long : length printed ≡ most_text) where
  abbrev text : List ℕ
  text = sheet_text lines room bytes

  pub text-short : {old : List ℕ} → length old < end → Texts text old 0 old
  unfolding over
  text-short {old} h =
      let e : leb (length text) (length old) ≡ false = lt-leb (length text) (length old) (omega (arith, p.ends)) in
      record { says = rw e; is = rw e; some = text-some lines room bytes; most = omega (arith, p.ends, p.fits) }

  pub text-copied : {old : List ℕ} → end ≤ length old → {r : ℕ} {new : List ℕ} → Puts (take end mid) old 0 r new → Texts text old r new
  unfolding over
  text-copied {old} h {r} {new} q =
      let w : Puts text old 0 r new = rw (front-is p) at q in
      let n : r ≡ length text = omega (arith, w.ends) in
      let e : leb (length text) (length old) ≡ true = le-leb (length text) (length old) (omega (arith, p.ends)) in
      record { says = rw (e, n); is = rw e (w.is ∙ ap (λ (k : ℕ). text ++ drop k old) n); some = text-some lines room bytes; most = omega (arith, p.ends, p.fits) }

-- ---- a text's bytes, for a caller
module _ {t old : List ℕ} {r : ℕ} {new : List ℕ} (x : Texts t old r new) where
  pub text-inside : r ≤ length new
  unfolding over
  text-inside = go (leb (length t) (length old)) x.says x.is
    where
      go : (b : Bool) → r ≡ pick b (length t) 0 → new ≡ pick b (t ++ drop (length t) old) old → r ≤ length new
      go true e i = omega (arith, ap length i, length-append t (drop (length t) old))
      go false e i = omega arith

  pub text-counted : r ≡ length (take r new)
  text-counted = sym (length-take-le r new text-inside)

pub ruleset texts = (rules, front-counted, front-room, front-file, long-text, odd-text, whole_room, whole-text, text-short, text-copied)
