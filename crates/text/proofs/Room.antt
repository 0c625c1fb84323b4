-- How many bytes lines take: ten digits a word at most, and the byte behind it. Assumes nothing.
use mathlib.Core.Path.{◌≡◌, refl, ap}
use mathlib.Core.List.{List, [], ◌∷◌, ◌++◌}
use Prim.Native.Nat.{ℕ, zero, suc, ◌+◌, ◌-◌, ◌*◌, ◌≤◌, ◌<◌}
use native.Mathlib.Omega.{arith}
use mir.Syntax.{w32}
use mir.Val.{Fits}
use lib.ListN.{length, get_or, take, drop, replicate, length-append}
use lib.Seq.{drop-drop}
use Rattle.definition.specs.Program.{decimal, line_text, lines_text}
use Rattle.text.specs.declared.part.Places.{Places}
use Rattle.text.specs.Forms.{Form, lines_in, long_in, series, line_form, nodes_form, record_form, records_form, section_form, sheet_form}
use Rattle.text.specs.Printed.{SheetRoom}
use Rattle.text.proofs.Numbers.{word-digits}
use Rattle.text.proofs.Lining.{word_text, one_line, text-more, text-last}
use Rattle.text.proofs.Series.{lines_long, Same, Printing, printing-first, nodes-same, record_same, section-same}

-- ---- words that are each of 32 bits
module _ (words : List ℕ) (fit : (i : ℕ) → Fits w32 (get_or words i 0)) where
  word-most : (i behind : ℕ) → length (word_text (get_or words i 0) behind) ≤ 11
  word-most i behind =
      let n = get_or words i 0 in
      omega (arith, length-append (decimal n) (behind ∷ []), word-digits n (fit i))

  line-most : (left i : ℕ) → 0 < left → i + left ≤ length words → length (line_text (take left (drop i words))) ≤ left * 11
  line-most zero i h k = absurd (omega arith)
  line-most (suc zero) i h k = omega (arith, ap length (text-last words i 1 k (omega arith) (omega arith)), word-most i 10)
  line-most (suc (suc left)) i h k =
      let e : suc (suc left) - 1 ≡ suc left = omega arith in
      let rest = line_text (take (suc left) (drop (i + 1) words)) in
      let t : line_text (take (suc (suc left)) (drop i words)) ≡ word_text (get_or words i 0) 32 ++ rest = rw e at (text-more words i (suc (suc left)) k (omega arith)) in
      omega (arith, ap length t, length-append (word_text (get_or words i 0) 32) rest, word-most i 32, line-most (suc left) (i + 1) (omega arith) (omega arith))

  -- ---- each form at a place of them
  abbrev Short : Form → ℕ → Type 0
  Short p i = i + p.long (drop i words) ≤ length words → length (lines_text (p.lines (drop i words))) ≤ p.long (drop i words) * 11

  line-short : (many i : ℕ) → 0 < many → Short (line_form many) i
  line-short many i h k = omega (arith, ap length (one_line (take many (drop i words))), line-most many i h k)

  none-short : (i : ℕ) → Short (series []) i
  unfolding lines_in long_in lines_text
  none-short i k = omega arith

  series-short : (p : Form) (ps : List Form) (i : ℕ) → Short p i → Short (series ps) (i + p.long (drop i words)) → Short (series (p ∷ ps)) i
  unfolding lines_in long_in
  series-short p ps i h hs k =
      let w = drop i words in
      let e : drop (p.long w) w ≡ drop (i + p.long w) words = drop-drop (p.long w) i words in
      omega (arith, lines_long (p.lines w) (lines_in ps (drop (p.long w) w)), ap (long_in ps) e, ap (λ (l : List ℕ). length (lines_text (lines_in ps l))) e, h (omega arith), hs (omega (arith, ap (long_in ps) e)))

  repeat_short : (p : Form) → ((i : ℕ) → Short p i) → (k i : ℕ) → Short (series (replicate k p)) i
  repeat_short p h zero i = none-short i
  repeat_short p h (suc k) i = series-short p (replicate k p) i (h i) (repeat_short p h k (i + p.long (drop i words)))

  same-short : (p q : Form) (i : ℕ) → Same p q (drop i words) → Short q i → Short p i
  same-short p q i e h k = omega (arith, e.long, ap (λ (l : List (List ℕ)). length (lines_text l)) e.lines, h (omega (arith, e.long)))

  two-short : (p q : Form) (i : ℕ) → Short p i → Short q (i + p.long (drop i words)) → Short (series (p ∷ q ∷ [])) i
  two-short p q i g h =
      let j = i + p.long (drop i words) in
      series-short p (q ∷ []) i g (series-short q [] j h (none-short (j + q.long (drop j words))))

  nodes-short : (k i : ℕ) → Short (nodes_form k) i
  nodes-short k i = same-short (nodes_form k) (series (replicate k (line_form 6))) i (nodes-same k (drop i words)) (repeat_short (line_form 6) (λ j. line-short 6 j (omega arith)) k i)

  record-short : (place i : ℕ) → Short (record_form place) i
  record-short place i =
      let n = get_or words (i + place) 0 in
      same-short (record_form place) (series (line_form (place + 1) ∷ nodes_form n ∷ [])) i (record_same place words i)
      (two-short (line_form (place + 1)) (nodes_form n) i (line-short (place + 1) i (omega arith)) (nodes-short n (i + (place + 1))))

  section-short : (place i : ℕ) → Short (section_form place) i
  section-short place i =
      let n = get_or words i 0 in
      same-short (section_form place) (series (line_form 1 ∷ records_form place n ∷ [])) i (section-same place words i)
      (two-short (line_form 1) (records_form place n) i (line-short 1 i (omega arith)) (repeat_short (record_form place) (record-short place) n (i + 1)))

  sheet-short : Short sheet_form 0
  sheet-short =
      let j = 0 + (section_form 2).long words in
      series-short (section_form 2) (section_form 1 ∷ section_form 2 ∷ []) 0 (section-short 2 0)
      (two-short (section_form 1) (section_form 2) j (section-short 1 j) (section-short 2 (j + (section_form 1).long (drop j words))))

  abbrev first : Places
  first = record { word = 0; byte = 0 }

  -- the three sections of a sheet are still to be printed
  pub sheet-first : (old : List ℕ) → SheetRoom words (length old) → Printing sheet_form words old first (section_form 2 ∷ section_form 1 ∷ section_form 2 ∷ []) old first
  sheet-first old x =
      let k : 0 + sheet_form.long words ≤ length words = omega (arith, x.inside) in
      printing-first old (section_form 2 ∷ section_form 1 ∷ section_form 2 ∷ []) (record { lines = refl; long = refl }) (record { inside = k; room = omega (arith, sheet-short k, x.room) })
