-- What is printed one behind the other. Assumes nothing.
use mathlib.Core.Path.{◌≡◌, refl, ap, sym, subst, ◌∙◌}
use mathlib.Core.List.{List, [], ◌∷◌, ◌++◌, append_assoc, append-nil}
use Prim.Native.Nat.{ℕ, zero, suc, ◌+◌, ◌-◌, ◌≤◌, ◌<◌}
use native.Mathlib.Omega.{arith}
use native.Mathlib.Numerals.{add-one}
use native.Mathlib.Nat.{add-zero}
use lib.ListN.{length, get_or, drop, replicate, length-append}
use lib.Seq.{drop-drop, get_or-drop}
use borrow.Author.Rules.{rules}
use Rattle.definition.specs.Program.{node_lines, record_lines, line_text, lines_text}
use Rattle.laws.specs.Puts.{Puts, puts_none, puts-long, puts_then}
use Rattle.text.specs.declared.part.Places.{Places}
use Rattle.text.specs.Forms.{Form, lines_in, long_in, series, line_form, nodes_form, record_form, records_form, section_form}
use Rattle.text.specs.Printed.{Printable, Printed}

lines-append : (a b : List (List ℕ)) → lines_text (a ++ b) ≡ lines_text a ++ lines_text b
unfolding lines_text
lines-append [] b = refl
lines-append (l ∷ a) b = rw (lines-append a b) (sym (append_assoc (line_text l) (lines_text a) (lines_text b)))

pub lines_long : (a b : List (List ℕ)) → length (lines_text (a ++ b)) ≡ length (lines_text a) + length (lines_text b)
lines_long a b = ap length (lines-append a b) ∙ length-append (lines_text a) (lines_text b)

-- ---- the first, and the others behind it
behind : {p : Form} {words old : List ℕ} {at b : Places} {mid : List ℕ} → Printed p words old at b mid → drop (p.long (drop at.word words)) (drop at.word words) ≡ drop b.word words
behind {p} {words} {old} {at} x = drop-drop (p.long (drop at.word words)) at.word words ∙ ap (λ (k : ℕ). drop k words) (sym x.passes)

module _ {p : Form} (ps : List Form) {words : List ℕ} where
  pub series-first : {n : ℕ} {at : Places} → Printable (series (p ∷ ps)) words n at → Printable p words n at
  unfolding lines_in long_in
  series-first {n} {at} x =
      let w = drop at.word words in
      record { inside = omega (arith, x.inside); room = omega (arith, x.room, lines_long (p.lines w) (lines_in ps (drop (p.long w) w))) }

  module _ {old : List ℕ} {at b : Places} {mid : List ℕ} (x : Printed p words old at b mid) where
    pub series-next : Printable (series (p ∷ ps)) words (length old) at → Printable (series ps) words (length mid) b
    unfolding lines_in long_in
    series-next y =
        let w = drop at.word words in
        record {
          inside = omega (arith, y.inside, x.passes, ap (long_in ps) (behind x));
          room = omega (arith, y.room, x.puts.ends, puts-long x.puts, lines_long (p.lines w) (lines_in ps (drop (p.long w) w)), ap (λ (l : List ℕ). length (lines_text (lines_in ps l))) (behind x));
        }

    pub series-then : {r : Places} {new : List ℕ} → Printed (series ps) words mid b r new → Printed (series (p ∷ ps)) words old at r new
    unfolding lines_in long_in
    series-then {r} {new} y =
        let w = drop at.word words in
        record {
          passes = omega (arith, x.passes, y.passes, ap (long_in ps) (behind x));
          puts = rw (lines-append (p.lines w) (lines_in ps (drop (p.long w) w)), behind x) (puts_then x.puts y.puts);
        }

pub series-none : {words old : List ℕ} {at : Places} → at.byte ≤ length old → Printed (series []) words old at at old
unfolding lines_in long_in lines_text
series-none {words} {old} {at} h = record { passes = sym (add-zero at.word); puts = puts_none old at.byte h }

-- ---- a form that is a series where it stands
pub record Same (p q : Form) (words : List ℕ) : Type 0 where
  pub lines : p.lines words ≡ q.lines words
  pub long : p.long words ≡ q.long words

module _ {p q : Form} {words : List ℕ} {at : Places} (e : Same p q (drop at.word words)) where
  same-able : {n : ℕ} → Printable p words n at → Printable q words n at
  same-able x = record { inside = omega (arith, x.inside, e.long); room = omega (arith, x.room, ap (λ (l : List (List ℕ)). length (lines_text l)) e.lines) }

  same-printed : {old : List ℕ} {r : Places} {new : List ℕ} → Printed q words old at r new → Printed p words old at r new
  same-printed {old} {r} {new} x = record { passes = omega (arith, x.passes, e.long); puts = subst (λ (l : List (List ℕ)). Puts (lines_text l) old at.byte r.byte new) (sym e.lines) x.puts }

-- ---- of a whole, which is printed at `at`, a series is left, to be printed at `here`
pub record Printing (whole : Form) (words old : List ℕ) (at : Places) (left : List Form) (text : List ℕ) (here : Places) : Type 0 where
  pub goes : (r : Places) (new : List ℕ) → Printed (series left) words text here r new → Printed whole words old at r new
  pub able : Printable (series left) words (length text) here

pub printing-first : {whole : Form} {words : List ℕ} (old : List ℕ) {at : Places} (left : List Form) → Same whole (series left) (drop at.word words) → Printable whole words (length old) at
    → Printing whole words old at left old at
printing-first old left e x = record { goes = λ r new y. same-printed e y; able = same-able e x }

module _ {whole : Form} {words old : List ℕ} {at : Places} {text : List ℕ} {here : Places} where
  pub printing-able : {p : Form} {ps : List Form} → Printing whole words old at (p ∷ ps) text here → Printable p words (length text) here
  printing-able {p} {ps} x = series-first ps x.able

  pub printing-more : {p : Form} {ps : List Form} → Printing whole words old at (p ∷ ps) text here → {b : Places} {new : List ℕ} → Printed p words text here b new → Printing whole words old at ps new b
  printing-more {p} {ps} x y = record { goes = λ r next z. x.goes r next (series-then ps y z); able = series-next ps y x.able }

  pub printing-done : Printing whole words old at [] text here → Printed whole words old at here text
  printing-done x = x.goes here text (series-none (omega (arith, x.able.room)))

-- ---- so many times the same, of which i are printed
pub record Repeating (whole : Form) (words old : List ℕ) (at : Places) (p : Form) (k i : ℕ) (text : List ℕ) (here : Places) : Type 0 where
  pub printing : Printing whole words old at (replicate (k - i) p) text here

module _ {whole : Form} {words old : List ℕ} {at : Places} {p : Form} {k : ℕ} where
  repeating : Printing whole words old at (replicate k p) old at → Repeating whole words old at p k 0 old at
  repeating x = let e : k ≡ k - 0 = omega arith in record { printing = subst (λ (n : ℕ). Printing whole words old at (replicate n p) old at) e x }

  module _ {i : ℕ} {text : List ℕ} {here : Places} (x : Repeating whole words old at p k i text here) where
    once : i < k → Printing whole words old at (p ∷ replicate (k - (i + 1)) p) text here
    once h = let e : k - i ≡ suc (k - (i + 1)) = omega arith in subst (λ (n : ℕ). Printing whole words old at (replicate n p) text here) e x.printing

    pub repeat-able : i < k → Printable p words (length text) here
    repeat-able h = printing-able (once h)

    pub repeat-more : i < k → {b : Places} {new : List ℕ} → Printed p words text here b new → Repeating whole words old at p k (i + 1) new b
    repeat-more h y = record { printing = printing-more (once h) y }

    pub repeat-done : k ≤ i → Printed whole words old at here text
    repeat-done h = let e : k - i ≡ 0 = omega arith in printing-done (subst (λ (n : ℕ). Printing whole words old at (replicate n p) text here) e x.printing)

pub times-first : (p : Form) (k : ℕ) {words : List ℕ} (old : List ℕ) {at : Places} → Printable (series (replicate k p)) words (length old) at
    → Repeating (series (replicate k p)) words old at p k 0 old at
times-first p k old x = repeating (printing-first old (replicate k p) (record { lines = refl; long = refl }) x)

-- ---- nodes
abbrev pub nodes_in : ℕ → Form
nodes_in k = series (replicate k (line_form 6))

pub nodes-same : (k : ℕ) (words : List ℕ) → Same (nodes_form k) (series (replicate k (line_form 6))) words
unfolding node_lines lines_in long_in
nodes-same zero words = record { lines = refl; long = refl }
nodes-same (suc k) words = let e = nodes-same k (drop 6 words) in record { lines = rw e.lines; long = omega (arith, e.long) }

-- ---- records, and a section of them
pub record_same : (place : ℕ) (words : List ℕ) (i : ℕ) → Same (record_form place) (series (line_form (place + 1) ∷ nodes_form (get_or words (i + place) 0) ∷ [])) (drop i words)
unfolding record_lines lines_in long_in
record_same place words i =
    record {
      lines = rw (add-one place, get_or-drop i words place 0, append-nil (node_lines (get_or words (i + place) 0) (drop (suc place) (drop i words))));
      long = rw (get_or-drop i words place 0) (omega arith);
    }

pub section-same : (place : ℕ) (words : List ℕ) (i : ℕ) → Same (section_form place) (series (line_form 1 ∷ records_form place (get_or words i 0) ∷ [])) (drop i words)
section-same place words i =
    let e : get_or (drop i words) 0 0 ≡ get_or words i 0 = get_or-drop i words 0 0 ∙ ap (λ (k : ℕ). get_or words k 0) (add-zero i) in
    record { lines = rw e; long = rw e }

module _ (place : ℕ) {words : List ℕ} (old : List ℕ) {at : Places} where
  module _ (x : Printable (record_form place) words (length old) at) where
    head-printing : Printing (record_form place) words old at (line_form (place + 1) ∷ nodes_form (get_or words (at.word + place) 0) ∷ []) old at
    head-printing = printing-first old (line_form (place + 1) ∷ nodes_form (get_or words (at.word + place) 0) ∷ []) (record_same place words at.word) x

    pub head-inside : at.word + place < length words
    head-inside = omega (arith, x.inside)

    pub head-able : Printable (line_form (place + 1)) words (length old) at
    head-able = printing-able head-printing

    module _ {b : Places} {mid : List ℕ} (y : Printed (line_form (place + 1)) words old at b mid) where
      pub nodes-able : Printable (nodes_in (get_or words (at.word + place) 0)) words (length mid) b
      nodes-able = same-able (nodes-same (get_or words (at.word + place) 0) (drop b.word words)) (printing-able (printing-more head-printing y))

      pub record-done : {r : Places} {new : List ℕ} → Printed (nodes_in (get_or words (at.word + place) 0)) words mid b r new → Printed (record_form place) words old at r new
      record-done z = printing-done (printing-more (printing-more head-printing y) (same-printed (nodes-same (get_or words (at.word + place) 0) (drop b.word words)) z))

  module _ (x : Printable (section_form place) words (length old) at) where
    count-printing : Printing (section_form place) words old at (line_form 1 ∷ records_form place (get_or words at.word 0) ∷ []) old at
    count-printing = printing-first old (line_form 1 ∷ records_form place (get_or words at.word 0) ∷ []) (section-same place words at.word) x

    pub count-able : Printable (line_form 1) words (length old) at
    count-able = printing-able count-printing

    pub count-inside : at.word < length words
    count-inside = omega (arith, count-able.inside)

    module _ {b : Places} {mid : List ℕ} (y : Printed (line_form 1) words old at b mid) where
      pub records-able : Printable (records_form place (get_or words at.word 0)) words (length mid) b
      records-able = printing-able (printing-more count-printing y)

      pub section-done : {r : Places} {new : List ℕ} → Printed (records_form place (get_or words at.word 0)) words mid b r new → Printed (section_form place) words old at r new
      section-done z = printing-done (printing-more (printing-more count-printing y) z)

pub ruleset repeats = (rules, times-first, repeat-able, repeat-more, repeat-done)

pub ruleset records = (rules, head-inside, head-able, nodes-able, record-done)

pub ruleset sections = (rules, count-inside, count-able, records-able, section-done)
