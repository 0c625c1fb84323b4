-- A law for each call and each return of tests.rt, and the memo that the index and the sheet then stand for. Assumes nothing.
use mathlib.Core.Path.{◌≡◌, refl, ap, sym, ◌∙◌}
use mathlib.Core.Bool.{Bool, true, false}
use mathlib.Core.List.{List}
use Prim.Native.Nat.{ℕ, ◌≤◌, ◌<◌}
use native.Mathlib.Omega.{arith}
use lib.ListN.{length, get_or}
use borrow.Author.Rules.{rules}
use borrow.Author.Tests.{not-true, not-false}
use Rattle.definition.specs.Base.{every}
use Rattle.definition.specs.Layout.{count, types}
use Rattle.definition.specs.Accept.{verdict}
use Rattle.definition.specs.Sheet.{ranks_rise}
use Rattle.definition.specs.Uses.{uses, rising}
use Rattle.laws.specs.Accepted.{accepted}
use Rattle.lines.specs.Memory.{Remembers}
use Rattle.ranks.specs.Above.{rank_in}
use Rattle.sheet_lines.specs.declared.ends.Form.TheVariants.{Types}
use Rattle.sheet_lines.specs.declared.find.Lines.{Lines}
use Rattle.definition.specs.declared.answers.Refusal.TheVariants as refusal
use Rattle.definition.specs.Answers.{number_of}
use Rattle.std.specs.Option.{ok_or}
use Rattle.std.specs.Prelude.{Option, Some, None, Ok, Err}
use Rattle.std.specs.Prelude as std
use Rattle.definition.specs.declared.answers.Refusal.{Refusal}
use Rattle.sheet_lines.specs.Found.{found_of}
use Rattle.sheet_lines.specs.Index.{place_word, rank_of, IndexedBy}
use Rattle.sheet_lines.specs.Judged.{judged}
use Rattle.sheet_lines.specs.Read.{sheet_at}
use Rattle.sheet_lines.specs.Small.{small_at}
use Rattle.sheet_lines.specs.Tests.{Lined, Comparable, Tests}
use Rattle.sheet_lines.specs.There.{LinesThere}
use Rattle.sheet_lines.proofs.Judging.{check-unreadable, check-ranks, check-lines}
use Rattle.sheet_lines.proofs.Lengths.{check-long}
use Rattle.sheet_lines.proofs.Placed.{found_at, types-end, rise-by-lines, rise-by-index}
use Rattle.sheet_lines.proofs.Remembering.{sheet_memo, sheet-remembers}

-- ---- `lines_rise`
module _ {f s : List ℕ} {many n : ℕ} (x : Lined f s many n) where
  pub lined-there : LinesThere Types s many 1
  lined-there = x.there

  pub lined-room : {m : ℕ} → m ≡ n → many ≤ m
  lined-room e = omega (arith, x.room)

  pub lined-rise : verdict f ≡ 0 → {answers : ℕ → ℕ → Type 0} {lent index : List ℕ} → IndexedBy answers s many lent index
      → ((at w : ℕ) → answers at w → w ≡ get_or s at 0) → {r : Bool}
      → r ≡ rising (count f types) (uses f) (rank_in index) → r ≡ rising (count f types) (uses f) (rank_of s)
  lined-rise e g h q = q ∙ rise-by-index (accepted f e) s (rw x.all at (g.is (λ at. get_or s at 0) h))

pub ruleset rising_laws = (rules, lined-there, lined-room, lined-rise)

-- ---- `test_sheet`
small-judged : (f s : List ℕ) (v c : ℕ) → every (small_at s) (count f types) ≡ false → judged f s v c ≡ false
unfolding judged
small-judged f s v c h = rw h

module _ (f s : List ℕ) (e : verdict f ≡ 0) {w : Option Lines} (o : w ≡ found_of f s) where
  found-not : {a : std.Result Lines Refusal} → a ≡ ok_or w refusal.Sections → {y : Refusal} → a ≡ Err y → (w ≡ None) × (y ≡ refusal.Sections)
  found-not {a} k {y} i = go w k
    where
      go : (w : Option Lines) → a ≡ ok_or w refusal.Sections → (w ≡ None) × (y ≡ refusal.Sections)
      go (Some m) e = let z : ◌≡◌ {A = ℕ} 0 1 = cc in absurd (omega arith)
      go None e = let z : y ≡ refusal.Sections = cc in (refl, z)

  found-so : {a : std.Result Lines Refusal} → a ≡ ok_or w refusal.Sections → {x : Lines} → a ≡ Ok x → w ≡ Some x
  found-so {a} k {x} i = go w k
    where
      go : (w : Option Lines) → a ≡ ok_or w refusal.Sections → w ≡ Some x
      go (Some m) e = let z : m ≡ x = cc in ap Some z
      go None e = let z : ◌≡◌ {A = ℕ} 0 1 = cc in absurd (omega arith)

  pub tests-unreadable : {a : std.Result Lines Refusal} → a ≡ ok_or w refusal.Sections → {y : Refusal} → a ≡ Err y → {r : std.Result Lines Refusal} → r ≡ Err y → {new : List ℕ} → Tests f s r new
  unfolding number_of
  tests-unreadable k i q = let z = found-not k i in rw (q, z.1) (record { says = check-unreadable f s e (sym o ∙ z.0) })

  module _ {a : std.Result Lines Refusal} (k : a ≡ ok_or w refusal.Sections) {x : Lines} (i : a ≡ Ok x) where
    there : found_of f s ≡ Some x
    there = sym o ∙ found-so k i

    pub found-lined : {n : ℕ} → n ≡ count f types → {k : ℕ} → count f types ≤ k → Lined f s n k
    found-lined p h = record { all = p; there = rw p (record { there = types-end (found_at f s x there) }); room = omega arith }

    pub found-there : {n : ℕ} → n ≡ count f types → LinesThere Types s n 1
    found-there p = (found-lined p {k = count f types} (omega arith)).there

    module _ {b : Bool} (q : b ≡ rising (count f types) (uses f) (rank_of s)) where
      rise-is : b ≡ ranks_rise f (sheet_at f s x.variables x.completed)
      rise-is = q ∙ rise-by-lines (accepted f e) (found_at f s x there)

      pub tests-ranks : b ≡ false → {new : List ℕ} → Tests f s (Err refusal.Ranks) new
      unfolding number_of
      tests-ranks t = record { says = check-ranks f s e there (sym rise-is ∙ t) }

      module _ (t : b ≡ true) where
        rises : ranks_rise f (sheet_at f s x.variables x.completed) ≡ true
        rises = sym rise-is ∙ t

        pub tests-long : 113280000 < length s → {new : List ℕ} → Tests f s (Err refusal.Lines) new
        unfolding number_of
        tests-long h = record { says = check-long f s e there rises h }

        module _ (h : length s ≤ 113280000) {n : ℕ} (m : n ≡ count f types) {d : Bool} (p : d ≡ every (small_at s) n) where
          small_is : d ≡ every (small_at s) (count f types)
          small_is = rw (← m) p

          pub tests_large : d ≡ false → {new : List ℕ} → Tests f s (Err refusal.Lines) new
          unfolding number_of
          tests_large z = record { says = check-lines f s e there rises (small-judged f s x.variables x.completed (sym small_is ∙ z)) }

          pub tests-comparable : d ≡ true → {answers : ℕ → ℕ → Type 0} {index new : List ℕ} → IndexedBy answers s n index new
              → ((at w : ℕ) → answers at w → w ≡ place_word at) → Tests f s (Ok x) new
          tests-comparable z {answers = answers} {index = index} {new = new} g a =
              let i : IndexedBy answers s (count f types) index new = rw m at g in
              record {
                says = record { found = there; rises = rises; small = sym small_is ∙ z; short = omega arith; lent = index; filled = i.is place_word a };
              }

pub types-room : (f : List ℕ) {m n k : ℕ} → n ≡ count f types → count f types ≤ k → m ≡ k → n ≤ m
types-room f e h l = omega arith

pub ruleset testing = (rules, not-true, not-false, tests-unreadable, found-lined, found-there, tests-ranks, tests-long, tests_large, tests-comparable, types-room)

-- ---- what the building functions then read
pub comparable-remembers : {f s : List ℕ} {x : Lines} {index : List ℕ} → Comparable f s x index → Remembers index s (length s) (sheet_memo s (count f types))
comparable-remembers {f} {s} {x = l} x = sheet-remembers (found_at f s l x.found) x.filled x.short x.small
