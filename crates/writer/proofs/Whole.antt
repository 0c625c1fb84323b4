-- A law for each call and each return of sheet.rt. Assumes nothing.
use mathlib.Core.Path.{◌≡◌, refl, sym}
use mathlib.Core.Bool.{true, false}
use mathlib.Core.List.{List}
use Prim.Native.Nat.{ℕ, ◌≤◌, ◌<◌}
use native.Mathlib.Omega.{arith}
use lib.Dec.{eqb, leb}
use lib.ListN.{length, take, replicate, length-replicate}
use lib.Seq.{length-take-le}
use borrow.Author.Rules.{rules}
use borrow.Author.Tests.{ne_eqb, eq-eqb, lt-leb}
use Rattle.definition.specs.declared.answers.Refusal.{Refusal}
use Rattle.definition.specs.declared.answers.Refusal.TheVariants as refusal
use Rattle.definition.specs.Layout.{count, types}
use Rattle.definition.specs.Answers.{number_of, sheet_says, words_say, over, written_answer, ranked_answer, ranked_out, write_refused, write_answer, write_out}
use Rattle.definition.specs.Uses.{ranked, circle, uses, ranks_of, rank_at, rising}
use Rattle.definition.specs.Sheet.{sheet_with}
use Rattle.laws.specs.Accepted.{Accepted, accepted}
use Rattle.laws.specs.Ranks.{rising-true}
use Rattle.laws.specs.Demand.{writer-lowest}
use Rattle.acceptance.proofs.Wanting.{at-least-one}
use Rattle.lines.proofs.Meanings.{looks}
use Rattle.build.specs.Built.{index_in}
use Rattle.ranks.specs.declared.lowest.Circle.{Circle}
use Rattle.ranks.specs.Lowest.{Found}
use Rattle.ranks.proofs.Found.{found-ranked, found-circle}
use Rattle.driver.specs.Tables.{Front}
use Rattle.driver.specs.Driver.{Given, Holding}
use Rattle.driver.specs.Every.{every_memo, ResolvesAll}
use Rattle.driver.proofs.Settling.{given-kept, given-ready}
use Rattle.driver.proofs.Sheets.{every-is, every-holding, sheet-longer, variable-told}
use Rattle.lines.proofs.Memories.{cleared-same}
use Rattle.resolver.proofs.Answering.{copied-so, copied-not}
use Rattle.sheet_parts.specs.Resolved.{Resolved}
use Rattle.writer.specs.Sheets.{Passed, LowestRanks, Answers, AnswersRanked}
use Rattle.writer.proofs.Refusing.{passed-by}
use Rattle.std.specs.Option.{ok_or}
use Rattle.std.specs.Prelude.{None, Option, Some, Result, Ok, Err}

-- ---- `write_given`
pub passed-accepted : {f : List ℕ} {out lines room : ℕ} → Passed f out lines room → Accepted f
passed-accepted {f} p = accepted f p.accepts

module _ {f : List ℕ} {out lines room : ℕ} (p : Passed f out lines room) {ranks : List ℕ} (x : LowestRanks f ranks) where
  up : rising (count f types) (uses f) (rank_at ranks) ≡ true
  up = rising-true (count f types) (uses f) (rank_at ranks) (writer-lowest f p.accepts ranks x.is).up

  pub all-resolved : {old : List ℕ} → Given f old room → {tables : List ℕ} → Front old tables → {r : Option ℕ} {store : List ℕ} → ResolvesAll f r (index_in tables) store → {end : ℕ} → r ≡ Some end
      → Resolved f tables store
  all-resolved g {tables} s {r} {store} d {end} i =
      let h : Holding f (index_in tables) store end (every_memo f (count f types)) = every-holding f p.accepts (rank_at ranks) up d i in
      record {
        wide = omega (arith, (given-kept g s room refl).tables);
        ready = given-ready (given-kept g s room refl) (record { memo = every_memo f (count f types); holding = h });
        typed = λ t l. rw (every-is f p.accepts (rank_at ranks) up t l) at (looks h.remembers t (omega (arith, h.all)));
        told = λ v l old new made b. variable-told f p.accepts (rank_at ranks) up d i v l b;
      }

  too-short : {r : Option ℕ} {index store : List ℕ} → ResolvesAll f r index store → r ≡ None → length store ≡ lines → {old : List ℕ} → length old ≡ out
      → Answers (sheet_with f (rank_at ranks)) old (Err refusal.Short) old
  unfolding number_of words_say written_answer over
  too-short {store = store} d i e {old} j =
      let l : out < length (sheet_with f (rank_at ranks)) = sheet-longer f p.accepts (rank_at ranks) up d i out (omega (arith, p.lined)) in
      let b : leb (length (sheet_with f (rank_at ranks))) (length old) ≡ false = lt-leb (length (sheet_with f (rank_at ranks))) (length old) (omega arith) in
      record { says = rw b; is = rw b }

  pub full-short : {r : Option ℕ} {index store : List ℕ} → ResolvesAll f r index store → {a : Result ℕ Refusal} → a ≡ ok_or r refusal.Short → {y : Refusal} → a ≡ Err y
      → {w : Result ℕ Refusal} → w ≡ Err y → length store ≡ lines → {old : List ℕ} → length old ≡ out → Answers (sheet_with f (rank_at ranks)) old w old
  full-short d k i q e j = let z = copied-not k i in rw (q, z.1) (too-short d z.0 e j)

pub room-kept : {w n : ℕ} → w ≤ n → (m : ℕ) → m ≡ n → w ≤ m
room-kept h m e = omega arith

pub ruleset resolved = (rules, full-short)

-- ---- `write_lowest`
module _ {f : List ℕ} {n : ℕ} {r : Result (Unit {0}) Circle} {new : List ℕ} (g : Found (ranks_of f) n r new) where
  pub found-lowest : {u : Unit {0}} → r ≡ Ok u → LowestRanks f new
  found-lowest i = record { is = found-ranked (ranks_of f) g i }

  pub found_none : {c : Circle} → r ≡ Err c → {w : Result ℕ Refusal} → w ≡ Err refusal.Circle → {old : List ℕ} → AnswersRanked f old w old
  unfolding number_of words_say ranked_answer ranked_out
  found_none i q = let e : ranks_of f ≡ circle = (found-circle (ranks_of f) g i).0 in rw q (record { says = rw e; is = rw e })

  pub lowest-answers : {u : Unit {0}} → r ≡ Ok u → {old new' : List ℕ} {a : Result ℕ Refusal} → Answers (sheet_with f (rank_at new)) old a new' → AnswersRanked f old a new'
  unfolding ranked_answer ranked_out
  lowest-answers i y = let e : ranks_of f ≡ ranked new = found-ranked (ranks_of f) g i in record { says = rw e y.says; is = rw e y.is }

pub ruleset lowests = (rules, passed-accepted, found-lowest, found_none, lowest-answers)

-- ---- `write_passed`
pub prefix-zeros : (n m : ℕ) → n ≤ m → n ≡ length {A = ℕ} (take n (replicate m 0))
prefix-zeros n m h = sym (length-take-le n (replicate m 0) (omega (arith, length-replicate {A = ℕ} m 0)))

-- ---- `sheet_answer`
refused-numbered : (f : List ℕ) (out lines room : ℕ) (r : Refusal) → number_of r ≡ write_refused f out lines room → eqb (write_refused f out lines room) 0 ≡ false
refused-numbered f out lines room r e = ne_eqb (write_refused f out lines room) 0 (λ z. absurd (omega (arith, at-least-one r)))

module _ (f old : List ℕ) (lines room : ℕ) where
  module _ (r : Refusal) (e : number_of r ≡ write_refused f (length old) lines room) where
    pub answer-refused : sheet_says (Err r) ≡ write_answer f (length old) lines room
    unfolding words_say write_answer
    answer-refused = rw (refused-numbered f (length old) lines room r e, e)

    pub out-refused : old ≡ write_out f old lines room
    unfolding write_out
    out-refused = rw (refused-numbered f (length old) lines room r e)

  module _ {g : List ℕ} (q : g ≡ f) (z : write_refused f (length old) lines room ≡ 0) {r : Result ℕ Refusal} {new : List ℕ} (a : AnswersRanked g old r new) where
    answers-of : AnswersRanked f old r new
    answers-of = rw q at a

    pub answer-passed : sheet_says r ≡ write_answer f (length old) lines room
    unfolding write_answer
    answer-passed = rw (eq-eqb (write_refused f (length old) lines room) 0 z) answers-of.says

    pub out-passed : new ≡ write_out f old lines room
    unfolding write_out
    out-passed = rw (eq-eqb (write_refused f (length old) lines room) 0 z) answers-of.is

pub ruleset whole = (rules, passed-by, answer-refused, out-refused, answer-passed, out-passed, cleared-same)
