-- A law for each return of admit.rt. Assumes nothing.
use mathlib.Core.Path.{◌≡◌, refl, sym, ◌∙◌}
use mathlib.Core.Bool.{Bool, true, false, ◌&&◌}
use mathlib.Core.List.{List}
use Prim.Native.Nat.{ℕ}
use lib.Dec.{leb}
use borrow.Author.Rules.{rules}
use denote.Ref.{Bor}
use Rattle.std.specs.Prelude.{Result, Ok, Err}
use Rattle.records.specs.declared.file.File.{File}
use Rattle.definition.specs.declared.answers.Refusal.{Refusal}
use Rattle.definition.specs.declared.answers.Refusal.TheVariants as refusal
use Rattle.definition.specs.Base.{pick}
use Rattle.definition.specs.Accept.{need, verdict}
use Rattle.definition.specs.Answers.{number_of, room_words}
use Rattle.acceptance.specs.Admitted.{refusal_in, Admits}
use Rattle.acceptance.proofs.Accepting.{holds, fails, refused}
use Rattle.acceptance.proofs.Wanting.{file-passes, file-refuses}

-- ---- `admit`
module _ (answers : Bor File → Result (Unit {0}) Refusal → Type 0) (words : List ℕ) where
  pub admits-not : (r : Refusal) → number_of r ≡ verdict words → {a : Result File Refusal} → a ≡ Err r → Admits answers words a
  admits-not r e q = rw q (record { is = λ next h. file-refuses words next r e })

  module _ (b : Bor File) (is : b.now.source ≡ words) (z : verdict words ≡ 0) {a : Result (Unit {0}) Refusal} (p : answers b a) where
    pub admits-file : {u : Unit {0}} → a ≡ Ok u → Admits answers words (Ok b.now)
    admits-file q = record { is = λ next h. (is, file-passes words next z ∙ sym (h b a is p) ∙ rw q) }

    pub admits-less : {r : Refusal} → a ≡ Err r → {w : Result File Refusal} → w ≡ Err r → Admits answers words w
    admits-less {r} q k = rw k (record { is = λ next h. rw (file-passes words next z, ← h b a is p, q) })

-- ---- `enough`
module _ (f : List ℕ) (wanted lines room : ℕ) where
  pub few-lines : {r : Refusal} → ◌≡◌ {A = Result (Unit {0}) Refusal} (Err r) (pick (leb wanted lines) (Ok tt) (Err refusal.Short)) → {w : Result (Unit {0}) Refusal} → w ≡ Err r
      → refusal_in w ≡ need (leb wanted lines && leb (room_words f) room) 10 (λ u. 0)
  unfolding number_of
  few-lines {r} e q = rw (q, refused (leb wanted lines) r refusal.Short e, fails (leb wanted lines) r refusal.Short e)

  pub enough-so : {u : Unit {0}} → ◌≡◌ {A = Result (Unit {0}) Refusal} (Ok u) (pick (leb wanted lines) (Ok tt) (Err refusal.Short)) → {n : ℕ} → n ≡ room_words f
      → {w : Result (Unit {0}) Refusal} → w ≡ pick (leb n room) (Ok tt) (Err refusal.Short) → refusal_in w ≡ need (leb wanted lines && leb (room_words f) room) 10 (λ u. 0)
  unfolding number_of
  enough-so e {n} k q = rw (q, holds (leb wanted lines) refusal.Short e, ← k) (go (leb n room))
    where
      go : (b : Bool) → refusal_in (pick b (Ok tt) (Err refusal.Short)) ≡ need b 10 (λ u. 0)
      go true = refl
      go false = refl

pub ruleset admitting = (rules, admits-not, admits-file, admits-less, few-lines, enough-so)
