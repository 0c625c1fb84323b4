-- Words that are admitted: an accepted file of which a function asks more.
use Rattle.std.specs.Prelude.{◌≡◌, List, ℕ, Result, Ok, Err, MatchResult}
use denote.Ref.{Bor}
use Rattle.records.specs.declared.file.File.{File}
use Rattle.definition.specs.declared.answers.Refusal.{Refusal}
use Rattle.definition.specs.Answers.{number_of, after_file}

-- a refusal's number, or 0
abbrev pub refusal_in : Result (Unit {0}) Refusal → ℕ
refusal_in (Ok u) = 0
refusal_in (Err r) = number_of r

-- where all answers about the file of these words have one number, they are refused by the file's own refusals, and then by that number
pub record Admits (answers : Bor File → Result (Unit {0}) Refusal → Type 0) (words : List ℕ) (r : Result File Refusal) : Type 0 where
  pub is : (next : Unit {0} → ℕ) → ((file : Bor File) (a : Result (Unit {0}) Refusal) → file.now.source ≡ words → answers file a → refusal_in a ≡ next tt)
      → MatchResult r (λ file. (file.source ≡ words) × (after_file words next ≡ 0)) (λ refusal. number_of refusal ≡ after_file words next)
