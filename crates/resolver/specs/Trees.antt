-- An outcome, built at the front of a room and written to the front of out, as the definition answers it.
use Rattle.std.specs.Prelude.{◌≡◌, List, ℕ, ◌<◌, ◌≤◌, length, Option, Some, None, Result, Ok, Err}
use Rattle.definition.specs.declared.answers.Refusal.{Refusal}
use Rattle.definition.specs.declared.answers.Refusal.TheVariants as refusal
use Rattle.definition.specs.Layout.{count}
use Rattle.definition.specs.Tree.{Tree, flatten}
use Rattle.definition.specs.Ask.{ok, none, large, Outcome}
use Rattle.definition.specs.Answers.{Says, line_words, room_words, words_say, tree_says, tree_answer, tree_out, type_tree_answer, type_tree_out, variable_tree_answer, variable_tree_out}
use Rattle.laws.specs.Accepted.{Accepted}
use Rattle.tree.specs.Words.{Stand}
use Rattle.build.specs.Built.{Built}
use Rattle.build.specs.declared.built.Unbuilt.TheVariants as unbuilt
use Rattle.driver.specs.declared.told.Owner.{Owner}
use Rattle.driver.specs.declared.told.Owner.TheVariants as owner

abbrev pub end_in : Built → Result (Option ℕ) Refusal
end_in (Ok e) = Ok (Some e)
end_in (Err unbuilt.None) = Ok None
end_in (Err unbuilt.TooLarge) = Err refusal.Large
end_in (Err (unbuilt.Wanted d)) = Ok None

-- an outcome's tree stands at the front of a room, up to where the answer says
abbrev pub Held : Outcome → Result (Option ℕ) Refusal → List ℕ → Type 0
Held (ok t) r room = (r ≡ Ok (Some (length (flatten t)))) × Stand room 0 (flatten t) (length (flatten t))
Held none r room = r ≡ Ok None
Held large r room = r ≡ Err refusal.Large

pub record Stands (o : Outcome) (r : Result (Option ℕ) Refusal) (room : List ℕ) : Type 0 where
  pub held : Held o r room

-- for every tree that stands at the front of the room
pub record WritesTree (room : List ℕ) (end : ℕ) (old : List ℕ) (r : Result ℕ Refusal) (new : List ℕ) : Type 0 where
  pub says : (t : Tree) → Stand room 0 (flatten t) end → words_say r ≡ tree_answer (ok t) (length old)
  pub is : (t : Tree) → Stand room 0 (flatten t) end → new ≡ tree_out (ok t) old

pub record Writes (o : Outcome) (old : List ℕ) (r : Result (Option ℕ) Refusal) (new : List ℕ) : Type 0 where
  pub says : tree_says r ≡ tree_answer o (length old)
  pub is : new ≡ tree_out o old

-- nothing is refused before the answer itself is known
pub record Passed (f : List ℕ) (section number lines room : ℕ) : Type 0 where
  pub accepted : Accepted f
  pub inside : number < count f section
  pub lined : line_words f ≤ lines
  pub roomy : room_words f ≤ room

-- the answer and the words of out, for the type or the variable
abbrev pub answer_in : List ℕ → Owner → ℕ → ℕ → ℕ → Says
answer_in f (owner.Type t) out lines room = type_tree_answer f t out lines room
answer_in f (owner.Variable v) out lines room = variable_tree_answer f v out lines room

abbrev pub out_in : List ℕ → Owner → List ℕ → ℕ → ℕ → List ℕ
out_in f (owner.Type t) out lines room = type_tree_out f t out lines room
out_in f (owner.Variable v) out lines room = variable_tree_out f v out lines room
