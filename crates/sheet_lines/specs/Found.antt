-- Where the sections of a sheet begin, or that its words are not its three sections (refusal 11).
use Rattle.std.specs.Prelude.{List, ℕ, eqb, length, Option, Some, None}
use Rattle.definition.specs.Base.{pick}
use Rattle.definition.specs.Layout.{count, types, variables}
use Rattle.tree.specs.Part.{on_end}
use Rattle.sheet_lines.specs.declared.ends.Form.TheVariants as form
use Rattle.sheet_lines.specs.declared.find.Lines.{Lines}
use Rattle.sheet_lines.specs.Ends.{section_end}

abbrev pub lines : ℕ → ℕ → Lines
lines v c = record { variables = v; completed = c }

-- the third section, and nothing behind it
unfoldable pub last_of : List ℕ → ℕ → ℕ → ℕ → Option Lines
last_of s m v c = on_end (section_end form.Completed s m c) (λ e. pick (eqb e (length s)) (Some (lines v c)) None) None

-- the second
unfoldable pub variables_of : List ℕ → ℕ → ℕ → Option Lines
variables_of s m v = on_end (section_end form.Variables s m v) (λ c. last_of s m v c) None

unfoldable pub found_of : List ℕ → List ℕ → Option Lines
found_of f s = on_end (section_end form.Types s (count f types) 0) (λ v. variables_of s (count f variables) v) None
