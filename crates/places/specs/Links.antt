-- What the code answers in place of a link. Assumes nothing.
use Rattle.std.specs.Prelude.{◌≡◌, refl, Option, Some, None, ℕ, suc}
use Rattle.std.specs.Option.{option_or}
use Rattle.definition.specs.Base.{or_else}

-- the link to a record, 0 for none
abbrev pub link_of : Option ℕ → ℕ
link_of None = 0
link_of (Some n) = suc n

pub link-of-or : (a b : Option ℕ) → link_of (option_or a b) ≡ or_else (link_of a) (link_of b)
link-of-or None b = refl
link-of-or (Some n) b = refl
