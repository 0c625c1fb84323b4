-- The lines of types in lent words: what stays, and where they end.
use Rattle.std.specs.Prelude.{◌≡◌, [], ◌∷◌, ℕ, ◌+◌, length, set, Option, Some, None}
use Rattle.std.proofs.Math.Seq.{paste}
use Rattle.lines.specs.declared.append.Lines.{Lines}

-- the same words are lent
pub record Lends (old new : Lines) : Type 0 where
  pub index : new.index.ghost_name ≡ old.index.ghost_name
  pub store : new.store.ghost_name ≡ old.store.ghost_name
  pub types : length new.index.now ≡ length old.index.now
  pub words : length new.store.now ≡ length old.store.now

-- where the lines end, if one was appended
abbrev pub ends : Option (Unit {0}) → ℕ → Option ℕ
ends (Some u) e = Some e
ends None e = None

-- rank 0, state and count are written at the end, and t's word leads there
pub record Headed (state count t : ℕ) (old new : Lines) : Type 0 where
  pub marks : new.index.now ≡ set old.index.now t (old.end + 2)
  pub writes : new.store.now ≡ paste old.store.now old.end (0 ∷ state ∷ count ∷ []) 3
  pub end : new.end ≡ old.end
