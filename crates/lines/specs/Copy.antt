-- A remembered tree that is copied.
use Rattle.std.specs.Prelude.{◌≡◌, Bool, ◌&&◌, List, ℕ, ◌+◌, ◌*◌, leb, length, drop, Result, Ok, Err}
use Rattle.std.proofs.Math.Seq.{paste}
use Rattle.definition.specs.Base.{pick}
use Rattle.lines.specs.declared.look.Absent.{Absent}
use Rattle.lines.specs.declared.look.Absent.TheVariants as absent
use Rattle.lines.specs.declared.copy.Uncopied.{Uncopied}
use Rattle.lines.specs.declared.copy.Uncopied.TheVariants.{Unknown, None, TooLarge, Full}
use Rattle.lines.specs.Look.{Remembered, remembered_of}

-- the nodes lie within the store, and there is room for them
abbrev pub copy_fits : List ℕ → ℕ → ℕ → List ℕ → ℕ → Bool
copy_fits store a n out at = leb (a + n * 6) (length store) && leb (at + n * 6) (length out)

-- without a tree there is no copy, for the same reason
abbrev pub uncopied_of : Absent → Uncopied
uncopied_of absent.Unknown = Unknown
uncopied_of absent.None = None
uncopied_of absent.TooLarge = TooLarge

unfoldable pub copied_of : Remembered → List ℕ → List ℕ → ℕ → Result ℕ Uncopied
copied_of (Ok x) store out at = pick (copy_fits store x.at x.nodes out at) (Ok (at + x.nodes * 6)) (Err Full)
copied_of (Err w) store out at = Err (uncopied_of w)

unfoldable pub copied_words : Remembered → List ℕ → List ℕ → ℕ → List ℕ
copied_words (Ok x) store out at = pick (copy_fits store x.at x.nodes out at) (paste out at (drop x.at store) (x.nodes * 6)) out
copied_words (Err w) store out at = out

pub record Copies (index store : List ℕ) (t : ℕ) (old : List ℕ) (at : ℕ) (r : Result ℕ Uncopied) (new : List ℕ) : Type 0 where
  pub says : r ≡ copied_of (remembered_of index store t) store old at
  pub is : new ≡ copied_words (remembered_of index store t) store old at
