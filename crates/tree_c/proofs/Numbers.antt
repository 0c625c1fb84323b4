-- The number of each answer. Assumes nothing.
use mathlib.Core.Path.{◌≡◌, refl, ap, ◌∙◌}
use mathlib.Core.Bool.{Bool, true, false}
use mathlib.Core.List.{List}
use Prim.Native.Nat.{ℕ, ◌+◌}
use borrow.Author.Rules.{rules}
use Rattle.std.specs.Prelude.{Option, Some, None, Result, Ok, Err}
use Rattle.std.specs.Option.{unwrap_or}
use Rattle.std.specs.Result.{result_unwrap_or}
use Rattle.definition.specs.Base.{pick}
use Rattle.tree.specs.declared.extent.Span.{Span}
use Rattle.tree_changes.specs.declared.grow.Unfit.{Unfit}
use Rattle.tree_changes.specs.Grow.{Replaced}
use Rattle.tree.specs.Words.{WroteCopy}
use Rattle.tree_c.specs.Ends.{end_of, fits, ReplacedTo, CopiedTo}

end-is : (w : Result ℕ Unfit) → result_unwrap_or w 0 ≡ end_of w
end-is (Ok e) = refl
end-is (Err u) = refl

pub replaced-to : {old : List ℕ} {tree part fresh : Span} {w : Result ℕ Unfit} {new : List ℕ} → Replaced old tree part fresh w new → {r : ℕ} → r ≡ result_unwrap_or w 0
    → ReplacedTo old tree part fresh r new
replaced-to {w} q e = let s = q.says in record { says = e ∙ end-is w ∙ ap end_of s; wrote = rw s at q.wrote }

pub copied-to : (from : List ℕ) (a n : ℕ) (old : List ℕ) (at : ℕ) {w : Option ℕ} {new : List ℕ} → WroteCopy from a n old at w new → {r : ℕ} → r ≡ unwrap_or w 0
    → CopiedTo from a n old at r new
copied-to from a n old at {w} q {r} e = record { says = go (fits from a n old at) q.says; is = q.is }
  where
    go : (b : Bool) → w ≡ pick b (Some (at + n)) None → r ≡ pick b (at + n) 0
    go true s = e ∙ ap (λ (x : Option ℕ). unwrap_or x 0) s
    go false s = e ∙ ap (λ (x : Option ℕ). unwrap_or x 0) s

pub ruleset numbers = (rules, replaced-to, copied-to)
