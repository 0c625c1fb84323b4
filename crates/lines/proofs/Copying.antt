-- What `copy_known` answers at each return. Assumes nothing.
use mathlib.Core.Path.{◌≡◌, refl, ap, sym, ◌∙◌}
use mathlib.Core.Bool.{Bool, true, false}
use mathlib.Core.List.{List}
use Prim.Native.Nat.{ℕ, ◌+◌, ◌*◌}
use Rattle.std.specs.Prelude.{Option, Some, None, Result, Ok, Err}
use Rattle.std.specs.Option.{ok_or}
use Rattle.definition.specs.Base.{pick}
use Rattle.tree.specs.Words.{Wrote, WroteCopy}
use Rattle.tree.proofs.Writes.{writes}
use Rattle.lines.specs.declared.look.Tree.{Tree}
use Rattle.lines.specs.declared.look.Absent.{Absent}
use Rattle.lines.specs.declared.copy.Uncopied.{Uncopied}
use Rattle.lines.specs.declared.copy.Uncopied.TheVariants as uncopied
use Rattle.lines.specs.Look.{Remembered, remembered_of}
use Rattle.lines.specs.Copy.{copy_fits, uncopied_of, copied_of, copied_words, Copies}

-- an answer that is no end: the test failed, and nothing was written
pub wrote-not-is : (test : Bool) {old : List ℕ} {at : ℕ} {src : List ℕ} {n : ℕ} {r : Option ℕ} {new : List ℕ} → Wrote test old at src n r new → r ≡ None
    → (test ≡ false) × (new ≡ old)
wrote-not-is true q r = let z = q.says in cc
wrote-not-is false q r = (refl, q.is)

module _ (index store : List ℕ) (t : ℕ) {w : Remembered} (q : w ≡ remembered_of index store t) (old : List ℕ) (at : ℕ) where
  pub copied-tree : {y : Tree} → w ≡ Ok y → {x : Option ℕ} {new : List ℕ} → WroteCopy store y.at (y.nodes * 6) old at x new → {r : Result ℕ Uncopied} → r ≡ ok_or x uncopied.Full
      → Copies index store t old at r new
  unfolding copied_of copied_words
  copied-tree {y} i {x} {new} c {r} j =
      let k : remembered_of index store t ≡ Ok y = sym q ∙ i in
      let z = go (copy_fits store y.at y.nodes old at) c.says in
      record { says = rw k z; is = rw k c.is }
    where
      go : (b : Bool) → x ≡ pick b (Some (at + y.nodes * 6)) None → r ≡ pick b (Ok (at + y.nodes * 6)) (Err uncopied.Full)
      go true e = j ∙ ap (λ (y : Option ℕ). ok_or y uncopied.Full) e
      go false e = j ∙ ap (λ (y : Option ℕ). ok_or y uncopied.Full) e

  pub copied-not : {y : Absent} → w ≡ Err y → {u : Uncopied} → u ≡ uncopied_of y → Copies index store t old at (Err u) old
  unfolding copied_of copied_words
  copied-not {y} i {u} e = let k : remembered_of index store t ≡ Err y = sym q ∙ i in record { says = rw (k, e); is = rw k }

pub ruleset copies = (writes, copied-tree, copied-not)
