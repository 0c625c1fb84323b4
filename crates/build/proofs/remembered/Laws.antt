-- A law for each return of remembered.rt. Assumes nothing.
use mathlib.Core.Path.{◌≡◌, refl, ap, sym, ◌∙◌}
use mathlib.Core.Bool.{Bool, true, false}
use mathlib.Core.List.{List}
use Prim.Native.Nat.{ℕ, ◌+◌, ◌*◌, ◌≤◌, ◌<◌}
use native.Mathlib.Omega.{arith}
use lib.ListN.{length, take, drop}
use lib.Seq.{paste}
use borrow.Author.Rules.{rules}
use Rattle.definition.specs.Base.{pick}
use Rattle.definition.specs.Tree as trees
use Rattle.definition.specs.Ask.{ok, none, large, type_default}
use Rattle.definition.specs.Resolve.{Memo}
use Rattle.definition.specs.Peek.{peek}
use Rattle.laws.specs.Used.{IsType}
use Rattle.laws.specs.Steps.{peek-known, peek-asked}
use Rattle.laws.specs.Values.{Small}
use Rattle.laws.specs.Whole.{flatten-length}
use Rattle.lines.specs.Look.{Remembered, remembered_of}
use Rattle.lines.specs.Copy.{copy_fits, copied_words, Copies}
use Rattle.lines.proofs.Meanings.{copy-unknown, copy-none, copy-large, copy-ends, copy-full, copy-stands}
use Rattle.lines.proofs.Memories.{remembers-small}
use Rattle.build.specs.declared.built.Unbuilt.TheVariants as unbuilt
use Rattle.definition.specs.Tree.{tree_words}
use Rattle.build.specs.Built.{Gives, Memory, Builds}
use Rattle.build.proofs.leaves.Laws.{paste-kept}
use Rattle.std.specs.Prelude.{Err, Ok}
use Rattle.std.specs.Prelude as std
use Rattle.lines.specs.declared.copy.Uncopied.TheVariants as uncopied
use Rattle.lines.specs.declared.copy.Uncopied.{Uncopied}

copied-kept : (store old : List ℕ) (at : ℕ) → at ≤ length old → (w : Remembered) → take at (copied_words w store old at) ≡ take at old
unfolding copied_words
copied-kept store old at h (Ok w) = go (copy_fits store w.at w.nodes old at)
  where
    go : (b : Bool) → take at (pick b (paste old at (drop w.at store) (w.nodes * 6)) old) ≡ take at old
    go true = paste-kept old at (drop w.at store) (w.nodes * 6) h
    go false = refl
copied-kept store old at h (Err w) = refl

module _ (f known : List ℕ) {t : ℕ} (i : IsType f t) {store old : List ℕ} {at : ℕ} {r : std.Result ℕ Uncopied} {new : List ℕ} (c : Copies known store t old at r new) (h : at + tree_words ≤ length old) where
  kept : take at new ≡ take at old
  kept = ap (take at) c.is ∙ copied-kept store old at (omega arith) (remembered_of known store t)

  inside : (M : Memo) → Memory f known store M → t < length M
  inside M m = omega (arith, m.all)

  pub type-wanted : {u : Uncopied} → r ≡ Err u → u ≡ uncopied.Unknown → Builds f known store trees.flatten (type_default t) at old (Err (unbuilt.Wanted t)) new
  type-wanted i j =
      let e : r ≡ Err uncopied.Unknown = cc in
      record {
        gives = λ M m. rw (peek-asked M t (copy-unknown m.remembers t (inside M m) c e).0) (record { says = refl; stands = tt });
        kept = kept;
      }

  pub type-none : {u : Uncopied} → r ≡ Err u → u ≡ uncopied.None → Builds f known store trees.flatten (type_default t) at old (Err unbuilt.None) new
  type-none i j =
      let e : r ≡ Err uncopied.None = cc in
      record {
        gives = λ M m. rw (peek-known M t none (copy-none m.remembers t (inside M m) c e).0) (record { says = refl; stands = tt });
        kept = kept;
      }

  pub type-large : {u : Uncopied} → r ≡ Err u → u ≡ uncopied.TooLarge → Builds f known store trees.flatten (type_default t) at old (Err unbuilt.TooLarge) new
  type-large i j =
      let e : r ≡ Err uncopied.TooLarge = cc in
      record {
        gives = λ M m. rw (peek-known M t large (copy-large m.remembers t (inside M m) c e).0) (record { says = refl; stands = tt });
        kept = kept;
      }

  pub type-ends : {e : ℕ} → r ≡ Ok e → Builds f known store trees.flatten (type_default t) at old (Ok e) new
  type-ends {e} q = record { gives = go; kept = kept }
    where
      go : (M : Memo) → Memory f known store M → Gives trees.flatten (peek M (type_default t)) at (Ok e) new
      go M m =
          let y = copy-ends m.remembers t (inside M m) c q in
          let n : at + length (trees.flatten y.tree) ≡ e = omega (arith, y.ends, flatten-length y.tree) in
          rw (peek-known M t (ok y.tree) y.is) (record { says = ap Ok (sym n); stands = rw n (copy-stands y) })

  -- there is room for every tree
  pub type-full : {u : Uncopied} → r ≡ Err u → u ≡ uncopied.Full → Builds f known store trees.flatten (type_default t) at old (Err unbuilt.None) new
  type-full i j = record { gives = go; kept = kept }
    where
      q : r ≡ Err uncopied.Full
      q = cc

      go : (M : Memo) → Memory f known store M → Gives trees.flatten (peek M (type_default t)) at (Err unbuilt.None) new
      go M m =
          let y = copy-full m.remembers t (inside M m) c q in
          let s : Small y.tree = remembers-small m.remembers t (ok y.tree) (inside M m) y.is in
          absurd (omega (arith, y.full, s.few))

pub ruleset laws = (rules, type-wanted, type-none, type-large, type-ends, type-full)
