-- From one answer to the next: what goes on after a value, and what stops. Assumes nothing.
use mathlib.Core.Path.{◌≡◌, refl, ap, sym, ◌∙◌}
use mathlib.Core.List.{List}
use Prim.Native.Nat.{ℕ, ◌+◌, ◌*◌, ◌≤◌}
use lib.ListN.{take}
use lib.Seq.{take-take}
use Rattle.definition.specs.Tree.{Trees, many, nodes_in, flatten_all}
use Rattle.definition.specs.Ask.{Result, Outcome, Ask, ◌>>=◌}
use Rattle.definition.specs.Resolve.{Memo}
use Rattle.definition.specs.Peek.{got, peek}
use Rattle.laws.specs.Steps.{peek-none, peek-large, peek-wanted}
use Rattle.laws.specs.Whole.{Goods}
use Rattle.tree.specs.Words.{Stand}
use Rattle.tree_changes.specs.Limit.{added_of}
use Rattle.tree_changes.proofs.Limits.{added-counts, outcome_of}
use Rattle.build.specs.declared.built.Unbuilt.{Unbuilt}
use Rattle.build.specs.declared.built.Unbuilt.TheVariants as unbuilt
use Rattle.build.specs.Built.{Built}
use Rattle.gather.specs.declared.answers.Filling.{Filling}
use Rattle.gather.specs.Answers.{Listing, listed, stopped, Builds, Lists}
use Rattle.gather.specs.Leaves.{on_added}
use Rattle.std.specs.Prelude.{Err, Ok}
use Rattle.std.specs.Prelude as std
use native.Mathlib.Omega.{arith}
use Rattle.tree_changes.specs.declared.limit.Misfit.TheVariants as misfit
use Rattle.tree_changes.specs.Limit.{Added}

pub take_less : (s t : List ℕ) (a b : ℕ) → a ≤ b → take b s ≡ take b t → take a s ≡ take a t
take_less s t a b h e = sym (take-take a b s h) ∙ ap (take a) e ∙ take-take a b t h

-- ---- what stops, whatever follows
pub peek-stops : {A B : Type 0} (M : Memo) (m : Ask (Result A)) (g : A → Ask (Result B)) (u : Unbuilt) → peek M m ≡ stopped u → peek M (m >>= g) ≡ stopped u
peek-stops M m g u h = go u h
  where
    go : (u : Unbuilt) → peek M m ≡ stopped u → peek M (m >>= g) ≡ stopped u
    go unbuilt.None h = peek-none M m g h
    go unbuilt.TooLarge h = peek-large M m g h
    go (unbuilt.Wanted d) h = peek-wanted M m g d h

-- ---- an answer, named
pub builds-as : (M : Memo) (m : Ask Outcome) (at : ℕ) {b c : Built} (s : List ℕ) → b ≡ c → Builds M m at b s → Builds M m at c s
builds-as M m at s e h = rw e at h

pub lists-as : (M : Memo) (m : Ask (Result Trees)) (l : Filling) (at : ℕ) {b c : Listing} (s : List ℕ) → b ≡ c → Lists M m l at b s → Lists M m l at c s
lists-as M m l at s e h = rw e at h

-- ---- the same answer for a computation that comes to the same
pub builds-same : (M : Memo) (m n : Ask Outcome) (at : ℕ) (b : Built) (s : List ℕ) → peek M n ≡ peek M m → Builds M m at b s → Builds M n at b s
builds-same M m n at (Ok e) s q h = record { tree = h.tree; is = q ∙ h.is; ends = h.ends; stands = h.stands; small = h.small }
builds-same M m n at (Err u) s q h = q ∙ h

pub lists-same : (M : Memo) (m n : Ask (Result Trees)) (l : Filling) (at : ℕ) (b : Listing) (s : List ℕ) → peek M n ≡ peek M m → Lists M m l at b s → Lists M n l at b s
lists-same M m n l at (Ok v) s q h =
    record { trees = h.trees; is = q ∙ h.is; ends = h.ends; counts = h.counts; sizes = h.sizes; stands = h.stands; small = h.small; few = h.few }
lists-same M m n l at (Err u) s q h = q ∙ h

-- ---- values that may be added
pub lists-added : (M : Memo) (m : Ask (Result Trees)) (l : Filling) (at e : ℕ) (ts : Trees) (s : List ℕ)
    → peek M m ≡ got (outcome_of (added_of l.places l.made l.size (many ts) (nodes_in ts)) ts) → Stand s at (flatten_all ts) e → Goods ts → e ≡ at + 6 * nodes_in ts
    → {r : Listing} → r ≡ on_added (added_of l.places l.made l.size (many ts) (nodes_in ts)) (listed e (l.made + many ts) (l.size + nodes_in ts)) → Lists M m l at r s
lists-added M m l at e ts s p x g q {r} h = go (added_of l.places l.made l.size (many ts) (nodes_in ts)) refl p h
  where
    go : (a : Added) → added_of l.places l.made l.size (many ts) (nodes_in ts) ≡ a → peek M m ≡ got (outcome_of a ts)
        → r ≡ on_added a (listed e (l.made + many ts) (l.size + nodes_in ts)) → Lists M m l at r s
    go (Ok w) i u v =
        let z = added-counts l.places l.made l.size (many ts) (nodes_in ts) i in
        rw v (record { trees = ts; is = u; ends = q; counts = refl; sizes = refl; stands = x; small = record { whole = g; room = z.0 }; few = z.1 })
    go (Err misfit.TooMany) i u v = rw v u
    go (Err misfit.TooLarge) i u v = rw v u
