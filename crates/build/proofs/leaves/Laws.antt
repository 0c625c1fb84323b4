-- A law for each return of leaves.rt. Assumes nothing.
use mathlib.Core.Path.{◌≡◌, refl, ap, sym, ◌∙◌}
use mathlib.Core.Bool.{Bool, true, false}
use mathlib.Core.List.{List, ◌++◌, append_assoc}
use Prim.Native.Nat.{ℕ, ◌+◌, ◌≤◌}
use native.Mathlib.Omega.{arith}
use lib.Dec.{leb}
use lib.ListN.{length, take, drop}
use lib.Seq.{paste, take_at, length-take-le}
use borrow.Author.Rules.{rules}
use borrow.Author.Tests.{le-leb, leb-true}
use Rattle.definition.specs.declared.records.Shape.{Shape}
use Rattle.definition.specs.declared.records.Constant.{Constant}
use Rattle.definition.specs.Tree.{flatten, leaf, constant_tree}
use Rattle.definition.specs.Peek.{got}
use Rattle.definition.specs.Scalar.{as_tree, built_in}
use Rattle.tree.specs.Words.{Wrote, WroteNode}
use Rattle.tree.proofs.Standing.{leaf-there}
use Rattle.definition.specs.Ask.{result_of}
use Rattle.build.specs.declared.built.Unbuilt.TheVariants as unbuilt
use Rattle.build.specs.Built.{Built, Gives, Puts}
use Rattle.build.specs.Leaves.{PutsLeaf}
use Rattle.std.specs.Prelude.{Err, Ok, Option, Some}
use Rattle.std.specs.Prelude as std
use Rattle.std.specs.Option.{ok_or}
use Rattle.build.specs.declared.built.Unbuilt.{Unbuilt}

-- ---- what is pasted at a place leaves what lies before it
pub paste-kept : (old : List ℕ) (at : ℕ) (src : List ℕ) (n : ℕ) → at ≤ length old → take at (paste old at src n) ≡ take at old
paste-kept old at src n h = ap (take at) (append_assoc (take at old) (take n src) (drop (at + n) old)) ∙ take_at (take at old) (take n src ++ drop (at + n) old) at (length-take-le at old h)

-- ---- `put_leaf`
leaf-long : (kind sign low high width : ℕ) → length (flatten (leaf kind sign low high width)) ≡ 6
unfolding flatten leaf
leaf-long kind sign low high width = refl

-- what is written at a place leaves what lies before it
pub wrote_kept : (test : Bool) {old : List ℕ} {at : ℕ} {src : List ℕ} {n : ℕ} {r : Option ℕ} {new : List ℕ} → (test ≡ true → at ≤ length old) → Wrote test old at src n r new → take at new ≡ take at old
wrote_kept true {old} {at} {src} {n} h q = ap (take at) q.is ∙ paste-kept old at src n (h refl)
wrote_kept false {old} {at} h q = ap (take at) q.is

pub node_kept : {old : List ℕ} {at : ℕ} {ws : List ℕ} {x : Option ℕ} {new : List ℕ} → WroteNode old at ws x new → take at new ≡ take at old
node_kept {old} {at} w = wrote_kept (leb (at + 6) (length old)) (λ e. omega (arith, leb-true (at + 6) (length old) e)) w

module _ {v : Option Constant} {c : Constant} {a : std.Result Constant Unbuilt} (k : a ≡ ok_or v unbuilt.None) (i : a ≡ Ok c) {old : List ℕ} {at : ℕ} {w : Option ℕ} {new : List ℕ}
    (x : WroteNode old at (flatten (constant_tree c)) w new) where
  pub leaf-put : {r : Built} → r ≡ ok_or w unbuilt.None → PutsLeaf v at old r new
  unfolding as_tree constant_tree
  leaf-put {r} q = record { kept = node_kept x; gives = go v (sym k ∙ i) }
    where
      go : (v : Option Constant) → ok_or v unbuilt.None ≡ Ok c → at + 6 ≤ length old → Gives flatten (got (as_tree (result_of v))) at r new
      go (Some d) i h =
          let b = le-leb (at + 6) (length old) h in
          let e : d ≡ c = cc in
          let s : w ≡ Some (at + 6) = rw b at x.says in
          let p : new ≡ paste old at (flatten (leaf c.kind c.sign c.low c.high c.width)) 6 = rw b at x.is in
          let y = leaf-there old at c.kind c.sign c.low c.high c.width h p in
          let n = leaf-long c.kind c.sign c.low c.high c.width in
          rw (e, q, s) (record { says = ap Ok (ap (λ (k : ℕ). at + k) (sym n)); stands = rw n y })
      go std.None i h = let z : ◌≡◌ {A = ℕ} 0 1 = cc in absurd (omega arith)

pub leaf-none : {v : Option Constant} {a : std.Result Constant Unbuilt} → a ≡ ok_or v unbuilt.None → {u : Unbuilt} → a ≡ Err u → {r : Built} → r ≡ Err u → {old : List ℕ} {at : ℕ} → PutsLeaf v at old r old
unfolding as_tree
leaf-none {v} k {u} i {r} q {old} {at} = record { kept = refl; gives = λ h. go v (sym k ∙ i) }
  where
    go : (v : Option Constant) → ok_or v unbuilt.None ≡ Err u → Gives flatten (got (as_tree (result_of v))) at r old
    go std.None i = let e : u ≡ unbuilt.None = cc in rw (q, e) (record { says = refl; stands = tt })
    go (Some d) i = let z : ◌≡◌ {A = ℕ} 0 1 = cc in absurd (omega arith)

-- where there is room
pub leaf-puts : {v : Option Constant} {at : ℕ} {old : List ℕ} {r : Built} {new : List ℕ} → PutsLeaf v at old r new → at + 6 ≤ length old → Puts flatten (got (as_tree (result_of v))) at old r new
leaf-puts x h = record { gives = x.gives h; kept = x.kept }

-- ---- the value of a shape that nothing declares one for
pub leaf-all : (f : List ℕ) (s : Shape) {v : Option Constant} → as_tree (result_of v) ≡ built_in f s → {at : ℕ} {old : List ℕ} {r : Built} {new : List ℕ} → PutsLeaf v at old r new
    → at + 6 ≤ length old → Puts flatten (got (built_in f s)) at old r new
leaf-all f s e x h = rw e at (leaf-puts x h)

pub ruleset laws = (rules, leaf-put, leaf-none)
