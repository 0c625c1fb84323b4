-- `depths::greatest` meets its contract. Assumes nothing.
use native.Mathlib.Omega.{arith}
use mathlib.Core.List.{List, ◌++◌}
use mathlib.Core.Path.{◌≡◌, refl}
use Prim.Native.Nat.{ℕ, ◌≤◌}
use lib.ListN.{length, take, drop, replicate, length-set}
use lib.Seq.{length-take-le}
use borrow.Author.Rules.{rules}
use Rattle.records.proofs.Filling.{none_filled, one-filled, all-filled, filled-part, zeroed-again}
use Rattle.acceptance.proofs.Nests.{none-met, one-met}
use Rattle.acceptance.proofs.depths.greatest.Goals as goal

-- so many words set to 0, where all that were filled are
cleared-part : {many : ℕ} {front : List ℕ} (words : List ℕ) {k : ℕ} → k ≡ many → many ≤ length words → front ≡ replicate (length (take k words)) 0
    → front ++ drop k words ≡ replicate {A = ℕ} many 0 ++ drop many words
cleared-part words e l z = rw (z, e, length-take-le _ words l)

pub loop-n-init : goal.loop-n-init
loop-n-init g c = (omega arith, refl, λ d h. (none_filled d _, none-met))

pub loop-n-preserved : goal.loop-n-preserved
loop-n-preserved g c =
    let i = c.loop-n.invariant in (
      search rules,
      simp length-set (search rules),
      λ d h.
          let k = i.2 d h in
          let r = h.found _ _ _ (search rules) (filled-part k.0) c.depth-own.ensures in
          (one-filled k.0 (omega arith) r, one-met k.1 r (search rules)),
    )

pub returns-clause-cleared : goal.returns-clause-cleared
returns-clause-cleared g c =
    let l = c.loop-n in
    let filled = (l.invariant.2 c.requires.2.0 c.requires.2.1).0 in
    let whole = all-filled filled c.args.many (omega arith) (omega arith) in
    zeroed-again {last = c.fill.new.self ++ drop _ l.words} whole (cleared-part _ (omega arith) (omega arith) (c.fill.ensures.after (λ y e. e))) c.requires.1
