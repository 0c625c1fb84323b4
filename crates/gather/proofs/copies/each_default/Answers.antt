-- `copies::each_default` meets its contract. Assumes nothing.
use Prim.Native.Nat.{suc, ◌+◌, ◌-◌}
use mathlib.Core.Path.{◌≡◌}
use native.Mathlib.Omega.{arith}
use borrow.Author.Rules.{rules}
use Rattle.gather.proofs.Gathering.{each_first, each_all, each-fails, each_on}
use Rattle.gather.proofs.copies.each_default.Goals as goal

pub loop-init : goal.loop-init
loop-init c = let s = c.args in each_first s.times s.l s.room.now s.at (omega arith)

pub returns-in_err-next : goal.returns-in_err-next
returns-in_err-next c =
    let t = c.args.times in
    let n = c.loop.counter in
    let h : t - n ≡ suc (t - (n + 1)) = omega (arith, c.loop-test.true) in
    each-fails c.loop.invariant h c.next_default.ensures c.in_err-next.was (search rules)

pub loop-preserved : goal.loop-preserved
loop-preserved c =
    let t = c.args.times in
    let n = c.loop.counter in
    let h : t - n ≡ suc (t - (n + 1)) = omega (arith, c.loop-test.true) in
    each_on c.loop.invariant h c.next_default.ensures c.in_ok-next.was c.next_default.auto.room c.moved_on-now.ensures.is c.moved_on-now.ensures.moves

pub returns : goal.returns
returns c = each_all c.loop.invariant (omega (arith, c.loop-test.false))
