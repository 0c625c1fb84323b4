-- `copies::each_default` meets its contract. Assumes nothing.
use Prim.Native.Nat.{◌-◌}
use Rattle.gather.proofs.Gathering.{EachInv}
use Rattle.gather.proofs.copies.each_default.Given as goal

abbrev pub invariant-loop : goal.invariant-loop
invariant-loop l = EachInv l.times l.fn.l l.initial.room l.at (l.times - l.counter) l.now l.to l.room
