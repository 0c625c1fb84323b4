-- `driver::settle` meets its contract. Assumes nothing.
use mathlib.Core.Path.{refl}
use native.Mathlib.Omega.{arith}
use borrow.Author.Rules.{rules}
use Rattle.lines.proofs.Lending.{lends-same, lends-then, ends-some, ends-none}
use Rattle.driver.proofs.Settling.{prepared-kept, to-ready, built-inside, no-want, wants-one, begun-word, begun-settled, begin-less, goes-start, goes-line, goes-fresh, goes-full, goes-next}
use Rattle.driver.proofs.driver.+settle.Goals as goal

pub remember-requires : goal.remember-requires
remember-requires t c = let v = c.loop-d.invariant in built-inside v.1.begun.held c.try_type-built.ensures

pub returns-in_default-clause-settles : goal.returns-in_default-clause-settles
returns-in_default-clause-settles t c = let v = c.loop-d.invariant in goes-line v.1 c.try_type-built.ensures (no-want c.wanted.ensures c.in_default.is) c.remember.ensures.stores

pub settle-requires : goal.settle-requires
settle-requires t c =
    let p = c.requires in
    let v = c.loop-d.invariant in
    let k = c.try_type-built.auto in
    let b = c.begin.ensures in
    let fr = goes-fresh v.1 c.try_type-built.ensures (wants-one _ c.wanted.ensures c.in-Some.is) in
    (omega (arith, begin-less fr b.index refl, v.1.fewer, c.decreases), (prepared-kept v.0 _ _ b.same.types (search rules), begun-word fr b.index b.store b.end))

pub loop-d-smaller : goal.loop-d-smaller
loop-d-smaller t c =
    let v = c.loop-d.invariant in
    let b = c.begin.ensures in
    let fr = goes-fresh v.1 c.try_type-built.ensures (wants-one _ c.wanted.ensures c.in-Some.is) in
    let r = begun-settled fr b.index b.store b.end c.settle.ensures.settles in
    r.fewer

pub loop-d-preserved : goal.loop-d-preserved
loop-d-preserved t c =
    let v = c.loop-d.invariant in
    let w = c.try_type-built.ensures in
    let b = c.begin.ensures in
    let q = (wants-one _ c.wanted.ensures c.in-Some.is) in
    let r = begun-settled (goes-fresh v.1 w q) b.index b.store b.end c.settle.ensures.settles in
    let y = lends-then b.same c.settle.ensures.same in
    let k = c.try_type-built.auto in
    let m = c.settle.auto in
    (prepared-kept v.0 _ _ y.types (search rules), goes-next v.1 w q r (ends-some c.in_ok-settle.was _), lends-then v.2 y, search rules)

pub returns-in_err-settle-clause-settles : goal.returns-in_err-settle-clause-settles
returns-in_err-settle-clause-settles t c =
    let v = c.loop-d.invariant in
    let w = c.try_type-built.ensures in
    let b = c.begin.ensures in
    let q = (wants-one _ c.wanted.ensures c.in-Some.is) in
    let r = begun-settled (goes-fresh v.1 w q) b.index b.store b.end c.settle.ensures.settles in
    goes-full v.1 w q r (ends-none c.in_err-settle.was _) (ends-none (search rules) _)
