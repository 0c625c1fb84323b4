-- `asked::resolve_each` meets its contract. Assumes nothing.
use mathlib.Core.Path.{refl}
use native.Mathlib.Omega.{arith}
use borrow.Author.Rules.{rules}
use Rattle.lines.proofs.Lending.{lends-then, ends-some, ends-none}
use Rattle.driver.proofs.Settling.{prepared-kept}
use Rattle.driver.proofs.Asking.{asking-start, asking-left, asking-next, asking-full}
use Rattle.driver.proofs.asked.resolve_each.Goals as goal

pub loop-t-init : goal.loop-t-init
loop-t-init g c =
    let p = c.requires.given in
    let b = c.clear.ensures in
    (c.requires.pre, prepared-kept p _ _ b.same.types refl, asking-start _ _ _ _ b.index b.end p.typed, search rules, c.count-many.ensures, refl)

pub loop-t-preserved-then-not-asks : goal.loop-t-preserved-then-not-asks
loop-t-preserved-then-not-asks g c =
    let v = c.loop-t.invariant in
    (v.0, v.1, asking-left v.2 (omega (arith, v.4, c.loop-t-test.true)) c.asks.ensures (search rules), v.3, v.4, v.5)

pub loop-t-preserved : goal.loop-t-preserved
loop-t-preserved g c =
    let v = c.loop-t.invariant in
    let e = c.ask_type.ensures in
    let k = c.ask_type.auto in
    (v.0, prepared-kept v.1 _ _ e.same.types (search rules), asking-next v.2 (omega (arith, v.4, c.loop-t-test.true)) c.asks.ensures (search rules) e.recalls (ends-some c.in_ok-ask_type.was _), lends-then v.3 e.same, v.4, search rules)

pub returns-in_err-ask_type-clause-each : goal.returns-in_err-ask_type-clause-each
returns-in_err-ask_type-clause-each g c =
    let v = c.loop-t.invariant in
    let e = c.ask_type.ensures in
    asking-full v.2 (omega (arith, v.4, c.loop-t-test.true)) c.asks.ensures (search rules) e.recalls (ends-none c.in_err-ask_type.was _) (ends-none (search rules) _)
