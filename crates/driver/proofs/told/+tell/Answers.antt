-- `told::tell` meets its contract. Assumes nothing.
use mathlib.Core.Path.{refl}
use borrow.Author.Rules.{rules}
use Rattle.build.proofs.Peeks.{some-of}
use Rattle.lines.proofs.Lending.{ends-some, ends-none}
use Rattle.driver.proofs.Settling.{prepared-kept, to-ready, no-want, wants-one, again-less}
use Rattle.driver.proofs.Telling.{full-of, ample-kept, tells-done, asked-fresh, then-held, tells-again, tells-never}
use Rattle.driver.proofs.told.+tell.Goals as goal

pub build-built-requires : goal.build-built-requires
build-built-requires t c = let p = c.requires in (to-ready p.0 p.1, p.2, p.0.roomy)

pub returns-in_default : goal.returns-in_default
returns-in_default t c = let p = c.requires in tells-done p.0 p.1 _ c.build-built.ensures (no-want c.wanted.ensures c.in_default.is)

pub resolve-requires : goal.resolve-requires
resolve-requires t c = let p = c.requires in let k = c.build-built.auto in (prepared-kept p.0 _ _ refl (search rules), asked-fresh p.0 p.1 _ c.build-built.ensures (wants-one _ c.wanted.ensures c.in-Some.is))

pub tell-requires : goal.tell-requires
tell-requires t c =
    let p = c.requires in
    let k = c.build-built.auto in
    let l = c.resolve.auto in
    let e = c.resolve.ensures in
    let h = then-held p.0 p.1 _ c.build-built.ensures (wants-one _ c.wanted.ensures c.in-Some.is) e.resolves (ends-some (some-of c.ok_or.ensures.value c.in_ok-ok_or.was) _) in
    (again-less e.resolves c.decreases, (prepared-kept p.0 _ _ e.same.types (search rules), h, p.2, ample-kept p.3 _ e.same.words))

pub returns : goal.returns
returns t c =
    let p = c.requires in
    tells-again p.0 p.1 _ c.build-built.ensures (wants-one _ c.wanted.ensures c.in-Some.is) c.resolve.ensures.resolves (ends-some (some-of c.ok_or.ensures.value c.in_ok-ok_or.was) _) c.tell.ensures

pub returns-in_err-ok_or : goal.returns-in_err-ok_or
returns-in_err-ok_or t c =
    let p = c.requires in
    let e = c.resolve.ensures in
    tells-never p.0 p.1 _ c.build-built.ensures (wants-one _ c.wanted.ensures c.in-Some.is) e.resolves (ends-none (full-of c.ok_or.ensures.value c.in_err-ok_or.was) _) p.3 e.same.words _ _
