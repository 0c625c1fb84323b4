-- `told::outcome` meets its contract. Assumes nothing.
use borrow.Author.Rules.{rules}
use Rattle.build.proofs.Peeks.{some-of}
use Rattle.lines.proofs.Lending.{ends-some, ends-none}
use Rattle.driver.proofs.Tabling.{parts-given}
use Rattle.driver.proofs.Settling.{prepared-kept}
use Rattle.driver.proofs.Telling.{full-of, ample-kept, declared-held, outcome-told, outcome-never}
use Rattle.driver.proofs.told.outcome.Goals as goal

pub resolve_declared-requires : goal.resolve_declared-requires
resolve_declared-requires c = let p = c.requires in let s = c.split_at_mut-classes.ensures in parts-given s.front s.front_len p.0 s.back_len

pub tell-requires : goal.tell-requires
tell-requires c =
    let p = c.requires in
    let s = c.split_at_mut-classes.ensures in
    let e = c.resolve_declared.ensures in
    let k = c.resolve_declared.auto in
    (prepared-kept (parts-given s.front s.front_len p.0 s.back_len) _ _ e.same.types (search rules), declared-held e.declares (ends-some (some-of c.ok_or.ensures.value c.in_ok-ok_or.was) _), p.1, ample-kept p.2 _ e.same.words)

pub returns : goal.returns
returns c = outcome-told c.resolve_declared.ensures.declares (ends-some (some-of c.ok_or.ensures.value c.in_ok-ok_or.was) _) _ c.tell.ensures

pub returns-in_err-ok_or : goal.returns-in_err-ok_or
returns-in_err-ok_or c =
    let p = c.requires in
    let s = c.split_at_mut-classes.ensures in
    let e = c.resolve_declared.ensures in
    outcome-never e.declares (parts-given s.front s.front_len p.0 s.back_len) p.2 e.same.words (ends-none (full-of c.ok_or.ensures.value c.in_err-ok_or.was) _) _ _ _
