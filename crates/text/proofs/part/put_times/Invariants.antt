-- `part::put_times` meets its contract. Assumes nothing.
use Rattle.std.proofs.Common.{replicate}
use Rattle.text.specs.Forms.{series}
use Rattle.text.proofs.Series.{Repeating}
use Rattle.text.proofs.part.put_times.Given as goal

abbrev pub invariant-loop : goal.invariant-loop
invariant-loop g l =
    Repeating (series (replicate l.many (g.P.Part.form l.part))) l.words l.initial.text l.initial.ends (g.P.Part.form l.part) l.many l.counter l.text l.ends
