use Rattle.std.proofs.Common.{◌-◌}
use Rattle.vector_io.specs.Replay.{Sums}
use Rattle.vector_io.proofs.answers.replay.Given as goal

-- what the steps that are left give is what all give
abbrev pub invariant-loop-k : goal.invariant-loop-k
invariant-loop-k g l =
    goal.F-IsAlwaysCallable g l.step
    × ((result : _) → Sums (λ f k answer next. goal.F-step g f k answer next) (l.most - l.k) l.k l.step l.sum result
    → Sums (λ f k answer next. goal.F-step g f k answer next) l.most 0 l.fn.step 0 result)
