-- `form::temporal` meets its contract. Assumes nothing.
use Rattle.memory_forms.proofs.Forming.{forming}
use Rattle.memory_forms.proofs.form.temporal.Goals as goal

pub returns-then-bits-eq64 : goal.returns-then-bits-eq64
returns-then-bits-eq64 c = search forming

pub returns : goal.returns
returns c = search forming
