-- `form::stored_up_to` meets its contract. Assumes nothing.
use Rattle.memory_forms.proofs.Forming.{forming}
use Rattle.memory_forms.proofs.form.+stored_up_to.Goals as goal

pub returns : goal.returns
returns t c = search forming
