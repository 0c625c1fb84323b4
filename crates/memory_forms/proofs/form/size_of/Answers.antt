-- `form::size_of` meets its contract. Assumes nothing.
use Rattle.memory_forms.proofs.Forming.{forming}
use Rattle.memory_forms.proofs.form.size_of.Goals as goal

pub returns-in-Number : goal.returns-in-Number
returns-in-Number c = search forming

pub returns-in-String : goal.returns-in-String
returns-in-String c = search forming
