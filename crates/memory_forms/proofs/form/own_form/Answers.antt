-- `form::own_form` meets its contract. Assumes nothing.
use Rattle.memory_forms.proofs.Forming.{forming}
use Rattle.memory_forms.proofs.form.own_form.Goals as goal

pub returns-in-Int : goal.returns-in-Int
returns-in-Int c = search forming

pub returns-in-UInt : goal.returns-in-UInt
returns-in-UInt c = search forming

pub returns-in-Bytes : goal.returns-in-Bytes
returns-in-Bytes c = search forming
