-- `entries::entries_up_to` meets its contract. Assumes nothing.
use Rattle.memory_forms.proofs.Counting.{counting}
use Rattle.memory_forms.proofs.entries.+entries_up_to.Goals as goal

pub returns : goal.returns
returns t c = search counting
