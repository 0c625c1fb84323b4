-- `entries::entries_up_to` meets its contract. Assumes nothing.
use Rattle.memory_forms.proofs.entries.+entries_up_to.Given as goal

abbrev pub decreases-entries_up_to : goal.decreases-entries_up_to
decreases-entries_up_to l = l.left
