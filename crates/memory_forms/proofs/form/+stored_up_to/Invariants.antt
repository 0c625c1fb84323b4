-- `form::stored_up_to` meets its contract. Assumes nothing.
use Rattle.memory_forms.proofs.form.+stored_up_to.Given as goal

abbrev pub decreases-stored_up_to : goal.decreases-stored_up_to
decreases-stored_up_to l = l.left
