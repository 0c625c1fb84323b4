-- `number::put_number` meets its contract: the quotient is a smaller number. Assumes nothing.
use Rattle.text.proofs.number.+put_number.Given as goal

abbrev pub decreases-put_number : goal.decreases-put_number
decreases-put_number l = l.n
