-- `number::put_number` meets its contract: the quotient is a smaller number. Assumes nothing.
use Rattle.text.proofs.Numbers.{numbers}
use Rattle.text.proofs.number.+put_number.Goals as goal

pub put_byte-requires : goal.put_byte-requires
put_byte-requires t c = search numbers

pub returns-then-n-lt10 : goal.returns-then-n-lt10
returns-then-n-lt10 t c = search numbers

pub put_number-end-requires : goal.put_number-end-requires
put_number-end-requires t c = search numbers

pub returns : goal.returns
returns t c = search numbers
