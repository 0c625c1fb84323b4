-- `cell::put_cell` meets its contract. Assumes nothing.
use Rattle.memory_bytes.proofs.Standing.{standing}
use Rattle.memory_bytes.proofs.cell.put_cell.Goals as goal

pub put_zeros-requires : goal.put_zeros-requires
put_zeros-requires c = search standing

pub put_number-requires : goal.put_number-requires
put_number-requires c = search standing

pub put_integer-requires : goal.put_integer-requires
put_integer-requires c = search standing

pub put_number-requires-in-Real : goal.put_number-requires-in-Real
put_number-requires-in-Real c = search standing

pub put_number-requires-in-LongReal : goal.put_number-requires-in-LongReal
put_number-requires-in-LongReal c = search standing

pub put_string-requires : goal.put_string-requires
put_string-requires c = search standing

pub put_number-requires-in-Enumeration : goal.put_number-requires-in-Enumeration
put_number-requires-in-Enumeration c = search standing

pub returns-in-Head : goal.returns-in-Head
returns-in-Head c = search standing

pub returns-in-Null : goal.returns-in-Null
returns-in-Null c = search standing

pub returns-in-Bool : goal.returns-in-Bool
returns-in-Bool c = search standing

pub returns-in-Number : goal.returns-in-Number
returns-in-Number c = search standing

pub returns-in-Real : goal.returns-in-Real
returns-in-Real c = search standing

pub returns-in-LongReal : goal.returns-in-LongReal
returns-in-LongReal c = search standing

pub returns-in-String : goal.returns-in-String
returns-in-String c = search standing

pub returns-in-Enumeration : goal.returns-in-Enumeration
returns-in-Enumeration c = search standing

pub returns-in-Nothing : goal.returns-in-Nothing
returns-in-Nothing c = search standing
