-- `record::RecordPart::put` meets its contract. Assumes nothing.
use Rattle.text.proofs.Series.{records}
use Rattle.text.proofs.record.RecordPart.put.Goals as goal

pub put_times-requires : goal.put_times-requires
put_times-requires c = search records

pub returns : goal.returns
returns c = search records
