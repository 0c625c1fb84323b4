-- `sheet::SectionPart::put` meets its contract. Assumes nothing.
use Rattle.text.proofs.Series.{sections}
use Rattle.text.proofs.sheet.SectionPart.put.Goals as goal

pub put_times-requires : goal.put_times-requires
put_times-requires c = search sections

pub returns : goal.returns
returns c = search sections
