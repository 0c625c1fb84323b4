-- All that lines, verdicts, uses, sheets and what the sheet program prints compute with: a proof that names `computing` on its `unfolding` line closes a statement about a file by `refl`.
use Rattle.definition.specs.Base as Base
use Rattle.definition.specs.Layout as Layout
use Rattle.definition.specs.Records as Records
use Rattle.definition.specs.Accept as Accept
use Rattle.definition.specs.Syntax as Syntax
use Rattle.definition.specs.Tree as Tree
use Rattle.definition.specs.Ask as Ask
use Rattle.definition.specs.Iec as Iec
use Rattle.definition.specs.Ieee as Ieee
use Rattle.definition.specs.Scalar as Scalar
use Rattle.definition.specs.Places as Places
use Rattle.definition.specs.Parts as Parts
use Rattle.definition.specs.Defaults as Defaults
use Rattle.definition.specs.Resolve as Resolve
use Rattle.definition.specs.Peek as Peek
use Rattle.definition.specs.Complete as Complete
use Rattle.definition.specs.Lines as Lines
use Rattle.definition.specs.Uses as Uses
use Rattle.definition.specs.Sheet as Sheet
use Rattle.definition.specs.Depth as Depth
use Rattle.definition.specs.Answers as Answers
use Rattle.definition.specs.Program as Program

unfoldable pub computing : Unit {0}
unfolding Base.opened Layout.opened Records.opened Accept.opened Syntax.opened Tree.opened Ask.opened Iec.opened Ieee.opened Scalar.opened Places.opened Parts.opened Defaults.opened Resolve.opened Peek.opened Complete.opened Lines.opened Uses.opened Sheet.opened Depth.opened Answers.opened Program.opened
computing = tt
