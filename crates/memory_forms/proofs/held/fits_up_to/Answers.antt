-- `held::fits_up_to` meets its contract. Assumes nothing.
use Rattle.memory_forms.proofs.Holding.{fits-starts, holding}
use Rattle.memory_forms.proofs.held.fits_up_to.Goals as goal

pub loop-init : goal.loop-init
loop-init c = (search holding, fits-starts _ _ _ _)

pub unchanged-requires : goal.unchanged-requires
unchanged-requires c = search holding

pub returns-then-not-unchanged : goal.returns-then-not-unchanged
returns-then-not-unchanged c = search holding

pub returns-in_default : goal.returns-in_default
returns-in_default c = search holding

pub loop-preserved : goal.loop-preserved
loop-preserved c = search holding

pub returns : goal.returns
returns c = search holding
