-- `sweep` meets its contract.
use Rattle.sweep.specs.Sides.{swept_in}
use Rattle.sweep.proofs.sweep.Goals as goal

pub returns : goal.returns
unfolding swept_in
returns c = cc
