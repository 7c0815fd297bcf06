-- `prior_of` meets its contract.
use Rattle.sweep.specs.Side.{prior_in}
use Rattle.sweep.proofs.side.prior_of.Goals as goal

pub returns : goal.returns
unfolding prior_in
returns c = cc
