-- `prior_link_of` meets its contract.
use Rattle.sweep.specs.Side.{prior_link_in}
use Rattle.sweep.proofs.side.prior_link_of.Goals as goal

pub returns : goal.returns
unfolding prior_link_in
returns c = cc
