-- `second_of` meets its contract.
use Rattle.sweep.specs.Side.{second_in}
use Rattle.sweep.proofs.side.second_of.Goals as goal

pub returns : goal.returns
unfolding second_in
returns c = cc
