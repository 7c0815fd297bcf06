-- `end_of` meets its contract.
use Rattle.sweep.specs.Side.{end_in}
use Rattle.sweep.proofs.side.end_of.Goals as goal

pub returns : goal.returns
unfolding end_in
returns c = cc
