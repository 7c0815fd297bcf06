-- `link_of` meets its contract.
use Rattle.sweep.specs.Side.{link_in}
use Rattle.sweep.proofs.side.link_of.Goals as goal

pub returns : goal.returns
unfolding link_in
returns c = cc
