-- `trade` meets its contract.
use Rattle.sweep.specs.Side.{trade}
use Rattle.sweep.proofs.side.trade.Goals as goal

pub returns : goal.returns
unfolding trade
returns c = cc
