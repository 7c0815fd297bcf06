-- `extend` meets its contract.
use Rattle.sweep.specs.Side.{extend_path}
use Rattle.sweep.proofs.side.extend.Goals as goal

pub returns : goal.returns
unfolding extend_path
returns c = cc
