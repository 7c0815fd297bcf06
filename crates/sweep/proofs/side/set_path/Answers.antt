-- `set_path` meets its contract.
use Rattle.sweep.specs.Side.{set_path}
use Rattle.sweep.proofs.side.set_path.Goals as goal

pub returns : goal.returns
unfolding set_path
returns c = cc
