-- `set_prior` meets its contract.
use Rattle.sweep.specs.Side.{set_prior}
use Rattle.sweep.proofs.side.set_prior.Goals as goal

pub returns : goal.returns
unfolding set_prior
returns c = cc
