-- `network::states::in_service` meets its contract: the state that was read is 1.
use mathlib.Core.Path.{refl}
use Rattle.definitions.specs.Network.{serves}
use Rattle.network.proofs.states.in_service.Goals as goal

pub returns : goal.returns
unfolding serves
returns c = refl
