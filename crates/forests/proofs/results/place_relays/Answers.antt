-- The scan with a list of its own for the forest numbers.
use Rattle.theory.specs.Accepted.{accepted}
use Rattle.forests.proofs.results.place_relays.Goals as goal

pub scan-requires-else-network-le-FEW_LINKS : goal.scan-requires-else-network-le-FEW_LINKS
scan-requires-else-network-le-FEW_LINKS c =
    (c.requires.0, c.requires.1, (accepted _ _ _ _ c.args.network.accepted).short)
