-- The scan with lists of its own for the order.
use Rattle.theory.specs.Accepted.{accepted}
use Rattle.forests.proofs.results.number_links.Goals as goal

pub scan-requires-else-network-le-FEW_RELAYS : goal.scan-requires-else-network-le-FEW_RELAYS
scan-requires-else-network-le-FEW_RELAYS c =
    let few = (accepted _ _ _ _ c.args.network.accepted).few in
    (few, few, c.requires)
