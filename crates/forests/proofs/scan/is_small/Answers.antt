-- The two tests are those of the definition.
use Rattle.std.proofs.Common.{le-leb}
use Rattle.std.proofs.lemmas.Bool.{lt-leb}
use Rattle.forests.specs.Scan.{is_small}
use Rattle.forests.proofs.scan.is_small.Goals as goal

pub returns-then-n-le-FEW_RELAYS : goal.returns-then-n-le-FEW_RELAYS
unfolding is_small
returns-then-n-le-FEW_RELAYS c = simp (le-leb _ _ c.if-n-le-FEW_RELAYS.true)

pub returns-else-n-le-FEW_RELAYS : goal.returns-else-n-le-FEW_RELAYS
unfolding is_small
returns-else-n-le-FEW_RELAYS c = simp (lt-leb _ _ c.if-n-le-FEW_RELAYS.false)
