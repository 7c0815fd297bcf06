-- The loop's invariant: the entries so far follow the rule.
use mathlib.Core.Path.{◌≡◌}
use lib.ListN.{length}
use Rattle.network.specs.RowStarts.{RowsFor}
use Rattle.network.proofs.row_starts.front.Given as goal

abbrev pub invariant-loop-b : goal.invariant-loop-b
invariant-loop-b g l = (length l.front ≡ g.row.RELAYS) × RowsFor l.b l.front
