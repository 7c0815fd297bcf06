-- `network::row_starts::row_start` meets its contract: the rule of the table at the entry that is looked up.
use native.Mathlib.Omega.{arith}
use Rattle.network.specs.RowStarts.{RowsFor}
use Rattle.network.proofs.row_starts.row_start.Goals as goal

pub bounds-rows-b : goal.bounds-rows-b
unfolding RowsFor
bounds-rows-b c = omega (arith, c.requires.0)

pub returns : goal.returns
unfolding RowsFor
returns c = c.requires.1 c.args.b.0 (omega arith)
