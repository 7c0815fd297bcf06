-- `network::row_starts::row_starts` meets its contract: the table passes the test, which the checker computes over all of its
-- entries.
use mathlib.Core.Path.{refl}
use Rattle.definitions.specs.Network.{row_start}
use Rattle.network.specs.RowStarts.{starts_from, rows-tested}
use Rattle.network.proofs.row_starts.row_starts.Goals as goal

pub returns : goal.returns
unfolding starts_from row_start
returns c = rows-tested 1000 _ refl refl
