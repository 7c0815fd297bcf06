-- `import::edges::low_end` meets its contract.
use Rattle.std.proofs.Common.{arith}
use Rattle.definitions.specs.Dimacs.{low_end}
use Rattle.import.proofs.edges.low_end.Goals as goal

pub returns : goal.returns
unfolding low_end
returns c = omega (arith, c.min.ensures)
