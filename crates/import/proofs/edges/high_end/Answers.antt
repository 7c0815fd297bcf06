-- `import::edges::high_end` meets its contract.
use Rattle.std.proofs.Common.{arith}
use Rattle.definitions.specs.Dimacs.{high_end}
use Rattle.import.proofs.edges.high_end.Goals as goal

pub returns : goal.returns
unfolding high_end
returns c = omega (arith, c.max.ensures)
