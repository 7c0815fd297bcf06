-- `network::pairs::pair_index` meets its contract: pair numbers are below 499,500.
use native.Mathlib.Omega.{arith}
use Rattle.definitions.specs.Network.{pair_number}
use Rattle.network.specs.Pairs.{pair-below, rows-of-1000}
use Rattle.network.proofs.pairs.pair_index.Goals as goal

pub overflow_add-result : goal.overflow_add-result
unfolding pair_number
overflow_add-result c =
    omega (
      arith,
      c.row_start.ensures,
      pair-below 1000 c.args.a.0 c.args.b.0 c.requires.0 c.requires.1,
      rows-of-1000 1000 (omega arith),
    )

pub returns : goal.returns
unfolding pair_number
returns c = omega (arith, c.row_start.ensures)
