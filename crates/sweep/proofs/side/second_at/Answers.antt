-- `second_at` meets its contract.
use Rattle.std.proofs.Common.{rules}
use Rattle.sweep.specs.Side.{second_in}
use Rattle.sweep.proofs.side.second_at.Goals as goal

pub returns : goal.returns
unfolding second_in
returns c = grind (rules)
