-- `link_at` meets its contract.
use Rattle.std.proofs.Common.{rules}
use Rattle.sweep.specs.Side.{link_in}
use Rattle.sweep.proofs.side.link_at.Goals as goal

pub returns : goal.returns
unfolding link_in
returns c = grind (rules)
