-- `stands::is_ahead` meets its contract: the difference is in the range, below it or above it.
use Rattle.std.proofs.Common.{true, false, arith}
use Rattle.lists.specs.Ranges.{inside, below, above}
use Rattle.stands.proofs.ReadLaws.{ahead-by}
use Rattle.stands.proofs.is_ahead.Goals as goal

pub returns-in-1-to-2147483647 : goal.returns-in-1-to-2147483647
returns-in-1-to-2147483647 c = ahead-by _ _ _ false c.lead.ensures (inside 1 2147483647 c.lead.result (omega arith) (omega arith))

pub returns-in_default : goal.returns-in_default
returns-in_default c = ahead-by _ _ _ true c.lead.ensures (below 1 2147483647 c.lead.result (omega arith))

pub returns-in_default-2 : goal.returns-in_default-2
returns-in_default-2 c = ahead-by _ _ _ true c.lead.ensures (above 1 2147483647 c.lead.result (omega arith) (omega arith))
