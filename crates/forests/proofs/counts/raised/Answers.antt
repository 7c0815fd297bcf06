-- The raised count, case by case.
use mathlib.Core.Path.{sym}
use native.Mathlib.Omega.{arith}
use Rattle.forests.proofs.CountLaws.{raised-none, raised-some}
use Rattle.forests.proofs.counts.raised.Goals as goal

pub returns-then-count-eq0 : goal.returns-then-count-eq0
returns-then-count-eq0 c = sym (raised-none c.args.count c.if-count-eq0.true)

pub returns-else-count-eq0 : goal.returns-else-count-eq0
returns-else-count-eq0 c = sym (raised-some c.args.count (omega arith))
