-- One where the count is not 0.
use Rattle.forests.proofs.BucketLaws.{waits-none, waits-some}
use Rattle.forests.proofs.buckets.waits.Goals as goal

pub returns-then-count-eq0 : goal.returns-then-count-eq0
returns-then-count-eq0 c = waits-none c.args.count c.if-count-eq0.true

pub returns-else-count-eq0 : goal.returns-else-count-eq0
returns-else-count-eq0 c = waits-some c.args.count c.if-count-eq0.false
