-- A relay of state 0 leaves, another stays.
use Rattle.forests.proofs.StartLaws.{leaves-withdrawn, serving-stays}
use Rattle.forests.proofs.buckets.withdraw_one.Goals as goal

pub returns-then-state-eq0 : goal.returns-then-state-eq0
returns-then-state-eq0 c =
    let a = c.args in
    let moved = c.leave.ensures.moved in record {
      counts_left = leaves-withdrawn a.r.0 a.state a.counts.now c.if-state-eq0.true moved.stored;
      buckets = moved.sorted;
    }

pub returns-else-state-eq0 : goal.returns-else-state-eq0
returns-else-state-eq0 c =
    let a = c.args in record {
      counts_left = serving-stays a.r.0 a.state a.counts.now c.if-state-eq0.false;
      buckets = c.requires.1;
    }
