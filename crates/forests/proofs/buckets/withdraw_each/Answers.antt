-- After each turn one relay more waits on or waits no more.
use Rattle.forests.proofs.StartLaws.{withdrawn-more}
use Rattle.forests.proofs.buckets.withdraw_each.Goals as goal

pub loop-r-preserved : goal.loop-r-preserved
loop-r-preserved c =
    let one = c.withdraw_one.ensures in
    let at = c.loop-r in
    let a = c.args in
    let below = c.loop-r-test.true in (
      withdrawn-more a.n a.states.now at.r at.counts below at.invariant.0 (c.requires.0.either at.r below) one.counts_left,
      one.buckets,
    )
