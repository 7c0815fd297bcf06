-- After each turn `best` is the greatest key of the relays in service before r.
use Rattle.forests.proofs.BusiestLaws.{best-more}
use Rattle.forests.proofs.busiest.busiest.Goals as goal

pub loop-r-preserved : goal.loop-r-preserved
loop-r-preserved c =
    let at = c.loop-r in
    let lent = c.args in
    rw (c.max-best.ensures, c.serving_key.ensures)
    (best-more lent.states.now lent.counts.now at.r at.best at.invariant)
