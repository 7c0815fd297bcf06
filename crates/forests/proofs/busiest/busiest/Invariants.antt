-- After each turn `best` is the greatest key of the relays in service before r.
use Rattle.forests.proofs.BusiestLaws.{Best}
use Rattle.forests.proofs.busiest.busiest.Given as goal

abbrev pub invariant-loop-r : goal.invariant-loop-r
invariant-loop-r l = Best l.states l.counts l.r l.best
