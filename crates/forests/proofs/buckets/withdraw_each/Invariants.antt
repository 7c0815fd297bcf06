-- After each turn one relay more waits on or waits no more.
use Rattle.forests.specs.Buckets.{Buckets}
use Rattle.forests.proofs.StartLaws.{WithdrawnTo}
use Rattle.forests.proofs.buckets.withdraw_each.Given as goal

abbrev pub invariant-loop-r : goal.invariant-loop-r
invariant-loop-r l = WithdrawnTo l.n l.states l.r l.counts × Buckets l.counts l.bits
