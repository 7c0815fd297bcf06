-- After each turn one link more counts at its ends only if both are in service.
use Rattle.forests.specs.LinkCounts.{DiscountedTo}
use Rattle.forests.proofs.idle.discount.Given as goal

abbrev pub invariant-loop-i : goal.invariant-loop-i
invariant-loop-i l = DiscountedTo l.lows l.highs l.states l.i l.counts
