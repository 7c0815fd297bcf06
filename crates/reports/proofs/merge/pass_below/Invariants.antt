-- `reports::merge::pass_below` meets its contract. The loop: numbers below a are passed, up to the offset.
use Prim.Native.Nat.{◌-◌}
use lib.ListN.{length}
use Rattle.reports.proofs.MergeLaws.{PassedUpTo}
use Rattle.reports.proofs.merge.pass_below.Given as goal

abbrev pub invariant-loop-x : goal.invariant-loop-x
invariant-loop-x l = PassedUpTo l.text l.at l.a l.p

abbrev pub decreases-loop-x : goal.decreases-loop-x
decreases-loop-x l = length l.text - l.p
