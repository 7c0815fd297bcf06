-- The loop of `reports::line::read_seen`: those read so far are good, and the next is to be above the last; each leads on.
use Prim.Native.Nat.{◌-◌}
use lib.ListN.{length}
use Rattle.reports.proofs.LineLaws.{least_after, SeenLoop}
use Rattle.reports.proofs.line.read_seen.Given as goal

abbrev pub invariant-loop-last : goal.invariant-loop-last
invariant-loop-last l = SeenLoop l.text l.relay l.at l.p (least_after l.last) l.above

abbrev pub decreases-loop-last : goal.decreases-loop-last
decreases-loop-last l = length l.text - l.p
