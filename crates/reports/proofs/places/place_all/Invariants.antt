-- `reports::places::place_all` meets its contract. The loop: what is told and kept is that of the reports read so far.
use Prim.Native.Nat.{◌-◌}
use lib.ListN.{length}
use Rattle.reports.proofs.PlaceLaws.{Placing}
use Rattle.reports.proofs.places.place_all.Given as goal

abbrev pub invariant-loop-p : goal.invariant-loop-p
invariant-loop-p l = Placing l.text l.n l.places l.p l.twice l.beyond

abbrev pub decreases-loop-p : goal.decreases-loop-p
decreases-loop-p l = length l.text - l.p
