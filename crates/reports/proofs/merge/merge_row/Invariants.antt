-- `reports::merge::merge_row` meets its contract. The loop: the row so far, up to the offset.
use Prim.Native.Nat.{◌-◌}
use lib.ListN.{length}
use Rattle.reports.proofs.MergeLaws.{RowSoFar}
use Rattle.reports.proofs.merge.merge_row.Given as goal

abbrev pub invariant-loop-count : goal.invariant-loop-count
invariant-loop-count l =
    RowSoFar l.text (length l.initial.places) l.a.0 l.start l.found l.initial.places l.initial.lows l.initial.highs l.places l.lows l.highs l.p l.count

abbrev pub decreases-loop-count : goal.decreases-loop-count
decreases-loop-count l = length l.text - l.p
