-- `reports::merge::merge` meets its contract. The loop: the links so far, row by row.
use Rattle.reports.proofs.LinkLaws.{LinksSoFar}
use Rattle.reports.proofs.merge.merge.Given as goal

abbrev pub invariant-loop-a : goal.invariant-loop-a
invariant-loop-a l =
    LinksSoFar l.text l.n l.initial.places l.initial.lows l.initial.highs l.places l.lows l.highs l.count l.a
