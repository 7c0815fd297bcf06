-- `highest` meets its contract. The loop's invariant: no path of an index above i ends at v.
use Rattle.std.proofs.Common.{◌≡◌}
use Rattle.sweep.specs.Sides.{highest_in}
use Rattle.sweep.proofs.highest.Given as goal

abbrev pub invariant-loop-i : goal.invariant-loop-i
invariant-loop-i l = highest_in l.k l.v.0 l.a l.b ≡ highest_in l.i l.v.0 l.a l.b
