-- `leave` meets its contract. The loop's invariant: what is left to do gives what the whole gives.
use Rattle.std.proofs.Common.{◌≡◌}
use Rattle.sweep.specs.Side.{left_of}
use Rattle.sweep.specs.Sides.{leave_from}
use Rattle.sweep.proofs.leave.Given as goal

abbrev pub invariant-loop-i : goal.invariant-loop-i
invariant-loop-i l =
    leave_from (left_of l.table) l.t.0 l.a l.k l.initial.b ≡ leave_from (left_of l.table) l.t.0 l.a l.i l.b
