-- `start_a` meets its contract. The loop's invariant: what is left to do gives what the whole gives.
use Rattle.std.proofs.Common.{◌≡◌}
use Rattle.sweep.specs.Side.{left_of}
use Rattle.sweep.specs.Sides.{start_a}
use Rattle.sweep.proofs.start_a.Given as goal

abbrev pub invariant-loop-i : goal.invariant-loop-i
invariant-loop-i l = start_a (left_of l.table) l.s.0 l.k l.initial.a ≡ start_a (left_of l.table) l.s.0 l.i l.a
