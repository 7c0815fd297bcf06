-- `start_b` meets its contract. The loop's invariant: what is left to do gives what the whole gives.
use Rattle.std.proofs.Common.{◌≡◌}
use Rattle.sweep.specs.Sides.{start_b}
use Rattle.sweep.proofs.start_b.Given as goal

abbrev pub invariant-loop-i : goal.invariant-loop-i
invariant-loop-i l = start_b l.t.0 l.k l.initial.b ≡ start_b l.t.0 l.i l.b
