-- `steps` meets its contract. The loop's invariant: what is left to do gives what the whole gives.
use Rattle.std.proofs.Common.{◌≡◌, ◌-◌, pred}
use Rattle.sweep.specs.Side.{left_of}
use Rattle.sweep.specs.Sides.{sweep_in}
use Rattle.sweep.proofs.steps.Given as goal

abbrev pub invariant-loop-v : goal.invariant-loop-v
invariant-loop-v l =
    sweep_in (left_of l.table) l.k l.t.0 (pred l.fn.s.0) l.initial.a l.initial.b
    ≡ sweep_in (left_of l.table) l.k l.t.0 (l.v - 1) l.a l.b
