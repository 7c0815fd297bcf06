-- `alive` meets its contract. The loop's invariant: what is left to do gives what the whole gives.
use Rattle.sweep.specs.Side.{left_of}
use Rattle.routes.specs.Between.{alive_in}
use mathlib.Core.Path.{◌≡◌}
use Prim.Native.Nat.{◌-◌}
use Rattle.routes.proofs.between.alive.Given as goal

abbrev pub invariant-loop-v : goal.invariant-loop-v
invariant-loop-v l = alive_in (left_of l.fn.table) l.k l.fn.t.0 (l.fn.s.0 - l.fn.t.0) ≡ alive_in (left_of l.fn.table) l.k l.fn.t.0 (l.v - l.fn.t.0)
