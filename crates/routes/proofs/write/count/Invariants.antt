-- `count` meets its contract. The loop's invariant: what is left to do gives what the whole gives.
use Rattle.routes.specs.Writing.{chain_length}
use mathlib.Core.Path.{◌≡◌}
use Prim.Native.Nat.{◌+◌, ◌-◌}
use Rattle.routes.proofs.write.count.Given as goal

abbrev pub invariant-loop-c : goal.invariant-loop-c
invariant-loop-c l = chain_length l.side 1000 l.initial.x.0 ≡ l.c + chain_length l.side (1000 - l.c) l.x.0
