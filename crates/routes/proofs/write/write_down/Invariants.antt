-- `write_down` meets its contract. The loop's invariant: what is left to do gives what the whole gives.
use Rattle.routes.specs.Writing.{write_down}
use lib.ListN.{length}
use mathlib.Core.Path.{◌≡◌}
use Rattle.routes.proofs.write.write_down.Given as goal

abbrev pub invariant-loop-c : goal.invariant-loop-c
invariant-loop-c l =
    (length l.relays ≡ length l.initial.relays)
    × (write_down l.side l.order l.from l.count l.initial.x.0 l.initial.relays ≡ write_down l.side l.order l.from l.c l.x.0 l.relays)
