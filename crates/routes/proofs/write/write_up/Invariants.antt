-- `write_up` meets its contract. The loop's invariant: what is left to do gives what the whole gives.
use Rattle.routes.specs.Writing.{write_up}
use lib.ListN.{length}
use mathlib.Core.Path.{◌≡◌}
use Prim.Native.Nat.{◌-◌}
use Rattle.routes.proofs.write.write_up.Given as goal

abbrev pub invariant-loop-p : goal.invariant-loop-p
invariant-loop-p l =
    (length l.relays ≡ length l.initial.relays)
    × (write_up l.side l.order l.at l.count l.initial.x.0 l.initial.relays ≡ write_up l.side l.order l.p (l.p-end - l.p) l.x.0 l.relays)
