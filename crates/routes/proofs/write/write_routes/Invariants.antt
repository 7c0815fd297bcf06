-- `write_routes` meets its contract. The loop's invariant: what is left to do gives what the whole gives.
use Rattle.routes.specs.Writing.{write_from}
use lib.ListN.{length}
use mathlib.Core.Path.{◌≡◌}
use Prim.Native.Nat.{◌-◌, ◌*◌, ◌≤◌}
use Rattle.routes.proofs.write.write_routes.Given as goal

abbrev pub invariant-loop-i : goal.invariant-loop-i
invariant-loop-i l =
    (length l.counts ≡ length l.initial.counts) × (length l.relays ≡ length l.initial.relays) × (l.from ≤ 2001 * l.i)
    × (write_from l.front l.back l.order l.k 0 0 l.initial.counts l.initial.relays ≡ write_from l.front l.back l.order (l.k - l.i) l.i l.from l.counts l.relays)
