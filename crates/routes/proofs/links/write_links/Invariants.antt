-- `write_links` meets its contract. The loop's invariant: what is left to do gives what the whole gives.
use Rattle.routes.specs.WrittenLinks.{links_from}
use lib.ListN.{length}
use mathlib.Core.Path.{◌≡◌}
use Prim.Native.Nat.{◌-◌, ◌*◌, ◌≤◌}
use Rattle.routes.proofs.links.write_links.Given as goal

abbrev pub invariant-loop-i : goal.invariant-loop-i
invariant-loop-i l =
    (length l.links ≡ length l.initial.links) × (l.from ≤ 2000 * l.i)
    × (links_from l.front l.back l.k 0 0 l.initial.links ≡ links_from l.front l.back (l.k - l.i) l.i l.from l.links)
