-- `links_up` meets its contract. The loop's invariant: what is left to do gives what the whole gives.
use Rattle.routes.specs.WrittenLinks.{links_up}
use lib.ListN.{length}
use mathlib.Core.Path.{◌≡◌}
use Prim.Native.Nat.{◌-◌}
use Rattle.routes.proofs.links.links_up.Given as goal

abbrev pub invariant-loop-p : goal.invariant-loop-p
invariant-loop-p l =
    (length l.links ≡ length l.initial.links)
    × (links_up l.side l.at l.count l.initial.link l.initial.x.0 l.initial.links ≡ links_up l.side l.p (l.p-end - l.p) l.link l.x.0 l.links)
