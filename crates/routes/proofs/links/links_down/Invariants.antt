-- `links_down` meets its contract. The loop's invariant: what is left to do gives what the whole gives.
use Rattle.routes.specs.WrittenLinks.{links_down}
use lib.ListN.{length}
use mathlib.Core.Path.{◌≡◌}
use Rattle.routes.proofs.links.links_down.Given as goal

abbrev pub invariant-loop-c : goal.invariant-loop-c
invariant-loop-c l =
    (length l.links ≡ length l.initial.links)
    × (links_down l.side l.from l.count l.initial.link l.initial.x.0 l.initial.links ≡ links_down l.side l.from l.c l.link l.x.0 l.links)
