-- `plan::print::put_routes` meets its contract. The loop's invariant: writing all the routes is writing those that are left.
use Prim.Native.Nat.{◌+◌, ◌≤◌, pred}
use mathlib.Core.List.{map}
use lib.ListN.{length, take}
use lib.Seq.{slice}
use Rattle.definitions.specs.Demand.{cut_up}
use Rattle.definitions.specs.Lists.{total}
use Rattle.definitions.specs.Plan.{route_lines}
use Rattle.program.specs.Going.{Going}
use Rattle.plan.specs.SheetLines.{routes_left, overs_left}
use Rattle.plan.proofs.print.put_routes.Given as goal

abbrev pub invariant-loop-i : goal.invariant-loop-i
invariant-loop-i l =
    (l.first + total (slice l.i l.k l.counts) ≤ length l.relays) × (l.start + total (map pred (slice l.i l.k l.counts)) ≤ length l.links)
    × Going l.initial.output l.at (route_lines (cut_up (take l.k l.counts) l.relays) (cut_up (map pred (take l.k l.counts)) l.links)) l.output l.p
    (route_lines (routes_left l.i l.k l.first l.counts l.relays) (overs_left l.i l.k l.start l.counts l.links))
