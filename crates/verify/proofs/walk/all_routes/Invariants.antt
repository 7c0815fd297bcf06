-- The loop's invariant: what is said of all routes is what is said of those left.
use Rattle.std.proofs.Common.{◌≡◌, ◌-◌, false, List, ℕ, length}
use Rattle.definitions.specs.SheetTest.{routes_hold}
use Rattle.lists.specs.Bitmap.{marked}
use Rattle.network.specs.Tables.{of_table}
use Rattle.verify.specs.Walks.{LinesAt}
use Rattle.verify.proofs.RouteLaws.{RoutesLeft}
use Rattle.verify.proofs.walk.all_routes.Given as goal

abbrev pub invariant-loop-route : goal.invariant-loop-route
invariant-loop-route l =
    (routes overs : List (List ℕ)) → length routes ≡ l.form.routes → LinesAt l.text l.form.first routes overs
    → RoutesLeft l.network.table l.text l.form.wish.from.0 l.form.wish.to.0 (marked l.marks) l.direct l.p (l.form.routes - l._route)
    (of_table routes_hold l.network.table l.form.wish.from.0 l.form.wish.to.0 (marked l.initial.marks) false routes overs)
