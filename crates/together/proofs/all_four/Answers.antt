-- `together::all_four` meets its contract: the four promises are those of the four calls, and demand 3 and the last two of the order
-- follow from them. The check finds the four by itself.
use Rattle.together.specs.Together.{together}
use Rattle.together.proofs.all_four.Goals as goal

pub returns-clause-demand : goal.returns-clause-demand
returns-clause-demand c =
    let order = c.order.ensures in
    let split = c.split.ensures in
    let cut = c.cut.ensures in
    let route = c.route.ensures in
    together _ _ _ _ _ _ _ _ _ _ _ _ _ _ _ _ _ _ _ _ _ order.relays order.places split.forests cut.marks route.answer route.counts route.relays
