-- `write_route_links` meets its contract.
use Rattle.routes.proofs.Loops.Links.{route-links-written}
use Rattle.routes.proofs.links.write_route_links.Goals as goal

pub returns-clause-links_left : goal.returns-clause-links_left
returns-clause-links_left c =
    let a = c.args in
    route-links-written a.front.now a.back.now a.i a.from c.count-low.result c.count-high.result
    a.links.now c.links_down.new.links c.links_up.new.links
    c.count-low.ensures.value c.count-high.ensures.value c.links_down.ensures c.links_up.ensures
