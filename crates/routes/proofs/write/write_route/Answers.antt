-- `write_route` meets its contract.
use Rattle.routes.proofs.Loops.Write.{route-length, route-written}
use Rattle.routes.proofs.write.write_route.Goals as goal

pub returns-clause-value : goal.returns-clause-value
returns-clause-value c =
    let a = c.args in
    route-length a.front.now a.back.now a.i c.count-low.result c.count-high.result c.count-low.ensures.value c.count-high.ensures.value

pub returns-clause-relays_left : goal.returns-clause-relays_left
returns-clause-relays_left c =
    let a = c.args in
    route-written a.front.now a.back.now a.order.now a.i a.from c.count-low.result c.count-high.result
    c.end_of-meeting.result.0 c.relay_at.result.0 a.relays.now c.write_down.new.relays
    c.put.new.list c.write_up.new.relays
    c.count-low.ensures.value c.count-high.ensures.value c.end_of-meeting.ensures c.relay_at.ensures
    c.write_down.ensures c.put.ensures c.write_up.ensures
