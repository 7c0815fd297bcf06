-- `write_routes` meets its contract. The loop's invariant: what is left to do gives what the whole gives.
use Rattle.routes.proofs.Loops.Write.{routes-turn, routes-end}
use native.Mathlib.Omega.{arith}
use mathlib.Core.Path.{sym, ◌∙◌}
use Rattle.routes.proofs.write.write_routes.Goals as goal

pub loop-i-preserved : goal.loop-i-preserved
loop-i-preserved c =
    let a = c.args in (
      c.put.auto.list ∙ c.loop-i.invariant.0,
      c.write_route-length.auto.relays ∙ c.loop-i.invariant.1,
      omega arith,
      c.loop-i.invariant.3 ∙ routes-turn a.front.now a.back.now a.order.now a.k c.loop-i.i c.loop-i.from
          c.write_route-length.result c.loop-i.counts c.put.new.list c.loop-i.relays
          c.write_route-length.new.relays
          (omega arith) c.write_route-length.ensures.value (rw c.from.ensures at c.put.ensures) c.write_route-length.ensures.relays_left,
    )

pub returns : goal.returns
returns c =
    let a = c.args in
    sym
    (c.loop-i.invariant.3 ∙ routes-end a.front.now a.back.now a.order.now a.k c.loop-i.i c.loop-i.from
    c.loop-i.counts c.loop-i.relays (omega arith))
