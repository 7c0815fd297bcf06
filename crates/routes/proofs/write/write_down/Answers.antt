-- `write_down` meets its contract. The loop's invariant: what is left to do gives what the whole gives.
use Rattle.routes.proofs.Loops.Write.{down_turn, down-end}
use native.Mathlib.Omega.{arith}
use mathlib.Core.Path.{sym, ◌∙◌}
use Rattle.routes.proofs.write.write_down.Goals as goal

pub loop-c-preserved : goal.loop-c-preserved
loop-c-preserved c =
    let a = c.args in (
      c.put.auto.list ∙ c.loop-c.invariant.0,
      c.loop-c.invariant.1
          ∙ down_turn a.side.now a.order.now a.from c.loop-c.c c.loop-c.x.0 c.prior_of-x.result.0
          c.relay_at.result.0 c.loop-c.relays c.put.new.list
          (omega arith) c.relay_at.ensures c.put.ensures c.prior_of-x.ensures,
    )

pub returns : goal.returns
returns c =
    let a = c.args in
    rw (← c.second_of-x.ensures)
    (sym (c.loop-c.invariant.1 ∙ down-end a.side.now a.order.now a.from c.loop-c.c c.loop-c.x.0 c.loop-c.relays (omega arith)))
