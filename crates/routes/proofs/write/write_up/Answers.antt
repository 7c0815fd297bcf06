-- `write_up` meets its contract. The loop's invariant: what is left to do gives what the whole gives.
use Rattle.routes.proofs.Loops.Write.{up_turn, up-end}
use native.Mathlib.Omega.{arith}
use mathlib.Core.Path.{sym, ◌∙◌}
use Prim.Native.Nat.{◌+◌, ◌-◌}
use Rattle.routes.proofs.write.write_up.Goals as goal

pub loop-p-preserved : goal.loop-p-preserved
loop-p-preserved c =
    let a = c.args in (
      c.put.auto.list ∙ c.loop-p.invariant.0,
      c.loop-p.invariant.1
          ∙ up_turn a.side.now a.order.now c.loop-p.p (a.at + a.count - c.loop-p.p) (a.at + a.count - (c.loop-p.p + 1))
          c.loop-p.x.0 c.prior_of-x.result.0 c.relay_at.result.0 c.loop-p.relays c.put.new.list
          (omega arith) c.relay_at.ensures c.put.ensures c.prior_of-x.ensures,
    )

pub returns : goal.returns
returns c =
    let a = c.args in
    rw (← c.second_of-x.ensures)
    (sym (c.loop-p.invariant.1
    ∙ up-end a.side.now a.order.now c.loop-p.p (a.at + a.count - c.loop-p.p) c.loop-p.x.0 c.loop-p.relays (omega arith)))
