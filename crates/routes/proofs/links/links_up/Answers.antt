-- `links_up` meets its contract. The loop's invariant: what is left to do gives what the whole gives.
use Rattle.routes.proofs.Loops.Links.{links-up-turn, links-up-end}
use native.Mathlib.Omega.{arith}
use mathlib.Core.Path.{sym, ◌∙◌}
use Prim.Native.Nat.{◌+◌, ◌-◌}
use Rattle.routes.proofs.links.links_up.Goals as goal

pub loop-p-preserved : goal.loop-p-preserved
loop-p-preserved c =
    let a = c.args in (
      c.put.auto.list ∙ c.loop-p.invariant.0,
      c.loop-p.invariant.1
          ∙ links-up-turn a.side.now c.loop-p.p (a.at + a.count - c.loop-p.p) (a.at + a.count - (c.loop-p.p + 1))
          c.loop-p.link c.prior_link_of-link.result c.loop-p.x.0 c.prior_of-x.result.0 c.loop-p.links c.put.new.list
          (omega arith) c.put.ensures c.prior_link_of-link.ensures c.prior_of-x.ensures,
    )

pub returns : goal.returns
returns c =
    let a = c.args in
    rw (← c.link_of-link.ensures, ← c.second_of-x.ensures)
    (sym (c.loop-p.invariant.1
    ∙ links-up-end a.side.now c.loop-p.p (a.at + a.count - c.loop-p.p) c.loop-p.link c.loop-p.x.0 c.loop-p.links (omega arith)))
