-- `links_down` meets its contract. The loop's invariant: what is left to do gives what the whole gives.
use Rattle.routes.proofs.Loops.Links.{links-down-turn, links-down-end}
use native.Mathlib.Omega.{arith}
use mathlib.Core.Path.{sym, ◌∙◌}
use Rattle.routes.proofs.links.links_down.Goals as goal

pub loop-c-preserved : goal.loop-c-preserved
loop-c-preserved c =
    let a = c.args in (
      c.put.auto.list ∙ c.loop-c.invariant.0,
      c.loop-c.invariant.1
          ∙ links-down-turn a.side.now a.from c.loop-c.c c.loop-c.link c.prior_link_of-link.result c.loop-c.x.0
          c.prior_of-x.result.0 c.loop-c.links c.put.new.list
          (omega arith) c.put.ensures c.prior_link_of-link.ensures c.prior_of-x.ensures,
    )

pub returns : goal.returns
returns c =
    let a = c.args in
    rw (← c.link_of-link.ensures, ← c.second_of-x.ensures)
    (sym (c.loop-c.invariant.1 ∙ links-down-end a.side.now a.from c.loop-c.c c.loop-c.link c.loop-c.x.0 c.loop-c.links (omega arith)))
