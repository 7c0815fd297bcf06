-- `write_links` meets its contract. The loop's invariant: what is left to do gives what the whole gives.
use Rattle.routes.proofs.Loops.Links.{links-empty, links-turn, links_end}
use native.Mathlib.Omega.{arith}
use mathlib.Core.Path.{sym, ◌∙◌}
use Rattle.routes.proofs.links.write_links.Goals as goal

pub returns-then-is_empty : goal.returns-then-is_empty
returns-then-is_empty c =
    let a = c.args in
    links-empty a.front.now a.back.now a.k a.links.now (grind arith)

pub loop-i-preserved : goal.loop-i-preserved
loop-i-preserved c =
    let a = c.args in
    let wrote = c.write_route_links-from in (
      wrote.auto.links ∙ c.loop-i.invariant.0,
      omega arith,
      c.loop-i.invariant.2 ∙ links-turn a.front.now a.back.now a.k c.loop-i.i c.loop-i.from wrote.result
          c.loop-i.links wrote.new.links (omega arith) wrote.ensures.value wrote.ensures.links_left,
    )

pub returns : goal.returns
returns c =
    let a = c.args in
    sym
    (c.loop-i.invariant.2
    ∙ links_end a.front.now a.back.now a.k c.loop-i.i c.loop-i.from c.loop-i.links (omega arith))
