-- `plan::print::put_route` meets its contract: a line with the relays, and a line with the links.
use native.Mathlib.Omega.{arith}
use Rattle.text.specs.Put.{put-append}
use Rattle.plan.specs.SheetLines.{route-written, route-length}
use Rattle.plan.proofs.print.put_route.Goals as goal

pub put_line-p-requires : goal.put_line-p-requires
put_line-p-requires c =
    let a = c.args in
    omega (arith, route-length a.relays.now a.links.now, c.requires)

pub put_line-requires : goal.put_line-requires
put_line-requires c =
    let a = c.args in
    let one = c.put_line-p.ensures in
    omega (arith, route-length a.relays.now a.links.now, c.requires, one.ends, one.same)

pub returns : goal.returns
returns c =
    let a = c.args in
    rw (route-written a.relays.now a.links.now)
    (put-append _ _ _ _ _ _ _ _ c.put_line-p.ensures c.put_line.ensures)
