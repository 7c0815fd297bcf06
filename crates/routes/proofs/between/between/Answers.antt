-- `between` meets its contract.
use Rattle.sweep.specs.Side.{left_of}
use Rattle.routes.proofs.Loops.Between.{between-falls, between-rises, links-fall, links-rise}
use Rattle.routes.proofs.between.between.Goals as goal

pub returns-then-q-p : goal.returns-then-q-p
returns-then-q-p c =
    let a = c.args in
    let look = left_of a.table in
    let wrote = c.write_routes in
    let linked = c.write_links in
    let swept = c.sweep in record {
      result_left = between-falls look a.k a.p.0 a.q.0 a.order.now a.counts.now a.relays.now
          wrote.new.counts wrote.new.relays a.a.now a.b.now swept.new.a swept.new.b wrote.result
          c.if-q-p.true swept.ensures wrote.ensures;
      links_left = links-fall look a.k a.p.0 a.q.0 a.links.now linked.new.links
          a.a.now a.b.now swept.new.a swept.new.b c.if-q-p.true swept.ensures linked.ensures;
    }

pub returns-else-q-p : goal.returns-else-q-p
returns-else-q-p c =
    let a = c.args in
    let look = left_of a.table in
    let wrote = c.write_routes-else-q-p in
    let linked = c.write_links-else-q-p in
    let swept = c.sweep-else-q-p in record {
      result_left = between-rises look a.k a.p.0 a.q.0 a.order.now a.counts.now a.relays.now
          wrote.new.counts wrote.new.relays a.a.now a.b.now swept.new.a swept.new.b wrote.result
          c.if-q-p.false swept.ensures wrote.ensures;
      links_left = links-rise look a.k a.p.0 a.q.0 a.links.now linked.new.links
          a.a.now a.b.now swept.new.a swept.new.b c.if-q-p.false swept.ensures linked.ensures;
    }
