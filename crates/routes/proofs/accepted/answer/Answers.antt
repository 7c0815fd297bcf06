-- `answer` meets its contract.
use Rattle.sweep.specs.Side.{left_of}
use Rattle.routes.proofs.Answers.Inner.{answer-some, answer-none}
use Rattle.routes.proofs.accepted.answer.Goals as goal

pub returns-then-not-one_tree : goal.returns-then-not-one_tree
returns-then-not-one_tree c =
    let a = c.args in
    answer-none a.a.now a.b.now (left_of a.table) a.k a.p.0 a.q.0 a.order.now a.counts.now
    a.relays.now a.links.now
    c.one_tree.result c.one_tree.ensures c.if-not-one_tree.true

pub returns : goal.returns
returns c =
    let a = c.args in
    answer-some a.a.now a.b.now (left_of a.table) a.k a.p.0 a.q.0 a.order.now a.counts.now
    a.relays.now a.links.now
    c.one_tree.result c.one_tree.ensures c.between.new.counts c.between.new.relays c.between.new.links c.between.result
    c.if-not-one_tree.false c.between.ensures.result_left c.between.ensures.links_left
