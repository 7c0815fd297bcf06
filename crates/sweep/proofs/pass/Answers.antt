-- `pass` meets its contract.
use Rattle.sweep.proofs.Loops.{passed-met, passed-a, passed_b, passed_none}
use Rattle.sweep.specs.Side.{left_of}
use Rattle.sweep.proofs.pass.Goals as goal

pub returns-then-end_b-v : goal.returns-then-end_b-v
returns-then-end_b-v c =
    let a = c.args in
    passed-a (left_of a.table) a.v.0 a.j a.a.now a.b.now _ _ _ _
    c.trade_below.ensures c.trade_below-2.ensures c.end_of-end_a.ensures c.end_of-end_b.ensures
    _ c.if-end_a-v.true c.if-end_b-v.true c.extend.ensures

pub returns-else-end_b-v : goal.returns-else-end_b-v
returns-else-end_b-v c =
    let a = c.args in
    passed-met (left_of a.table) a.v.0 a.j a.a.now a.b.now _ _ _ _
    c.trade_below.ensures c.trade_below-2.ensures c.end_of-end_a.ensures c.end_of-end_b.ensures
    c.if-end_a-v.true c.if-end_b-v.false

pub returns-then-end_b-v-2 : goal.returns-then-end_b-v-2
returns-then-end_b-v-2 c =
    let a = c.args in
    passed_b (left_of a.table) a.v.0 a.j a.a.now a.b.now _ _ _ _
    c.trade_below.ensures c.trade_below-2.ensures c.end_of-end_a.ensures c.end_of-end_b.ensures
    _ c.if-end_a-v.false c.if-end_b-v-2.true c.extend-then-end_b-v-2.ensures

pub returns-else-end_b-v-2 : goal.returns-else-end_b-v-2
returns-else-end_b-v-2 c =
    let a = c.args in
    passed_none (left_of a.table) a.v.0 a.j a.a.now a.b.now _ _ _ _
    c.trade_below.ensures c.trade_below-2.ensures c.end_of-end_a.ensures c.end_of-end_b.ensures
    c.if-end_a-v.false c.if-end_b-v-2.false
