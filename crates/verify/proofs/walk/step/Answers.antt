-- `step` meets its contract: a test fails, the step leads to the end, or to a relay that is marked.
use Rattle.std.proofs.Common.{sym, arith}
use Rattle.verify.proofs.MarkLaws.{not-passed, to_end, to-relay}
use Rattle.verify.proofs.walk.step.Goals as goal

pub returns-else-may_step : goal.returns-else-may_step
returns-else-may_step c =
    let a = c.args in
    not-passed a.network.table a.to.0 a.a.0 a.b.0 a.l.0 a.marks.now _ c.may_step.ensures c.if-may_step.false

pub returns-then-eq : goal.returns-then-eq
returns-then-eq c =
    let a = c.args in
    to_end a.network.table a.to.0 a.a.0 a.b.0 a.l.0 a.marks.now (sym c.if-may_step.ensures) _ c.eq.ensures c.if-eq.true

pub returns-else-eq : goal.returns-else-eq
returns-else-eq c =
    let a = c.args in
    to-relay a.network.table a.to.0 a.a.0 a.b.0 a.l.0 a.marks.now (sym c.if-may_step.ensures) (sym c.if-eq.ensures) c.told-marks
    (omega (arith, c.well_formed)) _ _ c.meet.ensures.fresh c.meet.ensures.marks
