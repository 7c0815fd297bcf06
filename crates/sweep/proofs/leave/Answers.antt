-- `leave` meets its contract.
use Rattle.std.proofs.Common.{◌∙◌, ◌-◌, sym, ap, arith}
use Rattle.sweep.proofs.Loops.{leave-turn, leave-end}
use Rattle.sweep.specs.Side.{left_of}
use Rattle.sweep.specs.Sides.{leave_from}
use Rattle.sweep.proofs.leave.Goals as goal

pub loop-i-preserved : goal.loop-i-preserved
loop-i-preserved c =
    let a = c.args in
    c.loop-i.invariant
    ∙ leave-turn (left_of a.table) a.t.0 a.a.now c.loop-i.i c.loop-i.b c.loop-i-test.true
    ∙ ap (leave_from (left_of a.table) a.t.0 a.a.now (c.loop-i.i - 1)) (sym c.leave_at.ensures)

pub returns : goal.returns
returns c =
    let a = c.args in
    sym (c.loop-i.invariant ∙ leave-end (left_of a.table) a.t.0 a.a.now c.loop-i.i c.loop-i.b (omega arith))
