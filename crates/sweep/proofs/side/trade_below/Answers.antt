-- `trade_below` meets its contract.
use Rattle.std.proofs.Common.{◌∙◌, ◌-◌, sym, ap, arith}
use native.Mathlib.Numerals.{sub-one}
use Rattle.sweep.proofs.Loops.{trade-turn, trade-end}
use Rattle.sweep.specs.Side.{left_of, trade_from}
use Rattle.sweep.proofs.side.trade_below.Goals as goal

pub loop-i-init : goal.loop-i-init
loop-i-init c = rw (sub-one c.args.j)

pub loop-i-preserved : goal.loop-i-preserved
loop-i-preserved c =
    let a = c.args in
    let i = c.loop-i.i - 1 in
    c.loop-i.invariant
    ∙ trade-turn (left_of a.table) a.v.0 a.j i c.loop-i.side (omega arith)
    ∙ ap (trade_from (left_of a.table) a.v.0 a.j (i - 1)) (sym c.trade_at.ensures)

pub returns : goal.returns
returns c =
    let a = c.args in
    sym (c.loop-i.invariant ∙ trade-end (left_of a.table) a.v.0 a.j (c.loop-i.i - 1) c.loop-i.side (omega arith))
