-- `program::border::border` meets its contract: the text is shorter than the line tells, or the border lies in it.
use native.Mathlib.Omega.{arith}
use Rattle.program.specs.Border.{border-past, border-inside}
use Rattle.program.proofs.border.border.Goals as goal

pub returns-then-text-size : goal.returns-then-text-size
returns-then-text-size c =
    let a = c.args in
    border-past a.a a.b a.text.now (omega (arith, c.if-text-size.true))

pub returns : goal.returns
returns c =
    let a = c.args in
    border-inside a.a a.b a.text.now (omega (arith, c.if-text-size.false))
