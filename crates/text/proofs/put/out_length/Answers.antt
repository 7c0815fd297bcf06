-- `text::put::out_length` meets its contract: no line, or its words and the digits of its number.
use mathlib.Core.Path.{sym, ap}
use native.Mathlib.Omega.{arith}
use lib.ListN.{length}
use Rattle.text_theory.specs.Decimal.{length-decimal-at-most}
use Rattle.text_theory.specs.Lengths.{length-out}
use Rattle.text.specs.WrittenOuts.{line-out, line-none}
use Rattle.text.proofs.put.out_length.Goals as goal

pub returns-then-state-ne0 : goal.returns-then-state-ne0
returns-then-state-ne0 c =
    let a = c.args in
    (sym (ap length (line-none a.state a.relay c.if-state-ne0.true)), omega arith)

pub short_width-requires : goal.short_width-requires
short_width-requires c = omega arith

pub overflow_add-result : goal.overflow_add-result
overflow_add-result c =
    let relay = c.args.relay in
    omega (arith, c.short_width.ensures, length-decimal-at-most 2 relay (omega arith))

pub returns : goal.returns
returns c =
    let a = c.args in
    let line = ap length (line-out a.state a.relay c.if-state-ne0.false) in (
      omega (arith, c.short_width.ensures, line, length-out a.relay),
      omega (arith, c.short_width.ensures, length-decimal-at-most 2 a.relay (omega arith)),
    )
