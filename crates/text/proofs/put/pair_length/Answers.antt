-- `text::put::pair_length` meets its contract: the bytes of the words and the digits of both numbers.
use native.Mathlib.Omega.{arith}
use Rattle.text_theory.specs.Decimal.{length-decimal-at-most}
use Rattle.text.proofs.put.pair_length.Goals as goal

pub overflow_add-result : goal.overflow_add-result
overflow_add-result c = omega (arith, c.short_width.ensures, length-decimal-at-most 4 c.args.a (omega arith))

pub overflow_add-result-2 : goal.overflow_add-result-2
overflow_add-result-2 c =
    let a = c.args in
    let one = length-decimal-at-most 4 a.a (omega arith) in
    let two = length-decimal-at-most 4 a.b (omega arith) in
    omega (arith, c.short_width.ensures, c.short_width-2.ensures, one, two)

pub returns : goal.returns
returns c =
    let a = c.args in
    let one = length-decimal-at-most 4 a.a (omega arith) in
    let two = length-decimal-at-most 4 a.b (omega arith) in (
      omega (arith, c.short_width.ensures, c.short_width-2.ensures),
      omega (arith, c.short_width.ensures, c.short_width-2.ensures, one, two),
    )
