-- `text::put::width` meets its contract. The loop: the digits counted and those of the tens left make those of the number.
use native.Mathlib.Omega.{arith}
use Rattle.text_theory.specs.Decimal.{length-decimal-one, length-decimal-tens}
use Rattle.text.proofs.put.width.Goals as goal

pub loop-tens-preserved : goal.loop-tens-preserved
loop-tens-preserved c = omega (arith, length-decimal-tens c.loop-tens.tens c.loop-tens-test.true)

pub returns : goal.returns
returns c = omega (arith, length-decimal-one c.loop-tens.tens (omega arith))
