-- `text::put::short_width` meets its contract: one to five digits, by the bounds of such numbers.
use Prim.Native.Nat.{◌/◌}
use mathlib.Core.Path.{sym, ap}
use native.Mathlib.Omega.{arith}
use lib.ListN.{length}
use Rattle.text_theory.specs.Decimal.{decimal-two, length-decimal-one, length-decimal-tens, length-decimal-three, length-decimal-four}
use Rattle.text.proofs.put.short_width.Goals as goal

pub returns-in-0-to-9 : goal.returns-in-0-to-9
returns-in-0-to-9 c = sym (length-decimal-one c.args.x (omega arith))

pub returns-in-0-to-99 : goal.returns-in-0-to-99
returns-in-0-to-99 c = sym (ap length (decimal-two c.args.x (omega arith) (omega arith)))

pub returns-in-0-to-999 : goal.returns-in-0-to-999
returns-in-0-to-999 c = sym (length-decimal-three c.args.x (omega arith) (omega arith))

pub returns-in-0-to-9999 : goal.returns-in-0-to-9999
returns-in-0-to-9999 c = sym (length-decimal-four c.args.x (omega arith) (omega arith))

pub returns-in_default : goal.returns-in_default
returns-in_default c =
    let x = c.args.x in
    omega (
      arith,
      length-decimal-tens x (omega arith),
      length-decimal-four (x / 10) (omega arith) (omega arith),
    )
