-- Of the two numbers that are added one is 0.
use native.Mathlib.Omega.{arith}
use Rattle.forests.proofs.CountLaws.{number-sum, number_small}
use Rattle.forests.proofs.counts.number.Goals as goal

pub overflow_add-result : goal.overflow_add-result
overflow_add-result c = omega (arith, number_small c.args.count c.args.old c.requires (omega arith) (omega arith))

pub returns : goal.returns
returns c = number-sum c.args.count c.args.old c.requires
