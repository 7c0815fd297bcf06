-- The closure of `planner::main` meets its contract: the front of the output is the text that was printed.
use Rattle.std.proofs.Common.{arith}
use Rattle.program.specs.Front.{front-within, front-is}
use Rattle.planner.proofs.fn.main.answer.Goals as goal

pub shared_ref_as_front-result : goal.shared_ref_as_front-result
shared_ref_as_front-result c =
    omega (arith, front-within _ _ _ _ c.plan-size.ensures.length c.plan-size.ensures.bytes, c.plan-size.array_long)

pub returns : goal.returns
returns c = front-is _ _ _ _ c.plan-size.ensures.length c.plan-size.ensures.bytes
