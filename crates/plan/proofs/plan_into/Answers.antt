-- `plan::plan_into` meets its contract: the front of the planner's own room is what `plan` prints.
use mathlib.Core.Path.{sym}
use lib.Seq.{length-take-le}
use Rattle.program.specs.Front.{front-within, front-is}
use Rattle.plan.proofs.plan_into.Goals as goal

pub slice_bounds-room-end : goal.slice_bounds-room-end
slice_bounds-room-end c = front-within _ _ _ _ c.plan-size.ensures.length c.plan-size.ensures.bytes

pub slice_bounds-print_into-end : goal.slice_bounds-print_into-end
slice_bounds-print_into-end c =
    sym (length-take-le _ _ (front-within _ _ _ _ c.plan-size.ensures.length c.plan-size.ensures.bytes))

pub returns-clause-answer : goal.returns-clause-answer
returns-clause-answer c =
    rw (← front-is _ _ _ _ c.plan-size.ensures.length c.plan-size.ensures.bytes) c.print_into.ensures.answer

pub returns-clause-bytes : goal.returns-clause-bytes
returns-clause-bytes c =
    rw (← front-is _ _ _ _ c.plan-size.ensures.length c.plan-size.ensures.bytes) c.print_into.ensures.bytes
