-- `keep::keep_into` meets its contract: the front of the list's own room is what `keep` prints.
use mathlib.Core.Path.{sym}
use lib.Seq.{length-take-le}
use Rattle.program.specs.Front.{front-within, front-is}
use Rattle.keep.proofs.keep_into.Goals as goal

pub slice_bounds-room-end : goal.slice_bounds-room-end
slice_bounds-room-end c = front-within _ _ _ _ c.keep-size.ensures.length c.keep-size.ensures.bytes

pub slice_bounds-print_into-end : goal.slice_bounds-print_into-end
slice_bounds-print_into-end c =
    sym (length-take-le _ _ (front-within _ _ _ _ c.keep-size.ensures.length c.keep-size.ensures.bytes))

pub returns-clause-answer : goal.returns-clause-answer
returns-clause-answer c =
    rw (← front-is _ _ _ _ c.keep-size.ensures.length c.keep-size.ensures.bytes) c.print_into.ensures.answer

pub returns-clause-bytes : goal.returns-clause-bytes
returns-clause-bytes c =
    rw (← front-is _ _ _ _ c.keep-size.ensures.length c.keep-size.ensures.bytes) c.print_into.ensures.bytes
