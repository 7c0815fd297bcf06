-- `plan::print::put_numbers` meets its contract. The loop's invariant: writing all the numbers is writing those that are left.
use lib.ListN.{length}
use lib.Seq.{slice}
use Rattle.definitions.specs.Form.{spaced}
use Rattle.program.specs.Going.{Going}
use Rattle.plan.proofs.print.put_numbers.Given as goal

abbrev pub invariant-loop-number : goal.invariant-loop-number
invariant-loop-number l =
    Going l.initial.output l.at (spaced l.numbers) l.output l.p (spaced (slice l.number-index (length l.numbers) l.numbers))
