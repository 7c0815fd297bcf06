-- `plan::print::put_numbers` meets its contract. The loop's invariant: writing all the numbers is writing those that are left.
use Prim.Native.Nat.{ℕ}
use mathlib.Core.List.{List}
use mathlib.Core.Path.{subst}
use native.Mathlib.Omega.{arith}
use lib.ListN.{length}
use lib.Seq.{take-length}
use Rattle.definitions.specs.Form.{spaced}
use Rattle.program.specs.Going.{Going, going_start, going_step, going_end}
use Rattle.plan.specs.SheetLines.{numbers-step, numbers-length, numbers-end}
use Rattle.plan.proofs.print.put_numbers.Goals as goal

pub loop-number-init : goal.loop-number-init
loop-number-init c = rw take-length (going_start _ _ _)

pub put_word_number-p-requires : goal.put_word_number-p-requires
put_word_number-p-requires c =
    let numbers = c.args.numbers.now in
    let at = c.loop-number in
    let step = numbers-length numbers at.number-index (length numbers) c.loop-number-test.true (omega arith) in
    rw c.from.ensures (omega (arith, at.invariant.ends, at.invariant.same, c.requires))

pub loop-number-preserved : goal.loop-number-preserved
loop-number-preserved c =
    let numbers = c.args.numbers.now in
    let at = c.loop-number in
    going_step _ _ _ _ _ _ _ _ _ _ at.invariant
    (numbers-step numbers at.number-index (length numbers) c.loop-number-test.true (omega arith))
    (rw c.from.ensures at c.put_word_number-p.ensures)

pub returns : goal.returns
returns c =
    let a = c.args in
    let numbers = a.numbers.now in
    let at = c.loop-number in
    going_end _ _ _ _ _
    (subst (λ (rest : List ℕ). Going a.output.now a.at (spaced numbers) at.output at.p rest)
    (numbers-end numbers at.number-index (length numbers) c.loop-number-test.false) at.invariant)
