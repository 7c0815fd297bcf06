-- `good_steps` meets its contract.
use Rattle.std.proofs.lemmas.Bool.{ne_eqb}
use Rattle.definitions.specs.SheetTest.{good_steps}
use Rattle.verify.proofs.walk.good_steps.Goals as goal
use Rattle.verify.proofs.walk.good_steps.Goals.{then-steps-eq1, else-steps-eq1}

pub returns-after-steps-eq1 : goal.returns-after-steps-eq1
unfolding good_steps
returns-after-steps-eq1 c =
    let a = c.args in
    elim c.if-steps-eq1.branch [
      | then-steps-eq1 w ↦ rw (w.result-is, w.if-steps-eq1.true)
      | else-steps-eq1 w ↦ rw (w.result-is, ne_eqb a.steps 1 w.if-steps-eq1.false, ne_eqb a.steps 0 c.if-steps-ne0.true)
    ]

pub returns-else-steps-ne0 : goal.returns-else-steps-ne0
unfolding good_steps
returns-else-steps-ne0 c = rw c.if-steps-ne0.false
