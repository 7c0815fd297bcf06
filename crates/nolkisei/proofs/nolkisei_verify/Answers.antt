-- `nolkisei_verify` meets its contract: what is said of the sheet is reported.
use Rattle.std.proofs.Common.{sym, ◌∙◌}
use Rattle.definitions.specs.SheetTest.{yes_or_no}
use Rattle.nolkisei.specs.Reported.{reported-one}
use Rattle.nolkisei.proofs.nolkisei_verify.Goals as goal

pub returns-in-Ok-true : goal.returns-in-Ok-true
unfolding yes_or_no
returns-in-Ok-true c =
    let told = rw c.in-Ok-true.field-0-test at c.in-Ok-true.ensures in
    reported-one _ _ (sym told) ∙ c.give.ensures

pub returns-in-Ok-false : goal.returns-in-Ok-false
unfolding yes_or_no
returns-in-Ok-false c =
    let told = rw c.in-Ok-false.field-0-test at c.in-Ok-false.ensures in
    reported-one _ _ (sym told) ∙ c.give-in-Ok-false.ensures
