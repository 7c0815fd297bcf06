-- `table` meets its contract: each answer is reported as what it stands for.
use Rattle.std.proofs.Common.{ap, ◌∙◌}
use Rattle.text.specs.Answers.{read_outcome}
use Rattle.nolkisei.specs.Reported.{reported}
use Rattle.nolkisei.proofs.report.table.Goals as goal

pub returns-in-Ok : goal.returns-in-Ok
returns-in-Ok c =
    ap reported (ap read_outcome c.in-Ok.is) ∙ (rw (c.from.ensures, c.from-in-Ok.ensures) at c.give.ensures)

pub returns-in-Err : goal.returns-in-Err
returns-in-Err c = ap reported (ap read_outcome c.in-Err.is) ∙ c.refuse.ensures
