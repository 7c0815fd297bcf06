-- `nolkisei_check` meets its contract: the table check's answer is reported.
use Rattle.std.proofs.Common.{sym, ◌∙◌}
use Rattle.nolkisei.specs.Reported.{reported-none}
use Rattle.nolkisei.proofs.nolkisei_check.Goals as goal

pub returns-in-Ok : goal.returns-in-Ok
returns-in-Ok c = reported-none _ (sym c.in-Ok.ensures.answer) ∙ c.give.ensures
