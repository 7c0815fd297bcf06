-- `nolkisei_cut` meets its contract: Cut's answer is reported, and the list is as Cut leaves it.
use Rattle.std.proofs.Common.{sym, ◌∙◌}
use Rattle.nolkisei.specs.Reported.{reported-one}
use Rattle.nolkisei.proofs.nolkisei_cut.Goals as goal

pub returns-in-Ok-clause-answer : goal.returns-in-Ok-clause-answer
returns-in-Ok-clause-answer c = reported-one _ _ (sym c.in-Ok.ensures.answer) ∙ (rw c.from.ensures at c.give.ensures)
