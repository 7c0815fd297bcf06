-- `nolkisei_plan` meets its contract: the planner's answer is reported, and the output is as it leaves it.
use Rattle.std.proofs.Common.{sym, ◌∙◌}
use Rattle.nolkisei.specs.Reported.{reported-one}
use Rattle.nolkisei.proofs.printed.nolkisei_plan.Goals as goal

pub returns-in-Ok-clause-answer : goal.returns-in-Ok-clause-answer
returns-in-Ok-clause-answer c = reported-one _ _ (sym c.in-Ok.ensures.answer) ∙ c.give.ensures
