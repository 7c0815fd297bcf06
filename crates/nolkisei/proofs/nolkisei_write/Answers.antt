-- `nolkisei_write` meets its contract: Write's answer is reported, and the buffer is as Write leaves it.
use Rattle.std.proofs.Common.{sym, ◌∙◌}
use Rattle.nolkisei.specs.Reported.{reported-one}
use Rattle.nolkisei.proofs.nolkisei_write.Goals as goal

pub returns-in-Ok-clause-answer : goal.returns-in-Ok-clause-answer
returns-in-Ok-clause-answer c = reported-one _ _ (sym c.in-Ok.ensures.answer) ∙ c.give.ensures
