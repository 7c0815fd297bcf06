-- `nolkisei_keep` meets its contract: the answer is reported, and the output is as the list of links leaves it.
use Rattle.std.proofs.Common.{sym, ◌∙◌}
use Rattle.nolkisei.specs.Reported.{reported-one}
use Rattle.nolkisei.proofs.printed.nolkisei_keep.Goals as goal

pub returns-in-Ok-clause-answer : goal.returns-in-Ok-clause-answer
returns-in-Ok-clause-answer c = reported-one _ _ (sym c.in-Ok.ensures.answer) ∙ c.give.ensures
