-- `nolkisei_order` meets its contract: Order's answer is reported, and both lists are as Order leaves them.
use Rattle.std.proofs.Common.{sym, ◌∙◌}
use Rattle.nolkisei.specs.Reported.{reported-none}
use Rattle.nolkisei.proofs.nolkisei_order.Goals as goal

pub returns-in-Ok-clause-answer : goal.returns-in-Ok-clause-answer
returns-in-Ok-clause-answer c = reported-none _ (sym c.in-Ok.ensures.answer) ∙ c.give.ensures
