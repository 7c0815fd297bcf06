-- `nolkisei_pair` meets its contract: the pair number's answer is reported.
use Rattle.std.proofs.Common.{sym, ◌∙◌}
use Rattle.nolkisei.specs.Reported.{reported-one}
use Rattle.nolkisei.proofs.nolkisei_pair.Goals as goal

pub returns-in-Ok : goal.returns-in-Ok
returns-in-Ok c = reported-one _ _ (sym c.in-Ok.ensures) ∙ (rw c.from.ensures at c.give.ensures)
