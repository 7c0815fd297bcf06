-- `refuse` meets its contract: the refusal's number and place.
use Rattle.std.proofs.Common.{◌∙◌}
use Rattle.nolkisei.specs.Reported.{reported-refusal}
use Rattle.nolkisei.proofs.report.refuse.Goals as goal

pub returns : goal.returns
returns c = reported-refusal c.args.refusal _ _ (c.from.ensures ∙ c.number.ensures) c.place.ensures
