-- `nolkisei::report::give` meets its contract: two values are written over both entries.
use mathlib.Core.Path.{refl}
use Rattle.definitions.specs.Lists.{overwrite}
use Rattle.nolkisei.specs.Reported.{reported}
use Rattle.nolkisei.proofs.report.give.Goals as goal

pub returns : goal.returns
unfolding reported overwrite
returns c = refl
