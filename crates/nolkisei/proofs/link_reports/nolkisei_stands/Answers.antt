-- `nolkisei_stands` meets its contract: which text stands is reported with its length.
use Rattle.std.proofs.Common.{sym, ap, ◌∙◌}
use Rattle.definitions.specs.Stands.{first, second, text_of_which, which_number}
use Rattle.stands.specs.Standing.{stands-answer, stands-refused}
use Rattle.nolkisei.specs.Reported.{reported}
use Rattle.nolkisei.proofs.link_reports.nolkisei_stands.Goals as goal

pub returns-in-Ok-First : goal.returns-in-Ok-First
unfolding text_of_which which_number
returns-in-Ok-First c =
    let told = rw c.in-Ok-First.field-0-is at c.in-Ok-First.ensures in
    ap reported (stands-answer _ _ first (sym told)) ∙ c.give.ensures

pub returns-in-Ok-Second : goal.returns-in-Ok-Second
unfolding text_of_which which_number
returns-in-Ok-Second c =
    let told = rw c.in-Ok-Second.field-0-is at c.in-Ok-Second.ensures in
    ap reported (stands-answer _ _ second (sym told)) ∙ c.give-in-Ok-Second.ensures

pub returns-in-Err : goal.returns-in-Err
returns-in-Err c = ap reported (stands-refused _ _ c.in-Err.refusal (sym c.in-Err.ensures)) ∙ c.refuse.ensures
