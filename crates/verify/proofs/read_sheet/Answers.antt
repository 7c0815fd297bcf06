-- `read_sheet` meets its contract: a text that departs, or what is said of the sheet.
use Rattle.std.proofs.Common.{sym, ◌∙◌, ap}
use Rattle.verify.specs.Gives.{form_gives}
use Rattle.verify.proofs.JudgeLaws.{departs-there}
use Rattle.verify.proofs.read_sheet.Goals as goal

pub returns-in-Err : goal.returns-in-Err
returns-in-Err c =
    let t = c.args.network.table in
    departs-there t.n t.lows.now t.highs.now t.states.now c.args.text.now _ _ (sym c.sheet_form.ensures ∙ ap form_gives c.in-Err.is)
