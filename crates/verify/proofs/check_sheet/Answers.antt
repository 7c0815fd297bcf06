-- `check_sheet` meets its contract: the table check, then the sheet.
use Rattle.std.proofs.Common.{◌≡◌, ◌∙◌, rules, sym}
use Rattle.definitions.specs.Network.{Accepted}
use Rattle.network.specs.Tables.{OfTable}
use Rattle.verify.proofs.JudgeLaws.{table-refused, table-passed}
use Rattle.verify.proofs.check_sheet.Goals as goal

pub returns-in_err-network : goal.returns-in_err-network
returns-in_err-network c =
    let t = c.args.table in
    let refused = table-refused t.n t.lows.now t.highs.now t.states.now c.args.text.now _ _ (sym c.in_err-network.ensures.answer) in
    search rules

pub returns : goal.returns
returns c =
    let t = c.args.table in
    let network = c.in_ok-network.network in
    let same : network.table ≡ t = c.in_ok-network.ensures.same in
    let good : OfTable Accepted t = rw same at network.accepted in
    rw same at c.read_sheet.ensures ∙ table-passed t.n t.lows.now t.highs.now t.states.now c.args.text.now good
