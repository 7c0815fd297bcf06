-- `import::import_table` meets its contract: a `p` line that departs, or what comes after it.
use Rattle.std.proofs.Common.{sym, ◌∙◌, ap, length}
use Rattle.text.specs.Scans.{pair_gives}
use Rattle.text.specs.Tables.{refused-early, table_same}
use Rattle.import.proofs.ImportLaws.{problem-departs, problem-read}
use Rattle.import.proofs.import_table.Goals as goal

pub returns-in-Err : goal.returns-in-Err
returns-in-Err c =
    let a = c.args in
    refused-early _ a.lows.now a.highs.now a.states.now _
    (problem-departs a.text.now (length a.lows.now) (length a.highs.now) (length a.states.now) _
    (sym c.problem_line.ensures ∙ ap pair_gives c.in-Err.is))

pub returns-in-Ok : goal.returns-in-Ok
returns-in-Ok c =
    let a = c.args in
    table_same _ _ _ _ _ _ _ _ _
    (problem-read a.text.now (length a.lows.now) (length a.highs.now) (length a.states.now) _ _ _
    (sym c.problem_line.ensures ∙ ap pair_gives c.in-Ok.is))
    c.import_rows.ensures
