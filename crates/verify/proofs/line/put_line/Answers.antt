-- `put_line` meets its contract: the line of each answer.
use Rattle.std.proofs.Common.{◌≡◌, ◌∙◌, sym, ap}
use Rattle.definitions.specs.Program.{printed}
use Rattle.definitions.specs.SheetTest.{sheet_answer}
use Rattle.network.specs.Tables.{of_table}
use Rattle.verify.specs.Answers.{sheet_outcome}
use Rattle.verify.proofs.JudgeLaws.{table-passed}
use Rattle.verify.proofs.LineLaws.{line_of, holds-line, fails-line}
use Rattle.verify.proofs.line.put_line.Goals as goal

pub returns-in-Ok-true : goal.returns-in-Ok-true
returns-in-Ok-true c =
    let a = c.args in
    let said : sheet_outcome c.read_sheet.result ≡ of_table sheet_answer a.network.table a.text.now =
    c.read_sheet.ensures ∙ table-passed _ _ _ _ _ a.network.accepted in
    line_of _ _ (sym said ∙ ap sheet_outcome c.in-Ok-true.is) (holds-line c.in-Ok-true.field-0-test c.put_word.ensures)

pub returns-in-Ok-false : goal.returns-in-Ok-false
returns-in-Ok-false c =
    let a = c.args in
    let said : sheet_outcome c.read_sheet.result ≡ of_table sheet_answer a.network.table a.text.now =
    c.read_sheet.ensures ∙ table-passed _ _ _ _ _ a.network.accepted in
    line_of _ _ (sym said ∙ ap sheet_outcome c.in-Ok-false.is) (fails-line c.in-Ok-false.field-0-test c.put_word-in-Ok-false.ensures)

pub returns-in-Err : goal.returns-in-Err
unfolding printed
returns-in-Err c =
    let a = c.args in
    let said : sheet_outcome c.read_sheet.result ≡ of_table sheet_answer a.network.table a.text.now =
    c.read_sheet.ensures ∙ table-passed _ _ _ _ _ a.network.accepted in
    line_of _ _ (sym said ∙ ap sheet_outcome c.in-Err.is) c.put_any.ensures
