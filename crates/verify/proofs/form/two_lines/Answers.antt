-- `two_lines` meets its contract, by what each line gave.
use Rattle.std.proofs.Common.{rules, sym}
use Rattle.verify.proofs.FormLaws.{two-departs, two-departs-later, two-reads}
use Rattle.verify.proofs.form.two_lines.Goals as goal

pub returns-in_err-over : goal.returns-in_err-over
returns-in_err-over c =
    let a = c.args in
    let departed = two-departs a.text.now a.at _ (sym c.in_err-over.ensures) in
    search rules

pub returns-in_err-next : goal.returns-in_err-next
returns-in_err-next c =
    let a = c.args in
    let departed = two-departs-later a.text.now a.at _ _ (sym c.in_ok-over.ensures) (sym c.in_err-next.ensures) in
    search rules

pub returns : goal.returns
returns c =
    let a = c.args in
    sym (two-reads a.text.now a.at _ _ (sym c.in_ok-over.ensures) (sym c.in_ok-next.ensures))
