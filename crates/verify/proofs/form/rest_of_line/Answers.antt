-- `rest_of_line` meets its contract: more numbers, and the end of the line.
use Rattle.std.proofs.Common.{refl, rules, sym, ◌∙◌, length}
use Rattle.definitions.specs.Form.{bytes, scan_form, scan_more}
use Rattle.definitions.specs.SheetForm.{line_end}
use Rattle.text_theory.specs.Forms.{no_zero}
use Rattle.text.specs.ItemByItem.{form-word}
use Rattle.verify.specs.Offsets.{rest_of_line}
use Rattle.verify.proofs.FormLaws.{after-departs, after-reads}
use Rattle.verify.proofs.form.rest_of_line.Goals as goal

pub word-requires : goal.word-requires
unfolding no_zero
word-requires c = refl

pub returns-in_err-p : goal.returns-in_err-p
unfolding rest_of_line
returns-in_err-p c =
    let a = c.args in
    let departed =
    after-departs (scan_more a.text.now a.at (length a.text.now)) (scan_form a.text.now line_end) _ (sym c.in_err-p.ensures) in
    search rules

pub returns : goal.returns
unfolding rest_of_line line_end
returns c =
    let a = c.args in
    c.word.ensures
    ∙ sym
    (after-reads (scan_more a.text.now a.at (length a.text.now)) (scan_form a.text.now line_end) _ (sym c.in_ok-p.ensures)
    ∙ form-word a.text.now (bytes ")\n") _)
