-- `over_line` meets its contract: the first link, and the rest of the line.
use Rattle.std.proofs.Common.{refl, rules, sym, ◌∙◌}
use Rattle.definitions.specs.SheetForm.{over_front}
use Rattle.text_theory.specs.Forms.{no_zero}
use Rattle.verify.proofs.FormLaws.{over-departs, over_reads}
use Rattle.verify.proofs.form.over_line.Goals as goal

pub word_number-requires : goal.word_number-requires
unfolding no_zero
word_number-requires c = refl

pub returns-in_err-p : goal.returns-in_err-p
unfolding over_front
returns-in_err-p c =
    let a = c.args in
    let departed = over-departs a.text.now a.at _ (sym c.in_err-p.ensures) in
    search rules

pub returns : goal.returns
unfolding over_front
returns c =
    let a = c.args in
    c.rest_of_line.ensures ∙ sym (over_reads a.text.now a.at _ _ (sym c.in_ok-p.ensures))
