-- `form_line` meets its contract: two forms are three words with two numbers between them, one is two words with a number between
-- them, and the end is a word.
use Rattle.std.proofs.Common.{rules, refl, sym, ◌∙◌}
use Rattle.definitions.specs.Text.{header_form, link_form, out_form, end_form}
use Rattle.text_theory.specs.Forms.{no_zero}
use Rattle.text.specs.DueForms.{end-departs-pair, end-reads-pair}
use Rattle.text.specs.ItemByItem.{form-word}
use Rattle.text.proofs.scan.form_line.Goals as goal

pub pair_line-requires : goal.pair_line-requires
unfolding no_zero
pair_line-requires c = record { front_value = refl; middle_value = refl; back_value = refl }

pub pair_line-requires-in-Link : goal.pair_line-requires-in-Link
unfolding no_zero
pair_line-requires-in-Link c = record { front_value = refl; middle_value = refl; back_value = refl }

pub number_line-requires : goal.number_line-requires
unfolding no_zero
number_line-requires c = record { front_value = refl; back_value = refl }

pub word-requires : goal.word-requires
unfolding no_zero
word-requires c = refl

pub returns-in-Header : goal.returns-in-Header
unfolding header_form
returns-in-Header c = rw c.in-Header.is c.pair_line.ensures

pub returns-in-Link : goal.returns-in-Link
unfolding link_form
returns-in-Link c = rw c.in-Link.is c.pair_line-in-Link.ensures

pub returns-in-Out : goal.returns-in-Out
unfolding out_form
returns-in-Out c = rw c.in-Out.is c.number_line.ensures

pub returns-in_err-end-in-End : goal.returns-in_err-end-in-End
unfolding end_form
returns-in_err-end-in-End c =
    let departed = end-departs-pair _ _ (form-word _ _ _ ∙ sym c.in_err-end-in-End.ensures) in
    rw c.in-End.is (search rules)

pub returns-in_ok-end-in-End : goal.returns-in_ok-end-in-End
unfolding end_form
returns-in_ok-end-in-End c = rw c.in-End.is (end-reads-pair _ _ (form-word _ _ _ ∙ sym c.in_ok-end-in-End.ensures))
