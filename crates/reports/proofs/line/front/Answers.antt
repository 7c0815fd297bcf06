-- `reports::line::front` meets its contract, by what the word with the number and the space gave.
use Rattle.std.proofs.Common.{rules, refl, sym, ◌∙◌, ap, [], ◌∷◌}
use Rattle.definitions.specs.Form.{bytes, word, with_front}
use Rattle.definitions.specs.Reports.{report_front}
use Rattle.text_theory.specs.Forms.{no_zero}
use Rattle.text.specs.ItemByItem.{form-word, first-departs, first_reads}
use Rattle.reports.proofs.line.front.Goals as goal

pub word_number-requires : goal.word_number-requires
unfolding no_zero
word_number-requires c = refl

pub word-requires : goal.word-requires
unfolding no_zero
word-requires c = refl

pub returns-in_err-relay : goal.returns-in_err-relay
unfolding report_front
returns-in_err-relay c =
    let a = c.args in
    let departed = first-departs a.text.now (bytes "(report ") (word (bytes " ") ∷ []) a.at _ (sym c.in_err-relay.ensures) in
    search rules

pub returns-in_err-q : goal.returns-in_err-q
unfolding with_front report_front
returns-in_err-q c =
    let a = c.args in
    let departed =
    first_reads a.text.now (bytes "(report ") (word (bytes " ") ∷ []) a.at _ _ (sym c.in_ok-relay.ensures)
    ∙ ap (with_front (c.in_ok-relay.relay ∷ [])) (form-word a.text.now (bytes " ") _ ∙ sym c.in_err-q.ensures) in
    search rules

pub returns : goal.returns
unfolding with_front report_front
returns c =
    let a = c.args in
    sym
    (first_reads a.text.now (bytes "(report ") (word (bytes " ") ∷ []) a.at _ _ (sym c.in_ok-relay.ensures)
    ∙ ap (with_front (c.in_ok-relay.relay ∷ [])) (form-word a.text.now (bytes " ") _ ∙ sym c.in_ok-q.ensures))
