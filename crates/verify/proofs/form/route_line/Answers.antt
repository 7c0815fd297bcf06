-- `route_line` meets its contract: the first relay, the second, and the rest of the line.
use Rattle.std.proofs.Common.{refl, rules, sym, ◌∙◌}
use Rattle.text_theory.specs.Forms.{no_zero}
use Rattle.verify.proofs.FormLaws.{route-departs, route-departs-later, route-reads}
use Rattle.verify.proofs.form.route_line.Goals as goal

pub word_number-requires : goal.word_number-requires
unfolding no_zero
word_number-requires c = refl

pub word_number-requires-2 : goal.word_number-requires-2
unfolding no_zero
word_number-requires-2 c = refl

pub returns-in_err-p : goal.returns-in_err-p
returns-in_err-p c =
    let a = c.args in
    let departed = route-departs a.text.now a.at _ (sym c.in_err-p.ensures) in
    search rules

pub returns-in_err-q : goal.returns-in_err-q
returns-in_err-q c =
    let a = c.args in
    let departed = route-departs-later a.text.now a.at _ _ _ (sym c.in_ok-p.ensures) (sym c.in_err-q.ensures) in
    search rules

pub returns : goal.returns
returns c =
    let a = c.args in
    c.rest_of_line.ensures ∙ sym (route-reads a.text.now a.at _ _ _ _ (sym c.in_ok-p.ensures) (sym c.in_ok-q.ensures))
