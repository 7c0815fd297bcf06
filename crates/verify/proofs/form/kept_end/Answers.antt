-- `kept_end` meets its contract: the word with the count, the two line ends, and nothing after them.
use Rattle.std.proofs.Common.{refl, rules, sym}
use Rattle.text_theory.specs.Forms.{no_zero}
use Rattle.verify.proofs.EndLaws.{kept-departs, kept-departs-later, kept_more, kept-reads}
use Rattle.verify.proofs.form.kept_end.Goals as goal

pub word_number-requires : goal.word_number-requires
unfolding no_zero
word_number-requires c = refl

pub word-requires : goal.word-requires
unfolding no_zero
word-requires c = refl

pub returns-in_err-kept : goal.returns-in_err-kept
returns-in_err-kept c =
    let a = c.args in
    let departed = kept-departs a.text.now a.at _ (sym c.in_err-kept.ensures) in
    search rules

pub returns-in_err-q : goal.returns-in_err-q
returns-in_err-q c =
    let a = c.args in
    let departed = kept-departs-later a.text.now a.at _ _ (sym c.in_ok-kept.ensures) _ (sym c.in_err-q.ensures) in
    search rules

pub returns-then-q-text : goal.returns-then-q-text
returns-then-q-text c =
    let a = c.args in
    sym (kept_more a.text.now a.at _ _ (sym c.in_ok-kept.ensures) _ (sym c.in_ok-q.ensures) c.if-q-text.true)

pub returns : goal.returns
returns c =
    let a = c.args in
    sym (kept-reads a.text.now a.at _ _ (sym c.in_ok-kept.ensures) _ (sym c.in_ok-q.ensures) c.if-q-text.false)
