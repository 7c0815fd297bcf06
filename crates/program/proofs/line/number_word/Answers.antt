-- `number_word` meets its contract: one way out for each part that can depart, and one for both.
use Rattle.std.proofs.Common.{rules, [], ◌∷◌, sym, ◌∙◌, ap}
use Rattle.definitions.specs.Form.{with_front}
use Rattle.program.specs.Parts.{number-word-departs, number-word-reads}
use Rattle.program.proofs.line.number_word.Goals as goal

pub returns-in_err-x : goal.returns-in_err-x
returns-in_err-x c =
    let a = c.args in
    let departed = number-word-departs a.text.now a.letters.now a.at _ (sym c.in_err-x.ensures) in
    search rules

pub returns-in_err-q : goal.returns-in_err-q
unfolding with_front
returns-in_err-q c =
    let a = c.args in
    let departed =
    number-word-reads a.text.now a.letters.now a.at _ _ (sym c.in_ok-x.ensures)
    ∙ ap (with_front (c.in_ok-x.x ∷ [])) (sym c.in_err-q.ensures) in
    search rules

pub returns : goal.returns
unfolding with_front
returns c =
    let a = c.args in
    sym
    (number-word-reads a.text.now a.letters.now a.at _ _ (sym c.in_ok-x.ensures)
    ∙ ap (with_front (c.in_ok-x.x ∷ [])) (sym c.in_ok-q.ensures))
