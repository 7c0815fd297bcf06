-- `single_line` meets its contract: a word with a number, and the word after it.
use Rattle.std.proofs.Common.{rules, [], ◌∷◌, sym, ◌∙◌, ap}
use Rattle.definitions.specs.Form.{word, with_front}
use Rattle.text.specs.ItemByItem.{form-word, first-departs, first_reads}
use Rattle.program.proofs.line.single_line.Goals as goal

pub returns-in_err-x : goal.returns-in_err-x
returns-in_err-x c =
    let a = c.args in
    let departed = first-departs a.text.now a.front.now (word a.back.now ∷ []) a.at _ (sym c.in_err-x.ensures) in
    search rules

pub returns-in_err-q : goal.returns-in_err-q
unfolding with_front
returns-in_err-q c =
    let a = c.args in
    let departed =
    first_reads a.text.now a.front.now (word a.back.now ∷ []) a.at _ _ (sym c.in_ok-x.ensures)
    ∙ ap (with_front (c.in_ok-x.x ∷ [])) (form-word a.text.now a.back.now _ ∙ sym c.in_err-q.ensures) in
    search rules

pub returns : goal.returns
unfolding with_front
returns c =
    let a = c.args in
    sym
    (first_reads a.text.now a.front.now (word a.back.now ∷ []) a.at _ _ (sym c.in_ok-x.ensures)
    ∙ ap (with_front (c.in_ok-x.x ∷ [])) (form-word a.text.now a.back.now _ ∙ sym c.in_ok-q.ensures))
