-- `pair_line` meets its contract: one way out for each part that can depart, and one for the whole line.
use Rattle.std.proofs.Common.{rules, sym, ◌∙◌, ap, [], ◌∷◌}
use Rattle.definitions.specs.Form.{word, numeral, with_front}
use Rattle.text.specs.ItemByItem.{form-word, first-departs, first_reads}
use Rattle.text.proofs.scan.pair_line.Goals as goal

pub returns-in_err-a : goal.returns-in_err-a
returns-in_err-a c =
    let a = c.args in
    let rest = word a.middle.now ∷ numeral ∷ word a.back.now ∷ [] in
    let departed = first-departs a.text.now a.front.now rest a.at _ (sym c.in_err-a.ensures) in
    search rules

pub returns-in_err-b : goal.returns-in_err-b
unfolding with_front
returns-in_err-b c =
    let a = c.args in
    let rest = word a.middle.now ∷ numeral ∷ word a.back.now ∷ [] in
    let departed =
    first_reads a.text.now a.front.now rest a.at _ _ (sym c.in_ok-a.ensures)
    ∙ ap (with_front (c.in_ok-a.a ∷ [])) (first-departs a.text.now a.middle.now (word a.back.now ∷ []) _ _ (sym c.in_err-b.ensures)) in
    search rules

pub returns-in_err-end : goal.returns-in_err-end
unfolding with_front
returns-in_err-end c =
    let a = c.args in
    let rest = word a.middle.now ∷ numeral ∷ word a.back.now ∷ [] in
    let departed =
    first_reads a.text.now a.front.now rest a.at _ _ (sym c.in_ok-a.ensures)
    ∙ ap (with_front (c.in_ok-a.a ∷ []))
    (first_reads a.text.now a.middle.now (word a.back.now ∷ []) _ _ _ (sym c.in_ok-b.ensures)
    ∙ ap (with_front (c.in_ok-b.b ∷ [])) (form-word a.text.now a.back.now _ ∙ sym c.in_err-end.ensures)) in
    search rules

pub returns : goal.returns
unfolding with_front
returns c =
    let a = c.args in
    sym
    (first_reads a.text.now a.front.now _ a.at _ _ (sym c.in_ok-a.ensures)
    ∙ ap (with_front (c.in_ok-a.a ∷ []))
    (first_reads a.text.now a.middle.now _ _ _ _ (sym c.in_ok-b.ensures)
    ∙ ap (with_front (c.in_ok-b.b ∷ [])) (form-word a.text.now a.back.now _ ∙ sym c.in_ok-end.ensures)))
