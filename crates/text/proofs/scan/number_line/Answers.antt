-- `number_line` meets its contract: one way out for each part that can depart, and one for the whole line.
use Rattle.std.proofs.Common.{rules, sym, ◌∙◌, ap, [], ◌∷◌}
use Rattle.definitions.specs.Form.{Scan, word, reads, with_front, following}
use Rattle.text.specs.ItemByItem.{form-word, first-departs, first_reads}
use Rattle.text.proofs.scan.number_line.Goals as goal

pub returns-in_err-x : goal.returns-in_err-x
unfolding following
returns-in_err-x c =
    let a = c.args in
    let departed =
    ap (λ (s : Scan). following s (reads (0 ∷ [])))
    (first-departs a.text.now a.front.now (word a.back.now ∷ []) a.at _ (sym c.in_err-x.ensures)) in
    search rules

pub returns-in_err-end : goal.returns-in_err-end
unfolding following with_front
returns-in_err-end c =
    let a = c.args in
    let departed =
    ap (λ (s : Scan). following s (reads (0 ∷ [])))
    (first_reads a.text.now a.front.now (word a.back.now ∷ []) a.at _ _ (sym c.in_ok-x.ensures)
    ∙ ap (with_front (c.in_ok-x.x ∷ [])) (form-word a.text.now a.back.now _ ∙ sym c.in_err-end.ensures)) in
    search rules

pub returns : goal.returns
unfolding following with_front
returns c =
    let a = c.args in
    sym
    (ap (λ (s : Scan). following s (reads (0 ∷ [])))
    (first_reads a.text.now a.front.now _ a.at _ _ (sym c.in_ok-x.ensures)
    ∙ ap (with_front (c.in_ok-x.x ∷ [])) (form-word a.text.now a.back.now _ ∙ sym c.in_ok-end.ensures)))
