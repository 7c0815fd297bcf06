-- `sheet_form` meets its contract, by what each part gave.
use Rattle.std.proofs.Common.{rules, sym}
use Rattle.verify.specs.Summary.{head-departs, lines-depart, end-departs, all_read}
use Rattle.verify.proofs.form.sheet_form.Goals as goal

pub returns-in_err-wish : goal.returns-in_err-wish
returns-in_err-wish c =
    let a = c.args in
    let departed = head-departs a.text.now _ (sym c.in_err-wish.ensures) in
    search rules

pub returns-in_err-routes : goal.returns-in_err-routes
returns-in_err-routes c =
    let a = c.args in
    let departed = lines-depart a.text.now _ _ _ _ (sym c.in_ok-wish.ensures) _ (sym c.in_err-routes.ensures) in
    search rules

pub returns-in_err-kept : goal.returns-in_err-kept
returns-in_err-kept c =
    let a = c.args in
    let departed =
    end-departs a.text.now _ _ _ _ (sym c.in_ok-wish.ensures) _ _ (sym c.in_ok-routes.ensures) _ (sym c.in_err-kept.ensures) in
    search rules

pub returns : goal.returns
returns c =
    let a = c.args in
    sym (all_read a.text.now _ _ _ _ (sym c.in_ok-wish.ensures) _ _ (sym c.in_ok-routes.ensures) _ _ (sym c.in_ok-kept.ensures))
