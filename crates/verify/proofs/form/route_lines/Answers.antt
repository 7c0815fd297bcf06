-- `route_lines` meets its contract: no route is due, one that departs, one more route, and none left.
use Rattle.std.proofs.Common.{◌≡◌, ◌∙◌, ◌-◌, ◌+◌, rules, sym, ap, arith, length}
use Rattle.verify.specs.Offsets.{count_lines}
use Rattle.verify.proofs.FormLaws.{count-stops, count-departs, count-step, count-ends}
use Rattle.verify.proofs.form.route_lines.Goals as goal

pub returns-then-not-route_due : goal.returns-then-not-route_due
returns-then-not-route_due c =
    let a = c.args in
    let l = c.loop-count in
    sym
    (l.invariant
    ∙ count-stops a.text.now l.count l.p (length a.text.now - l.count) (sym c.route_due.ensures ∙ c.if-not-route_due.true))

pub returns-in_err-p : goal.returns-in_err-p
returns-in_err-p c =
    let a = c.args in
    let l = c.loop-count in
    let departed =
    l.invariant
    ∙ count-departs a.text.now l.count l.p (length a.text.now - l.count) _ (omega arith)
    (sym c.route_due.ensures ∙ c.if-not-route_due.false) (sym c.in_err-p.ensures) in
    search rules

pub loop-count-preserved : goal.loop-count-preserved
loop-count-preserved c =
    let a = c.args in
    let l = c.loop-count in
    let fewer : length a.text.now - l.count - 1 ≡ length a.text.now - (l.count + 1) = omega arith in
    l.invariant
    ∙ count-step a.text.now l.count l.p (length a.text.now - l.count) _ _ (omega arith)
    (sym c.route_due.ensures ∙ c.if-not-route_due.false) (sym c.in_ok-p.ensures)
    ∙ ap (count_lines a.text.now (l.count + 1) _) fewer

pub returns : goal.returns
returns c =
    let a = c.args in
    let l = c.loop-count in
    let none : length a.text.now - l.count ≡ 0 = omega arith in
    let all : l.count ≡ length a.text.now = omega arith in
    sym (l.invariant ∙ count-ends a.text.now l.count l.p (length a.text.now - l.count) none ∙ rw all)
