-- `route_due` meets its contract: past the end of the text stands no byte.
use Rattle.std.proofs.Common.{ℕ, ◌≡◌, ◌∙◌, ◌≤◌, ◌+◌, false, eqb, sym, ap, arith, length}
use Rattle.std.proofs.Math.ListN.{get_or-eq_default}
use Rattle.std.proofs.lemmas.Bool.{le-ltb}
use Rattle.definitions.specs.Form.{byte_at}
use Rattle.verify.proofs.form.route_due.Goals as goal

pub returns-else-at-text : goal.returns-else-at-text
unfolding byte_at
returns-else-at-text c =
    let a = c.args in
    let past : length a.text.now ≤ a.at + 1 = omega (arith, c.if-at-text.false) in
    let none : eqb (byte_at a.text.now (a.at + 1)) 114 ≡ false = ap (λ (b : ℕ). eqb b 114) (get_or-eq_default a.text.now 0 past) in
    le-ltb a.at (length a.text.now) (omega (arith, c.if-at-text.false)) ∙ sym none
