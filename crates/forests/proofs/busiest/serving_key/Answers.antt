-- The key of a relay in service, and 0 of a withdrawn one.
use mathlib.Core.Path.{sym, ◌∙◌}
use native.Mathlib.Omega.{arith}
use Rattle.forests.proofs.BusiestLaws.{key-serving, key-withdrawn}
use Rattle.forests.proofs.busiest.serving_key.Goals as goal

pub returns-then-state-eq1 : goal.returns-then-state-eq1
returns-then-state-eq1 c =
    let lent = c.args in
    c.key-k.ensures ∙ sym (key-serving lent.r.0 lent.state lent.count c.if-state-eq1.true)

pub returns-else-state-eq1 : goal.returns-else-state-eq1
returns-else-state-eq1 c =
    let lent = c.args in
    sym (key-withdrawn lent.r.0 lent.state lent.count (λ e. omega arith))
