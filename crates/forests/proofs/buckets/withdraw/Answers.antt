-- Withdrawn relays wait no more; where there are none, all wait.
use native.Mathlib.Omega.{arith}
use Rattle.forests.proofs.StartLaws.{all-waiting}
use Rattle.forests.proofs.buckets.withdraw.Goals as goal

pub returns-else-turns-n : goal.returns-else-turns-n
returns-else-turns-n c =
    let a = c.args in
    (all-waiting a.n a.states.now a.counts.now (omega (arith, c.if-turns-n.false, c.requires.0)) c.requires.2, c.requires.3)
