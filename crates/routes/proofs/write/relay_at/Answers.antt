-- `relay_at` meets its contract.
use Rattle.definitions.specs.Order.{relay_at}
use Rattle.std.proofs.Common.{◌≡◌, pred, arith}
use Rattle.routes.proofs.write.relay_at.Goals as goal

pub returns : goal.returns
unfolding relay_at
returns c =
    let a = c.args in
    let e : c.saturating_sub.result ≡ pred a.p.0 = omega arith in
    rw e at c.get.ensures
