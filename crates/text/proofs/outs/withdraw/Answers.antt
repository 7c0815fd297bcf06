-- `withdraw` meets its contract: ones, and a zero behind them.
use Rattle.std.proofs.Common.{arith}
use Rattle.text.specs.ReadOuts.{withdraw-stored}
use Rattle.text.proofs.outs.withdraw.Goals as goal

pub returns : goal.returns
returns c =
    let a = c.args in
    withdraw-stored a.next.0 a.relay.0 a.states.now _ (omega arith) (omega arith) c.serve.ensures
