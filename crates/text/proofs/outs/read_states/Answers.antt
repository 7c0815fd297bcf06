-- `read_states` meets its contract: the end comes behind the last line.
use Rattle.std.proofs.Common.{refl, arith}
use Rattle.text.specs.ReadOuts.{outs-told}
use Rattle.text.proofs.outs.read_states.Goals as goal

pub returns : goal.returns
returns c = outs-told _ _ _ _ _ _ c.in_ok-p.ensures _ _ (omega arith) refl c.read_end.ensures
