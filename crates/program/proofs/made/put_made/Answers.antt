-- `put_made` meets its contract: the reading refused, or its network is written.
use Rattle.std.proofs.Common.{arith}
use Rattle.text_theory.specs.Longest.{longest}
use Rattle.program.specs.Made.{refused-made, network-made}
use Rattle.program.proofs.made.put_made.Goals as goal

pub write_accepted-requires : goal.write_accepted-requires
write_accepted-requires c =
    let t = c.in-Ok.network.table in
    omega (arith, longest t.n t.lows.now t.highs.now t.states.now c.in-Ok.network.accepted, c.requires)

pub returns-in-Ok : goal.returns-in-Ok
returns-in-Ok c =
    rw c.in-Ok.is (network-made c.in-Ok.network _ _ _ c.write_accepted.ensures.value c.write_accepted.ensures.buffer_left)

pub returns-in-Err : goal.returns-in-Err
returns-in-Err c = rw c.in-Err.is (refused-made _ _ _ _ c.requires c.put_any.ensures)
