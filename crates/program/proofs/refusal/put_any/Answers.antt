-- `put_any` meets its contract: both numbers are of 64 bits, so the line has room.
use Rattle.std.proofs.Common.{arith}
use Rattle.program.specs.RefusedLine.{refused-fits}
use Rattle.program.proofs.refusal.put_any.Goals as goal

pub put_refused-requires : goal.put_refused-requires
put_refused-requires c =
    omega (arith, refused-fits c.number.result c.place.result (omega arith) (omega arith), c.requires)

pub returns : goal.returns
returns c =
    rw (← c.number.ensures, ← c.place.ensures)
    (record { put = c.put_refused.ensures; fits = refused-fits c.number.result c.place.result (omega arith) (omega arith) })
