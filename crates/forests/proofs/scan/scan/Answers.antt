-- The scan in arrays of one of three sizes.
use Rattle.std.proofs.Common.{arith}
use Rattle.theory.specs.Accepted.{accepted}
use Rattle.forests.proofs.SizeLaws.{small-sizes}
use Rattle.forests.proofs.scan.scan.Goals as goal

pub scan_sized-requires-then-is_small-clause-fits :
    goal.scan_sized-requires-then-is_small-clause-fits
scan_sized-requires-then-is_small-clause-fits c =
    let small = small-sizes _ _ c.is_small.ensures c.if-is_small.true in
    (small.0, omega arith)

pub scan_sized-requires-else-is_small-clause-fits :
    goal.scan_sized-requires-else-is_small-clause-fits
scan_sized-requires-else-is_small-clause-fits c =
    let table = accepted _ _ _ _ c.args.network.accepted in
    (table.few, omega (arith, table.short))
