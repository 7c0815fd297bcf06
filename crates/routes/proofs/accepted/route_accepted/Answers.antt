-- Route in small or in large arrays.
use native.Mathlib.Omega.{arith}
use Rattle.theory.specs.Accepted.{accepted}
use Rattle.forests.proofs.SizeLaws.{small-sizes}
use Rattle.routes.proofs.accepted.route_accepted.Goals as goal

pub scan-requires : goal.scan-requires
scan-requires c =
    let small = small-sizes _ _ c.is_small.ensures c.if-is_small.true in
    (omega arith, (c.new-few.ensures, (small.0, small.1, omega (arith, small.0))))

pub scan-requires-else-is_small : goal.scan-requires-else-is_small
scan-requires-else-is_small c =
    let t = accepted _ _ _ _ c.requires.accepted in
    (omega arith, (c.new-arrays.ensures, (t.few, t.short, omega (arith, t.few))))
