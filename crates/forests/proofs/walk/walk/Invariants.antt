-- After each turn the links of x below that of the half-link h are visited.
use mathlib.Core.Path.{◌≡◌}
use Prim.Native.Nat.{◌-◌, ◌*◌}
use lib.ListN.{length}
use Rattle.forests.proofs.WalkTurns.{Walking}
use Rattle.forests.proofs.walk.walk.Given as goal

abbrev pub invariant-loop-h : goal.invariant-loop-h
invariant-loop-h l =
    Walking l.lows l.highs l.fn.x.0 l.h l.initial.counts l.counts l.bits l.initial.forests l.forests × (length l.bits ≡ length l.initial.bits)

abbrev pub decreases-loop-h : goal.decreases-loop-h
decreases-loop-h l = 2 * length l.lows - l.h
