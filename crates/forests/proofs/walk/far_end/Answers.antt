-- By the side of the half-link.
use mathlib.Core.Path.{sym}
use Prim.Native.Nat.{◌%◌}
use Rattle.forests.specs.Walk.{across_of}
use Rattle.forests.proofs.WalkLaws.{pick-eq, pick-ne}
use Rattle.forests.proofs.walk.far_end.Goals as goal

pub returns-then-h-eq0 : goal.returns-then-h-eq0
unfolding across_of
returns-then-h-eq0 c = let a = c.args in sym (pick-eq (a.h % 2) 0 a.high.0 a.low.0 c.if-h-eq0.true)

pub returns-else-h-eq0 : goal.returns-else-h-eq0
unfolding across_of
returns-else-h-eq0 c = let a = c.args in sym (pick-ne (a.h % 2) 0 a.high.0 a.low.0 c.if-h-eq0.false)
