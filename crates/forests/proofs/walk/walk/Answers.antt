-- After each turn the links of x below that of the half-link h are visited.
use mathlib.Core.Path.{◌≡◌}
use Prim.Native.Nat.{◌/◌, ◌<◌}
use native.Mathlib.Omega.{arith}
use lib.ListN.{length}
use Rattle.forests.proofs.WalkTurns.{Walking, walk-starts, walk-visits, walk-moves}
use Rattle.forests.proofs.walk.walk.Goals as goal

pub leave-count-requires : goal.leave-count-requires
leave-count-requires c =
    let p = c.requires in (omega (arith, p.relay, p.count_room), p.sorted)

pub loop-h-init : goal.loop-h-init
loop-h-init c =
    (walk-starts c.requires c.leave-count.ensures.moved c.from-h.result (rw c.from.ensures at c.from-h.ensures), omega arith)

pub visit-h-requires : goal.visit-h-requires
visit-h-requires c =
    walk-visits c.requires c.leave-count.ensures.moved c.loop-h.h (omega arith) c.loop-h.invariant.0

pub loop-h-smaller : goal.loop-h-smaller
loop-h-smaller c =
    let moved : let a = c.args in
    let visited = c.visit-h in
    (c.loop-h.h < visited.result)
    × Walking a.lows.now a.highs.now a.x.0 visited.result c.leave-count.new.counts
    visited.new.counts visited.new.bits a.forests.now visited.new.forests =
    let visited = c.visit-h in
    walk-moves c.requires c.leave-count.ensures.moved c.loop-h.h c.loop-h-test.true c.loop-h.invariant.0 visited.result
    visited.ensures in
    omega (arith, (moved).0)

pub loop-h-preserved : goal.loop-h-preserved
loop-h-preserved c =
    let moved : let a = c.args in
    let visited = c.visit-h in
    (c.loop-h.h < visited.result)
    × Walking a.lows.now a.highs.now a.x.0 visited.result c.leave-count.new.counts
    visited.new.counts visited.new.bits a.forests.now visited.new.forests =
    let visited = c.visit-h in
    walk-moves c.requires c.leave-count.ensures.moved c.loop-h.h c.loop-h-test.true c.loop-h.invariant.0 visited.result
    visited.ensures in
    ((moved).1, omega (arith, c.loop-h.invariant.1))

pub returns : goal.returns
returns c =
    let link : c.loop-h.h / 2 ≡ length c.args.lows.now = omega arith in record {
      value = c.leave-count.ensures.value;
      walked = rw (link, c.leave-count.ensures.moved.stored) at c.loop-h.invariant.0.2;
      buckets = c.loop-h.invariant.0.3;
    }
