-- After each turn one link more is entered, and one earlier end more put, whatever the states are.
use mathlib.Core.Path.{◌≡◌}
use native.Mathlib.Omega.{arith}
use lib.ListN.{length}
use Rattle.forests.proofs.LeftTableLaws.{left-enters, left-moves, ends-move, left-ends}
use Rattle.forests.proofs.left.left_table.Goals as goal

pub enter_link-requires : goal.enter_link-requires
enter_link-requires c =
    let at = c.loop-i in
    let p = c.requires in
    let so_far = at.invariant p.0 p.1 in
    left-enters p.1 at.i c.loop-i-test.true so_far.0 so_far.1

pub loop-i-preserved : goal.loop-i-preserved
loop-i-preserved c =
    let at = c.loop-i in
    let below = c.loop-i-test.true in
    let entered = c.enter_link.ensures in
    λ states can.
    let so_far = at.invariant states can in (
      left-moves can at.i below so_far.0 so_far.1 entered.table_left,
      ends-move can at.i below so_far.1 entered.forests_left,
    )

pub returns : goal.returns
returns c =
    λ states can.
    let at = c.loop-i in
    let all : at.i ≡ length c.args.table.lows.now = omega arith in
    let whole = at.invariant states can in
    left-ends can (rw all at whole.0) (rw all at whole.1)
