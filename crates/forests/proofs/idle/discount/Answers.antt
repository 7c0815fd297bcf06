-- After each turn one link more counts at its ends only if both are in service.
use native.Mathlib.Omega.{arith}
use mathlib.Core.Path.{◌≡◌}
use lib.ListN.{length}
use Rattle.forests.proofs.IdleLinkLaws.{discount-starts, both-counted, discount-more, discount-ends}
use Rattle.forests.proofs.idle.discount.Goals as goal

pub loop-i-init : goal.loop-i-init
loop-i-init c =
    let a = c.args in
    discount-starts a.lows.now a.highs.now a.states.now a.counts.now c.requires.counted

pub discount_link-requires : goal.discount_link-requires
discount_link-requires c =
    let a = c.args in
    let at = c.loop-i in
    let within = c.loop-i-test.true in (
      c.requires.proper.ordered at.i within,
      omega (arith, c.requires.proper.below at.i within, c.requires.room, at.auto.counts),
      both-counted a.lows.now a.highs.now a.states.now (length a.states.now) a.counts.now c.requires at.counts
          at.i within at.invariant,
    )

pub loop-i-preserved : goal.loop-i-preserved
loop-i-preserved c =
    let a = c.args in
    let at = c.loop-i in
    discount-more a.lows.now a.highs.now a.states.now (length a.states.now) a.counts.now c.requires at.counts
    at.i c.loop-i-test.true at.invariant (omega (arith, at.auto.counts)) c.discount_link.ensures

pub returns : goal.returns
returns c =
    let a = c.args in
    let at = c.loop-i in
    let all : at.i ≡ length a.lows.now = omega arith in
    discount-ends a.lows.now a.highs.now a.states.now at.counts (rw all at at.invariant)
