-- `walk` meets its contract: both lines have run out, one of them has, a step fails, or the walk goes on.
use Rattle.std.proofs.Common.{◌∙◌, ◌≡◌, ◌+◌, length, sym, subst, arith}
use Rattle.lists.specs.Bitmap.{marked}
use Rattle.verify.specs.Walks.{NextHolds}
use Rattle.verify.proofs.WalkLaws.{walk_ends, walk-last, walk-uneven, walk-fails, walk_steps, walked_to, walk-failed}
use Rattle.verify.proofs.walk.walk.Goals as goal

pub returns-in-End : goal.returns-in-End
returns-in-End c =
    let a = c.args in
    let t = a.network.table in
    let l = c.loop-steps in
    let none = subst (NextHolds a.text.now l.at.relays l.at.links) c.in-End.is c.next_step.ensures in
    walked_to
    (l.invariant
    ∙ walk_ends t.n t.lows.now t.highs.now t.states.now a.text.now a.to.0 (marked l.marks) l.steps l.a.0 l.at.relays l.at.links none.0 none.1)
    c.steps_at.ensures

pub returns-in-Uneven : goal.returns-in-Uneven
returns-in-Uneven c =
    let a = c.args in
    let t = a.network.table in
    let l = c.loop-steps in
    let uneven = subst (NextHolds a.text.now l.at.relays l.at.links) c.in-Uneven.is c.next_step.ensures in
    walk-failed
    (l.invariant
    ∙ walk-uneven t.n t.lows.now t.highs.now t.states.now a.text.now a.to.0 (marked l.marks) l.steps l.a.0 l.at.relays l.at.links
    (omega arith) uneven)

pub returns-then-not-step : goal.returns-then-not-step
returns-then-not-step c =
    let a = c.args in
    let t = a.network.table in
    let l = c.loop-steps in
    let next = subst (NextHolds a.text.now l.at.relays l.at.links) c.in-Step.is c.next_step.ensures in
    walk-failed
    (l.invariant
    ∙ walk-fails t.n t.lows.now t.highs.now t.states.now a.text.now a.to.0 (marked l.marks) l.steps l.a.0 l.at.relays l.at.links
    (omega arith) _ _ _ _ next.0 next.1 (sym c.step.ensures.holds ∙ c.if-not-step.true))

pub loop-steps-preserved : goal.loop-steps-preserved
loop-steps-preserved c =
    let a = c.args in
    let t = a.network.table in
    let l = c.loop-steps in
    let next = subst (NextHolds a.text.now l.at.relays l.at.links) c.in-Step.is c.next_step.ensures in
    let holds = c.if-not-step.false in
    l.invariant
    ∙ walk_steps t.n t.lows.now t.highs.now t.states.now a.text.now a.to.0 (marked l.marks) l.steps l.a.0 l.at.relays l.at.links
    (omega arith) _ _ _ _ next.0 next.1 _ (c.step.ensures.met holds) (sym c.step.ensures.holds ∙ holds)

pub returns : goal.returns
returns c =
    let a = c.args in
    let t = a.network.table in
    let l = c.loop-steps in
    let all : l.steps ≡ length a.text.now + 1 = omega arith in
    walked_to
    (l.invariant
    ∙ walk-last t.n t.lows.now t.highs.now t.states.now a.text.now a.to.0 (marked l.marks) l.steps l.a.0 l.at.relays l.at.links (omega arith))
    (rw all c.steps_at-2.ensures)
