-- `all_routes` meets its contract: the lines are there, a route fails, the next ones are looked at, or none is left.
use Rattle.std.proofs.Common.{◌+◌, ◌-◌, ◌≡◌, refl, sym, arith}
use Rattle.lists.specs.Bitmap.{marked}
use Rattle.definitions.specs.SheetTest.{good_steps}
use Rattle.verify.proofs.RouteLaws.{none_left, left-reads, left-fails, left-next, turned}
use Rattle.verify.proofs.walk.all_routes.Goals as goal

pub returns-in_default : goal.returns-in_default
returns-in_default c =
    let a = c.args in
    let w = a.form.wish in
    let l = c.loop-route in
    λ routes overs many lines.
    absurd
    (left-reads a.network.table a.text.now w.from.0 w.to.0 (marked l.marks) l.direct l.p (a.form.routes - l._route) _
    (l.invariant routes overs many lines) (omega (arith, c.loop-route-test.true)) _ (sym c.in_default.ensures))

pub returns-in_default-route_steps : goal.returns-in_default-route_steps
unfolding good_steps
returns-in_default-route_steps c =
    let a = c.args in
    let w = a.form.wish in
    let l = c.loop-route in
    λ routes overs many lines.
    sym
    (left-fails a.network.table a.text.now w.from.0 w.to.0 (marked l.marks) l.direct l.p (a.form.routes - l._route) _
    l.marks refl (l.invariant routes overs many lines) (omega (arith, c.loop-route-test.true)) _ _
    (sym c.in-Ok.ensures) _ _ c.in_default-route_steps.ensures refl)

pub returns-then-not-good_steps : goal.returns-then-not-good_steps
returns-then-not-good_steps c =
    let a = c.args in
    let w = a.form.wish in
    let l = c.loop-route in
    λ routes overs many lines.
    sym
    (left-fails a.network.table a.text.now w.from.0 w.to.0 (marked l.marks) l.direct l.p (a.form.routes - l._route) _
    l.marks refl (l.invariant routes overs many lines) (omega (arith, c.loop-route-test.true)) _ _
    (sym c.in-Ok.ensures) _ _ c.in-Some.ensures (sym c.if-not-good_steps.ensures))

pub loop-route-preserved : goal.loop-route-preserved
loop-route-preserved c =
    let a = c.args in
    let w = a.form.wish in
    let l = c.loop-route in
    let fewer : a.form.routes - l._route - 1 ≡ a.form.routes - (l._route + 1) = omega arith in
    λ routes overs many lines.
    turned c.direct_with-direct.ensures fewer
    (left-next a.network.table a.text.now w.from.0 w.to.0 (marked l.marks) l.direct l.p (a.form.routes - l._route) _
    l.marks refl (l.invariant routes overs many lines) (omega (arith, c.loop-route-test.true)) _ _
    (sym c.in-Ok.ensures) _ _ c.in-Some.ensures (sym c.if-not-good_steps.ensures))

pub returns : goal.returns
returns c =
    let a = c.args in
    let w = a.form.wish in
    let l = c.loop-route in
    λ routes overs many lines.
    sym
    (none_left a.network.table a.text.now w.from.0 w.to.0 (marked l.marks) l.direct l.p (a.form.routes - l._route) _
    (l.invariant routes overs many lines) (omega (arith, c.loop-route-test.false)))
