-- `reports::places::place_all` meets its contract: a line is no report, or all are read, and a relay reports twice, a number is not
-- below n, or neither.
use mathlib.Core.Path.{refl, subst}
use native.Mathlib.Omega.{arith}
use Rattle.reports.specs.Lines.{LineRead}
use Rattle.reports.proofs.PlaceLaws.{placing-start, line-within, placing-more, placing-bad, placing-twice, placing-far, placing-end}
use Rattle.reports.proofs.places.place_all.Goals as goal

pub loop-p-init : goal.loop-p-init
loop-p-init c = placing-start _ _ _ c.requires

pub returns-in_default : goal.returns-in_default
returns-in_default c =
    placing-bad _ _ _ _ _ _ c.loop-p.invariant c.loop-p-test.true (subst (LineRead _ _) c.in_default.is c.report_line.ensures)

pub bounds-places-relay : goal.bounds-places-relay
bounds-places-relay c =
    omega (arith, line-within _ _ _ _ _ _ _ _ c.in-Some.ensures c.loop-p-test.true, c.loop-p.invariant.room)

pub bounds-places-relay-in-loop-p : goal.bounds-places-relay-in-loop-p
bounds-places-relay-in-loop-p c =
    omega (arith, line-within _ _ _ _ _ _ _ _ c.in-Some.ensures c.loop-p-test.true, c.loop-p.invariant.room)

pub loop-p-smaller : goal.loop-p-smaller
loop-p-smaller c =
    omega (arith, line-within _ _ _ _ _ _ _ _ c.in-Some.ensures c.loop-p-test.true)

pub loop-p-preserved : goal.loop-p-preserved
loop-p-preserved c =
    placing-more _ _ _ _ _ _ _ _ c.in-Some.ensures c.loop-p-test.true _ _ _ _ _ _ c.loop-p.invariant refl refl

pub returns-then-twice : goal.returns-then-twice
returns-then-twice c = placing-twice _ _ _ _ _ _ c.loop-p.invariant c.loop-p-test.false c.if-twice.true

pub returns-then-beyond : goal.returns-then-beyond
returns-then-beyond c = placing-far _ _ _ _ _ _ c.loop-p.invariant c.loop-p-test.false c.if-twice.false c.if-beyond.true

pub returns : goal.returns
returns c = placing-end _ _ _ _ _ _ c.loop-p.invariant c.loop-p-test.false c.if-twice.false c.if-beyond.false
