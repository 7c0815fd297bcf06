-- `reports::merge::merge` meets its contract: all rows are merged, or there are more links than a network may have.
use Rattle.std.proofs.Common.{rules}
use native.Mathlib.Omega.{arith}
use Rattle.reports.proofs.MarkLaws.{row-missing, row-kept}
use Rattle.reports.proofs.MergeLaws.{row-none}
use Rattle.reports.proofs.LinkLaws.{links-start, links-all, row_below, links-on, links-many}
use Rattle.reports.proofs.merge.merge.Goals as goal

pub loop-a-init : goal.loop-a-init
loop-a-init c = links-start c.requires

pub loop-a-preserved-then-own-eq0 : goal.loop-a-preserved-then-own-eq0
loop-a-preserved-then-own-eq0 c =
    let inv = c.loop-a.invariant in
    links-on c.requires inv c.loop-a-test.true (row-missing _ _ c.if-own-eq0.true) (row-none inv.few)

pub merge_row-requires-clause-all_below_in : goal.merge_row-requires-clause-all_below_in
merge_row-requires-clause-all_below_in c x there =
    let able = c.requires in
    let inv = c.loop-a.invariant in
    omega (arith, row_below able inv c.loop-a-test.true (row-kept _ _ c.if-own-eq0.false) x there, inv.room.places_room, able.room, able.few)

pub returns-in_err-count : goal.returns-in_err-count
returns-in_err-count c =
    let links = links-many c.requires c.loop-a.invariant c.loop-a-test.true (row-kept _ _ c.if-own-eq0.false) c.in_err-count.ensures in
    search rules

pub loop-a-preserved : goal.loop-a-preserved
loop-a-preserved c =
    links-on c.requires c.loop-a.invariant c.loop-a-test.true (row-kept _ _ c.if-own-eq0.false) c.in_ok-count.ensures

pub returns : goal.returns
returns c =
    links-all c.requires c.loop-a.invariant (omega (arith, c.loop-a-test.false))
