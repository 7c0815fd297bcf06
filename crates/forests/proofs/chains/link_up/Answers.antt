-- The chains of half-links and the links counted meet their contract: after each turn they are those of all links from i on.
use Prim.Native.Nat.{ℕ, ◌-◌, ◌≤◌, ◌<◌}
use mathlib.Core.List.{List}
use mathlib.Core.Path.{◌≡◌}
use native.Mathlib.Omega.{arith}
use lib.ListN.{length, get_or}
use Rattle.theory.specs.Accepted.{ProperTable}
use Rattle.forests.proofs.ChainLaws.{chained-none, chained_more}
use Rattle.forests.proofs.LinkCountLaws.{counted_none, in-hand-few, in-list-few, behind-few, counted-all, counted-more}
use Rattle.forests.proofs.chains.link_up.Goals as goal

-- The ends of the link below i are relays that have a head and a count, the low end before the high one.
ends : {size : ℕ} {lows highs : List ℕ} (first counts : List ℕ) (i : ℕ) → ProperTable size lows highs → 0 < i → i ≤ length lows
    → length first ≡ size → size ≤ length counts
    → (get_or lows (i - 1) 0 < length first)
    × (get_or highs (i - 1) 0 < length first)
    × (get_or lows (i - 1) 0 < get_or highs (i - 1) 0)
    × (length first ≤ length counts)
ends {size} {lows} {highs} first counts i p some within e room =
    let h : i - 1 < length lows = omega arith in (
      omega (arith, p.ordered (i - 1) h, p.below (i - 1) h),
      omega (arith, p.below (i - 1) h),
      p.ordered (i - 1) h,
      omega arith,
    )

pub loop-i-init : goal.loop-i-init
loop-i-init c =
    let lent = c.args in (
      chained-none c.requires.0,
      counted_none lent.lows.now lent.highs.now lent.counts.now c.requires.2,
      omega (arith, c.requires.0.proper.some, c.requires.1),
    )

pub count_links-requires : goal.count_links-requires
count_links-requires c =
    let at = c.loop-i in
    let e =
    ends at.first at.counts at.i c.requires.0.proper c.loop-i-test.true at.auto.i at.auto.first
    (omega (arith, c.requires.1, at.auto.counts)) in
    let few =
    in-list-few c.args.lows.now c.args.highs.now at.counts at.i at.last.0 at.run at.invariant.1
    c.requires.0.proper.short (get_or c.args.lows.now (at.i - 1) 0) in
    (omega (arith, e.0, e.3), omega (arith, few, c.loop-i-test.true))

pub count_on-run-requires : goal.count_on-run-requires
count_on-run-requires c =
    let at = c.loop-i in
    let e =
    ends at.first at.counts at.i c.requires.0.proper c.loop-i-test.true at.auto.i at.auto.first
    (omega (arith, c.requires.1, at.auto.counts)) in (
      omega (arith, at.invariant.2, c.count_links.auto),
      rw c.count_links.ensures
          (behind-few c.args.lows.now c.args.highs.now at.counts at.i at.last.0 at.run at.invariant.1
          c.requires.0.proper.short (get_or c.args.lows.now (at.i - 1) 0) (omega (arith, e.0, e.3))
          c.loop-i-test.true at.auto.i),
    )

pub loop-i-preserved : goal.loop-i-preserved
loop-i-preserved c =
    let at = c.loop-i in
    let i = at.i in
    let some : 0 < i = c.loop-i-test.true in
    let e =
    ends at.first at.counts i c.requires.0.proper some at.auto.i at.auto.first
    (omega (arith, c.requires.1, at.auto.counts)) in
    let below : get_or c.args.highs.now (i - 1) 0 < length at.counts = omega (arith, e.1, e.3) in (
      chained_more i (i - 1) at.invariant.0 (omega arith) at.auto.i e.2 e.1,
      rw (c.count_on-run.ensures.value, c.count_on-run.ensures.counts_left, c.count_links.ensures)
          (counted-more c.args.lows.now c.args.highs.now at.counts i at.last.0 at.run at.invariant.1
          c.requires.0.proper.short (i - 1) (omega arith) at.auto.i e.2 below at.invariant.2),
      omega (arith, below, c.count_on-run.auto, c.count_links.auto),
    )

pub count_links-requires-2 : goal.count_links-requires-2
count_links-requires-2 c =
    let at = c.loop-i in
    let few =
    in-hand-few c.args.lows.now c.args.highs.now at.counts at.i at.last.0 at.run at.invariant.1
    c.requires.0.proper.short in
    (at.invariant.2, omega (arith, few))

pub returns : goal.returns
returns c =
    let at = c.loop-i in
    let lows = c.args.lows.now in
    let highs = c.args.highs.now in
    let p : at.i ≡ 0 = omega arith in record {
      chained_from = rw p at at.invariant.0;
      counted_from = rw c.count_links-2.ensures
          (rw p at (counted-all lows highs at.counts at.i at.last.0 at.run at.invariant.1 c.requires.0.proper.short at.invariant.2));
    }
