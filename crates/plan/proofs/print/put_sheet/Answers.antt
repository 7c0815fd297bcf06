-- `plan::print::put_sheet` meets its contract: its four parts, one behind the other.
use Prim.Native.Nat.{pred}
use mathlib.Core.List.{map}
use native.Mathlib.Omega.{arith}
use lib.ListN.{take}
use Rattle.definitions.specs.Demand.{cut_up}
use Rattle.text.specs.Put.{put-append}
use Rattle.plan.specs.SheetLines.{sheet_lines, sheet-lengths}
use Rattle.plan.proofs.print.put_sheet.Goals as goal

pub put_wish-p-requires : goal.put_wish-p-requires
put_wish-p-requires c =
    let a = c.args in
    let whole = sheet-lengths a.wish.from.0 a.wish.to.0 a.wish.k (cut_up (take a.wish.k a.counts.now) a.relays.now)
    (cut_up (map pred (take a.wish.k a.counts.now)) a.links.now) a.kept in
    let room = c.requires.kept_in_bounds in
    omega arith

pub put_routes-q-requires : goal.put_routes-q-requires
put_routes-q-requires c =
    let a = c.args in
    let whole = sheet-lengths a.wish.from.0 a.wish.to.0 a.wish.k (cut_up (take a.wish.k a.counts.now) a.relays.now)
    (cut_up (map pred (take a.wish.k a.counts.now)) a.links.now) a.kept in
    let room = c.requires.kept_in_bounds in
    let one = c.put_wish-p.ensures in
    rw c.from.ensures
    (record {
      k_in_bounds = c.requires.k_in_bounds;
      counts_in_bounds = c.requires.counts_in_bounds;
      counts_in_bounds_2 = c.requires.counts_in_bounds_2;
      links_in_bounds = omega (arith, one.ends, one.same);
    })

pub put_kept-s-requires : goal.put_kept-s-requires
put_kept-s-requires c =
    let a = c.args in
    let whole = sheet-lengths a.wish.from.0 a.wish.to.0 a.wish.k (cut_up (take a.wish.k a.counts.now) a.relays.now)
    (cut_up (map pred (take a.wish.k a.counts.now)) a.links.now) a.kept in
    let room = c.requires.kept_in_bounds in
    let one = c.put_wish-p.ensures in
    let two = rw c.from.ensures at c.put_routes-q.ensures in
    omega (arith, one.ends, one.same, two.ends, two.same)

pub put_end-requires : goal.put_end-requires
put_end-requires c =
    let a = c.args in
    let whole = sheet-lengths a.wish.from.0 a.wish.to.0 a.wish.k (cut_up (take a.wish.k a.counts.now) a.relays.now)
    (cut_up (map pred (take a.wish.k a.counts.now)) a.links.now) a.kept in
    let room = c.requires.kept_in_bounds in
    let one = c.put_wish-p.ensures in
    let two = rw c.from.ensures at c.put_routes-q.ensures in
    let three = c.put_kept-s.ensures in
    omega (arith, one.ends, one.same, two.ends, two.same, three.ends, three.same)

pub returns : goal.returns
unfolding sheet_lines
returns c =
    put-append _ _ _ _ _ _ _ _ c.put_wish-p.ensures
    (put-append _ _ _ _ _ _ _ _ (rw c.from.ensures at c.put_routes-q.ensures)
    (put-append _ _ _ _ _ _ _ _ c.put_kept-s.ensures c.put_end.ensures))
