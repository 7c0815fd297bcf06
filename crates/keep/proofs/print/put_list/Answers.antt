-- `keep::print::put_list` meets its contract: its three parts, one behind the other.
use native.Mathlib.Omega.{arith}
use Rattle.definitions.specs.Keep.{lease_form}
use Rattle.text.specs.Put.{put-append}
use Rattle.keep.specs.Lines.{list_lines, list-lengths}
use Rattle.keep.proofs.print.put_list.Goals as goal

pub overflow_sub-dropped : goal.overflow_sub-dropped
overflow_sub-dropped c =
    omega (arith, c.requires.kept_in_bounds)

pub overflow_sub-dropped-2 : goal.overflow_sub-dropped-2
overflow_sub-dropped-2 c =
    omega (arith, c.requires.kept_in_bounds, c.idle_links-idle.ensures)

pub put_single-p-requires : goal.put_single-p-requires
put_single-p-requires c =
    let a = c.args in
    let whole = list-lengths a.k a.network.table.lows.now a.network.table.highs.now a.network.table.states.now a.marks.now a.kept _ c.idle_links-idle.ensures in
    omega (arith, c.requires.output_in_bounds)

pub put_links-q-requires : goal.put_links-q-requires
put_links-q-requires c =
    let a = c.args in
    let whole = list-lengths a.k a.network.table.lows.now a.network.table.highs.now a.network.table.states.now a.marks.now a.kept _ c.idle_links-idle.ensures in
    let one = c.put_single-p.ensures in
    record {
      marks_in_bounds = c.requires.marks_in_bounds;
      output_in_bounds = omega (arith, c.requires.output_in_bounds, one.ends, one.same);
    }

pub put_counts-requires : goal.put_counts-requires
put_counts-requires c =
    let a = c.args in
    let whole = list-lengths a.k a.network.table.lows.now a.network.table.highs.now a.network.table.states.now a.marks.now a.kept _ c.idle_links-idle.ensures in
    let one = c.put_single-p.ensures in
    let two = c.put_links-q.ensures in
    omega (arith, c.requires.output_in_bounds, one.ends, one.same, two.ends, two.same)

pub returns : goal.returns
unfolding list_lines lease_form
returns c =
    rw (← c.idle_links-idle.ensures)
    (put-append _ _ _ _ _ _ _ _ c.put_single-p.ensures
    (put-append _ _ _ _ _ _ _ _ c.put_links-q.ensures c.put_counts.ensures))
