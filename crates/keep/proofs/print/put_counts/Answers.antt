-- `keep::print::put_counts` meets its contract: its four lines, one behind the other.
use native.Mathlib.Omega.{arith}
use Rattle.definitions.specs.Keep.{dropped_form, withdrawn_form}
use Rattle.text.specs.Put.{put-append}
use Rattle.keep.specs.Lines.{count_lines, count-lengths}
use Rattle.keep.proofs.print.put_counts.Goals as goal

pub put_kept-p-requires : goal.put_kept-p-requires
put_kept-p-requires c =
    let a = c.args in
    omega (arith, c.requires, count-lengths a.kept a.dropped a.idle)

pub put_single-q-requires : goal.put_single-q-requires
put_single-q-requires c =
    let a = c.args in
    let one = c.put_kept-p.ensures in
    omega (arith, c.requires, count-lengths a.kept a.dropped a.idle, one.ends, one.same)

pub put_single-s-requires : goal.put_single-s-requires
put_single-s-requires c =
    let a = c.args in
    let one = c.put_kept-p.ensures in
    let two = c.put_single-q.ensures in
    omega (arith, c.requires, count-lengths a.kept a.dropped a.idle, one.ends, one.same, two.ends, two.same)

pub put_end-requires : goal.put_end-requires
put_end-requires c =
    let a = c.args in
    let one = c.put_kept-p.ensures in
    let two = c.put_single-q.ensures in
    let three = c.put_single-s.ensures in
    omega (
      arith,
      c.requires,
      count-lengths a.kept a.dropped a.idle,
      one.ends,
      one.same,
      two.ends,
      two.same,
      three.ends,
      three.same,
    )

pub returns : goal.returns
unfolding count_lines dropped_form withdrawn_form
returns c =
    put-append _ _ _ _ _ _ _ _ c.put_kept-p.ensures
    (put-append _ _ _ _ _ _ _ _ c.put_single-q.ensures
    (put-append _ _ _ _ _ _ _ _ c.put_single-s.ensures c.put_end.ensures))
