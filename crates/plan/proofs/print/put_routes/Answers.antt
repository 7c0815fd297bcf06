-- `plan::print::put_routes` meets its contract. The loop's invariant: writing all the routes is writing those that are left.
use Prim.Native.Nat.{◌+◌, pred}
use mathlib.Core.Path.{◌≡◌, subst}
use native.Mathlib.Omega.{arith}
use lib.ListN.{get_or}
use Rattle.lists.specs.Front.{drop-take}
use Rattle.program.specs.Going.{Going, going_start, going_step, going_end}
use Rattle.plan.specs.SheetLines.{routes_left, overs_left, routes-step, routes-length, routes-end, sizes_step, steps-step}
use Rattle.plan.proofs.print.put_routes.Goals as goal

pub loop-i-init : goal.loop-i-init
unfolding routes_left overs_left
loop-i-init c =
    (omega (arith, c.requires.counts_in_bounds), omega (arith, c.requires.counts_in_bounds_2), going_start _ _ _)

pub overflow_add-last : goal.overflow_add-last
overflow_add-last c =
    let a = c.args in
    let at = c.loop-i in
    omega (arith, at.invariant.0, sizes_step at.i a.k a.counts.now c.loop-i-test.true c.requires.k_in_bounds, c.from-size.ensures)

pub overflow_add-stop : goal.overflow_add-stop
overflow_add-stop c =
    let a = c.args in
    let at = c.loop-i in
    omega (
      arith,
      at.invariant.1,
      steps-step at.i a.k a.counts.now c.loop-i-test.true c.requires.k_in_bounds,
      c.saturating_sub.ensures,
      c.from-size.ensures,
    )

pub slice_bounds-put_route-end : goal.slice_bounds-put_route-end
slice_bounds-put_route-end c =
    let a = c.args in
    let at = c.loop-i in
    omega (arith, at.invariant.0, sizes_step at.i a.k a.counts.now c.loop-i-test.true c.requires.k_in_bounds, c.from-size.ensures)

pub slice_bounds-put_route-end-in-loop-i : goal.slice_bounds-put_route-end-in-loop-i
slice_bounds-put_route-end-in-loop-i c =
    let a = c.args in
    let at = c.loop-i in
    omega (
      arith,
      at.invariant.1,
      steps-step at.i a.k a.counts.now c.loop-i-test.true c.requires.k_in_bounds,
      c.saturating_sub.ensures,
      c.from-size.ensures,
    )

pub put_route-p-requires : goal.put_route-p-requires
put_route-p-requires c =
    let a = c.args in
    let at = c.loop-i in
    let few : c.saturating_sub.result ≡ pred (get_or a.counts.now at.i 0) = omega (arith, c.saturating_sub.ensures, c.from-size.ensures) in
    let whole = routes-length at.i a.k at.first at.start a.counts.now a.relays.now a.links.now _ few c.loop-i-test.true c.requires.k_in_bounds in
    rw (
      ← drop-take at.first (at.first + c.from-size.result) a.relays.now,
      ← drop-take at.start (at.start + c.saturating_sub.result) a.links.now,
      c.from-size.ensures,
    )
    (omega (arith, at.invariant.2.ends, at.invariant.2.same, c.requires.links_in_bounds))

pub loop-i-preserved : goal.loop-i-preserved
loop-i-preserved c =
    let a = c.args in
    let at = c.loop-i in
    let few : c.saturating_sub.result ≡ pred (get_or a.counts.now at.i 0) = omega (arith, c.saturating_sub.ensures, c.from-size.ensures) in
    let sizes = sizes_step at.i a.k a.counts.now c.loop-i-test.true c.requires.k_in_bounds in
    let links = steps-step at.i a.k a.counts.now c.loop-i-test.true c.requires.k_in_bounds in
    let put =
    rw (
      ← drop-take at.first (at.first + c.from-size.result) a.relays.now,
      ← drop-take at.start (at.start + c.saturating_sub.result) a.links.now,
      c.from-size.ensures,
    )
    at c.put_route-p.ensures in
    rw c.from-size.ensures
    ((
      omega (arith, at.invariant.0),
      omega (arith, at.invariant.1),
      going_step _ _ _ _ _ _ _ _ _ _ at.invariant.2
          (routes-step at.i a.k at.first at.start a.counts.now a.relays.now a.links.now _ few c.loop-i-test.true c.requires.k_in_bounds)
          put,
    ))

pub returns : goal.returns
returns c =
    let a = c.args in
    let at = c.loop-i in
    going_end _ _ _ _ _
    (subst (Going a.output.now a.at _ at.output at.p)
    (routes-end at.i a.k at.first at.start a.counts.now a.relays.now a.links.now c.loop-i-test.false) at.invariant.2)
