-- `put_links` meets its contract: writing all the lines is writing those that are left.
use Rattle.std.proofs.Common.{List, ◌≡◌, ℕ, ◌-◌, arith, length, subst}
use Rattle.definitions.specs.Keep.{lease_lines}
use Rattle.theory.specs.Accepted.{accepted}
use Rattle.program.specs.Going.{Going, going_start, going_step, going_end}
use Rattle.keep.specs.Lines.{lines_step, lines-length, lines_end}
use Rattle.keep.specs.Stages.{ends-within}
use Rattle.keep.proofs.print.put_links.Goals as goal

pub loop-i-init : goal.loop-i-init
loop-i-init c =
    let lows = c.args.network.table.lows.now in
    let all : length lows - 0 ≡ length lows = omega arith in
    rw all (going_start _ _ _)

pub bounds-table-i-in-loop-i : goal.bounds-table-i-in-loop-i
bounds-table-i-in-loop-i c =
    let t = c.args.network.table in
    omega (arith, (accepted t.n t.lows.now t.highs.now t.states.now c.args.network.accepted).even, c.loop-i-test.true)

pub put_link-p-requires : goal.put_link-p-requires
put_link-p-requires c =
    let t = c.args.network.table in
    let at = c.loop-i in
    let below = c.loop-i-test.true in
    let step = lines-length t.lows.now t.highs.now t.states.now c.args.marks.now at.i (length t.lows.now) below in
    record {
      a_in_bounds = ends-within t.n t.lows.now t.highs.now t.states.now c.args.network.accepted at.i below;
      b_in_bounds = omega (arith, at.invariant.ends, at.invariant.same, c.requires.output_in_bounds);
    }

pub loop-i-preserved : goal.loop-i-preserved
loop-i-preserved c =
    let t = c.args.network.table in
    let at = c.loop-i in
    going_step _ _ _ _ _ _ _ _ _ _ at.invariant
    (lines_step t.lows.now t.highs.now t.states.now c.args.marks.now at.i (length t.lows.now) c.loop-i-test.true)
    c.put_link-p.ensures

pub returns : goal.returns
returns c =
    let at = c.loop-i in
    let a = c.args in
    let t = a.network.table in
    going_end _ _ _ _ _
    (subst (λ (rest : List ℕ). Going a.output.now a.at (lease_lines t.lows.now t.highs.now t.states.now a.marks.now 0 (length t.lows.now)) at.output at.p rest)
    (lines_end t.lows.now t.highs.now t.states.now a.marks.now at.i (length t.lows.now) c.loop-i-test.false) at.invariant)
