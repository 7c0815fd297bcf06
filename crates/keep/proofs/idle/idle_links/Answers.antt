-- `idle_links` meets its contract: all the idle links are those counted and those that are left.
use Rattle.std.proofs.Common.{◌≡◌, ◌-◌, arith, length}
use Rattle.theory.specs.Accepted.{accepted}
use Rattle.keep.specs.Counts.{idle-all, idle-step, idle-end, idle-few}
use Rattle.keep.specs.Stages.{ends-within}
use Rattle.keep.proofs.idle.idle_links.Goals as goal

pub loop-i-init : goal.loop-i-init
loop-i-init c =
    let t = c.args.network.table in
    let lows = t.lows.now in
    let all : length lows - 0 ≡ length lows = omega arith in
    rw all (omega (arith, idle-all lows t.highs.now t.states.now))

pub bounds-table-i-in-loop-i : goal.bounds-table-i-in-loop-i
bounds-table-i-in-loop-i c =
    let t = c.args.network.table in
    omega (arith, (accepted t.n t.lows.now t.highs.now t.states.now c.args.network.accepted).even, c.loop-i-test.true)

pub idle_link-idle-requires : goal.idle_link-idle-requires
idle_link-idle-requires c =
    let t = c.args.network.table in
    ends-within t.n t.lows.now t.highs.now t.states.now c.args.network.accepted c.loop-i.i c.loop-i-test.true

pub overflow_add-idle : goal.overflow_add-idle
overflow_add-idle c =
    let t = c.args.network.table in
    let step = idle-step t.lows.now t.highs.now t.states.now c.loop-i.i (length t.lows.now) c.loop-i-test.true in
    omega (arith, c.idle_link-idle.ensures, c.loop-i.invariant, idle-few t.lows.now t.highs.now t.states.now)

pub loop-i-preserved : goal.loop-i-preserved
loop-i-preserved c =
    let t = c.args.network.table in
    let step = idle-step t.lows.now t.highs.now t.states.now c.loop-i.i (length t.lows.now) c.loop-i-test.true in
    omega (arith, c.idle_link-idle.ensures, c.loop-i.invariant)

pub returns : goal.returns
returns c =
    let t = c.args.network.table in
    let none = idle-end t.lows.now t.highs.now t.states.now c.loop-i.i (length t.lows.now) c.loop-i-test.false in
    omega (arith, c.loop-i.invariant)
