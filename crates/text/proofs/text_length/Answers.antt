-- `text::text_length` meets its contract: an accepted table is within the limits, and the lines are counted one by one.
use mathlib.Core.Path.{ap}
use native.Mathlib.Omega.{arith}
use lib.ListN.{length, get_or}
use Rattle.theory.specs.Accepted.{accepted, accepted-states}
use Rattle.text_theory.specs.Lengths.{length-link, length-text}
use Rattle.text.specs.Written.{length-links-step, links_end}
use Rattle.text.proofs.text_length.Goals as goal

pub pair_length-header-requires : goal.pair_length-header-requires
pair_length-header-requires c =
    let t = c.args.network.table in
    let proper = accepted t.n t.lows.now t.highs.now t.states.now c.args.network.accepted in
    omega (arith, proper.short)

pub outs_length-requires : goal.outs_length-requires
outs_length-requires c =
    let t = c.args.network.table in
    let proper = accepted t.n t.lows.now t.highs.now t.states.now c.args.network.accepted in
    let states = accepted-states t.n t.lows.now t.highs.now t.states.now c.args.network.accepted in
    omega (arith, states.long, proper.few)

pub bounds-table-i-in-loop-i : goal.bounds-table-i-in-loop-i
bounds-table-i-in-loop-i c =
    let t = c.args.network.table in
    omega (arith, (accepted t.n t.lows.now t.highs.now t.states.now c.args.network.accepted).even)

pub overflow_add-total-in-loop-i : goal.overflow_add-total-in-loop-i
overflow_add-total-in-loop-i c =
    let t = c.args.network.table in
    let proper = accepted t.n t.lows.now t.highs.now t.states.now c.args.network.accepted in
    omega (arith, proper.short, c.outs_length.ensures, c.pair_length-header.ensures)

pub loop-i-preserved : goal.loop-i-preserved
loop-i-preserved c =
    let t = c.args.network.table in
    let lows = t.lows.now in
    let highs = t.highs.now in
    let more = length-links-step lows highs c.loop-i.i (length lows) (omega arith) in
    let line = length-link (get_or lows c.loop-i.i 0) (get_or highs c.loop-i.i 0) in
    (omega arith, omega arith)

pub returns : goal.returns
returns c =
    let t = c.args.network.table in
    let lows = t.lows.now in
    let highs = t.highs.now in
    omega (
      arith,
      ap length (links_end lows highs c.loop-i.i (length lows) (omega arith)),
      length-text t.n lows highs t.states.now,
      c.outs_length.ensures.0,
      c.pair_length-header.ensures.0,
    )
