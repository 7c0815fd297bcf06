-- `text::put::outs_length` meets its contract: nothing where none is withdrawn, and relay by relay otherwise.
use mathlib.Core.Path.{sym, ap}
use native.Mathlib.Omega.{arith}
use lib.ListN.{length}
use Rattle.text.specs.WrittenOuts.{outs-none, length-outs-step, outs-end}
use Rattle.text.proofs.put.outs_length.Goals as goal

pub returns-then-least_state-ne0 : goal.returns-then-least_state-ne0
returns-then-least_state-ne0 c =
    let least = c.least_state in
    let states = c.args.states.now in
    (sym (ap length (outs-none _ states least.ensures c.if-least_state-ne0.true)), omega arith)

pub loop-relay-preserved : goal.loop-relay-preserved
loop-relay-preserved c =
    let l = c.loop-relay in
    let states = c.args.states.now in
    let more = length-outs-step states l.relay (omega arith) in
    (omega arith, omega (arith, more, c.out_length-total.ensures, l.invariant))

pub returns : goal.returns
returns c =
    let l = c.loop-relay in
    let none = ap length (outs-end c.args.states.now l.relay (omega arith)) in
    (omega (arith, none, l.invariant), omega arith)
