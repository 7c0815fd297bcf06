-- `text::put::put_outs` meets its contract: nothing where none is withdrawn, and relay by relay otherwise.
use native.Mathlib.Omega.{arith}
use Rattle.text.specs.WrittenOuts.{put-none, outs-none, length-outs-step, outs-put, outs-written}
use Rattle.text.proofs.put.put_outs.Goals as goal

pub returns-then-least_state-ne0 : goal.returns-then-least_state-ne0
returns-then-least_state-ne0 c =
    let least = c.least_state in
    let a = c.args in
    rw (outs-none _ a.states.now least.ensures c.if-least_state-ne0.true) (put-none a.buffer.now a.at)

pub put_out-p-requires : goal.put_out-p-requires
put_out-p-requires c =
    let l = c.loop-relay in
    let states = c.args.states.now in
    omega (arith, l.invariant.same, l.invariant.ends, length-outs-step states l.relay (omega arith))

pub loop-relay-preserved : goal.loop-relay-preserved
loop-relay-preserved c =
    let l = c.loop-relay in
    let a = c.args in
    outs-put a.buffer.now a.at a.states.now l.buffer _ l.p _ l.relay l.invariant (omega arith)
    c.put_out-p.ensures

pub returns : goal.returns
returns c =
    let l = c.loop-relay in
    let a = c.args in
    outs-written a.buffer.now a.at a.states.now l.buffer l.p l.relay l.invariant (omega arith)
