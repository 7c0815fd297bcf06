-- `states_fault` meets its contract: what is gathered of all entries is above 1 exactly if the greatest is.
use Rattle.std.proofs.Common.{arith}
use Rattle.network.proofs.StateLaws.{not_as_long, all-gathered, none_yet, one_more}
use Rattle.network.proofs.states.states_fault.Goals as goal

pub returns-then-states-n : goal.returns-then-states-n
returns-then-states-n c = not_as_long c.args.n c.args.states.now c.if-states-n.true

pub loop-state-init : goal.loop-state-init
loop-state-init c = none_yet c.args.states.now

pub loop-state-preserved : goal.loop-state-preserved
loop-state-preserved c =
    let now = c.loop-state in
    one_more c.args.states.now now.state-index now.all c.loop-state-test.true now.invariant

pub returns : goal.returns
returns c =
    let now = c.loop-state in
    all-gathered c.args.n c.args.states.now now.state-index now.all c.if-states-n.false (omega arith) now.invariant
