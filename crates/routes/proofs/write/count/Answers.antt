-- `count` meets its contract. The loop's invariant: what is left to do gives what the whole gives.
use Rattle.routes.proofs.Loops.Write.{count-stops, count-full, count_turn}
use Rattle.routes.proofs.write.count.Goals as goal

pub returns-then-x-eq0-clause-value : goal.returns-then-x-eq0-clause-value
returns-then-x-eq0-clause-value c =
    count-stops c.args.side.now c.args.i c.second_of-x.result.0 c.loop-c.x.0
    c.loop-c.c c.second_of-x.ensures c.loop-c.invariant c.if-x-eq0.true

pub loop-c-preserved : goal.loop-c-preserved
loop-c-preserved c =
    count_turn c.args.side.now _ c.loop-c.x.0 c.prior_of-x.result.0 c.loop-c.c c.loop-c-test.true c.if-x-eq0.false
    c.prior_of-x.ensures c.loop-c.invariant

pub returns-clause-value : goal.returns-clause-value
returns-clause-value c =
    count-full c.args.side.now c.args.i c.second_of-x.result.0 c.loop-c.x.0 c.loop-c.c
    c.second_of-x.ensures c.loop-c.invariant c.loop-c.auto.c-end c.loop-c-test.false
