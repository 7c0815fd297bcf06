-- After each turn the states of that many relays are added up.
use Rattle.std.proofs.Common.{◌≡◌, ◌<◌, arith}
use Rattle.forests.proofs.StartLaws.{turns-all, turns-none, turns_next}
use Rattle.forests.proofs.idle.serving.Goals as goal

pub loop-state-init : goal.loop-state-init
loop-state-init c = (omega arith, omega (arith, turns-all c.args.n c.args.states.now))

pub overflow_add-turns : goal.overflow_add-turns
overflow_add-turns c =
    let at = c.loop-state in
    let below : at.state-index < c.args.n = omega (arith, c.requires.1.long) in
    omega (arith, c.requires.0, at.invariant.0, c.requires.1.either at.state-index below)

pub loop-state-preserved : goal.loop-state-preserved
loop-state-preserved c =
    let at = c.loop-state in
    let below : at.state-index < c.args.n = omega (arith, c.requires.1.long) in
    let either = c.requires.1.either at.state-index below in (
      omega (arith, at.invariant.0, either),
      omega (arith, at.invariant.1, turns_next c.args.n c.args.states.now at.state-index below either),
    )

pub returns : goal.returns
returns c =
    let at = c.loop-state in
    let all : at.state-index ≡ c.args.n = omega (arith, c.requires.1.long) in
    omega (arith, rw all at at.invariant.1, turns-none c.args.n c.args.states.now)
