-- `steps` meets its contract.
use Rattle.std.proofs.Common.{◌∙◌, ◌-◌, sym, arith}
use native.Mathlib.Numerals.{sub-one}
use Rattle.sweep.proofs.Loops.{sweep-turn, sweep-end}
use Rattle.sweep.specs.Side.{left_of}
use Rattle.sweep.proofs.steps.Goals as goal

pub loop-v-init : goal.loop-v-init
loop-v-init c = rw (sub-one c.args.s.0)

pub step-requires : goal.step-requires
step-requires c = omega arith

pub loop-v-preserved : goal.loop-v-preserved
loop-v-preserved c =
    let a = c.args in
    c.loop-v.invariant
    ∙ sweep-turn (left_of a.table) a.k a.t.0 (c.loop-v.v - 1) c.loop-v.a c.loop-v.b _ _ (omega arith) c.step.ensures

pub returns : goal.returns
returns c =
    let a = c.args in
    sym
    (c.loop-v.invariant ∙ sweep-end (left_of a.table) a.k a.t.0 (c.loop-v.v - 1) c.loop-v.a c.loop-v.b (omega arith))
