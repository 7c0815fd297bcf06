-- `step` meets its contract.
use Rattle.std.proofs.Common.{arith}
use Rattle.sweep.proofs.Loops.{highest-bound, stepped-at, stepped-none, stepped-pass}
use Rattle.sweep.specs.Side.{left_of}
use Rattle.sweep.proofs.step.Goals as goal

pub pass-requires : goal.pass-requires
pass-requires c =
    let a = c.args in
    let bound = highest-bound a.k a.v.0 c.in-Some.j a.a.now a.b.now c.in-Some.ensures in
    omega arith

pub returns-then-v-t : goal.returns-then-v-t
returns-then-v-t c =
    let a = c.args in
    stepped-at (left_of a.table) a.k a.t.0 a.v.0 a.a.now a.b.now _ c.if-v-t.true c.leave.ensures

pub returns-in-Some : goal.returns-in-Some
returns-in-Some c =
    let a = c.args in
    stepped-pass (left_of a.table) a.k a.t.0 a.v.0 c.in-Some.j a.a.now a.b.now _ _
    c.if-v-t.false c.in-Some.ensures c.pass.ensures

pub returns-in_default : goal.returns-in_default
returns-in_default c =
    let a = c.args in
    stepped-none (left_of a.table) a.k a.t.0 a.v.0 a.a.now a.b.now c.if-v-t.false c.in_default.ensures
