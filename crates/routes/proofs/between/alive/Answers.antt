-- `alive` meets its contract. The loop's invariant: what is left to do gives what the whole gives.
use Rattle.sweep.specs.Side.{entry_of, left_of}
use Rattle.routes.proofs.Loops.Between.{alive-turn, alive-stop, alive-end}
use native.Mathlib.Omega.{arith}
use Prim.Native.Nat.{◌+◌, ◌-◌}
use mathlib.Core.Path.{◌≡◌, sym, ◌∙◌}
use Rattle.routes.proofs.between.alive.Goals as goal

pub returns-then-found-eq0 : goal.returns-then-found-eq0
returns-then-found-eq0 c =
    let a = c.args in
    let v = c.loop-v.v in
    let e : v - 1 + 1 ≡ v = omega arith in
    sym (c.loop-v.invariant ∙ alive-stop (left_of a.table) a.k a.t.0 v (entry_of c.left-found.result)
    c.loop-v-test.true (rw e at c.left-found.ensures) c.if-found-eq0.true)

pub loop-v-preserved : goal.loop-v-preserved
loop-v-preserved c =
    let a = c.args in
    let v = c.loop-v.v in
    let e : v - 1 + 1 ≡ v = omega arith in
    c.loop-v.invariant ∙ alive-turn (left_of a.table) a.k a.t.0 v (entry_of c.left-found.result)
    c.loop-v-test.true (rw e at c.left-found.ensures) c.if-found-eq0.false

pub returns : goal.returns
returns c =
    let a = c.args in
    sym (c.loop-v.invariant ∙ alive-end (left_of a.table) a.k a.t.0 c.loop-v.v (omega arith))
