-- `highest` meets its contract.
use Rattle.std.proofs.Common.{◌∙◌, inl, inr, sym, arith}
use Rattle.sweep.proofs.Loops.{highest-found, highest-turn, highest-none}
use Rattle.sweep.proofs.highest.Goals as goal
use Rattle.sweep.proofs.highest.Goals.{then-end_of-v-via-then-end_of-v, then-end_of-v-via-else-end_of-v+then-end_of-v-2}

pub loop-i-preserved : goal.loop-i-preserved
loop-i-preserved c =
    let a = c.args in
    c.loop-i.invariant
    ∙ highest-turn a.v.0 c.loop-i.i a.a.now a.b.now c.loop-i-test.true
    (λ e. c.if-end_of-v.false (c.end_of.ensures ∙ e))
    (λ e. c.if-end_of-v-2.false (c.end_of-else-end_of-v.ensures ∙ e))

pub returns-then-end_of-v : goal.returns-then-end_of-v
returns-then-end_of-v c =
    let a = c.args in
    highest-found a.k a.v.0 c.loop-i.i a.a.now a.b.now c.loop-i-test.true
    (elim c.then-end_of-v.branch [
      | then-end_of-v-via-then-end_of-v w ↦ inl (sym c.end_of.ensures ∙ w.if-end_of-v.true)
      | then-end_of-v-via-else-end_of-v+then-end_of-v-2 w ↦ inr (sym w.end_of-else-end_of-v.ensures ∙ w.if-end_of-v-2.true)
    ])
    c.loop-i.invariant

pub returns : goal.returns
returns c =
    let a = c.args in
    highest-none a.k a.v.0 c.loop-i.i a.a.now a.b.now (omega arith) c.loop-i.invariant
