-- `read_outs` meets its contract: a line that is refused, or one more line, until none is due.
use Rattle.std.proofs.Common.{Err, rules, refl, sym, ◌∙◌, arith}
use Rattle.text.specs.ReadOuts.{outs-begin, out-next, out-refused, outs-end}
use Rattle.text.specs.Outs.{OutsRead}
use Rattle.text.proofs.outs.read_outs.Goals as goal

pub loop-p-init : goal.loop-p-init
loop-p-init c =
    let a = c.args in
    (refl, outs-begin a.text.now a.n a.at a.states.now)

pub returns-in_err-relay : goal.returns-in_err-relay
returns-in_err-relay c =
    let a = c.args in
    let l = c.loop-p in
    let due = sym c.out_due.ensures ∙ c.loop-p-test.true in
    let outs : OutsRead a.text.now a.n a.at a.states.now l.states (Err c.in_err-relay.field-0.0) =
    record {
      follows = λ lows highs.
          out-refused _ _ _ l.states _ _ l.invariant.1 (omega arith) _ c.in_err-relay.ensures due _ lows highs refl;
      same = l.invariant.0;
    } in
    search rules

pub loop-p-preserved : goal.loop-p-preserved
loop-p-preserved c =
    let l = c.loop-p in
    let due = sym c.out_due.ensures ∙ c.loop-p-test.true in
    let line = c.in_ok-relay.ensures in
    let told = c.withdraw.ensures in (
      told.same ∙ l.invariant.0,
      out-next _ _ _ l.states _ _ l.invariant.1 (omega arith) _ line due _ _ _ refl told,
    )

pub returns : goal.returns
returns c =
    let l = c.loop-p in
    let over = sym c.out_due.ensures ∙ c.loop-p-test.false in
    let served = c.serve.ensures in
    record {
      follows = outs-end _ _ _ l.states _ _ l.invariant.1 (omega arith) _ over served;
      same = served.same ∙ l.invariant.0;
    }
