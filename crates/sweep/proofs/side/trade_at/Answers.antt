-- `trade_at` meets its contract.
use mathlib.Core.Path.{sym, ◌∙◌}
use native.Mathlib.Omega.{arith}
use borrow.Author.Tests.{eq-eqb, ne_eqb}
use Rattle.sweep.specs.Side.{end_in, trade_at}
use Rattle.sweep.proofs.side.trade_at.Goals as goal

pub trade-requires : goal.trade-requires
trade-requires c = record {
  i_value = sym c.end_of.ensures ∙ c.if-end_of-v.true;
  j_bound = omega arith;
}

pub returns-then-end_of-v : goal.returns-then-end_of-v
unfolding trade_at
returns-then-end_of-v c =
    let a = c.args in
    rw (eq-eqb (end_in a.side.now a.i) a.v.0 (sym c.end_of.ensures ∙ c.if-end_of-v.true))
    c.trade.ensures

pub returns-else-end_of-v : goal.returns-else-end_of-v
unfolding trade_at
returns-else-end_of-v c =
    let a = c.args in
    rw (ne_eqb (end_in a.side.now a.i) a.v.0 (λ e. c.if-end_of-v.false (c.end_of.ensures ∙ e)))
