-- `wish_check` meets its contract.
use Rattle.routes.specs.Wishes.{wish_check}
use Rattle.definitions.specs.Lists.{outside}
use Rattle.definitions.specs.Outcome.{refuse_if}
use borrow.Author.Tests.{lt-ltb, le-ltb, le-leb, lt-leb, eqb-false}
use Rattle.theory.specs.Accepted.{accepted, accepted-states}
use mathlib.Core.Path.{sym, ◌∙◌}
use native.Mathlib.Omega.{arith}
use Rattle.routes.proofs.wish.wish_check.Goals as goal
use Rattle.routes.proofs.wish.wish_check.Goals.{then-wish-lt1-via-then-wish-lt1, then-wish-lt1-via-else-wish-lt1+then-wish-gt-ROUTES}
use Rattle.routes.proofs.wish.wish_check.Goals.{then-table-wish-via-then-table-wish, then-table-wish-via-else-table-wish+then-table-wish-2}

pub returns-then-wish-lt1 : goal.returns-then-wish-lt1
unfolding wish_check outside refuse_if
returns-then-wish-lt1 c =
    elim c.then-wish-lt1.branch [
      | then-wish-lt1-via-then-wish-lt1 w ↦ simp (lt-ltb _ _ w.if-wish-lt1.true)
      | then-wish-lt1-via-else-wish-lt1+then-wish-gt-ROUTES w ↦ simp (le-ltb _ _ w.if-wish-lt1.false, lt-ltb _ _ w.if-wish-gt-ROUTES.true)
    ]

pub returns-then-table-wish : goal.returns-then-table-wish
unfolding wish_check outside refuse_if
returns-then-table-wish c =
    elim c.then-table-wish.branch [
      | then-table-wish-via-then-table-wish w ↦ simp (le-ltb _ _ c.if-wish-lt1.false, le-ltb _ _ c.if-wish-gt-ROUTES.false, le-leb _ _ w.if-table-wish.true)
      | then-table-wish-via-else-table-wish+then-table-wish-2 w ↦
          simp (le-ltb _ _ c.if-wish-lt1.false, le-ltb _ _ c.if-wish-gt-ROUTES.false, lt-leb _ _ w.if-table-wish.false, le-leb _ _ w.if-table-wish-2.true)
    ]

pub returns-then-eq : goal.returns-then-eq
unfolding wish_check outside refuse_if
returns-then-eq c =
    simp (
      le-ltb _ _ c.if-wish-lt1.false,
      le-ltb _ _ c.if-wish-gt-ROUTES.false,
      lt-leb _ _ c.if-table-wish.false,
      lt-leb _ _ c.if-table-wish-2.false,
      sym c.eq.ensures ∙ c.if-eq.true,
    )

pub withdrawn_end-requires : goal.withdrawn_end-requires
withdrawn_end-requires c =
    let t = c.args.network.table in
    let long = (accepted-states t.n t.lows.now t.highs.now t.states.now c.args.network.accepted).long in
    (omega arith, omega arith)

pub returns-then-withdrawn_end : goal.returns-then-withdrawn_end
unfolding wish_check outside refuse_if
returns-then-withdrawn_end c =
    simp (
      le-ltb _ _ c.if-wish-lt1.false,
      le-ltb _ _ c.if-wish-gt-ROUTES.false,
      lt-leb _ _ c.if-table-wish.false,
      lt-leb _ _ c.if-table-wish-2.false,
      sym c.eq.ensures ∙ c.if-eq.false,
      sym c.withdrawn_end.ensures ∙ c.if-withdrawn_end.true,
    )

pub is_short-requires : goal.is_short-requires
is_short-requires c =
    let t = c.args.network.table in
    let few = (accepted t.n t.lows.now t.highs.now t.states.now c.args.network.accepted).few in
    let differ = eqb-false c.args.wish.from.0 c.args.wish.to.0 (sym c.eq.ensures ∙ c.if-eq.false) in
    (omega arith, omega arith, omega arith)

pub returns-then-is_short : goal.returns-then-is_short
unfolding wish_check outside refuse_if
returns-then-is_short c =
    simp (
      le-ltb _ _ c.if-wish-lt1.false,
      le-ltb _ _ c.if-wish-gt-ROUTES.false,
      lt-leb _ _ c.if-table-wish.false,
      lt-leb _ _ c.if-table-wish-2.false,
      sym c.eq.ensures ∙ c.if-eq.false,
      sym c.withdrawn_end.ensures ∙ c.if-withdrawn_end.false,
      sym c.is_short.ensures ∙ c.if-is_short.true,
    )

pub returns : goal.returns
unfolding wish_check outside refuse_if
returns c =
    simp (
      le-ltb _ _ c.if-wish-lt1.false,
      le-ltb _ _ c.if-wish-gt-ROUTES.false,
      lt-leb _ _ c.if-table-wish.false,
      lt-leb _ _ c.if-table-wish-2.false,
      sym c.eq.ensures ∙ c.if-eq.false,
      sym c.withdrawn_end.ensures ∙ c.if-withdrawn_end.false,
      sym c.is_short.ensures ∙ c.if-is_short.false,
    )
