-- `may_step` meets its contract, test by test.
use Rattle.std.proofs.Common.{◌≡◌, ◌&&◌, not, eqb, refl}
use Rattle.verify.specs.Walks.{link_carries}
use Rattle.verify.proofs.MarkLaws.{and-second, and-first}
use Rattle.verify.proofs.walk.may_step.Goals as goal
use Rattle.verify.proofs.walk.may_step.Goals.{then-link_joins, else-link_joins, then-link_serves, else-link_serves}

pub returns-then-ne : goal.returns-then-ne
returns-then-ne c =
    let a = c.args in
    let carries : c.if-link_joins.value ≡ link_carries a.network.table a.a.0 a.b.0 a.l.0 = elim c.if-link_joins.branch [
      | then-link_joins w ↦ and-second w.if-link_joins.true c.link_joins.ensures w.value-is w.link_serves.ensures
      | else-link_joins w ↦ and-first _ w.if-link_joins.false c.link_joins.ensures w.value-is
    ] in
    let inner : c.if-link_serves.value ≡ (link_carries a.network.table a.a.0 a.b.0 a.l.0 && not (eqb a.a.0 a.to.0)) = elim c.if-link_serves.branch [
      | then-link_serves w ↦ and-second w.if-link_serves.true carries w.value-is w.ne.ensures
      | else-link_serves w ↦ and-first _ w.if-link_serves.false carries w.value-is
    ] in
    and-second c.if-ne.true inner refl refl

pub returns-else-ne : goal.returns-else-ne
returns-else-ne c =
    let a = c.args in
    let carries : c.if-link_joins.value ≡ link_carries a.network.table a.a.0 a.b.0 a.l.0 = elim c.if-link_joins.branch [
      | then-link_joins w ↦ and-second w.if-link_joins.true c.link_joins.ensures w.value-is w.link_serves.ensures
      | else-link_joins w ↦ and-first _ w.if-link_joins.false c.link_joins.ensures w.value-is
    ] in
    let inner : c.if-link_serves.value ≡ (link_carries a.network.table a.a.0 a.b.0 a.l.0 && not (eqb a.a.0 a.to.0)) = elim c.if-link_serves.branch [
      | then-link_serves w ↦ and-second w.if-link_serves.true carries w.value-is w.ne.ensures
      | else-link_serves w ↦ and-first _ w.if-link_serves.false carries w.value-is
    ] in
    and-first _ c.if-ne.false inner refl
