-- `judge` meets its contract: proofs/JudgeLaws.antt has each way through the code.
use Rattle.std.proofs.Common.{◌∙◌, sym}
use Rattle.std.proofs.lemmas.Bool.{eqb-true}
use Rattle.verify.proofs.JudgeLaws.{other-k, other-count, routes-fail, kept-says}
use Rattle.verify.proofs.judge.Goals as goal
use Rattle.verify.proofs.judge.Goals.{then-form-from, else-form-from}

pub returns-then-k-lt1 : goal.returns-then-k-lt1
returns-then-k-lt1 c = λ said. other-k c.args.network.table c.args.text.now c.args.form said c.then-k-lt1.either

pub returns-then-routes_hold : goal.returns-then-routes_hold
returns-then-routes_hold c =
    let a = c.args in
    λ said.
    elim c.if-form-from.branch [
      | then-form-from w ↦
          kept-says a.network.table a.text.now a.form said c.if-k-lt1.false c.if-k-gt-ROUTES.false (w.if-form-from.true ∙ c.from.ensures)
          w.routes_hold.result w.routes_hold.ensures (sym w.value-is ∙ c.if-routes_hold.true) c.kept_count.result c.kept_count.ensures
      | else-form-from w ↦ absurd (w.if-form-from.false (eqb-true _ _ (sym w.value-is ∙ c.if-routes_hold.true)))
    ]

pub returns-else-routes_hold : goal.returns-else-routes_hold
returns-else-routes_hold c =
    let a = c.args in
    λ said.
    rw c.if-routes_hold.false
    (elim c.if-form-from.branch [
      | then-form-from w ↦
          routes-fail a.network.table a.text.now a.form said c.if-k-lt1.false c.if-k-gt-ROUTES.false (w.if-form-from.true ∙ c.from.ensures)
          w.routes_hold.result w.routes_hold.ensures (sym w.value-is ∙ c.if-routes_hold.false)
      | else-form-from w ↦
          other-count a.network.table a.text.now a.form said c.if-k-lt1.false c.if-k-gt-ROUTES.false
          (λ same. w.if-form-from.false (same ∙ sym c.from.ensures))
    ])
