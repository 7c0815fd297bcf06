-- `routes_hold` meets its contract: of no marks at all, that of `from` is set first.
use Rattle.std.proofs.Common.{ℕ, Bool, ◌∙◌, ap, subst, arith, refl}
use Rattle.lists.specs.Bitmap.{marked}
use Rattle.verify.specs.Walks.{RoutesWalked}
use Rattle.verify.proofs.MarkLaws.{from-met}
use Rattle.verify.proofs.walk.routes_hold.Goals as goal

pub returns : goal.returns
returns c =
    let a = c.args in
    let w = a.form.wish in
    subst (λ (met : ℕ → Bool). RoutesWalked a.network.table a.text.now w.from.0 w.to.0 met a.form.routes a.form.first c.all_routes.result)
    (ap marked c.meet.ensures.marks ∙ from-met _ w.from.0 refl (omega (arith, c.well_formed)))
    c.all_routes.ensures
