-- `leave_at` meets its contract.
use Rattle.std.proofs.Common.{sym, ◌∙◌, eq-eqb, ne_eqb}
use Rattle.sweep.specs.Sides.{leave_at}
use Rattle.sweep.specs.Side.{end_in}
use Rattle.sweep.proofs.leave_at.Goals as goal

pub returns-then-end_of-t : goal.returns-then-end_of-t
unfolding leave_at
returns-then-end_of-t c =
    let a = c.args in
    rw (ne_eqb (end_in a.a.now a.i) a.t.0 (λ e. c.if-end_of-t.true (c.end_of.ensures ∙ e)), ← c.left-next.ensures)
    c.set_path.ensures

pub returns-else-end_of-t : goal.returns-else-end_of-t
unfolding leave_at
returns-else-end_of-t c =
    let a = c.args in
    rw (eq-eqb (end_in a.a.now a.i) a.t.0 (sym c.end_of.ensures ∙ c.if-end_of-t.false))
