-- `start_a` meets its contract.
use Rattle.std.proofs.Common.{◌∙◌, ◌-◌, sym, ap, arith}
use Rattle.sweep.proofs.Loops.{start-a-turn, start-a-end}
use Rattle.sweep.specs.Side.{left_of, set_path}
use Rattle.sweep.specs.Sides.{start_a}
use Rattle.sweep.proofs.start_a.Goals as goal

pub loop-i-preserved : goal.loop-i-preserved
loop-i-preserved c =
    let look = left_of c.args.table in
    let s = c.args.s.0 in
    let i = c.loop-i.i in
    c.loop-i.invariant
    ∙ start-a-turn look s i c.loop-i.a c.loop-i-test.true
    ∙ ap (start_a look s (i - 1))
    (ap (λ next. set_path c.loop-i.a i next s) (sym c.left-next.ensures) ∙ sym c.set_path.ensures)

pub returns : goal.returns
returns c =
    sym (c.loop-i.invariant ∙ start-a-end (left_of c.args.table) c.args.s.0 c.loop-i.i c.loop-i.a (omega arith))
