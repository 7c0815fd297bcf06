-- `start_b` meets its contract.
use Rattle.std.proofs.Common.{◌∙◌, ◌-◌, sym, ap, arith}
use Rattle.sweep.proofs.Loops.{start-b-turn, start-b-end}
use Rattle.sweep.specs.Sides.{start_b}
use Rattle.sweep.proofs.start_b.Goals as goal

pub loop-i-preserved : goal.loop-i-preserved
loop-i-preserved c =
    let t = c.args.t.0 in
    c.loop-i.invariant
    ∙ start-b-turn t c.loop-i.i c.loop-i.b c.loop-i-test.true
    ∙ ap (start_b t (c.loop-i.i - 1)) (sym c.set_path.ensures)

pub returns : goal.returns
returns c = sym (c.loop-i.invariant ∙ start-b-end c.args.t.0 c.loop-i.i c.loop-i.b (omega arith))
