-- `keep::print::put_link` meets its contract, by the mark and by the states of both ends.
use mathlib.Core.Bool.{◌&&◌}
use mathlib.Core.Path.{sym, ◌∙◌, ap}
use native.Mathlib.Omega.{arith}
use lib.ListN.{length}
use borrow.Author.Tests.{eq-eqb, ne_eqb}
use Rattle.definitions.specs.Network.{serves}
use Rattle.keep.specs.Lines.{kept_line, dropped_line, idle-line}
use Rattle.keep.proofs.print.put_link.Goals as goal

pub put_triple-requires : goal.put_triple-requires
put_triple-requires c =
    let a = c.args in
    let serving = serves a.states.now a.a.0 && serves a.states.now a.b.0 in
    omega (arith, c.requires.b_in_bounds, ap length (kept_line a.mark a.i a.a.0 a.b.0 serving (eq-eqb _ _ c.if-mark-eq1.true)))

pub both_serve-requires : goal.both_serve-requires
both_serve-requires c = c.requires.a_in_bounds

pub put_triple-requires-then-both_serve : goal.put_triple-requires-then-both_serve
put_triple-requires-then-both_serve c =
    let a = c.args in
    let both = sym c.both_serve.ensures ∙ c.if-both_serve.true in
    omega (arith, c.requires.b_in_bounds, ap length (dropped_line a.mark a.i a.a.0 a.b.0 _ (ne_eqb _ _ c.if-mark-eq1.false) both))

pub put_triple-requires-else-both_serve : goal.put_triple-requires-else-both_serve
put_triple-requires-else-both_serve c =
    let a = c.args in
    let one = sym c.both_serve.ensures ∙ c.if-both_serve.false in
    omega (arith, c.requires.b_in_bounds, ap length (idle-line a.mark a.i a.a.0 a.b.0 _ (ne_eqb _ _ c.if-mark-eq1.false) one))

pub returns-then-mark-eq1 : goal.returns-then-mark-eq1
returns-then-mark-eq1 c =
    let a = c.args in
    rw (kept_line a.mark a.i a.a.0 a.b.0 _ (eq-eqb _ _ c.if-mark-eq1.true)) c.put_triple.ensures

pub returns-then-both_serve : goal.returns-then-both_serve
returns-then-both_serve c =
    let a = c.args in
    let both = sym c.both_serve.ensures ∙ c.if-both_serve.true in
    rw (dropped_line a.mark a.i a.a.0 a.b.0 _ (ne_eqb _ _ c.if-mark-eq1.false) both) c.put_triple-then-both_serve.ensures

pub returns-else-both_serve : goal.returns-else-both_serve
returns-else-both_serve c =
    let a = c.args in
    let one = sym c.both_serve.ensures ∙ c.if-both_serve.false in
    rw (idle-line a.mark a.i a.a.0 a.b.0 _ (ne_eqb _ _ c.if-mark-eq1.false) one) c.put_triple-else-both_serve.ensures
