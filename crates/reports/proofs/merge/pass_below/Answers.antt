-- `reports::merge::pass_below` meets its contract: no number is left, or the next is not below a.
use mathlib.Core.Path.{refl, sym, ◌∙◌, ap}
use native.Mathlib.Omega.{arith}
use Rattle.text_theory.specs.Forms.{no_zero}
use Rattle.text_theory.specs.SpacedNumbers.{ANumber, number_behind}
use Rattle.text.specs.Scans.{number_gives}
use Rattle.reports.proofs.MergeLaws.{none-onward, stays-onward, passes-onward}
use Rattle.reports.proofs.merge.pass_below.Goals as goal

pub loop-x-init : goal.loop-x-init
loop-x-init c = record { same = refl; onward = omega arith }

pub word_number-requires : goal.word_number-requires
unfolding no_zero
word_number-requires c = refl

pub returns-then-a-x : goal.returns-then-a-x
returns-then-a-x c =
    let number : ANumber c.args.text.now c.loop-x.p c.in-Ok.x c.in-Ok.q =
    sym c.word_number.ensures ∙ ap number_gives c.in-Ok.is in
    let a = c.args in
    stays-onward a.text.now a.at a.a c.loop-x.p c.loop-x.invariant _ _ number (omega (arith, c.if-a-x.true))

pub loop-x-smaller : goal.loop-x-smaller
loop-x-smaller c =
    let number : ANumber c.args.text.now c.loop-x.p c.in-Ok.x c.in-Ok.q =
    sym c.word_number.ensures ∙ ap number_gives c.in-Ok.is in
    omega (arith, number_behind c.args.text.now c.loop-x.p _ _ number)

pub loop-x-preserved : goal.loop-x-preserved
loop-x-preserved c =
    let number : ANumber c.args.text.now c.loop-x.p c.in-Ok.x c.in-Ok.q =
    sym c.word_number.ensures ∙ ap number_gives c.in-Ok.is in
    let a = c.args in
    passes-onward a.text.now a.at a.a c.loop-x.p c.loop-x.invariant _ _ number (omega (arith, c.if-a-x.false))

pub returns : goal.returns
returns c =
    let a = c.args in
    none-onward a.text.now a.at a.a c.loop-x.p c.loop-x.invariant
    (_, sym c.word_number.ensures ∙ ap number_gives c.in_default.is)
