-- `reports::merge::merge_row` meets its contract: the row ends, or there are more links than a network may have.
use mathlib.Core.Path.{refl, sym, ◌∙◌, ap}
use native.Mathlib.Omega.{arith}
use Rattle.text_theory.specs.Forms.{no_zero}
use Rattle.text_theory.specs.SpacedNumbers.{ANumber, number_behind}
use Rattle.text.specs.Scans.{number_gives}
use Rattle.reports.proofs.MergeLaws.{row-starts, row_done, row-full, row-tried, next-below}
use Rattle.reports.proofs.merge.merge_row.Goals as goal

pub loop-count-init : goal.loop-count-init
loop-count-init c =
    row-starts c.requires.all_below_in

pub word_number-requires : goal.word_number-requires
unfolding no_zero
word_number-requires c = refl

pub returns-in_default : goal.returns-in_default
returns-in_default c =
    row_done c.loop-count.invariant
    (_, sym c.word_number.ensures ∙ ap number_gives c.in_default.is) c.loop-count-test.true

pub try_link-count-requires : goal.try_link-count-requires
try_link-count-requires c =
    let number : ANumber c.args.text.now c.loop-count.p c.in-Ok.b c.in-Ok.next =
    sym c.word_number.ensures ∙ ap number_gives c.in-Ok.is in
    let inv = c.loop-count.invariant in
    let below = next-below inv number in
    (omega (arith, below, inv.room.places_room), c.loop-count-test.true)

pub loop-count-smaller : goal.loop-count-smaller
loop-count-smaller c =
    let number : ANumber c.args.text.now c.loop-count.p c.in-Ok.b c.in-Ok.next =
    sym c.word_number.ensures ∙ ap number_gives c.in-Ok.is in
    omega (arith, number_behind _ c.loop-count.p _ _ number)

pub loop-count-preserved : goal.loop-count-preserved
loop-count-preserved c =
    let number : ANumber c.args.text.now c.loop-count.p c.in-Ok.b c.in-Ok.next =
    sym c.word_number.ensures ∙ ap number_gives c.in-Ok.is in
    row-tried c.loop-count.invariant number c.try_link-count.ensures

pub returns : goal.returns
returns c = row-full c.loop-count.invariant (omega (arith, c.loop-count-test.false))
