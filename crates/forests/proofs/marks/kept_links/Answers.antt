-- After each turn `kept` is the sum of that many marks.
use Rattle.std.proofs.Common.{length-take-le, refl, arith, get_or, take}
use native.Mathlib.Numerals.{add-one}
use Rattle.definitions.specs.Lists.{total}
use Rattle.definitions.specs.Forests.{mark_of}
use Rattle.lists.specs.Mapped.{total-more}
use Rattle.theory.proofs.Columns.{mark-small}
use Rattle.forests.proofs.marks.kept_links.Goals as goal

pub loop-forest-init : goal.loop-forest-init
unfolding total
loop-forest-init c = (refl, omega arith)

pub overflow_add-kept : goal.overflow_add-kept
overflow_add-kept c =
    let front = take c.args.count c.args.forests.now in
    omega (arith, length-take-le c.args.count c.args.forests.now, mark-small c.args.k (get_or front c.loop-forest.forest-index 0), c.mark-kept.ensures)

pub loop-forest-preserved : goal.loop-forest-preserved
loop-forest-preserved c =
    let i = c.loop-forest.forest-index in
    let front = take c.args.count c.args.forests.now in
    let k = c.args.k in
    let sum = total-more (mark_of k) front i c.loop-forest-test.true in
    (rw (add-one i) (omega (arith, c.mark-kept.ensures)), omega (arith, mark-small k (get_or front i 0), c.mark-kept.ensures))
