-- After each turn that many numbers are marks, and `kept` is their sum.
use Rattle.std.proofs.Common.{◌≡◌, ◌∙◌, refl, sym, ap, ap₂, arith, get_or, set}
use native.Mathlib.Numerals.{add-one}
use Rattle.definitions.specs.Lists.{total}
use Rattle.definitions.specs.Forests.{mark_of}
use Rattle.lists.specs.Mapped.{mapped, mapped_next, mapped-more, total-more}
use Rattle.theory.proofs.Columns.{mark-small}
use Rattle.forests.proofs.marks.mark_links.Goals as goal

pub loop-entry-init : goal.loop-entry-init
unfolding total
loop-entry-init c = (refl, refl, omega arith)

pub overflow_add-kept : goal.overflow_add-kept
overflow_add-kept c =
    let i = c.loop-entry.entry-index in
    omega (arith, c.loop-entry.invariant.2, mark-small c.args.k (get_or c.loop-entry.entry-items i 0), c.mark.ensures)

pub loop-entry-preserved : goal.loop-entry-preserved
loop-entry-preserved c =
    let i = c.loop-entry.entry-index in
    let front = c.args.marks.now in
    let k = c.args.k in
    let inside = c.loop-entry-test.true in
    let this : c.mark.result ≡ mark_of k (get_or front i 0) =
    c.mark.ensures ∙ ap (λ x. mark_of k (get_or x i 0)) c.loop-entry.invariant.0 ∙ ap (mark_of k) (mapped_next (mark_of k) front i inside) in
    let sum = total-more (mark_of k) front i inside in (
      ap₂ (λ x v. set x i v) c.loop-entry.invariant.0 this ∙ mapped-more (mark_of k) front i inside ∙ ap (λ j. mapped (mark_of k) j front)
          (sym (add-one i)),
      rw (add-one i) (omega arith),
      omega (arith, c.loop-entry.invariant.2, mark-small k (get_or front i 0)),
    )
