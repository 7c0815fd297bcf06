-- The mark of a link, case by case.
use Rattle.std.proofs.Common.{arith}
use Rattle.definitions.specs.Forests.{mark_of}
use Rattle.lists.specs.Ranges.{inside, below, above}
use Rattle.forests.proofs.marks.mark.Goals as goal
use Rattle.forests.proofs.marks.mark.Goals.{else-forest-ge1-via-then-forest-ge1+else-forest-k, else-forest-ge1-via-else-forest-ge1}

pub returns-then-forest-k : goal.returns-then-forest-k
unfolding mark_of
returns-then-forest-k c = rw (inside 1 c.args.k c.args.forest (omega arith) (omega arith))

pub returns-else-forest-ge1 : goal.returns-else-forest-ge1
unfolding mark_of
returns-else-forest-ge1 c =
    elim c.else-forest-ge1.branch [
      | else-forest-ge1-via-then-forest-ge1+else-forest-k w ↦
          rw (above 1 c.args.k c.args.forest (omega arith) (omega (arith, w.if-forest-k.false)))
      | else-forest-ge1-via-else-forest-ge1 w ↦ rw (below 1 c.args.k c.args.forest (omega (arith, w.if-forest-ge1.false)))
    ]
