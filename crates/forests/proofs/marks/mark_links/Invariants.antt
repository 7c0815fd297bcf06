-- After each turn that many numbers are marks, and `kept` is their sum.
use Rattle.std.proofs.Common.{◌≡◌, ◌≤◌, map, take}
use Rattle.definitions.specs.Lists.{total}
use Rattle.definitions.specs.Forests.{mark_of}
use Rattle.lists.specs.Mapped.{mapped}
use Rattle.forests.proofs.marks.mark_links.Given as goal

abbrev pub invariant-loop-entry : goal.invariant-loop-entry
invariant-loop-entry l =
    (l.entry-items ≡ mapped (mark_of l.k) l.entry-index l.fn.marks)
    × (l.kept ≡ total (map (mark_of l.k) (take l.entry-index l.fn.marks)))
    × (l.kept ≤ l.entry-index)
