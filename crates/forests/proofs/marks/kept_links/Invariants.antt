-- After each turn `kept` is the sum of that many marks.
use Rattle.std.proofs.Common.{◌≡◌, ◌≤◌, map, take}
use Rattle.definitions.specs.Lists.{total}
use Rattle.definitions.specs.Forests.{mark_of}
use Rattle.forests.proofs.marks.kept_links.Given as goal

abbrev pub invariant-loop-forest : goal.invariant-loop-forest
invariant-loop-forest l =
    (l.kept ≡ total (map (mark_of l.k) (take l.forest-index (take l.count l.forests)))) × (l.kept ≤ l.forest-index)
