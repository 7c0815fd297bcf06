-- `text::put::width` meets its contract. The loop: the digits counted and those of the tens left make those of the number.
use Prim.Native.Nat.{◌+◌, ◌≤◌}
use mathlib.Core.Path.{◌≡◌}
use lib.ListN.{length}
use Rattle.definitions.specs.Form.{decimal}
use Rattle.text.proofs.put.width.Given as goal

abbrev pub invariant-loop-tens : goal.invariant-loop-tens
invariant-loop-tens l =
    (l.count + l.tens ≤ l.x + 1) × (l.count + length (decimal l.tens) ≡ length (decimal l.x) + 1)

abbrev pub decreases-loop-tens : goal.decreases-loop-tens
decreases-loop-tens l = l.tens
