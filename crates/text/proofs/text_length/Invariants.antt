-- The loop's invariant: the length so far and that of the lines left make that of the text.
use Prim.Native.Nat.{◌+◌, ◌-◌, ◌*◌, ◌≤◌}
use mathlib.Core.Path.{◌≡◌}
use lib.ListN.{length}
use Rattle.definitions.specs.Text.{link_lines}
use Rattle.text.proofs.text_length.Given as goal

abbrev pub invariant-loop-i : goal.invariant-loop-i
invariant-loop-i l =
    let lows = l.table.lows.now in
    let highs = l.table.highs.now in
    (l.total ≤ l.initial.total + 19 * l.i)
    × (l.total + length (link_lines lows highs l.i (length lows - l.i)) ≡ l.initial.total + length (link_lines lows highs 0 (length lows)))
