-- The loop's invariant: the length so far and that of the lines left make that of all lines.
use Prim.Native.Nat.{◌+◌, ◌*◌, ◌≤◌}
use mathlib.Core.Path.{◌≡◌}
use lib.ListN.{length}
use Rattle.definitions.specs.Text.{out_lines}
use Rattle.text.specs.WrittenOuts.{outs_from}
use Rattle.text.proofs.put.outs_length.Given as goal

abbrev pub invariant-loop-relay : goal.invariant-loop-relay
invariant-loop-relay l =
    (l.total ≤ 10 * l.relay) × (l.total + length (outs_from l.states l.relay) ≡ length (out_lines l.states 0 (length l.states)))
