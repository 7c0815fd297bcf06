-- The loop's invariant: the whole run of stores is that of the digits of the tens left, on the buffer as it is.
use Prim.Native.Nat.{◌+◌}
use mathlib.Core.Path.{◌≡◌}
use lib.ListN.{length}
use lib.Seq.{sets}
use Rattle.definitions.specs.Form.{decimal}
use Rattle.text.proofs.put.put_number.Given as goal

abbrev pub invariant-loop-p : goal.invariant-loop-p
invariant-loop-p l =
    (length l.buffer ≡ length l.initial.buffer) × (l.p ≡ l.at + length (decimal l.tens))
    × (sets l.initial.buffer l.at (decimal l.x) ≡ sets l.buffer l.at (decimal l.tens))
