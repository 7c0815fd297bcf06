-- The loop's invariant: the whole run of stores is that of the letters left, on the buffer as it is.
use Prim.Native.Nat.{◌+◌}
use mathlib.Core.Path.{◌≡◌}
use lib.ListN.{length, drop}
use lib.Seq.{sets}
use Rattle.text.proofs.put.put_word.Given as goal

abbrev pub invariant-loop-i : goal.invariant-loop-i
invariant-loop-i l =
    (length l.buffer ≡ length l.initial.buffer) × (sets l.initial.buffer l.at l.letters ≡ sets l.buffer (l.at + l.i) (drop l.i l.letters))
