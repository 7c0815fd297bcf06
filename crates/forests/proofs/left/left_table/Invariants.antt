-- After each turn one link more is entered, and one earlier end more put, whatever the states are.
use Prim.Native.Nat.{ℕ}
use mathlib.Core.List.{List}
use Rattle.forests.specs.Left.{LeftInput}
use Rattle.forests.proofs.LeftTableLaws.{LeftTo, EndsTo}
use Rattle.forests.proofs.left.left_table.Given as goal

abbrev pub invariant-loop-i : goal.invariant-loop-i
invariant-loop-i l =
    (states : List ℕ) → LeftInput l.n l.k l.lows l.highs states l.places l.initial.forests l.initial.entries
    → LeftTo l.n l.k l.lows l.highs states l.i l.initial.entries l.entries
    × EndsTo l.n l.k l.lows l.highs states l.i l.initial.forests l.forests
