-- The loop's invariant: the marks hold the pairs of the links passed, and the check of all links is that of the links from here on.
use Rattle.std.proofs.Common.{◌≡◌, ◌-◌, length}
use Rattle.definitions.specs.Network.{links_check}
use Rattle.network.specs.Seen.{Seen}
use Rattle.network.proofs.links_check.Given as goal

abbrev pub invariant-loop-i : goal.invariant-loop-i
invariant-loop-i l =
    (l.marks.n ≡ l.initial.marks.n)
    × Seen l.marks.n l.marks.seen.now l.lows l.highs l.i
    × (links_check l.marks.n l.lows l.highs 0 (length l.lows) ≡ links_check l.marks.n l.lows l.highs l.i (length l.lows - l.i))
