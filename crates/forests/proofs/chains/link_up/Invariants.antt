-- The chains of half-links and the links counted meet their contract: after each turn they are those of all links from i on.
use Prim.Native.Nat.{◌<◌}
use lib.ListN.{length}
use Rattle.forests.specs.Chains.{ChainedFrom}
use Rattle.forests.specs.LinkCounts.{CountedBut}
use Rattle.forests.proofs.chains.link_up.Given as goal

abbrev pub invariant-loop-i : goal.invariant-loop-i
invariant-loop-i l =
    ChainedFrom l.lows l.highs l.i l.first l.nexts
    × CountedBut l.lows l.highs l.i l.last.0 l.run l.counts
    × (l.last.0 < length l.counts)
