-- After each turn one relay more has its place: the first, then the one that leads, which is the next one.
use Prim.Native.Nat.{ℕ, ◌≤◌, ◌<◌}
use mathlib.Core.Path.{◌≡◌}
use lib.ListN.{length, get_or}
use Rattle.forests.specs.Buckets.{column_words, Buckets}
use Rattle.forests.specs.Scan.{ScannedTo}
use Rattle.forests.proofs.placing.place_all.Given as goal

abbrev pub invariant-loop-placed : goal.invariant-loop-placed
invariant-loop-placed l =
    ScannedTo l.network.table.n l.network.table.lows.now l.network.table.highs.now l.network.table.states.now l.placed
    l.counts l.initial.relays l.relays l.initial.places l.places l.initial.forests l.forests
    × Buckets l.counts l.bits
    × ((r : ℕ) → get_or l.counts r 0 ≤ l.most)
    × (l.most < column_words)
    × (length l.counts ≡ length l.initial.counts)
    × (length l.bits ≡ length l.initial.bits)
