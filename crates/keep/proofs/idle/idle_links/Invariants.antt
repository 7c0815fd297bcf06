-- The loop's invariant: all the idle links are those counted and those that are left.
use Rattle.std.proofs.Common.{◌≡◌, ◌+◌, ◌-◌, length}
use Rattle.definitions.specs.Keep.{idle_count}
use Rattle.keep.specs.Counts.{idle_from}
use Rattle.keep.proofs.idle.idle_links.Given as goal

abbrev pub invariant-loop-i : goal.invariant-loop-i
invariant-loop-i l =
    let t = l.table in
    idle_count t.lows.now t.highs.now t.states.now
    ≡ l.idle + idle_from t.lows.now t.highs.now t.states.now l.i (length t.lows.now - l.i)
