-- The ends of an accepted network's links. Assumes nothing.
use Rattle.std.proofs.Common.{ℕ, ◌≡◌, ◌<◌, arith, List, length, get_or}
use Rattle.definitions.specs.Network.{Accepted}
use Rattle.theory.specs.Accepted.{accepted, accepted-states}
use Rattle.network.specs.Tables.{OfTable}
use Rattle.network.specs.declared.Table.{Table}

-- Each has a state.
pub record EndsKnown (lows highs states : List ℕ) : Type 0 where
  pub even : length lows ≡ length highs
  pub low : (i : ℕ) → i < length lows → get_or lows i 0 < length states
  pub high : (i : ℕ) → i < length lows → get_or highs i 0 < length states

pub ends-known : (table : Table) → OfTable Accepted table → EndsKnown table.lows.now table.highs.now table.states.now
ends-known table ok =
    let proper = accepted table.n table.lows.now table.highs.now table.states.now ok in
    let known = accepted-states table.n table.lows.now table.highs.now table.states.now ok in
    record {
      even = proper.even;
      low = λ i less. omega (arith, proper.ordered i less, proper.below i less, known.long);
      high = λ i less. omega (arith, proper.below i less, known.long);
    }
