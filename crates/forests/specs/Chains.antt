-- Chains of links by a search: the next link at a relay from an index on. A link is in two chains, by its two halves.
-- Assumes nothing.
use Rattle.std.specs.Prelude.{ℕ, zero, suc, ◌+◌, ◌-◌, ◌*◌, ◌≤◌, ◌<◌, List, ◌≡◌, eqb, ltb, length, get_or}
use Rattle.definitions.specs.Outcome.{pick}
use Rattle.definitions.specs.Network.{touches}
use Rattle.theory.specs.Accepted.{ProperTable}

-- The first of the `count` links from i on that r is an end of; the number behind them if there is none.
unfoldable pub next_at : (lows highs : List ℕ) (r count i : ℕ) → ℕ
next_at lows highs r zero i = i
next_at lows highs r (suc count) i = pick (touches lows highs r i) i (next_at lows highs r count (suc i))

-- The first of all links from i on that r is an end of; the number of links if there is none.
unfoldable pub next_from : (lows highs : List ℕ) (r i : ℕ) → ℕ
next_from lows highs r i = next_at lows highs r (length lows - i) i

-- The half of link i at relay r: 2 i at its low end, 2 i + 1 at its high end.
unfoldable pub half_of : (lows : List ℕ) (r i : ℕ) → ℕ
half_of lows r i = pick (eqb (get_or lows i 0) r) (2 * i) (2 * i + 1)

-- The half at r of the first link from i on that r is an end of; twice the number of links if there is none.
unfoldable pub next_half : (lows highs : List ℕ) (r i : ℕ) → ℕ
next_half lows highs r i = pick (ltb (next_from lows highs r i) (length lows)) (half_of lows r (next_from lows highs r i)) (2 * length lows)

-- No relay has a chain yet, and there is room for all half-links.
pub record NoChains (lows first nexts : List ℕ) : Type 0 where
  pub none : (r : ℕ) → r < length first → get_or first r 0 ≡ 2 * length lows
  pub room : 2 * length lows ≤ length nexts

-- What making the chains asks: a table of relays that have a head each, and no chain yet.
pub record Chainable (lows highs first nexts : List ℕ) : Type 0 where
  pub proper : ProperTable (length first) lows highs
  pub no_chains : NoChains lows first nexts

-- The chains of all links from i on: of each relay, and of each half-link.
pub record ChainedFrom (lows highs : List ℕ) (i : ℕ) (first nexts : List ℕ) : Type 0 where
  pub room : 2 * length lows ≤ length nexts
  pub heads : (r : ℕ) → r < length first → get_or first r 0 ≡ next_half lows highs r i
  pub low : (j : ℕ) → i ≤ j → j < length lows → get_or nexts (2 * j) 0 ≡ next_half lows highs (get_or lows j 0) (suc j)
  pub high : (j : ℕ) → i ≤ j → j < length lows → get_or nexts (2 * j + 1) 0 ≡ next_half lows highs (get_or highs j 0) (suc j)
