-- What the walk over the links of a relay x does to the counts and the forest numbers, in terms of all links below an index.
-- Assumes nothing.
use Rattle.std.specs.Prelude.{ℕ, ◌*◌, ◌/◌, ◌%◌, ◌≤◌, ◌<◌, true, ◌&&◌, List, ◌≡◌, eqb, ltb, length, get_or, set}
use Rattle.definitions.specs.Outcome.{pick}
use Rattle.definitions.specs.Lists.{some_below}
use Rattle.definitions.specs.Network.{joins, touches}
use Rattle.theory.specs.Accepted.{ProperTable}
use Rattle.forests.specs.Chains.{ChainedFrom}
use Rattle.forests.specs.Counts.{raised_count, forest_number}
use Rattle.forests.specs.Buckets.{most_count, Buckets}

-- The end of a link that is not x.
unfoldable pub other_end : (x low high : ℕ) → ℕ
other_end x low high = pick (eqb low x) high low

-- The end of link i that is not x.
unfoldable pub far_end : (lows highs : List ℕ) (x i : ℕ) → ℕ
far_end lows highs x i = other_end x (get_or lows i 0) (get_or highs i 0)

-- The end of a link that its half h is not at: the high one from the low one, and back.
unfoldable pub across_of : (h low high : ℕ) → ℕ
across_of h low high = pick (eqb (h % 2) 0) high low

-- The end of link h / 2 that its half h is not at.
unfoldable pub across : (lows highs : List ℕ) (h : ℕ) → ℕ
across lows highs h = across_of h (get_or lows (h / 2) 0) (get_or highs (h / 2) 0)

-- What a visit of the half-link h asks.
pub record Visitable (h : ℕ) (lows highs nexts counts bits forests : List ℕ) : Type 0 where
  pub within : h < 2 * length lows
  pub same : length highs ≡ length lows
  pub short : length lows ≤ 3000
  pub room : length lows ≤ length forests
  pub next_room : 2 * length lows ≤ length nexts
  pub far : across lows highs h < length counts
  pub sorted : Buckets counts bits
  pub bound : get_or counts (across lows highs h) 0 < most_count
  pub fresh : 0 < get_or counts (across lows highs h) 0 → get_or forests (h / 2) 0 ≡ 0

-- What a visit does.
pub record Visited (h : ℕ) (lows highs nexts counts counts' bits' forests forests' : List ℕ) (next : ℕ) : Type 0 where
  pub count : counts' ≡ set counts (across lows highs h) (raised_count (get_or counts (across lows highs h) 0))
  pub sorted : Buckets counts' bits'
  pub forest : forests' ≡ set forests (h / 2) (forest_number (get_or counts (across lows highs h) 0) (get_or forests (h / 2) 0))
  pub onward : next ≡ get_or nexts h 0

-- The counts and the forest numbers when all links of x below i were visited; `counts` and `forests` are those before.
pub record WalkedTo (lows highs : List ℕ) (x i : ℕ) (counts counts' forests forests' : List ℕ) : Type 0 where
  pub count_room : length counts' ≡ length counts
  pub long : length forests' ≡ length forests
  pub count : (r : ℕ)
      → get_or counts' r 0 ≡ pick (some_below (joins lows highs x r) i) (raised_count (get_or counts r 0)) (get_or counts r 0)
  pub forest : (j : ℕ)
      → get_or forests' j 0
      ≡ pick (ltb j i && touches lows highs x j) (forest_number (get_or counts (far_end lows highs x j) 0) (get_or forests j 0)) (get_or forests j 0)

-- What the walk over all links of x asks; a link from x to a waiting relay has no number yet.
pub record Walkable (x : ℕ) (lows highs first nexts counts bits forests : List ℕ) : Type 0 where
  pub proper : ProperTable (length first) lows highs
  pub chained : ChainedFrom lows highs 0 first nexts
  pub relay : x < length first
  pub count_room : length first ≤ length counts
  pub room : length lows ≤ length forests
  pub sorted : Buckets counts bits
  pub bound : (j : ℕ) → j < length lows → touches lows highs x j ≡ true → get_or (set counts x 0) (far_end lows highs x j) 0 < most_count
  pub fresh : (j : ℕ) → j < length lows → touches lows highs x j ≡ true → 0 < get_or (set counts x 0) (far_end lows highs x j) 0
      → get_or forests j 0 ≡ 0

-- What it does: x is placed, so that its count is 0, and all its links are visited.
abbrev pub Walked : (x : ℕ) (lows highs counts counts' forests forests' : List ℕ) → Type 0
Walked x lows highs counts counts' forests forests' = WalkedTo lows highs x (length lows) (set counts x 0) counts' forests forests'
