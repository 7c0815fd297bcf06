-- The links at each relay, counted from the last link down; then those with a withdrawn end count no more. Assumes nothing.
use Rattle.std.specs.Prelude.{ℕ, ◌+◌, ◌-◌, ◌≤◌, Bool, ◌&&◌, not, List, ◌≡◌, eqb, ltb, length, get_or, set}
use Rattle.definitions.specs.Outcome.{pick}
use Rattle.definitions.specs.Lists.{table, count}
use Rattle.definitions.specs.Network.{touches, link_serves}
use Rattle.definitions.specs.Order.{links_at}
use Rattle.theory.specs.Accepted.{ProperTable, ProperStates}

-- How many of the links from i on relay r has.
unfoldable pub links_from : (lows highs : List ℕ) (i r : ℕ) → ℕ
links_from lows highs i r = count (touches lows highs r) (table (λ j. j) i (length lows - i))

-- The links from i on are counted at each relay.
abbrev pub CountedFrom : (lows highs : List ℕ) (i : ℕ) (counts : List ℕ) → Type 0
CountedFrom lows highs i counts = (r : ℕ) → get_or counts r 0 ≡ links_from lows highs i r

-- The same while the last `run` links at relay `last` are in hand and not in the list.
abbrev pub CountedBut : (lows highs : List ℕ) (i last run : ℕ) (counts : List ℕ) → Type 0
CountedBut lows highs i last run counts = (r : ℕ) → get_or counts r 0 + pick (eqb last r) run 0 ≡ links_from lows highs i r

-- So many links more at relay r.
abbrev pub more_links : (r more : ℕ) (counts : List ℕ) → List ℕ
more_links r more counts = set counts r (get_or counts r 0 + more)

-- One link more at relay r, behind a run of links at `last`: the run at r, and the list, which has that at `last` if it is over.
unfoldable pub run_on : (r last run : ℕ) → ℕ
run_on r last run = pick (eqb r last) (run + 1) 1

unfoldable pub list_on : (r last run : ℕ) (counts : List ℕ) → List ℕ
list_on r last run counts = pick (eqb r last) counts (more_links last run counts)

-- Link j has relay r as an end, and one of its ends is withdrawn.
unfoldable pub idle_at : (lows highs states : List ℕ) (r j : ℕ) → Bool
idle_at lows highs states r j = touches lows highs r j && not (link_serves lows highs states j)

-- How many such links from i on relay r has.
unfoldable pub idle_from : (lows highs states : List ℕ) (i r : ℕ) → ℕ
idle_from lows highs states i r = count (idle_at lows highs states r) (table (λ j. j) i (length lows - i))

-- The links with both ends in service are counted at each relay, and from i on the others still.
abbrev pub DiscountedTo : (lows highs states : List ℕ) (i : ℕ) (counts : List ℕ) → Type 0
DiscountedTo lows highs states i counts =
    (r : ℕ) → get_or counts r 0 ≡ links_at lows highs states r + idle_from lows highs states i r

-- The links with both ends in service are counted at each relay.
abbrev pub ServingCounted : (lows highs states counts : List ℕ) → Type 0
ServingCounted lows highs states counts = (r : ℕ) → get_or counts r 0 ≡ links_at lows highs states r

-- What counting these alone asks: all links are counted.
pub record Discountable (n : ℕ) (lows highs states counts : List ℕ) : Type 0 where
  pub proper : ProperTable n lows highs
  pub stated : ProperStates n states
  pub room : n ≤ length counts
  pub counted : CountedFrom lows highs 0 counts

-- One link less at relay r.
abbrev pub less_link : (r : ℕ) (counts : List ℕ) → List ℕ
less_link r counts = set counts r (get_or counts r 0 - 1)

-- The same at both ends of a link, if their states are not both 1, by the sum of these.
unfoldable pub discounted : (a b both : ℕ) (counts : List ℕ) → List ℕ
discounted a b both counts = pick (ltb both 2) (less_link b (less_link a counts)) counts
