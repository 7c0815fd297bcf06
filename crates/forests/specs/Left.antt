-- What the left table holds, and what stands beside it. Assumes nothing.
use Rattle.std.specs.Prelude.{ℕ, suc, ◌+◌, ◌-◌, ◌*◌, ◌≤◌, ◌<◌, min, max, Bool, ◌&&◌, List, ◌≡◌, eqb, leb, length, get_or, set}
use Rattle.definitions.specs.Outcome.{pick}
use Rattle.definitions.specs.Network.{linked, Accepted}
use Rattle.definitions.specs.Order.{order_of, place_of}
use Rattle.definitions.specs.Forests.{forest_of, Entry}
use Rattle.definitions.specs.Over.{entry_of}
use Rattle.forests.specs.Fronts.{SameBeyond}

-- Where the entry of forest i and place v stands, both from 1.
abbrev pub left_index : (n i v : ℕ) → ℕ
left_index n i v = (i - 1) * n + (v - 1)

-- What stands there: 0 for no neighbour, else one more than the index of the link to it.
unfoldable pub left_code : (entry : Entry) → ℕ
left_code entry = pick (eqb entry.place 0) 0 (suc entry.link)

-- The places of the ends of link i, the later and the earlier.
abbrev pub later_at : (lows highs places : List ℕ) (i : ℕ) → ℕ
later_at lows highs places i = max (get_or places (get_or lows i 0) 0) (get_or places (get_or highs i 0) 0)

abbrev pub earlier_at : (lows highs places : List ℕ) (i : ℕ) → ℕ
earlier_at lows highs places i = min (get_or places (get_or lows i 0) 0) (get_or places (get_or highs i 0) 0)

-- What entering link i asks.
pub record Enterable (n k i : ℕ) (lows highs places forests table : List ℕ) : Type 0 where
  pub within : i < length lows
  pub short : i < 3000
  pub even : length lows ≡ length highs
  pub room : i < length forests
  pub low : get_or lows i 0 < length places
  pub high : get_or highs i 0 < length places
  pub some : 1 ≤ get_or forests i 0 → 0 < later_at lows highs places i
  pub index : 1 ≤ get_or forests i 0 → get_or forests i 0 ≤ k
      → left_index n (get_or forests i 0) (later_at lows highs places i) < length table

-- A link of this forest is entered: it is one of the first k. A link with a withdrawn end is in no forest.
abbrev pub is_entered : (k forest : ℕ) → Bool
is_entered k forest = leb 1 forest && leb forest k

-- The table with link i entered, by its index.
unfoldable pub entered : (n k i : ℕ) (lows highs places forests table : List ℕ) → List ℕ
entered n k i lows highs places forests table =
    pick (is_entered k (get_or forests i 0))
    (set table (left_index n (get_or forests i 0) (later_at lows highs places i)) (suc i))
    table

-- The list of forest numbers then: where link i is entered, the place of its earlier end stands in its entry.
unfoldable pub end_entered : (k i : ℕ) (lows highs places forests : List ℕ) → List ℕ
end_entered k i lows highs places forests =
    pick (is_entered k (get_or forests i 0)) (set forests i (earlier_at lows highs places i)) forests

-- What the left table is made from: places and forest numbers of an accepted network, and zeros for the first k × n entries.
pub record LeftInput (n k : ℕ) (lows highs states places forests table : List ℕ) : Type 0 where
  pub accepted : Accepted n lows highs states
  pub place_room : n ≤ length places
  pub forest_room : length lows ≤ length forests
  pub table_room : k * n ≤ length table
  pub place : (r : ℕ) → r < n → get_or places r 0 ≡ place_of (order_of n lows highs states) r
  pub forest : (i : ℕ) → i < length lows
      → get_or forests i 0 ≡ forest_of (linked lows highs) (order_of n lows highs states) lows highs i
  pub zeros : (j : ℕ) → j < k * n → get_or table j 0 ≡ 0

-- The left table, and nothing else has changed; `ends` has the earlier end of each link of the first k forests, as a place.
pub record LeftTable (n k : ℕ) (lows highs states table table' ends : List ℕ) : Type 0 where
  pub entry : (i v : ℕ) → 1 ≤ i → i ≤ k → 1 ≤ v → v ≤ n → get_or table' (left_index n i v) 0 ≡ left_code (entry_of n lows highs states i v)
  pub earlier_end : (l : ℕ) → l < length lows
      → 1 ≤ forest_of (linked lows highs) (order_of n lows highs states) lows highs l
      → forest_of (linked lows highs) (order_of n lows highs states) lows highs l ≤ k
      → get_or ends l 0 ≡ min (place_of (order_of n lows highs states) (get_or lows l 0)) (place_of (order_of n lows highs states) (get_or highs l 0))
  pub beyond : SameBeyond (k * n) table table'

-- A list of states is not read: places and forest numbers are those of the network with some list of states, and the table is the
-- left table of it with every such list.
abbrev pub LeftOfSome : (n k : ℕ) (lows highs places forests table : List ℕ) → Type 0
LeftOfSome n k lows highs places forests table = (states : List ℕ) × LeftInput n k lows highs states places forests table

abbrev pub LeftOfEach : (n k : ℕ) (lows highs places forests table table' ends : List ℕ) → Type 0
LeftOfEach n k lows highs places forests table table' ends =
    (states : List ℕ) → LeftInput n k lows highs states places forests table → LeftTable n k lows highs states table table' ends
