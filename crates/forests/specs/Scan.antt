-- What the scan promises: order, places and forest numbers of an accepted table; and its steps. Assumes nothing.
use Rattle.std.specs.Prelude.{ℕ, suc, ◌-◌, ◌≤◌, ◌<◌, Bool, true, false, ◌&&◌, List, ◌≡◌, ltb, leb, length, get_or, set}
use Rattle.definitions.specs.Outcome.{pick}
use Rattle.definitions.specs.Lists.{overwrite, has, position}
use Rattle.definitions.specs.Network.{joins, linked, link_serves, Accepted}
use Rattle.definitions.specs.Order.{weight, next_relay, placed_after, serving_relays, first_relay, order_of, places_of}
use Rattle.definitions.specs.Forests.{forests_of}
use Rattle.network.specs.declared.Table.{Table}
use Rattle.forests.specs.Fronts.{SameBeyond}
use Rattle.forests.specs.Chains.{NoChains, ChainedFrom}
use Rattle.forests.specs.LinkCounts.{ServingCounted}
use Rattle.forests.specs.Counts.{NoneBeyond, turns_of, StartCounts}
use Rattle.forests.specs.Buckets.{column_words, Buckets, NoBits}
use Rattle.forests.specs.Walk.{Walkable, Walked}

-- The first k relays of the order, and the one that comes after them.
abbrev pub placed : (n : ℕ) (lows highs states : List ℕ) (k : ℕ) → List ℕ
placed n lows highs states k = placed_after (linked lows highs) (first_relay n lows highs states) (serving_relays n states) k

abbrev pub following : (n : ℕ) (lows highs states : List ℕ) (k : ℕ) → ℕ
following n lows highs states k =
    next_relay (linked lows highs) (first_relay n lows highs states) (serving_relays n states) (placed n lows highs states k)

-- Relay r is one of those in service, which get a place.
abbrev pub is_serving : (n : ℕ) (states : List ℕ) (r : ℕ) → Bool
is_serving n states r = has (serving_relays n states) r

-- The counts when k relays are placed; a withdrawn relay has 0, as a placed one.
pub record CountsAt (n : ℕ) (lows highs states : List ℕ) (k : ℕ) (counts : List ℕ) : Type 0 where
  pub room : n ≤ length counts
  pub count : (r : ℕ) → is_serving n states r ≡ true
      → get_or counts r 0 ≡ pick (has (placed n lows highs states k) r) 0 (suc (weight (linked lows highs) (placed n lows highs states k) r))
  pub rest : (r : ℕ) → is_serving n states r ≡ false → get_or counts r 0 ≡ 0

-- What placing the next relay at v asks.
pub record Placeable (n v most : ℕ) (lows highs states first nexts counts bits relays places forests : List ℕ) : Type 0 where
  pub some : 0 < v
  pub within : v ≤ turns_of n states
  pub few : n ≤ 1000
  pub relay_room : n ≤ length relays
  pub place_room : n ≤ length places
  pub counts_at : CountsAt n lows highs states (v - 1) counts
  pub bounded : (r : ℕ) → get_or counts r 0 ≤ most
  pub most_few : most < column_words
  pub walkable : Walkable (following n lows highs states (v - 1)) lows highs first nexts counts bits forests

-- What it does; most' is a bound for the counts afterwards.
pub record PlacedOne (n v : ℕ) (lows highs states counts counts' bits' relays relays' places places' forests forests' : List ℕ) (most' : ℕ)
    : Type 0
  where
    pub relay : relays' ≡ set relays (v - 1) (following n lows highs states (v - 1))
    pub place : places' ≡ set places (following n lows highs states (v - 1)) v
    pub walked : Walked (following n lows highs states (v - 1)) lows highs counts counts' forests forests'
    pub sorted : Buckets counts' bits'
    pub bounded : (r : ℕ) → get_or counts' r 0 ≤ most'
    pub most_few : most' < column_words

-- The places when k relays are placed.
pub record PlacesAt (n : ℕ) (lows highs states : List ℕ) (k : ℕ) (places places' : List ℕ) : Type 0 where
  pub long : length places' ≡ length places
  pub place : (r : ℕ) → has (placed n lows highs states k) r ≡ true → get_or places' r 0 ≡ position (placed n lows highs states k) r
  pub rest : (r : ℕ) → has (placed n lows highs states k) r ≡ false → get_or places' r 0 ≡ get_or places r 0

-- The forest numbers when k relays are placed: of a link from the j-th of them to a relay y in service that was not placed then,
-- the number of links of y to relays placed by then; of a link between waiting relays and of one with a withdrawn end, 0.
pub record ForestsAt (n : ℕ) (lows highs states : List ℕ) (k : ℕ) (forests forests' : List ℕ) : Type 0 where
  pub forest : (i j y : ℕ) → i < length lows → j < k
      → joins lows highs (following n lows highs states j) y i ≡ true → is_serving n states y ≡ true
      → has (placed n lows highs states j) y ≡ false
      → get_or forests' i 0 ≡ weight (linked lows highs) (placed n lows highs states (suc j)) y
  pub waiting : (i : ℕ) → i < length lows
      → has (placed n lows highs states k) (get_or lows i 0) ≡ false → has (placed n lows highs states k) (get_or highs i 0) ≡ false
      → get_or forests' i 0 ≡ 0
  pub idle : (i : ℕ) → i < length lows → link_serves lows highs states i ≡ false → get_or forests' i 0 ≡ 0
  pub beyond : SameBeyond (length lows) forests forests'

-- All lists when k relays are placed.
pub record ScannedTo (n : ℕ) (lows highs states : List ℕ) (k : ℕ) (counts relays relays' places places' forests forests' : List ℕ) : Type 0 where
  pub counts_at : CountsAt n lows highs states k counts
  pub relays_at : relays' ≡ overwrite (placed n lows highs states k) relays
  pub places_at : PlacesAt n lows highs states k places places'
  pub forests_at : ForestsAt n lows highs states k forests forests'

-- What the scan of an accepted table asks.
pub record Scannable (n : ℕ) (lows highs states relays places forests : List ℕ) : Type 0 where
  pub accepted : Accepted n lows highs states
  pub relay_room : n ≤ length relays
  pub place_room : n ≤ length places
  pub forest_room : length lows ≤ length forests

-- A small network, which is worked on in small arrays.
unfoldable pub is_small : (n m : ℕ) → Bool
is_small n m = leb n 128 && leb m 384

-- Arrays with room for the chains of a network, without chains and counts.
pub record ChainArrays (n : ℕ) (lows first nexts counts : List ℕ) : Type 0 where
  pub heads : n ≤ length first
  pub few : length first ≤ 1000
  pub no_chains : NoChains lows first nexts
  pub count_room : length first ≤ length counts
  pub no_counts : NoneBeyond 0 counts

-- What is made in them: the chains, and the count of links with both ends in service; and the first relay of the order is found, if
-- there is one.
pub record Prepared (n : ℕ) (lows highs states first nexts counts : List ℕ) (start : ℕ) : Type 0 where
  pub chained : ChainedFrom lows highs 0 first nexts
  pub counted : ServingCounted lows highs states counts
  pub none_beyond : NoneBeyond n counts
  pub starts : 0 < turns_of n states → start ≡ first_relay n lows highs states

-- What the scan from its first relay on asks of the arrays: the chains are made, and no relay waits yet.
pub record Ready (n turns start : ℕ) (lows highs states first nexts counts bits : List ℕ) : Type 0 where
  pub heads : n ≤ length first
  pub few : length first ≤ 1000
  pub count_room : length first ≤ length counts
  pub no_bits : NoBits (length counts) bits
  pub turned : turns ≡ turns_of n states
  pub prepared : Prepared n lows highs states first nexts counts start

-- What placing all relays in service asks: places and forest numbers are cleared, too.
pub record Startable (n turns start : ℕ) (lows highs states first nexts counts bits relays places forests : List ℕ) : Type 0 where
  pub scannable : Scannable n lows highs states relays places forests
  pub ready : Ready n turns start lows highs states first nexts counts bits
  pub no_places : (r : ℕ) → r < n → get_or places r 0 ≡ 0
  pub no_forests : (i : ℕ) → i < length lows → get_or forests i 0 ≡ 0

-- The lists when these relays wait.
pub record Started (n : ℕ) (lows highs states first nexts counts bits relays places forests : List ℕ) : Type 0 where
  pub scannable : Scannable n lows highs states relays places forests
  pub heads : n ≤ length first
  pub few : length first ≤ 1000
  pub chained : ChainedFrom lows highs 0 first nexts
  pub no_places : (r : ℕ) → r < n → get_or places r 0 ≡ 0
  pub no_forests : (i : ℕ) → i < length lows → get_or forests i 0 ≡ 0
  pub count_room : length first ≤ length counts
  pub start_counts : StartCounts n states counts
  pub sorted : Buckets counts bits

-- The list of relays before the first is placed: it begins with x, if any is.
unfoldable pub begun_with : (turns x : ℕ) (relays : List ℕ) → List ℕ
begun_with turns x relays = pick (ltb 0 turns) (set relays 0 x) relays

-- What the scan does.
pub record Scanned (n : ℕ) (lows highs states relays relays' places places' forests forests' : List ℕ) : Type 0 where
  pub the_order : relays' ≡ overwrite (order_of n lows highs states) relays
  pub the_places : places' ≡ overwrite (places_of n (order_of n lows highs states)) places
  pub the_forests : forests' ≡ overwrite (forests_of n lows highs states) forests

-- Lists with room for what the scan of a table gives, and what it does there.
abbrev pub ScanRoom : (table : Table) (relays places forests : List ℕ) → Type 0
ScanRoom table relays places forests =
    (table.n ≤ length relays) × (table.n ≤ length places) × (length table.lows.now ≤ length forests)

abbrev pub TableScanned : (table : Table) (relays relays' places places' forests forests' : List ℕ) → Type 0
TableScanned table = Scanned table.n table.lows.now table.highs.now table.states.now
