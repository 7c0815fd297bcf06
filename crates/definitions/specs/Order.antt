-- Document 01, 'The order': a maximal adjacency ordering (document 002, section 2) with its ties fixed, from the relay that
-- document 02, #104 puts first.
-- Over any test `linked`, any rising list of candidate relays and any first relay; `order_of` takes the relays in service and
-- `first_relay`.
use Rattle.std.specs.Prelude.{ℕ, zero, suc, pred, Bool, ◌&&◌, ◌||◌, not, List, [], ◌∷◌, ◌++◌, ltb, length, get_or}
use Rattle.definitions.specs.Outcome.{pick, Answer, done, refuse_if, and_then, if_done}
use Rattle.definitions.specs.Lists.{table, overwrite, keep, has, count, position}
use Rattle.definitions.specs.Network.{touches, linked, serves, link_serves, table_check}

-- "the most links to placed ones": how many placed relays are linked to r.
unfoldable pub weight : (linked : ℕ → ℕ → Bool) (placed : List ℕ) (r : ℕ) → ℕ
weight linked placed r = count (λ p. linked p r) placed

-- The first of the relays with the greatest weight among `best` and the rest: "of equals the lowest relay number".
unfoldable pub heaviest : (weight_of : ℕ → ℕ) (best : ℕ) (rest : List ℕ) → ℕ
heaviest weight_of best [] = best
heaviest weight_of best (r ∷ rest) = heaviest weight_of (pick (ltb (weight_of best) (weight_of r)) r best) rest

-- The candidates that have no place yet.
unfoldable pub unplaced : (placed candidates : List ℕ) → List ℕ
unplaced placed candidates = keep (λ r. not (has placed r)) candidates

-- The heaviest of a list; 0 of an empty one.
unfoldable pub heaviest_of : (weight_of : ℕ → ℕ) (relays : List ℕ) → ℕ
heaviest_of weight_of [] = 0
heaviest_of weight_of (r ∷ rest) = heaviest weight_of r rest

-- `first` where none is placed yet, and from then on: "Next comes always the unplaced relay with the most links to placed ones, of equals
-- the lowest relay number."
unfoldable pub next_relay : (linked : ℕ → ℕ → Bool) (first : ℕ) (candidates placed : List ℕ) → ℕ
next_relay linked first candidates [] = first
next_relay linked first candidates (p ∷ placed) =
    heaviest_of (weight linked (p ∷ placed)) (unplaced (p ∷ placed) candidates)

-- The placed relays with the next one behind them.
unfoldable pub place_next : (linked : ℕ → ℕ → Bool) (first : ℕ) (candidates placed : List ℕ) → List ℕ
place_next linked first candidates placed = placed ++ (next_relay linked first candidates placed ∷ [])

-- The first `steps` relays of the order.
unfoldable pub placed_after : (linked : ℕ → ℕ → Bool) (first : ℕ) (candidates : List ℕ) (steps : ℕ) → List ℕ
placed_after linked first candidates zero = []
placed_after linked first candidates (suc steps) =
    place_next linked first candidates (placed_after linked first candidates steps)

-- All the relays of a network, "0 to n − 1".
unfoldable pub all_relays : (n : ℕ) → List ℕ
all_relays n = table (λ r. r) 0 n

-- Those of them that are in service, rising: "A withdrawn relay has no place" (document 02, #105).
unfoldable pub serving_relays : (n : ℕ) (states : List ℕ) → List ℕ
serving_relays n states = keep (serves states) (all_relays n)

-- How many links "with both ends in service" relay r has.
unfoldable pub links_at : (lows highs states : List ℕ) (r : ℕ) → ℕ
links_at lows highs states r =
    count (λ i. touches lows highs r i && link_serves lows highs states i) (table (λ i. i) 0 (length lows))

-- "the first relay is the one with the most links, of equals the lowest number" (document 02, #104), "the busiest by those links"
-- (#105).
unfoldable pub first_relay : (n : ℕ) (lows highs states : List ℕ) → ℕ
first_relay n lows highs states = heaviest_of (links_at lows highs states) (serving_relays n states)

-- "This goes on over unconnected parts too": all the relays in service, in their order.
unfoldable pub order_of : (n : ℕ) (lows highs states : List ℕ) → List ℕ
order_of n lows highs states =
    placed_after (linked lows highs) (first_relay n lows highs states) (serving_relays n states) (length (serving_relays n states))

-- "A relay's place is 1 to n". A relay that is not in the order gets 0: "a withdrawn relay has place 0" (document 02, #105).
unfoldable pub place_of : (order : List ℕ) (r : ℕ) → ℕ
place_of order r = position order r

-- The relay at a place of the order.
unfoldable pub relay_at : (order : List ℕ) (v : ℕ) → ℕ
relay_at order v = get_or order (pred v) 0

-- "Order. Table check, then 12, either list (relay at each place, place of each relay) shorter than n."
unfoldable pub order_answer : (n : ℕ) (lows highs states relays places : List ℕ) → Answer
order_answer n lows highs states relays places =
    and_then (table_check n lows highs states) λ _.
    refuse_if (ltb (length relays) n || ltb (length places) n) 12 0
    (done [])

-- The list of relays afterwards: the relay at each place; "entries past the relays in service are left".
unfoldable pub relays_after : (n : ℕ) (lows highs states relays places : List ℕ) → List ℕ
relays_after n lows highs states relays places =
    if_done (order_answer n lows highs states relays places) (overwrite (order_of n lows highs states) relays) relays

-- The place of each relay, from relay 0 on.
unfoldable pub places_of : (n : ℕ) (order : List ℕ) → List ℕ
places_of n order = table (place_of order) 0 n

-- The list of places afterwards.
unfoldable pub places_after : (n : ℕ) (lows highs states relays places : List ℕ) → List ℕ
places_after n lows highs states relays places =
    if_done (order_answer n lows highs states relays places) (overwrite (places_of n (order_of n lows highs states)) places) places
