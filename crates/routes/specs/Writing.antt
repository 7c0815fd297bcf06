-- Writing the routes out: each is one side's path from its start to the meeting relay and then the other side's path back
-- to its start, as relay numbers. On lists, as the loops run. Assumes nothing.
use Rattle.std.specs.Prelude.{ℕ, zero, suc, ◌+◌, List, eqb, set}
use Rattle.definitions.specs.Outcome.{pick}
use Rattle.definitions.specs.Order.{relay_at}
use Rattle.sweep.specs.Side.{end_in, second_in, prior_in}

-- No route is written from further on: the 31 before it have 2,001 entries each at most. Nor is its second half, which begins 1,001
-- entries further on at most.
abbrev pub last_start : ℕ
last_start = 70000

abbrev pub last_turn : ℕ
last_turn = 80000

-- How many relays there are from x back to the start of its path, `fuel` at most.
unfoldable pub chain_length : List ℕ → ℕ → ℕ → ℕ
chain_length side zero x = 0
chain_length side (suc fuel) x = pick (eqb x 0) 0 (suc (chain_length side fuel (prior_in side x)))

-- How many relays path i has before its end.
unfoldable pub count_in : List ℕ → ℕ → ℕ
count_in side i = chain_length side 1000 (second_in side i)

-- `count` relays from x back, written downwards to `from`.
unfoldable pub write_down : (side order : List ℕ) (from count x : ℕ) (relays : List ℕ) → List ℕ
write_down side order from zero x relays = relays
write_down side order from (suc count) x relays =
    write_down side order from count (prior_in side x) (set relays (from + count) (relay_at order x))

-- `count` relays from x back, written upwards from `at`.
unfoldable pub write_up : (side order : List ℕ) (at count x : ℕ) (relays : List ℕ) → List ℕ
write_up side order at zero x relays = relays
write_up side order at (suc count) x relays =
    write_up side order (at + 1) count (prior_in side x) (set relays at (relay_at order x))

-- How many relays route i has.
unfoldable pub route_length : List ℕ → List ℕ → ℕ → ℕ
route_length front back i = count_in front i + 1 + count_in back i

-- Route i, written from `from` on: the front side's path down from the meeting relay, the back side's up from it.
unfoldable pub write_route : (front back order : List ℕ) (i from : ℕ) (relays : List ℕ) → List ℕ
write_route front back order i from relays =
    let count = count_in front i in
    let low = write_down front order from count (second_in front i) relays in
    let met = set low (from + count) (relay_at order (end_in front i)) in
    write_up back order (from + count + 1) (count_in back i) (second_in back i) met

-- The lists of counts and relays, and how many relays have been written.
pub record Written : Type 0 where
  pub count_list : List ℕ
  pub relay_list : List ℕ
  pub upto : ℕ

abbrev pub written : List ℕ → List ℕ → ℕ → Written
written counts relays upto = record { count_list = counts; relay_list = relays; upto = upto }

-- The `more` routes after route i, written from `from` on.
unfoldable pub write_from : (front back order : List ℕ) (more i from : ℕ) (counts relays : List ℕ) → Written
write_from front back order zero i from counts relays = written counts relays from
write_from front back order (suc more) i from counts relays =
    let length = route_length front back (i + 1) in
    write_from front back order more (i + 1) (from + length) (set counts i length)
    (write_route front back order (i + 1) from relays)
