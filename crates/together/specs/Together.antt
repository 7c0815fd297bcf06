-- Demand 3, and the last two of the order (document 02, #107), about what Order, Split, Cut and Route return and leave in the lent
-- lists, called on one network and one k.
use Rattle.std.specs.Prelude.{ℕ, ◌≤◌, false, List, ◌≢◌, ◌≡◌, length}
use Rattle.definitions.specs.Outcome.{Answer}
use Rattle.definitions.specs.Network.{Serving, Accepted}
use Rattle.definitions.specs.Order.{relays_after, places_after}
use Rattle.definitions.specs.Forests.{forests_after, marks_after}
use Rattle.definitions.specs.Route.{too_short, route_answer, counts_after, route_relays_after}
use Rattle.definitions.specs.Demand.{Delivered, RouteDelivers, in_service_count, Holds}
use Rattle.definitions.specs.LastTwo.{AreLastTwo, sure_figure, LastTwoHolds}
use Rattle.theory.proofs.DemandThree.{demand-three}
use Rattle.theory.proofs.LastTwo.{last-two}

-- An accepted network, k from 1 to 32, and lists long enough for Order, Split and Cut.
pub record LongEnough (n : ℕ) (lows highs states : List ℕ) (k : ℕ) (relays places forests marks : List ℕ) : Type 0 where
  pub accepted : Accepted n lows highs states
  pub some : 1 ≤ k
  pub most : k ≤ 32
  pub room_relays : n ≤ length relays
  pub room_places : n ≤ length places
  pub room_forests : length lows ≤ length forests
  pub room_marks : length lows ≤ length marks

-- What is promised of the lists at exit and of Route's answer: all of demand 3 for this network and this k, and for these ends,
-- if they are two different relays in service and Route has no cause for 12, what Route delivers; and, with two relays or more in
-- service, all of #107 for this network and this k, and for these ends, if they are the last two of the order and k is the sure
-- figure, that Route delivers.
pub record Together
    (n : ℕ) (lows highs states : List ℕ) (k from to : ℕ)
    (relays places forests marks counts written scratch : List ℕ)
    (relays' places' forests' marks' counts' written' : List ℕ) (answer : Answer) : Type 0 where
  pub network : LongEnough n lows highs states k relays places forests marks → Holds n lows highs states k relays' places' forests' marks'
  pub ends : LongEnough n lows highs states k relays places forests marks → Serving n states from → Serving n states to → from ≢ to
      → too_short n k counts written scratch ≡ false
      → RouteDelivers n lows highs states forests' marks' k from to answer counts' written'
  pub last_two : LongEnough n lows highs states k relays places forests marks → 2 ≤ in_service_count n states
      → LastTwoHolds n lows highs states k relays' marks'
  pub last_ends : LongEnough n lows highs states k relays places forests marks → 2 ≤ in_service_count n states
      → sure_figure n lows highs states relays' ≡ k → AreLastTwo n states relays' from to
      → too_short n k counts written scratch ≡ false
      → Delivered n lows highs states marks' k from to answer counts' written'

module _ (n : ℕ) (lows highs states : List ℕ) (k from to : ℕ) (relays places forests marks counts written scratch : List ℕ) where
  -- Demand 3 of the definitions, for lists long enough.
  held : LongEnough n lows highs states k relays places forests marks
      → Holds n lows highs states k
      (relays_after n lows highs states relays places)
      (places_after n lows highs states relays places)
      (forests_after n lows highs states forests)
      (marks_after n lows highs states k marks)
  held long =
      demand-three n lows highs states long.accepted k long.some long.most relays places forests marks long.room_relays
      long.room_places long.room_forests long.room_marks

  -- The last two of the order by the definitions, for lists long enough.
  last-held : LongEnough n lows highs states k relays places forests marks → 2 ≤ in_service_count n states
      → LastTwoHolds n lows highs states k (relays_after n lows highs states relays places) (marks_after n lows highs states k marks)
  last-held long two =
      last-two n lows highs states long.accepted two k long.some long.most relays places marks long.room_relays
      long.room_places long.room_marks

  -- The four promises, and demand 3 and #107 of their definitions, give both of the results.
  pub together : (relays' places' forests' marks' counts' written' : List ℕ) (answer : Answer)
      → relays' ≡ relays_after n lows highs states relays places
      → places' ≡ places_after n lows highs states relays places
      → forests' ≡ forests_after n lows highs states forests
      → marks' ≡ marks_after n lows highs states k marks
      → answer ≡ route_answer n lows highs states k from to counts written scratch
      → counts' ≡ counts_after n lows highs states k from to counts written scratch
      → written' ≡ route_relays_after n lows highs states k from to counts written scratch
      → Together n lows highs states k from to relays places forests marks counts written scratch relays' places' forests' marks' counts'
      written' answer
  together relays' places' forests' marks' counts' written' answer er ep ef em ea ec ew =
      record {
        network = λ long. rw (er, ep, ef, em) (held long);
        ends = λ long hf ht differ room. rw (ef, em, ea, ec, ew) ((held long).routes from to hf ht differ counts written scratch room);
        last_two = λ long two. rw (er, em) (last-held long two);
        last_ends = λ long two figure last room.
            rw (em, ea, ec, ew) ((last-held long two).delivers (rw er at figure) from to (rw er at last) counts written scratch room);
      }
