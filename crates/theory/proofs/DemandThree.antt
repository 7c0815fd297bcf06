-- Demand 3 of the definitions: the results of Order, Split, Cut and Route together, for every accepted network, every k from 1
-- to 32, every choice of dead relays and of ends, and all lists that are long enough.
use Rattle.definitions.specs.Forests.{forests_after, marks_after}
use Rattle.definitions.specs.Demand.{DemandThree}
use Rattle.theory.specs.Places.{maximal-order}
use Rattle.theory.proofs.SplitBound.{split-bound, split-in-one, split-in-none, split-total}
use Rattle.theory.proofs.Columns.{split-numbers, cut-marks, no-mark}
use Rattle.theory.proofs.RouteAnswer.{delivers}
use Rattle.theory.proofs.Certificate.{survives}

pub demand-three : DemandThree
demand-three n lows highs states ok k one most relays places forests marks room_relays room_places room_forests room_marks =
    let numbered = split-numbers n lows highs states ok forests room_forests in
    let marked = cut-marks n lows highs states ok k one most marks room_marks in
    record {
      order = maximal-order n lows highs states relays places ok room_relays room_places;
      survives = λ dead few a b la lb. survives n lows highs states ok k one (marks_after n lows highs states k marks) marked dead few a b;
      bound = split-bound n lows highs states ok forests room_forests;
      in_one = split-in-one n lows highs states ok forests room_forests;
      in_none = λ i h e. (
        split-in-none n lows highs states ok forests room_forests i h e,
        no-mark n lows highs states k i h e (marks_after n lows highs states k marks) marked,
      );
      add_up = split-total n lows highs states ok forests room_forests;
      routes = λ from to hf ht differ counts route_relays scratch room.
          delivers n lows highs states ok k one most from to hf ht differ counts route_relays scratch room
          (forests_after n lows highs states forests) (marks_after n lows highs states k marks) numbered marked;
    }
