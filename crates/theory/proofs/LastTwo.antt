-- The last two of the order (document 02, #107): they are in one tree of each forest up to the number of links that the last has to
-- relays in service, so Route delivers that many routes; and each route of a list takes one of these links, so none has more.
use Rattle.std.specs.Prelude.{ℕ, suc, ◌-◌, ◌≤◌, ◌<◌, List, ◌≡◌, length, get_or}
use Rattle.std.proofs.Common.{inl, inr, sym, ◌∙◌, ap, subst, arith}
use Rattle.definitions.specs.Network.{Serving, Accepted}
use Rattle.definitions.specs.Order.{links_at, order_of, place_of, relay_at, relays_after}
use Rattle.definitions.specs.Forests.{forests_of, marks_after}
use Rattle.definitions.specs.DisjointRoutes.{AnyLink}
use Rattle.definitions.specs.Demand.{in_service_count}
use Rattle.definitions.specs.LastTwo.{last_relay, last_but_one, AreLastTwo, sure_figure, LastTwo}
use Rattle.theory.specs.Places.{place-named, relays-after, relay-entry}
use Rattle.theory.proofs.ForestBound.{forests-at}
use Rattle.theory.proofs.Columns.{cut-marks}
use Rattle.theory.proofs.RouteAnswer.{delivers}
use Rattle.theory.specs.RouteLinks.{routes-at-most}
use Rattle.theory.proofs.LastOneTree.{EndsLast, turned, differ, last-one-tree}

module _ (n : ℕ) (lows highs states : List ℕ) (ok : Accepted n lows highs states) (two : 2 ≤ in_service_count n states) where
  abbrev order : List ℕ
  order = order_of n lows highs states

  -- The last place.
  abbrev last : ℕ
  last = in_service_count n states

  module _ (relays places : List ℕ) (room_relays : n ≤ length relays) (room_places : n ≤ length places) where
    -- Order's list, and in it the last two.
    abbrev listed : List ℕ
    listed = relays_after n lows highs states relays places

    entry : (v : ℕ) → v < last → get_or listed v 0 ≡ relay_at order (suc v)
    entry v h =
        ap (λ (l : List ℕ). get_or l v 0) (relays-after n lows highs states relays places ok room_relays room_places)
        ∙ relay-entry n lows highs states relays v h

    last-is : last_relay n states listed ≡ relay_at order last
    last-is =
        let up : suc (last - 1) ≡ last = omega arith in
        entry (last - 1) (omega arith) ∙ ap (relay_at order) up

    before-is : last_but_one n states listed ≡ relay_at order (last - 1)
    before-is =
        let up : suc (last - 2) ≡ last - 1 = omega arith in
        entry (last - 2) (omega arith) ∙ ap (relay_at order) up

    -- From the last to the one before it,
    from_last : (from to : ℕ) → from ≡ last_relay n states listed → to ≡ last_but_one n states listed → EndsLast n lows highs states ok two from to
    from_last from to e f =
        let a = place-named n lows highs states last (omega arith) (omega arith) in
        let b = place-named n lows highs states (last - 1) (omega arith) (omega arith) in
        let first : from ≡ relay_at order last = e ∙ last-is in
        let second : to ≡ relay_at order (last - 1) = f ∙ before-is in
        let high : place_of order from ≡ last = ap (place_of order) first ∙ a.2 in
        let low : place_of order to ≡ last - 1 = ap (place_of order) second ∙ b.2 in
        record {
          starts = subst (Serving n states) (sym first) (a.0, a.1);
          ends = subst (Serving n states) (sym second) (b.0, b.1);
          lower = omega arith;
          higher = omega arith;
          is_last = inl (sym first);
        }

    -- and either way.
    ends_last : (from to : ℕ) → AreLastTwo n states listed from to → EndsLast n lows highs states ok two from to
    ends_last from to (inl e) = from_last from to e.0 e.1
    ends_last from to (inr e) = turned n lows highs states ok two (from_last to from e.1 e.0)

pub last-two : LastTwo
last-two n lows highs states ok two k one most relays places marks room_relays room_places room_marks =
    let figure : sure_figure n lows highs states (relays_after n lows highs states relays places)
    ≡ links_at lows highs states (relay_at (order_of n lows highs states) (in_service_count n states)) =
    ap (links_at lows highs states) (last-is n lows highs states ok two relays places room_relays room_places) in
    record {
      delivers = λ d from to last counts route_relays scratch room.
          let e = ends_last n lows highs states ok two relays places room_relays room_places from to last in
          (delivers n lows highs states ok k one most from to e.starts e.ends (differ n lows highs states ok two e) counts route_relays scratch room
          (forests_of n lows highs states) (marks_after n lows highs states k marks) (forests-at n lows highs states)
          (cut-marks n lows highs states ok k one most marks room_marks)).in_one_tree
          (last-one-tree n lows highs states ok two k one (omega (arith, figure)) from to e);
      no_more = λ from to last routes between.
          let e = ends_last n lows highs states ok two relays places room_relays room_places from to last in
          omega (
            arith,
            figure,
            routes-at-most n lows highs states AnyLink from to (relay_at (order_of n lows highs states) (in_service_count n states))
                e.is_last routes between,
          );
    }
