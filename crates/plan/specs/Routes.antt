-- The routes of a sheet: there are k of them, their relays are relays of the network, and they hold as demand 3 says.
use Rattle.std.specs.Prelude.{ℕ, ◌≤◌, ◌<◌, pred, Bool, true, false, List, [], ◌∷◌, ◌++◌, map, reverse, ◌≡◌, refl, ltb, length, get_or}
use Rattle.std.proofs.Common.{◌∙◌, arith, ltb-true, ltb-false}
use Rattle.std.proofs.lemmas.List.{length-map}
use Rattle.std.proofs.Math.ListN.{get_or-eq_default}
use Rattle.definitions.specs.Outcome.{pick}
use Rattle.definitions.specs.Lists.{join_all, AllBelow}
use Rattle.definitions.specs.Order.{order_of, place_of, relay_at}
use Rattle.definitions.specs.Forests.{marks_of}
use Rattle.definitions.specs.Sweep.{slot_route, sweep_routes}
use Rattle.definitions.specs.Route.{left_of, routes_between, routes_of}
use Rattle.theory.specs.PlaceSweep.{sweep}
use Rattle.theory.specs.Ordering.{order-at}
use Rattle.theory.proofs.Columns.{mark-entry}
use Rattle.theory.proofs.SweepRoutes.{sweep-length}
use Rattle.theory.proofs.RelayRoutes.{RelayRoutes, routes-hold}
use Rattle.theory.proofs.OverLinks.{tree-between}
use Rattle.theory.specs.RoutePassed.{RoutePassed}

length-sweep_routes : (left : ℕ → ℕ → ℕ) (k s t : ℕ) → length (sweep_routes left k s t) ≡ k
unfolding sweep_routes
length-sweep_routes left k s t = length-map (sweep left k s t) slot_route ∙ sweep-length left k s t

length-between : (left : ℕ → ℕ → ℕ) (k p q : ℕ) → length (routes_between left k p q) ≡ k
unfolding routes_between
length-between left k p q = go (ltb q p)
  where
    go : (b : Bool) → length (pick b (sweep_routes left k p q) (map reverse (sweep_routes left k q p))) ≡ k
    go true = length-sweep_routes left k p q
    go false = length-map (sweep_routes left k q p) reverse ∙ length-sweep_routes left k q p

pub length-routes : (n : ℕ) (lows highs states : List ℕ) (k from to : ℕ) → length (routes_of n lows highs states k from to) ≡ k
unfolding routes_of
length-routes n lows highs states k from to =
    let order = order_of n lows highs states in
    length-map (routes_between (left_of n lows highs states) k (place_of order from) (place_of order to)) (map (relay_at order))
    ∙ length-between (left_of n lows highs states) k (place_of order from) (place_of order to)

-- A number below the bound for each.
below-append : (bound : ℕ) (l k : List ℕ) → AllBelow bound l → AllBelow bound k → AllBelow bound (l ++ k)
below-append bound [] k hl hk = hk
below-append bound (x ∷ l) k hl hk = (hl.0, below-append bound l k hl.1 hk)

below-map : (bound : ℕ) (f : ℕ → ℕ) → ((x : ℕ) → f x < bound) → (l : List ℕ) → AllBelow bound (map f l)
below-map bound f h [] = tt
below-map bound f h (x ∷ l) = (h x, below-map bound f h l)

pub below-joined : (bound : ℕ) (f : List ℕ → List ℕ) → ((l : List ℕ) → AllBelow bound (f l)) → (lists : List (List ℕ))
    → AllBelow bound (join_all (map f lists))
unfolding join_all
below-joined bound f h [] = tt
below-joined bound f h (l ∷ lists) = below-append bound (f l) _ (h l) (below-joined bound f h lists)

relay-below : (n : ℕ) (lows highs states : List ℕ) → 1 ≤ n → (v : ℕ) → relay_at (order_of n lows highs states) v < n
unfolding relay_at
relay-below n lows highs states some v = go (ltb (pred v) (length (order_of n lows highs states))) refl
  where
    go : (b : Bool) → ltb (pred v) (length (order_of n lows highs states)) ≡ b → get_or (order_of n lows highs states) (pred v) 0 < n
    go true e = order-at n lows highs states (pred v) (ltb-true (pred v) (length (order_of n lows highs states)) e)
    go false e =
        let past : length (order_of n lows highs states) ≤ pred v = ltb-false (pred v) (length (order_of n lows highs states)) e in
        rw (get_or-eq_default (order_of n lows highs states) 0 past) some

pub routes-below : (bound n : ℕ) (lows highs states : List ℕ) (k from to : ℕ) → 1 ≤ n → n ≤ bound
    → AllBelow bound (join_all (routes_of n lows highs states k from to))
unfolding routes_of
routes-below bound n lows highs states k from to some few =
    let order = order_of n lows highs states in
    below-joined bound (map (relay_at order)) (below-map bound (relay_at order) (λ v. omega (arith, relay-below n lows highs states some v)))
    (routes_between (left_of n lows highs states) k (place_of order from) (place_of order to))

-- What holds of them, where Route answers: k routes along kept links that share only their ends, with at most n − 2 + 2k relays.
pub routes-of : (n : ℕ) (lows highs states : List ℕ) (k from to : ℕ) → RoutePassed n lows highs states k from to
    → RelayRoutes n lows highs states (marks_of n lows highs states k) k from to (routes_of n lows highs states k from to)
routes-of n lows highs states k from to passed =
    let good = passed.accepted in
    let starts = passed.starts in
    let ends = passed.ends in
    routes-hold n lows highs states good k passed.some (marks_of n lows highs states k) (mark-entry n lows highs states k) from to starts ends passed.differ
    (tree-between n lows highs states good k passed.some from to starts ends passed.differ passed.one_tree)
