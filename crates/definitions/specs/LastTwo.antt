-- Document 02, #107, 'The last two of the order': between them Route delivers as many routes as the last relay has links to relays
-- in service, and no list of routes has more. The statement is a type; the crate `theory` proves it. Assumes nothing.
use Rattle.std.specs.Prelude.{ℕ, ◌-◌, ◌≤◌, false, List, ◌⊎◌, ◌≡◌, length, get_or}
use Rattle.definitions.specs.Network.{Accepted}
use Rattle.definitions.specs.Order.{links_at, relays_after}
use Rattle.definitions.specs.Forests.{marks_after}
use Rattle.definitions.specs.Route.{too_short, route_answer, counts_after, route_relays_after}
use Rattle.definitions.specs.DisjointRoutes.{AnyLink, RouteRuns, NoCommonLink, RoutesBetween}
use Rattle.definitions.specs.Demand.{in_service_count, Delivered}

-- "the last two relays in the order", as Order's list of relays gives it: the last, and the one before it.
abbrev pub last_relay : (n : ℕ) (states relays : List ℕ) → ℕ
last_relay n states relays = get_or relays (in_service_count n states - 1) 0

abbrev pub last_but_one : (n : ℕ) (states relays : List ℕ) → ℕ
last_but_one n states relays = get_or relays (in_service_count n states - 2) 0

-- `from` and `to` are these two, in either direction.
abbrev pub AreLastTwo : (n : ℕ) (states relays : List ℕ) (from to : ℕ) → Type 0
AreLastTwo n states relays from to =
    ((from ≡ last_relay n states relays) × (to ≡ last_but_one n states relays))
    ⊎ ((from ≡ last_but_one n states relays) × (to ≡ last_relay n states relays))

-- "one sure figure for a network": d, where "the last has d links to relays in service". It is in service itself, so these are its
-- links with both ends in service.
abbrev pub sure_figure : (n : ℕ) (lows highs states relays : List ℕ) → ℕ
sure_figure n lows highs states relays = links_at lows highs states (last_relay n states relays)

-- "routes between them, through relays in service": in either direction, along any links of the table, and no two have a link in
-- common. That they repeat no relay and share no inner relay is not asked: a list that also does so is one of these.
abbrev pub RoutesInService : (n : ℕ) (lows highs states : List ℕ) (from to : ℕ) (routes : List (List ℕ)) → Type 0
RoutesInService n lows highs states = RoutesBetween (RouteRuns n lows highs states AnyLink) (NoCommonLink lows highs)

-- The results of Order, of Cut to k and of Route with k, for one network.
pub record LastTwoHolds (n : ℕ) (lows highs states : List ℕ) (k : ℕ) (relays marks : List ℕ) : Type 0 where
  -- "Route delivers d routes", with all that demand 3 says of routes, given lists long enough;
  pub delivers : sure_figure n lows highs states relays ≡ k → (from to : ℕ) → AreLastTwo n states relays from to
      → (counts route_relays scratch : List ℕ) → too_short n k counts route_relays scratch ≡ false
      → Delivered n lows highs states marks k from to
      (route_answer n lows highs states k from to counts route_relays scratch)
      (counts_after n lows highs states k from to counts route_relays scratch)
      (route_relays_after n lows highs states k from to counts route_relays scratch)
  -- "no list of routes between them, through relays in service as all routes are from here on, sharing no inner relay and no link,
  -- has more than d", whatever d is.
  pub no_more : (from to : ℕ) → AreLastTwo n states relays from to
      → (routes : List (List ℕ)) → RoutesInService n lows highs states from to routes
      → length routes ≤ sure_figure n lows highs states relays

-- #107 is this, for every accepted network that has two relays in service or more, every k from 1 to 32, and all lists long enough that
-- are lent to Order and Cut.
abbrev pub LastTwo : Type 0
LastTwo =
    (n : ℕ) (lows highs states : List ℕ) → Accepted n lows highs states → 2 ≤ in_service_count n states
    → (k : ℕ) → 1 ≤ k → k ≤ 32
    → (relays places marks : List ℕ) → n ≤ length relays → n ≤ length places → length lows ≤ length marks
    → LastTwoHolds n lows highs states k
    (relays_after n lows highs states relays places)
    (marks_after n lows highs states k marks)
