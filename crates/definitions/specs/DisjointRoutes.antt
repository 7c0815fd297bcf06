-- What routes are, one and a list of them: the one definition for demand 3, for a sheet and for every other list of routes.
-- Assumes nothing.
use Rattle.std.specs.Prelude.{ℕ, ◌-◌, ◌≤◌, ◌<◌, Bool, true, false, ◌||◌, List, [], ◌∷◌, ◌⊎◌, ◌≢◌, ◌≡◌, length, get_or}
use Rattle.definitions.specs.Lists.{has, NoRepeat}
use Rattle.definitions.specs.Network.{joins, link_serves, Serving}

-- A link of the table, of those that the property picks by their index, joins a and b.
abbrev pub LinkOf : (lows highs : List ℕ) (picked : ℕ → Type 0) (a b : ℕ) → Type 0
LinkOf lows highs picked a b = (i : ℕ) × (i < length lows) × (joins lows highs a b i ≡ true) × picked i

-- "all the links means those with both ends in service" (document 02, #105)
abbrev pub InService : (lows highs states : List ℕ) (i : ℕ) → Type 0
InService lows highs states i = link_serves lows highs states i ≡ true

-- Any link of the table.
abbrev pub AnyLink : (i : ℕ) → Type 0
AnyLink i = Unit {0}

-- "its links join each of its relays to the next"
abbrev pub AlongFrom : (link : ℕ → ℕ → Type 0) (a : ℕ) (rest : List ℕ) → Type 0
AlongFrom link a [] = Unit {0}
AlongFrom link a (b ∷ rest) = link a b × AlongFrom link b rest

abbrev pub Along : (link : ℕ → ℕ → Type 0) (route : List ℕ) → Type 0
Along link [] = Unit {0}
Along link (a ∷ rest) = AlongFrom link a rest

-- Link i of the table joins some relay of the route, from a on, to the next.
unfoldable pub uses_from : (lows highs : List ℕ) (i a : ℕ) (rest : List ℕ) → Bool
uses_from lows highs i a [] = false
uses_from lows highs i a (b ∷ rest) = joins lows highs a b i || uses_from lows highs i b rest

unfoldable pub uses : (lows highs : List ℕ) (i : ℕ) (route : List ℕ) → Bool
uses lows highs i [] = false
uses lows highs i (a ∷ rest) = uses_from lows highs i a rest

-- A route from `from` to `to`: along links that the property picks by their index, and "through relays in service as all routes are
-- from here on" (document 02, #107). It may come to a relay twice.
pub record RouteRuns (n : ℕ) (lows highs states : List ℕ) (picked : ℕ → Type 0) (from to : ℕ) (route : List ℕ) : Type 0 where
  pub long : 2 ≤ length route
  pub starts : get_or route 0 0 ≡ from
  pub ends : get_or route (length route - 1) 0 ≡ to
  pub along : Along (LinkOf lows highs picked) route
  pub through : (r : ℕ) → has route r ≡ true → Serving n states r

-- A route that "repeats no relay" (demand 3).
pub record RouteHolds (n : ℕ) (lows highs states : List ℕ) (picked : ℕ → Type 0) (from to : ℕ) (route : List ℕ) : Type 0 where
  pub runs : RouteRuns n lows highs states picked from to route
  pub no_repeat : NoRepeat route

-- Two routes have no link in common.
abbrev pub NoCommonLink : (lows highs one other : List ℕ) → Type 0
NoCommonLink lows highs one other =
    (i : ℕ) → i < length lows → uses lows highs i one ≡ true → uses lows highs i other ≡ true → ⊥

-- "no two have a common link or a common relay but the ends" (demand 3)
pub record Apart (lows highs : List ℕ) (from to : ℕ) (one other : List ℕ) : Type 0 where
  pub relays : (r : ℕ) → has one r ≡ true → has other r ≡ true → (r ≡ from) ⊎ (r ≡ to)
  pub links : NoCommonLink lows highs one other

-- A list of routes between two relays, each in one direction or the other. What each of them is, from one relay to the other, and what
-- holds of each two of them is for the user to say.
pub record RoutesBetween
    (Runs : (from to : ℕ) (route : List ℕ) → Type 0) (Parted : (one other : List ℕ) → Type 0) (from to : ℕ) (routes : List (List ℕ))
    : Type 0 where
  pub each : (i : ℕ) → i < length routes → Runs from to (get_or routes i []) ⊎ Runs to from (get_or routes i [])
  pub parted : (i j : ℕ) → i < length routes → j < length routes → i ≢ j → Parted (get_or routes i []) (get_or routes j [])

-- A list of routes from `from` to `to`, each two of them apart.
pub record DisjointRoutes
    (n : ℕ) (lows highs states : List ℕ) (picked : ℕ → Type 0) (from to : ℕ) (routes : List (List ℕ)) : Type 0 where
  pub each : (i : ℕ) → i < length routes → RouteHolds n lows highs states picked from to (get_or routes i [])
  pub apart : (i j : ℕ) → i < length routes → j < length routes → i ≢ j
      → Apart lows highs from to (get_or routes i []) (get_or routes j [])
