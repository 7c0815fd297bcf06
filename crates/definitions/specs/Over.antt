-- Document 02, #101: the links of the routes, from the same sweep, and Route with a third list that takes them.
-- Assumes nothing.
use Rattle.std.specs.Prelude.{ℕ, ◌+◌, ◌-◌, ◌<◌, Bool, true, ◌||◌, List, [], ◌∷◌, ◌++◌, map, reverse, ◌≡◌, ltb, length}
use Rattle.definitions.specs.Outcome.{pick, Answer, if_done}
use Rattle.definitions.specs.Lists.{overwrite, zeroed, join_all}
use Rattle.definitions.specs.Network.{joins, linked}
use Rattle.definitions.specs.Order.{order_of, place_of}
use Rattle.definitions.specs.Forests.{Entry, left_entry}
use Rattle.definitions.specs.Sweep.{Look, Slot, sweep}
use Rattle.definitions.specs.Route.{routes_of, too_short, route_unless, scratch_used}

-- "Looking up left(i, v) is to give the link's index along with the relay": the look-up whose paths carry both. No link leads to
-- the relay that a path starts at.
abbrev pub entry_look : (entry : ℕ → ℕ → Entry) → Look Entry
entry_look entry = record { left = entry; place = λ e. e.place; start = λ v. record { place = v; link = 0 } }

-- The links of a path, the last first: those that led to its relays, but for the start.
unfoldable pub path_links : (path : List Entry) → List ℕ
path_links [] = []
path_links (e ∷ []) = []
path_links (e ∷ f ∷ rest) = e.link ∷ path_links (f ∷ rest)

-- "the indices of the links in turn": those of A(i) from s on, then those of B(i) back to t.
unfoldable pub slot_over : (slot : Slot Entry) → List ℕ
slot_over slot = reverse (path_links slot.path_a) ++ path_links slot.path_b

-- The links of the k routes from s to t.
unfoldable pub sweep_overs : (entry : ℕ → ℕ → Entry) (k s t : ℕ) → List (List ℕ)
sweep_overs entry k s t = map slot_over (sweep (entry_look entry) k s t)

-- The same between two places, from the one at `p` on: where the route is turned round, so are its links.
unfoldable pub overs_between : (entry : ℕ → ℕ → Entry) (k p q : ℕ) → List (List ℕ)
overs_between entry k p q = pick (ltb q p) (sweep_overs entry k p q) (map reverse (sweep_overs entry k q p))

-- Left(i, v) of a table, with its link.
unfoldable pub entry_of : (n : ℕ) (lows highs states : List ℕ) (i v : ℕ) → Entry
entry_of n lows highs states = left_entry (linked lows highs) (order_of n lows highs states) lows highs

-- For each of the k routes of Route the indices of its links in turn.
unfoldable pub overs_of : (n : ℕ) (lows highs states : List ℕ) (k from to : ℕ) → List (List ℕ)
overs_of n lows highs states k from to =
    let order = order_of n lows highs states in
    overs_between (entry_of n lows highs states) k (place_of order from) (place_of order to)

-- Link l of the table joins a and b, and no other link does.
abbrev pub OneLink : (lows highs : List ℕ) (a b l : ℕ) → Type 0
OneLink lows highs a b l =
    (l < length lows) × (joins lows highs a b l ≡ true) × ((i : ℕ) → i < length lows → joins lows highs a b i ≡ true → i ≡ l)

-- What these indices are to promise: at each step of the route, from relay a on, that of the one link that joins the two relays
-- there.
abbrev pub OverFrom : (lows highs : List ℕ) (a : ℕ) (rest over : List ℕ) → Type 0
OverFrom lows highs a [] [] = Unit {0}
OverFrom lows highs a [] (l ∷ over) = ⊥
OverFrom lows highs a (b ∷ rest) [] = ⊥
OverFrom lows highs a (b ∷ rest) (l ∷ over) = OneLink lows highs a b l × OverFrom lows highs b rest over

abbrev pub OverHolds : (lows highs route over : List ℕ) → Type 0
OverHolds lows highs [] over = ⊥
OverHolds lows highs (a ∷ rest) over = OverFrom lows highs a rest over

-- The 12 of Route with links: Route's, and a list of links shorter than n − 2 + k (one link less than relays on each route).
unfoldable pub links_too_short : (n k : ℕ) (counts relays links scratch : List ℕ) → Bool
links_too_short n k counts relays links scratch = too_short n k counts relays scratch || ltb (length links) (n - 2 + k)

-- Route with links: its refusals and its answer are Route's.
unfoldable pub route_links_answer : (n : ℕ) (lows highs states : List ℕ) (k from to : ℕ) (counts relays links scratch : List ℕ) → Answer
route_links_answer n lows highs states k from to counts relays links scratch =
    route_unless (links_too_short n k counts relays links scratch) n lows highs states k from to

-- Its list of counts afterwards, as Route's.
unfoldable pub route_links_counts : (n : ℕ) (lows highs states : List ℕ) (k from to : ℕ) (counts relays links scratch : List ℕ) → List ℕ
route_links_counts n lows highs states k from to counts relays links scratch =
    if_done (route_links_answer n lows highs states k from to counts relays links scratch)
    (overwrite (map length (routes_of n lows highs states k from to)) counts)
    counts

-- Its list of relays afterwards, as Route's.
unfoldable pub route_links_relays : (n : ℕ) (lows highs states : List ℕ) (k from to : ℕ) (counts relays links scratch : List ℕ) → List ℕ
route_links_relays n lows highs states k from to counts relays links scratch =
    if_done (route_links_answer n lows highs states k from to counts relays links scratch)
    (overwrite (join_all (routes_of n lows highs states k from to)) relays)
    relays

-- Its list of links afterwards: those of route 1, then 2, up to k.
unfoldable pub route_links_links : (n : ℕ) (lows highs states : List ℕ) (k from to : ℕ) (counts relays links scratch : List ℕ) → List ℕ
route_links_links n lows highs states k from to counts relays links scratch =
    if_done (route_links_answer n lows highs states k from to counts relays links scratch)
    (overwrite (join_all (overs_of n lows highs states k from to)) links)
    links

-- Scratch afterwards, as Route's: all zeros after 13 and after success.
unfoldable pub route_links_scratch : (n : ℕ) (lows highs states : List ℕ) (k from to : ℕ) (counts relays links scratch : List ℕ) → List ℕ
route_links_scratch n lows highs states k from to counts relays links scratch =
    pick (scratch_used (route_links_answer n lows highs states k from to counts relays links scratch)) (zeroed scratch) scratch
