-- Document 01, Route: the routes as relay numbers, its refusals in their order, and its lists afterwards.
-- Assumes nothing.
use Rattle.std.specs.Prelude.{ℕ, ◌+◌, ◌-◌, ◌*◌, Bool, true, ◌&&◌, ◌||◌, not, List, [], ◌∷◌, map, reverse, eqb, ltb, leb, length}
use Rattle.definitions.specs.Outcome.{pick, refused, done, Answer, refuse_if, and_then, if_done}
use Rattle.definitions.specs.Lists.{overwrite, zeroed, outside, join_all}
use Rattle.definitions.specs.Network.{linked, serves, table_check}
use Rattle.definitions.specs.Order.{order_of, place_of, relay_at}
use Rattle.definitions.specs.Forests.{left, one_tree}
use Rattle.definitions.specs.Sweep.{sweep_routes}

-- left(i, v) of a table.
unfoldable pub left_of : (n : ℕ) (lows highs states : List ℕ) (i v : ℕ) → ℕ
left_of n lows highs states = left (linked lows highs) (order_of n lows highs states)

-- The routes between two places, from the relay at `p` on. "Routes start at the relay named as `from`: if that is t,
-- each route is turned round."
unfoldable pub routes_between : (left : ℕ → ℕ → ℕ) (k p q : ℕ) → List (List ℕ)
routes_between left k p q = pick (ltb q p) (sweep_routes left k p q) (map reverse (sweep_routes left k q p))

-- The k routes of Route, each a list of relay numbers.
unfoldable pub routes_of : (n : ℕ) (lows highs states : List ℕ) (k from to : ℕ) → List (List ℕ)
routes_of n lows highs states k from to =
    let order = order_of n lows highs states in
    map (map (relay_at order)) (routes_between (left_of n lows highs states) k (place_of order from) (place_of order to))

-- `from` and `to` are in one tree of forest k.
unfoldable pub one_tree_of : (n : ℕ) (lows highs states : List ℕ) (k from to : ℕ) → Bool
one_tree_of n lows highs states k from to =
    let order = order_of n lows highs states in
    one_tree (left_of n lows highs states) k (place_of order from) (place_of order to)

-- "12, count list shorter than k, relay list shorter than n − 2 + 2k, or scratch shorter than k × n". Subtraction stops at 0, which
-- matters to n 1 alone: there 10 or 11 comes before.
unfoldable pub too_short : (n k : ℕ) (counts relays scratch : List ℕ) → Bool
too_short n k counts relays scratch =
    ltb (length counts) k || (ltb (length relays) (n - 2 + 2 * k) || ltb (length scratch) (k * n))

-- "Route. Table check; 9; 10, `from` or `to` not below n; 11, both equal; 12, count list shorter than k, relay list shorter than
-- n − 2 + 2k, or scratch shorter than k × n; 13, not in one tree of forest k. The answer is the count of relays written."
-- "in Route 17 is a withdrawn end, straight after 11" (document 02, #105). `short` says whether there is cause for 12.
unfoldable pub route_unless : (short : Bool) (n : ℕ) (lows highs states : List ℕ) (k from to : ℕ) → Answer
route_unless short n lows highs states k from to =
    and_then (table_check n lows highs states) λ _.
    refuse_if (outside 1 32 k) 9 0
    (refuse_if (leb n from || leb n to) 10 0
    (refuse_if (eqb from to) 11 0
    (refuse_if (not (serves states from && serves states to)) 17 0
    (refuse_if short 12 0
    (refuse_if (not (one_tree_of n lows highs states k from to)) 13 0
    (done (length (join_all (routes_of n lows highs states k from to)) ∷ [])))))))

unfoldable pub route_answer : (n : ℕ) (lows highs states : List ℕ) (k from to : ℕ) (counts relays scratch : List ℕ) → Answer
route_answer n lows highs states k from to counts relays scratch =
    route_unless (too_short n k counts relays scratch) n lows highs states k from to

-- The list of counts afterwards: "a second list holds how many relays each has".
unfoldable pub counts_after : (n : ℕ) (lows highs states : List ℕ) (k from to : ℕ) (counts relays scratch : List ℕ) → List ℕ
counts_after n lows highs states k from to counts relays scratch =
    if_done (route_answer n lows highs states k from to counts relays scratch)
    (overwrite (map length (routes_of n lows highs states k from to)) counts)
    counts

-- The list of relays afterwards: "The list holds route 1, then 2, up to k, as relay numbers".
unfoldable pub route_relays_after : (n : ℕ) (lows highs states : List ℕ) (k from to : ℕ) (counts relays scratch : List ℕ) → List ℕ
route_relays_after n lows highs states k from to counts relays scratch =
    if_done (route_answer n lows highs states k from to counts relays scratch)
    (overwrite (join_all (routes_of n lows highs states k from to)) relays)
    relays

-- Scratch has been used: after a success and after 13.
unfoldable pub scratch_used : (answer : Answer) → Bool
scratch_used (refused number place) = eqb number 13
scratch_used (done values) = true

-- "After 13 and after success scratch is all zeros." Any other refusal leaves it.
unfoldable pub scratch_after : (n : ℕ) (lows highs states : List ℕ) (k from to : ℕ) (counts relays scratch : List ℕ) → List ℕ
scratch_after n lows highs states k from to counts relays scratch =
    pick (scratch_used (route_answer n lows highs states k from to counts relays scratch)) (zeroed scratch) scratch
