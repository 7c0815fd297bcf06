-- Document 01, 'The network' and the table check: pair numbers, links, and what makes a table one of a network.
-- A table is two lists of numbers, lows and highs; n is the number of relays. Since document 02, #105 a network also has a list of
-- states, one for every relay. Assumes nothing.
use Rattle.std.specs.Prelude.{ℕ, zero, suc, ◌+◌, ◌-◌, ◌*◌, ◌/◌, ◌<◌, Bool, true, ◌&&◌, ◌||◌, not, List, [], ◌∷◌, ◌≡◌, eqb, ltb, leb, length, get_or}
use Rattle.definitions.specs.Outcome.{pick, done, Answer, refuse_if, and_then}
use Rattle.definitions.specs.Lists.{outside, some_below, greatest}

-- The first pair number of the links whose high relay is b.
unfoldable pub row_start : (b : ℕ) → ℕ
row_start b = b * (b - 1) / 2

-- "The pair number of a link A B is B × (B − 1) / 2 + A."
unfoldable pub pair_number : (a b : ℕ) → ℕ
pair_number a b = row_start b + a

-- "5: a relay number of 1,000 or more. 6: A not below B. The answer is the pair number."
unfoldable pub pair_answer : (a b : ℕ) → Answer
pair_answer a b =
    refuse_if (leb 1000 a || leb 1000 b) 5 0
    (refuse_if (leb b a) 6 0
    (done (pair_number a b ∷ [])))

-- "held as its low and its high relay number": link i of the table is the pair a b.
unfoldable pub is_pair : (lows highs : List ℕ) (a b i : ℕ) → Bool
is_pair lows highs a b i = eqb (get_or lows i 0) a && eqb (get_or highs i 0) b

-- Link i of the table joins a and b, whichever is the lower.
unfoldable pub joins : (lows highs : List ℕ) (a b i : ℕ) → Bool
joins lows highs a b i = is_pair lows highs a b i || is_pair lows highs b a i

-- Some link of the table joins a and b.
unfoldable pub linked : (lows highs : List ℕ) (a b : ℕ) → Bool
linked lows highs a b = some_below (joins lows highs a b) (length lows)

-- Link i of the table has relay r as an end.
unfoldable pub touches : (lows highs : List ℕ) (r i : ℕ) → Bool
touches lows highs r i = eqb (get_or lows i 0) r || eqb (get_or highs i 0) r

-- "a state for every relay, 1 in service or 0 withdrawn" (document 02, #105): relay r is in service.
unfoldable pub serves : (states : List ℕ) (r : ℕ) → Bool
serves states r = eqb (get_or states r 0) 1

-- Relay r of the network is in service.
abbrev pub Serving : (n : ℕ) (states : List ℕ) (r : ℕ) → Type 0
Serving n states r = (r < n) × (serves states r ≡ true)

-- Link i of the table is one "with both ends in service".
unfoldable pub link_serves : (lows highs states : List ℕ) (i : ℕ) → Bool
link_serves lows highs states i = serves states (get_or lows i 0) && serves states (get_or highs i 0)

-- What is wrong with a link a b that comes after the first i links of the table, or 0:
-- "5, A or B not below n; 6, A not below B; 7, a pair that an earlier line has".
unfoldable pub link_fault : (n : ℕ) (lows highs : List ℕ) (i a b : ℕ) → ℕ
link_fault n lows highs i a b =
    pick (leb n a || leb n b) 5
    (pick (leb b a) 6
    (pick (some_below (is_pair lows highs a b) i) 7
    0))

-- "in rising order of low, then high number" (document 02, #108), "rise by A and then B" (#113): the link a b comes below the link c d.
unfoldable pub link_below : (a b c d : ℕ) → Bool
link_below a b c d = ltb a c || (eqb a c && ltb b d)

-- "then link by link 5, 6, 7", for `count` links from link i on; the place is the link's index.
unfoldable pub links_check : (n : ℕ) (lows highs : List ℕ) (i count : ℕ) → Answer
links_check n lows highs i zero = done []
links_check n lows highs i (suc count) =
    let fault = link_fault n lows highs i (get_or lows i 0) (get_or highs i 0) in
    refuse_if (ltb 0 fault) fault i (links_check n lows highs (i + 1) count)

-- "a state list not n long or with an entry other than 0 and 1" (document 02, #105): its greatest entry is above 1.
unfoldable pub states_fault : (n : ℕ) (states : List ℕ) → Bool
states_fault n states = not (eqb (length states) n) || ltb 1 (greatest states)

-- The table check: "3; then 4, lists of unequal length (m is their length) or over 3,000; then link by link 5, 6, 7", and "at the
-- end of the table check" 16 for the states.
unfoldable pub table_check : (n : ℕ) (lows highs states : List ℕ) → Answer
table_check n lows highs states =
    refuse_if (outside 1 1000 n) 3 0
    (refuse_if (not (eqb (length lows) (length highs)) || ltb 3000 (length lows)) 4 0
    (and_then (links_check n lows highs 0 (length lows)) λ _.
    refuse_if (states_fault n states) 16 0
    (done [])))

-- "An accepted network is one that passes the table check."
abbrev pub Accepted : (n : ℕ) (lows highs states : List ℕ) → Type 0
Accepted n lows highs states = table_check n lows highs states ≡ done []
