-- Document 01, 'The forests' (document 002, section 2): earlier neighbours, left(i, v), forest numbers, trees, the cut.
-- Over any test `linked` and any order; places are 1 to n, and 0 means none.
use Rattle.std.specs.Prelude.{ℕ, zero, suc, min, max, Bool, ◌&&◌, List, [], ◌∷◌, map, eqb, ltb, length, get_or}
use Rattle.definitions.specs.Outcome.{pick, Answer, done, refuse_if, and_then, if_done}
use Rattle.definitions.specs.Lists.{table, overwrite, outside, first_from, rising, position, total, greatest}
use Rattle.definitions.specs.Network.{linked, table_check}
use Rattle.definitions.specs.Order.{order_of, place_of, relay_at}

-- "a relay's earlier neighbours be those with a lower place, in rising place": of the relay at place v, as places.
unfoldable pub earlier : (linked : ℕ → ℕ → Bool) (order : List ℕ) (v : ℕ) → List ℕ
earlier linked order zero = []
earlier linked order (suc v) =
    pick (ltb v (length order)) (rising (λ u. linked (relay_at order u) (relay_at order (suc v))) v) []

-- "left(i, v) is that neighbour of v": the i-th earlier neighbour, i from 1; 0 if there is none.
unfoldable pub left : (linked : ℕ → ℕ → Bool) (order : List ℕ) (i v : ℕ) → ℕ
left linked order zero v = 0
left linked order (suc i) v = get_or (earlier linked order v) i 0

-- "The link to the i-th of them belongs to forest i": the forest of a link between places u and v, u the earlier.
unfoldable pub forest_between : (linked : ℕ → ℕ → Bool) (order : List ℕ) (u v : ℕ) → ℕ
forest_between linked order u v = position (earlier linked order v) u

-- The forest of link i of the table; 0 where an end has no place: "its links belong to no forest" (document 02, #105).
unfoldable pub forest_of : (linked : ℕ → ℕ → Bool) (order lows highs : List ℕ) (i : ℕ) → ℕ
forest_of linked order lows highs i =
    let p = place_of order (get_or lows i 0) in
    let q = place_of order (get_or highs i 0) in
    forest_between linked order (min p q) (max p q)

-- The place of the later end of link i of the table.
unfoldable pub later_of : (order lows highs : List ℕ) (i : ℕ) → ℕ
later_of order lows highs i = max (place_of order (get_or lows i 0)) (place_of order (get_or highs i 0))

-- "The link to the i-th of them belongs to forest i": the index of v's link to its i-th earlier neighbour, which is the link of
-- forest i that has its later end at v. Where there is no such link it is 0, which is an index too: `left` tells whether there is one.
unfoldable pub left_link : (linked : ℕ → ℕ → Bool) (order lows highs : List ℕ) (i v : ℕ) → ℕ
left_link linked order lows highs i v =
    first_from (λ l. eqb (forest_of linked order lows highs l) i && eqb (later_of order lows highs l) v) 0 (length lows)

-- "Looking up left(i, v) is to give the link's index along with the relay" (document 02, #101): the place of the neighbour, and
-- the index of the link to it.
pub record Entry : Type 0 where
  pub place : ℕ
  pub link : ℕ

unfoldable pub left_entry : (linked : ℕ → ℕ → Bool) (order lows highs : List ℕ) (i v : ℕ) → Entry
left_entry linked order lows highs i v =
    record { place = left linked order i v; link = left_link linked order lows highs i v }

-- The forest number of each link, in the order of the table.
unfoldable pub forests_of : (n : ℕ) (lows highs states : List ℕ) → List ℕ
forests_of n lows highs states = table (forest_of (linked lows highs) (order_of n lows highs states) lows highs) 0 (length lows)

-- The first place of the tree of forest i that v is in: in forest i each place has at most one link to an earlier one,
-- left(i, v), so following these leads there. At most `steps` of them.
unfoldable pub root_within : (left : ℕ → ℕ → ℕ) (i steps v : ℕ) → ℕ
root_within left i zero v = v
root_within left i (suc steps) v = pick (eqb (left i v) 0) v (root_within left i steps (left i v))

-- "Two relays are in one tree of forest i if they are equal or joined by links of forest i alone": as a test on places.
-- v steps suffice from v: each leads to a lower place, and none leads on from 0.
unfoldable pub one_tree : (left : ℕ → ℕ → ℕ) (i u v : ℕ) → Bool
one_tree left i u v = eqb (root_within left i u u) (root_within left i v v)

-- "Split. Table check, then 12, the list of forest numbers shorter than m. The answer is the highest forest used, 0
-- without links."
unfoldable pub split_answer : (n : ℕ) (lows highs states forests : List ℕ) → Answer
split_answer n lows highs states forests =
    and_then (table_check n lows highs states) λ _.
    refuse_if (ltb (length forests) (length lows)) 12 0
    (done (greatest (forests_of n lows highs states) ∷ []))

-- The list of forest numbers afterwards.
unfoldable pub forests_after : (n : ℕ) (lows highs states forests : List ℕ) → List ℕ
forests_after n lows highs states forests =
    if_done (split_answer n lows highs states forests) (overwrite (forests_of n lows highs states) forests) forests

-- "Cutting down to k keeps the links of forests 1 to k": the mark of a link of this forest, 1 kept, 0 dropped.
unfoldable pub mark_of : (k forest : ℕ) → ℕ
mark_of k forest = pick (outside 1 k forest) 0 1

-- The mark of each link, in the order of the table.
unfoldable pub marks_of : (n : ℕ) (lows highs states : List ℕ) (k : ℕ) → List ℕ
marks_of n lows highs states k = map (mark_of k) (forests_of n lows highs states)

-- "Cut. Table check; 9, k outside 1 to 32; 12, the list of marks (1 kept, 0 dropped) shorter than m. The answer is the count
-- of ones."
unfoldable pub cut_answer : (n : ℕ) (lows highs states : List ℕ) (k : ℕ) (marks : List ℕ) → Answer
cut_answer n lows highs states k marks =
    and_then (table_check n lows highs states) λ _.
    refuse_if (outside 1 32 k) 9 0
    (refuse_if (ltb (length marks) (length lows)) 12 0
    (done (total (marks_of n lows highs states k) ∷ [])))

-- The list of marks afterwards.
unfoldable pub marks_after : (n : ℕ) (lows highs states : List ℕ) (k : ℕ) (marks : List ℕ) → List ℕ
marks_after n lows highs states k marks =
    if_done (cut_answer n lows highs states k marks) (overwrite (marks_of n lows highs states k) marks) marks
