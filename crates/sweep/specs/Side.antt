-- The paths of one side of the sweep, A or B, in one list: entry i is the end of path i as a place, entry second_start + i its
-- last but one, entry link_start + i the link between them; entry prior_start + 2 x is the place before x on its path, and the entry
-- behind it the link from there to x; 0 means no place. What the functions on a side do to it. Assumes nothing.
use Rattle.std.specs.Prelude.{ℕ, zero, suc, ◌+◌, ◌*◌, ◌<◌, List, ◌≡◌, eqb, ltb, length, get_or, set}
use Rattle.definitions.specs.Outcome.{pick}
use Rattle.definitions.specs.Forests.{Entry}
use Rattle.forests.specs.Left.{left_index}
use Rattle.sweep.specs.declared.side.Neighbour.{Neighbour}
use Rattle.sweep.specs.declared.side.LeftTable.{LeftTable}

-- What the look-up gives, as the definitions have it.
abbrev pub entry_of : Neighbour → Entry
entry_of found = record { place = found.place.0; link = found.link }

-- No neighbour.
abbrev pub none : Entry
none = record { place = 0; link = 0 }

-- What an entry of the left table stands for: 0 for no neighbour, else one more than the index of the link, whose earlier end
-- `ends` has as a place.
unfoldable pub link_entry : (ends : List ℕ) (code : ℕ) → Entry
link_entry ends zero = none
link_entry ends (suc link) = record { place = get_or ends link 0; link = link }

-- left(i, v) as a left table has it, i and v from 1, v up to n; none for any other.
unfoldable pub table_entry : (table ends : List ℕ) (n i v : ℕ) → Entry
table_entry table ends n i v =
    pick (eqb i 0) none (pick (eqb v 0) none (pick (ltb n v) none (link_entry ends (get_or table (left_index n i v) 0))))

-- The same of a lent left table.
abbrev pub left_of : LeftTable → (i v : ℕ) → Entry
left_of table = table_entry table.entries.now table.ends.now table.n

-- Where the last but ones start, behind the ends of the indices 0 to 32, where the links start, and where the places before each
-- place start.
abbrev pub second_start : ℕ
second_start = 33

abbrev pub link_start : ℕ
link_start = 66

abbrev pub prior_start : ℕ
prior_start = 99

-- The end of path i, its last but one, and the link between them.
unfoldable pub end_in : (side : List ℕ) (i : ℕ) → ℕ
end_in side i = get_or side i 0

unfoldable pub second_in : (side : List ℕ) (i : ℕ) → ℕ
second_in side i = get_or side (second_start + i) 0

unfoldable pub link_in : (side : List ℕ) (i : ℕ) → ℕ
link_in side i = get_or side (link_start + i) 0

abbrev pub end_entry : (side : List ℕ) (i : ℕ) → Entry
end_entry side i = record { place = end_in side i; link = link_in side i }

-- The place before x, and the link from there to x.
unfoldable pub prior_in : (side : List ℕ) (x : ℕ) → ℕ
prior_in side x = get_or side (prior_start + 2 * x) 0

unfoldable pub prior_link_in : (side : List ℕ) (x : ℕ) → ℕ
prior_link_in side x = get_or side (prior_start + (2 * x + 1)) 0

-- A side with room for the places up to n, and no path yet.
pub record NoPaths (n : ℕ) (side : List ℕ) : Type 0 where
  pub room : prior_start + (2 * n + 1) < length side
  pub empty : (i : ℕ) → get_or side i 0 ≡ 0

-- The side after a new end, with the link to it, and a new last but one for path i.
unfoldable pub set_path : (side : List ℕ) (i : ℕ) (end : Entry) (second : ℕ) → List ℕ
set_path side i end second = set (set (set side i end.place) (second_start + i) second) (link_start + i) end.link

-- The side with another place before x, and the link from there.
unfoldable pub set_prior : (side : List ℕ) (x prior link : ℕ) → List ℕ
set_prior side x prior link = set (set side (prior_start + 2 * x) prior) (prior_start + (2 * x + 1)) link

-- Path j goes on from its end v to left(j, v).
unfoldable pub extend_path : (look : ℕ → ℕ → Entry) (v j : ℕ) (side : List ℕ) → List ℕ
extend_path look v j side = set_path (set_prior side v (second_in side j) (link_in side j)) j (look j v) v

-- The same where path j ends at v and the other side's path j, which ends at `other`, does not.
unfoldable pub advance : (look : ℕ → ℕ → Entry) (v j other : ℕ) (side : List ℕ) → List ℕ
advance look v j other side = pick (eqb (end_in side j) v) (pick (eqb other v) side (extend_path look v j side)) side

-- Index i gets the path of index j with left(i, its last but one) as its end, and j gets the path of i.
unfoldable pub trade : (look : ℕ → ℕ → Entry) (j i : ℕ) (side : List ℕ) → List ℕ
trade look j i side =
    set_path (set_path side j (end_entry side i) (second_in side i)) i (look i (second_in side j)) (second_in side j)

-- The same where path i ends at v.
unfoldable pub trade_at : (look : ℕ → ℕ → Entry) (v j i : ℕ) (side : List ℕ) → List ℕ
trade_at look v j i side = pick (eqb (end_in side i) v) (trade look j i side) side

-- The same for the indices i, …, 1, one after another.
unfoldable pub trade_from : (look : ℕ → ℕ → Entry) (v j i : ℕ) (side : List ℕ) → List ℕ
trade_from look v j zero side = side
trade_from look v j (suc i) side = trade_from look v j i (trade_at look v j (suc i) side)
