-- The wish of Route and the room for its answer: what a definition says of a lent table and a wish, and the refusals 9 to 12 with 17.
-- Assumes nothing.
use Rattle.std.specs.Prelude.{ℕ, ◌+◌, ◌-◌, ◌*◌, Bool, false, ◌&&◌, ◌||◌, not, List, [], Option, Some, None, eqb, ltb, leb}
use Rattle.definitions.specs.Outcome.{done, Answer, refuse_if}
use Rattle.definitions.specs.Lists.{outside}
use Rattle.definitions.specs.Network.{serves}
use Rattle.network.specs.declared.Table.{Table}
use Rattle.network.specs.Tables.{of_table}
use Rattle.routes.specs.declared.wish.Wish.{Wish}
use Rattle.routes.specs.declared.wish.Room.{Room}

-- A definition over a network's four parts, the number of routes and the two relays, at a table's and a wish's.
abbrev pub of_wish : {A : Type 0} → (ℕ → List ℕ → List ℕ → List ℕ → ℕ → ℕ → ℕ → A) → Table → Wish → A
of_wish f table wish = of_table f table wish.k wish.from.0 wish.to.0

-- A list of links of this length is too short, where one is asked for.
abbrev pub links_short : (asked : Option ℕ) (n k : ℕ) → Bool
links_short None n k = false
links_short (Some links) n k = ltb links (n - 2 + k)

-- A list is too short.
abbrev pub is_short : (room : Room) (n k : ℕ) → Bool
is_short room n k =
    (ltb room.counts k || (ltb room.relays (n - 2 + 2 * k) || ltb room.scratch (k * n))) || links_short room.links n k

-- 9 to 12 with 17 before 12.
unfoldable pub wish_check : (n k from to : ℕ) (states : List ℕ) (room : Room) → Answer
wish_check n k from to states room =
    refuse_if (outside 1 32 k) 9 0
    (refuse_if (leb n from || leb n to) 10 0
    (refuse_if (eqb from to) 11 0
    (refuse_if (not (serves states from && serves states to)) 17 0
    (refuse_if (is_short room n k) 12 0
    (done [])))))
