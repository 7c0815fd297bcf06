-- The routes between two places over a left table: the test of one tree, the sweep and the writing of relays and links. Assumes
-- nothing.
use Rattle.std.specs.Prelude.{ℕ, zero, suc, ◌+◌, ◌-◌, Bool, true, false, List, eqb, ltb}
use Rattle.definitions.specs.Outcome.{pick}
use Rattle.definitions.specs.Forests.{Entry}
use Rattle.sweep.specs.Sides.{swept_in}
use Rattle.routes.specs.Writing.{Written, write_from}
use Rattle.routes.specs.WrittenLinks.{links_from}

-- Each of the `gap` places after t has a left entry of index k.
unfoldable pub alive_in : (look : ℕ → ℕ → Entry) (k t gap : ℕ) → Bool
alive_in look k t zero = true
alive_in look k t (suc gap) = pick (eqb (look k (t + suc gap)).place 0) false (alive_in look k t gap)

-- The test of one tree: the same for the places after the earlier of p and q, up to the later.
unfoldable pub one_tree_in : (look : ℕ → ℕ → Entry) (k p q : ℕ) → Bool
one_tree_in look k p q = pick (ltb q p) (alive_in look k q (p - q)) (alive_in look k p (q - p))

-- The routes from p to q: swept on the sides a and b from the later of the two, written from p on.
unfoldable pub between_in : (a b : List ℕ) (look : ℕ → ℕ → Entry) (k p q : ℕ) (order counts relays : List ℕ) → Written
between_in a b look k p q order counts relays =
    let falls = swept_in look k p q a b in
    let rises = swept_in look k q p a b in
    pick (ltb q p)
    (write_from falls.side_a falls.side_b order k 0 0 counts relays)
    (write_from rises.side_b rises.side_a order k 0 0 counts relays)

-- Their links.
unfoldable pub links_between : (a b : List ℕ) (look : ℕ → ℕ → Entry) (k p q : ℕ) (links : List ℕ) → List ℕ
links_between a b look k p q links =
    let falls = swept_in look k p q a b in
    let rises = swept_in look k q p a b in
    pick (ltb q p)
    (links_from falls.side_a falls.side_b k 0 0 links)
    (links_from rises.side_b rises.side_a k 0 0 links)
