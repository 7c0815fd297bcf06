-- Writing the links of the routes out: of each route those of one side's path from its start to the meeting relay, and then those
-- of the other side's path back to its start. On lists, as the loops run. Assumes nothing.
use Rattle.std.specs.Prelude.{ℕ, zero, suc, ◌+◌, List, set}
use Rattle.sweep.specs.Side.{second_in, link_in, prior_in, prior_link_in}
use Rattle.routes.specs.Writing.{count_in}

-- `count` links back from x, `link` the first of them, written downwards to `from`.
unfoldable pub links_down : (side : List ℕ) (from count link x : ℕ) (links : List ℕ) → List ℕ
links_down side from zero link x links = links
links_down side from (suc count) link x links =
    links_down side from count (prior_link_in side x) (prior_in side x) (set links (from + count) link)

-- `count` links back from x, `link` the first of them, written upwards from `at`.
unfoldable pub links_up : (side : List ℕ) (at count link x : ℕ) (links : List ℕ) → List ℕ
links_up side at zero link x links = links
links_up side at (suc count) link x links =
    links_up side (at + 1) count (prior_link_in side x) (prior_in side x) (set links at link)

-- The links of route i, written from `from` on: those of the front side's path, then those of the back side's.
unfoldable pub route_links : (front back : List ℕ) (i from : ℕ) (links : List ℕ) → List ℕ
route_links front back i from links =
    let count = count_in front i in
    links_up back (from + count) (count_in back i) (link_in back i) (second_in back i)
    (links_down front from count (link_in front i) (second_in front i) links)

-- Those of the `more` routes after route i, written from `from` on.
unfoldable pub links_from : (front back : List ℕ) (more i from : ℕ) (links : List ℕ) → List ℕ
links_from front back zero i from links = links
links_from front back (suc more) i from links =
    links_from front back more (i + 1) (from + (count_in front (i + 1) + count_in back (i + 1)))
    (route_links front back (i + 1) from links)
