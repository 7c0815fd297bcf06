-- The hypotheses of demand 3 can be met with a withdrawn relay too: the mesh of document 01 without relay 2. With k 2 relay 0 is dead, and
-- relay 2 as well, which is not counted; with k 1 the ends are 4 and 1.
use Rattle.std.specs.Prelude.{ℕ, ◌≤◌, ◌<◌, Bool, false, ◌||◌, List, ◌≡◌, refl, eqb}
use Rattle.std.proofs.Common.{arith}
use Rattle.definitions.specs.Network.{serves, Accepted}
use Rattle.definitions.specs.Order.{relays_after, places_after}
use Rattle.definitions.specs.Forests.{forests_after, marks_after}
use Rattle.definitions.specs.Route.{too_short, counts_after, route_relays_after}
use Rattle.definitions.specs.DisjointRoutes.{LinkOf, InService}
use Rattle.definitions.specs.Demand.{Joined, alone, onward, Kept, Live, dead_count, OneTree, Holds, RoutesHold}
use Rattle.definitions.specs.Networks.{lent}
use Rattle.definitions.specs.Opened.{opened}
use Rattle.definitions.specs.StateExamples.{without_two}
use Rattle.theory.proofs.DemandThree.{demand-three}

abbrev lows : List ℕ
lows = without_two.lows

abbrev highs : List ℕ
highs = without_two.highs

abbrev states : List ℕ
states = without_two.states

abbrev forests : List ℕ
forests = forests_after 5 lows highs states (lent 7)

abbrev marks : (k : ℕ) → List ℕ
marks k = marks_after 5 lows highs states k (lent 7)

pub without-accepted : Accepted 5 lows highs states
unfolding opened
without-accepted = refl

without-holds : (k : ℕ) → 1 ≤ k → k ≤ 32
    → Holds 5 lows highs states k (relays_after 5 lows highs states (lent 5) (lent 5)) (places_after 5 lows highs states (lent 5) (lent 5)) forests (marks k)
without-holds k some few =
    demand-three 5 lows highs states without-accepted k some few (lent 5) (lent 5) (lent 7) (lent 7) (omega arith) (omega arith) (omega arith)
    (omega arith)

abbrev dead : ℕ → Bool
dead r = eqb 0 r || eqb 2 r

pub without-few-dead : dead_count 5 states dead < 2
unfolding opened
without-few-dead = omega arith

-- 4 and 1 are joined without relays 0 and 2: 4 3, 3 1.
pub without-joined : Joined (Live 5 states dead) (LinkOf lows highs (InService lows highs states)) 4 1
unfolding opened
without-joined =
    onward {a = 4} {b = 3} ((omega arith, refl), refl) (6, omega arith, refl, refl)
    (onward {a = 3} {b = 1} ((omega arith, refl), refl) (3, omega arith, refl, refl)
    (alone {a = 1} ((omega arith, refl), refl)))

-- So they are joined over the kept links too.
pub without-survives : Joined (Live 5 states dead) (LinkOf lows highs (Kept (marks 2))) 4 1
unfolding serves
without-survives =
    ((without-holds 2 (omega arith) (omega arith)).survives dead without-few-dead 4 1 ((omega arith, refl), refl) ((omega arith, refl), refl)).1
    without-joined

-- With k 1: over links of forest 1 alone, 4 3, 3 1,
pub without-one-tree : OneTree lows highs forests 1 4 1
unfolding opened
without-one-tree =
    onward {b = 3} tt (6, omega arith, refl, refl)
    (onward {b = 1} tt (3, omega arith, refl, refl)
    (alone tt))

long : too_short 5 1 (lent 1) (lent 5) (lent 5) ≡ false
unfolding opened
long = refl

-- and Route gives its route.
pub without-routes : RoutesHold 5 lows highs states (marks 1) 1 4 1
    (counts_after 5 lows highs states 1 4 1 (lent 1) (lent 5) (lent 5))
    (route_relays_after 5 lows highs states 1 4 1 (lent 1) (lent 5) (lent 5))
unfolding serves
without-routes =
    (((without-holds 1 (omega arith) (omega arith)).routes 4 1 (omega arith, refl) (omega arith, refl) (omega arith) (lent 1) (lent 5) (lent 5) long
    ).in_one_tree without-one-tree).routes
