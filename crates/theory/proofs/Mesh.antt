-- The hypotheses of demand 3 can all be met: the mesh of document 01 with k 2, the ends 4 and 1, relay 2 dead. So can those about the
-- last two of the order: they are 4 and 3, and 4 has 2 links.
use Rattle.std.specs.Prelude.{ℕ, ◌≤◌, ◌<◌, Bool, false, List, ◌≡◌, refl, eqb, length}
use Rattle.std.proofs.Common.{inl, arith}
use Rattle.definitions.specs.Network.{serves, Accepted}
use Rattle.definitions.specs.Order.{relays_after, places_after}
use Rattle.definitions.specs.Forests.{forests_after, marks_after}
use Rattle.definitions.specs.Route.{too_short, route_answer, counts_after, route_relays_after}
use Rattle.definitions.specs.DisjointRoutes.{LinkOf, InService}
use Rattle.definitions.specs.Demand.{Joined, alone, onward, Kept, Live, dead_count, OneTree, Delivered, in_service_count, Holds, RoutesHold}
use Rattle.definitions.specs.LastTwo.{AreLastTwo, sure_figure, RoutesInService, LastTwoHolds}
use Rattle.definitions.specs.Networks.{mesh, lent}
use Rattle.definitions.specs.Opened.{opened}
use Rattle.theory.proofs.DemandThree.{demand-three}
use Rattle.theory.proofs.LastTwo.{last-two}

abbrev lows : List ℕ
lows = mesh.lows

abbrev highs : List ℕ
highs = mesh.highs

abbrev states : List ℕ
states = mesh.states

abbrev forests : List ℕ
forests = forests_after 5 lows highs states (lent 7)

abbrev marks : List ℕ
marks = marks_after 5 lows highs states 2 (lent 7)

pub mesh-accepted : Accepted 5 lows highs states
unfolding opened
mesh-accepted = refl

-- Over links of forest 2 alone: 4 3, 3 1.
pub mesh-one-tree : OneTree lows highs forests 2 4 1
unfolding opened
mesh-one-tree =
    onward {b = 3} tt (6, omega arith, refl, refl)
    (onward {b = 1} tt (3, omega arith, refl, refl)
    (alone tt))

abbrev dead : ℕ → Bool
dead = eqb 2

pub mesh-few-dead : dead_count 5 states dead < 2
unfolding opened
mesh-few-dead = omega arith

-- 4 and 1 are joined without relay 2: 4 3, 3 1.
pub mesh-joined : Joined (Live 5 states dead) (LinkOf lows highs (InService lows highs states)) 4 1
unfolding opened
mesh-joined =
    onward {a = 4} {b = 3} ((omega arith, refl), refl) (6, omega arith, refl, refl)
    (onward {a = 3} {b = 1} ((omega arith, refl), refl) (3, omega arith, refl, refl)
    (alone {a = 1} ((omega arith, refl), refl)))

mesh-holds : Holds 5 lows highs states 2 (relays_after 5 lows highs states (lent 5) (lent 5)) (places_after 5 lows highs states (lent 5) (lent 5)) forests marks
mesh-holds =
    demand-three 5 lows highs states mesh-accepted 2 (omega arith) (omega arith) (lent 5) (lent 5) (lent 7) (lent 7) (omega arith) (omega arith)
    (omega arith) (omega arith)

-- So they are joined over the kept links too,
pub mesh-survives : Joined (Live 5 states dead) (LinkOf lows highs (Kept marks)) 4 1
unfolding serves
mesh-survives =
    (mesh-holds.survives dead mesh-few-dead 4 1 ((omega arith, refl), refl) ((omega arith, refl), refl)).1 mesh-joined

long : too_short 5 2 (lent 2) (lent 7) (lent 10) ≡ false
unfolding opened
long = refl

-- and Route gives its routes.
pub mesh-routes : RoutesHold 5 lows highs states marks 2 4 1
    (counts_after 5 lows highs states 2 4 1 (lent 2) (lent 7) (lent 10))
    (route_relays_after 5 lows highs states 2 4 1 (lent 2) (lent 7) (lent 10))
unfolding serves
mesh-routes =
    ((mesh-holds.routes 4 1 (omega arith, refl) (omega arith, refl) (omega arith) (lent 2) (lent 7) (lent 10) long).in_one_tree mesh-one-tree).routes

abbrev order : List ℕ
order = relays_after 5 lows highs states (lent 5) (lent 5)

two : 2 ≤ in_service_count 5 states
unfolding opened
two = omega arith

mesh-last-two : LastTwoHolds 5 lows highs states 2 order marks
mesh-last-two =
    last-two 5 lows highs states mesh-accepted two 2 (omega arith) (omega arith) (lent 5) (lent 5) (lent 7) (omega arith) (omega arith) (omega arith)

figure : sure_figure 5 lows highs states order ≡ 2
unfolding opened
figure = refl

last-ends : AreLastTwo 5 states order 4 3
unfolding opened
last-ends = inl (refl, refl)

-- Route delivers 2 routes between them,
pub mesh-last-routes : Delivered 5 lows highs states marks 2 4 3
    (route_answer 5 lows highs states 2 4 3 (lent 2) (lent 7) (lent 10))
    (counts_after 5 lows highs states 2 4 3 (lent 2) (lent 7) (lent 10))
    (route_relays_after 5 lows highs states 2 4 3 (lent 2) (lent 7) (lent 10))
mesh-last-routes = mesh-last-two.delivers figure 4 3 last-ends (lent 2) (lent 7) (lent 10) long

-- and no list of routes has 3.
pub mesh-no-more : (routes : List (List ℕ)) → RoutesInService 5 lows highs states 4 3 routes → length routes ≤ 2
mesh-no-more routes between = omega (arith, mesh-last-two.no_more 4 3 last-ends routes between, figure)
