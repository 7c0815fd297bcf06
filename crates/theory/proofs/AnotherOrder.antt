-- The hypotheses of the theory over any order can be met by one that is not the base's: the mesh of document 01 with relay 2 first
-- and relay 4 left out. Its two links have no forest and mark 0, and what is kept for k 1 joins what all the others join.
use Rattle.std.specs.Prelude.{ℕ, zero, suc, ◌≤◌, ◌<◌, Bool, true, false, List, [], ◌∷◌, ◌↔◌, ◌≡◌, refl, length}
use Rattle.std.proofs.Common.{arith}
use Rattle.definitions.specs.Lists.{has, count}
use Rattle.definitions.specs.Network.{linked, Serving}
use Rattle.definitions.specs.Order.{serving_relays, placed_after}
use Rattle.definitions.specs.DisjointRoutes.{LinkOf}
use Rattle.definitions.specs.Demand.{Joined, Kept, OneTree}
use Rattle.definitions.specs.Networks.{mesh}
use Rattle.definitions.specs.Opened.{opened}
use Rattle.theory.specs.Accepted.{accepted}
use Rattle.theory.specs.ServingRelays.{serving-once, serving-relay}
use Rattle.theory.specs.Ordering.{placed-candidates}
use Rattle.theory.specs.ForestNumbers.{Placed, forest-placed}
use Rattle.theory.specs.Arranged.{Arranged, arranged-placed}
use Rattle.theory.proofs.ForestBound.{links_in, forest-size}
use Rattle.theory.proofs.Columns.{NumberedIn, MarkedIn}
use Rattle.theory.proofs.RelayTrees.{tree-test}
use Rattle.theory.proofs.LiveRoute.{LiveIn}
use Rattle.theory.proofs.Certificate.{survives-in}
use Rattle.theory.proofs.Mesh.{mesh-accepted}

abbrev lows : List ℕ
lows = mesh.lows

abbrev highs : List ℕ
highs = mesh.highs

-- The relays in service: relay 4 is not.
abbrev states : List ℕ
states = 1 ∷ 1 ∷ 1 ∷ 1 ∷ 0 ∷ []

abbrev candidates : List ℕ
candidates = serving_relays 5 states

abbrev order : List ℕ
order = placed_after (linked lows highs) 2 candidates 4

pub order_is : order ≡ 2 ∷ 0 ∷ 1 ∷ 3 ∷ []
unfolding opened
order_is = refl

first-in : has candidates 2 ≡ true
unfolding opened
first-in = refl

four : 4 ≤ length candidates
unfolding opened
four = omega arith

pub part-arranged : Arranged order lows highs
part-arranged =
    arranged-placed 5 lows highs (accepted 5 lows highs mesh.states mesh-accepted) 2 candidates (serving-once 5 states)
    (λ h. first-in) 4 four

part-serving : (r : ℕ) → has order r ≡ true → Serving 5 states r
part-serving r h =
    serving-relay 5 states r
    (placed-candidates (linked lows highs) 2 candidates (serving-once 5 states) (λ some. first-in) 4 four r h)

-- By link: 0 1, 0 2, 1 2, 1 3, 2 3, 2 4, 3 4.
abbrev forests : List ℕ
forests = 2 ∷ 1 ∷ 1 ∷ 2 ∷ 1 ∷ 0 ∷ 0 ∷ []

abbrev marks : List ℕ
marks = 0 ∷ 1 ∷ 1 ∷ 0 ∷ 1 ∷ 0 ∷ 0 ∷ []

pub part-numbered : NumberedIn order lows highs forests
unfolding opened
part-numbered zero h = refl
part-numbered (suc zero) h = refl
part-numbered (suc (suc zero)) h = refl
part-numbered (suc (suc (suc zero))) h = refl
part-numbered (suc (suc (suc (suc zero)))) h = refl
part-numbered (suc (suc (suc (suc (suc zero))))) h = refl
part-numbered (suc (suc (suc (suc (suc (suc zero)))))) h = refl
part-numbered (suc (suc (suc (suc (suc (suc (suc i))))))) h = absurd (omega arith)

pub part-marked : MarkedIn order lows highs 1 marks
unfolding opened
part-marked zero h = refl
part-marked (suc zero) h = refl
part-marked (suc (suc zero)) h = refl
part-marked (suc (suc (suc zero))) h = refl
part-marked (suc (suc (suc (suc zero)))) h = refl
part-marked (suc (suc (suc (suc (suc zero))))) h = refl
part-marked (suc (suc (suc (suc (suc (suc zero)))))) h = refl
part-marked (suc (suc (suc (suc (suc (suc (suc i))))))) h = absurd (omega arith)

-- Relays 1 and 3 are in one tree of forest 2, by the test on their places.
pub part-one-tree : OneTree lows highs forests 2 1 3
unfolding opened
part-one-tree =
    (tree-test order lows highs part-arranged forests part-numbered 2 (forest-placed order lows highs 2 (omega arith)) 1 3 refl refl
    (omega arith)).1 refl

pub part-size : length (links_in order lows highs 2) ≤ 2
unfolding opened
part-size = forest-size order lows highs part-arranged 2 (forest-placed order lows highs 2 (omega arith))

abbrev none : ℕ → Bool
none r = false

few : count none order < 1
unfolding opened
few = omega arith

pub part-survives : (a b : ℕ) → Joined (LiveIn order none) (LinkOf lows highs (Kept marks)) a b
    ↔ Joined (LiveIn order none) (LinkOf lows highs (Placed order lows highs)) a b
part-survives =
    survives-in order lows highs part-arranged 5 states part-serving 1 (omega arith) marks part-marked none few (Placed order lows highs) (λ i h p. p)
