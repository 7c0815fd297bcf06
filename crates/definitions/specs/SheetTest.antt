-- Document 02, #103: whether a sheet holds, as a test that runs, and the operation that reads a sheet back.
-- That the test says yes exactly where `SheetHolds` is true is shown in the crate `theory`. Assumes nothing.
use Rattle.std.specs.Prelude.{ℕ, suc, Bool, true, false, ◌&&◌, ◌||◌, not, List, [], ◌∷◌, eqb, ltb, length}
use Rattle.definitions.specs.Outcome.{pick, done, Answer, refuse_if, and_then}
use Rattle.definitions.specs.Lists.{outside, count}
use Rattle.definitions.specs.Network.{joins, link_serves, table_check}
use Rattle.definitions.specs.Forests.{marks_of}
use Rattle.definitions.specs.Plan.{Sheet}
use Rattle.definitions.specs.SheetForm.{read_sheet}

-- The relays met so far on the sheet, with r among them.
unfoldable pub also_met : (met : ℕ → Bool) (r : ℕ) → ℕ → Bool
also_met met r x = met x || eqb x r

-- The step from relay a to relay b over link l, "along links of the network, no relay twice in a route, no two routes sharing .. an
-- inner relay, `over` lines right": l joins the two, a is not yet the end, b is below n, and b is the end or was not met before. "a
-- sheet that touches a withdrawn relay is a no" (document 02, #105): both ends of l are in service.
unfoldable pub step_holds : (n : ℕ) (lows highs states : List ℕ) (to : ℕ) (met : ℕ → Bool) (a b l : ℕ) → Bool
step_holds n lows highs states to met a b l =
    (ltb l (length lows) && (joins lows highs a b l && link_serves lows highs states l))
    && (not (eqb a to) && (ltb b n && (eqb b to || not (met b))))

-- The relays met once the step has led to b, for "no relay twice in a route, no two routes sharing .. an inner relay". The end is met
-- by every route.
unfoldable pub met_at : (to : ℕ) (met : ℕ → Bool) (b : ℕ) → ℕ → Bool
met_at to met b = pick (eqb b to) met (also_met met b)

-- How a walk along a route ended: the steps it took, 0 where it fails, and the relays met.
pub record Walk : Type 0 where
  pub steps : ℕ
  pub met : ℕ → Bool

-- From relay a on, `steps` steps from the start, over the relays and links that are left: both run out together, at the end.
unfoldable pub walk : (n : ℕ) (lows highs states : List ℕ) (to : ℕ) (met : ℕ → Bool) (steps a : ℕ) (rest over : List ℕ) → Walk
walk n lows highs states to met steps a [] [] = record { steps = pick (eqb a to) steps 0; met = met }
walk n lows highs states to met steps a [] (l ∷ over) = record { steps = 0; met = met }
walk n lows highs states to met steps a (b ∷ rest) [] = record { steps = 0; met = met }
walk n lows highs states to met steps a (b ∷ rest) (l ∷ over) =
    pick (step_holds n lows highs states to met a b l)
    (walk n lows highs states to (met_at to met b) (suc steps) b rest over)
    (record { steps = 0; met = met })

-- The walk along a whole route, which starts at `from`.
unfoldable pub walk_route : (n : ℕ) (lows highs states : List ℕ) (from to : ℕ) (met : ℕ → Bool) (route over : List ℕ) → Walk
walk_route n lows highs states from to met [] over = record { steps = 0; met = met }
walk_route n lows highs states from to met (a ∷ rest) over =
    pick (eqb a from) (walk n lows highs states to met 0 a rest over) (record { steps = 0; met = met })

-- "no two routes sharing a link": a route of so many steps is good after those before it if it did not fail, and at most one route
-- of a sheet is a single step, since two of them would share their link.
unfoldable pub good_steps : (steps : ℕ) (direct : Bool) → Bool
good_steps steps direct = not (eqb steps 0) && not (eqb steps 1 && direct)

-- Every route with its links; `met` are the relays of the routes before, and `direct` says whether one of those was a single step.
unfoldable pub routes_hold : (n : ℕ) (lows highs states : List ℕ) (from to : ℕ) (met : ℕ → Bool) (direct : Bool)
    (routes overs : List (List ℕ)) → Bool
routes_hold n lows highs states from to met direct [] [] = true
routes_hold n lows highs states from to met direct [] (over ∷ overs) = false
routes_hold n lows highs states from to met direct (route ∷ routes) [] = false
routes_hold n lows highs states from to met direct (route ∷ routes) (over ∷ overs) =
    let w = walk_route n lows highs states from to met route over in
    good_steps w.steps direct && routes_hold n lows highs states from to w.met (direct || eqb w.steps 1) routes overs

-- The sheet holds: as many routes as k says, each of them good, and `kept` the cut's count. `from` is met before the first step.
unfoldable pub sheet_holds : (n : ℕ) (lows highs states : List ℕ) (sheet : Sheet) → Bool
sheet_holds n lows highs states sheet =
    eqb (length sheet.routes) sheet.k
    && (routes_hold n lows highs states sheet.from sheet.to (eqb sheet.from) false sheet.routes sheet.overs
    && eqb sheet.kept (count (eqb 1) (marks_of n lows highs states sheet.k)))

-- "say whether it holds": 1 for yes, 0 for no.
unfoldable pub yes_or_no : Bool → List ℕ
yes_or_no holds = pick holds 1 0 ∷ []

-- "It refuses after the table check with 14 a text that departs from the sheet's form, at that byte, then with 15 a `k` outside 1 to
-- 32." No list is lent.
unfoldable pub sheet_answer : (n : ℕ) (lows highs states text : List ℕ) → Answer
sheet_answer n lows highs states text =
    and_then (table_check n lows highs states) λ _.
    and_then (read_sheet text) λ sheet.
    refuse_if (outside 1 32 sheet.k) 15 0
    (done (yes_or_no (sheet_holds n lows highs states sheet)))
