-- The planner's promise, `PlanPromise`: every input gets a sheet whose routes never meet, or the line of the first refusal met.
-- Rests on demand 3, which the routes of a sheet meet, and on the links found along them.
use Rattle.std.specs.Prelude.{ℕ, List, refl, get_or}
use Rattle.std.proofs.Common.{ap}
use Rattle.definitions.specs.Forests.{marks_of}
use Rattle.definitions.specs.Text.{Network}
use Rattle.definitions.specs.Program.{room}
use Rattle.definitions.specs.Promised.{Answered}
use Rattle.definitions.specs.Plan.{wish_form, Sheet, sheet_for, sheet_answers, planner, planned, sheet_text, plan_text}
use Rattle.definitions.specs.Demand.{Kept}
use Rattle.definitions.specs.SheetHolds.{SheetHolds}
use Rattle.definitions.specs.PlanPromise.{SheetPrinted, PlanPromise}
use Rattle.text_theory.specs.Programs.{answered}
use Rattle.program.specs.Printable.{roomy}
use Rattle.program.specs.ReadStage.{asked-accepted}
use Rattle.plan.specs.Planned.{route-passed, sheet_of, kept_of, SheetFor, sheet-for, wish-read}
use Rattle.plan.specs.Reach.{plan-reach}
use Rattle.plan.specs.Refusals.{planned-printable}
use Rattle.plan.specs.Routes.{routes-of}
use Rattle.plan.specs.Overs.{length-overs, overs-hold}

-- A sheet for a network holds.
pub sheet-holds : (from to k : ℕ) (network : Network) (sheet : Sheet) → SheetFor from to k network sheet
    → SheetHolds network.relays network.lows network.highs network.states
    (Kept (marks_of network.relays network.lows network.highs network.states k))
    (sheet_of from to k network (kept_of k network))
sheet-holds from to k network sheet given =
    let n = network.relays in
    let lows = network.lows in
    let highs = network.highs in
    let states = network.states in
    let passed = route-passed n lows highs states k from to (room 32) (room 1062) (room 32000) given.answer given.routed in
    let routes = routes-of n lows highs states k from to passed in
    record {
      some = passed.some;
      few = passed.few;
      many = routes.number;
      differ = passed.differ;
      disjoint = routes.disjoint;
      many_overs = length-overs n lows highs states k from to passed;
      over = overs-hold n lows highs states k from to passed;
      kept = refl;
    }

-- What is printed.
sheet-answered : (input : List ℕ) → Answered planner SheetPrinted input (plan_text input)
unfolding plan_text planned
sheet-answered input =
    answered planner _ input sheet_text SheetPrinted (roomy (planned input) (planned-printable input))
    (λ wish network asked passed.
    let from = get_or wish 0 0 in
    let to = get_or wish 1 0 in
    let k = get_or wish 2 0 in
    let given = sheet-for wish network passed in
    record {
      sheet = sheet_of from to k network (kept_of k network);
      wished = (wish-read input wish network asked).numbers;
      printed = ap sheet_text given.sheet_is;
      accepted = asked-accepted wish_form sheet_answers input wish network asked;
      holds = sheet-holds from to k network (sheet_for from to k network) given;
    })

pub sheet-promise : PlanPromise
sheet-promise = record { answered = sheet-answered; from_front = plan-reach }
