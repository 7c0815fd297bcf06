-- What a printed sheet promises, as one statement about `plan_text`: every input gets a sheet whose routes never meet, or the
-- line of the first refusal met. The statement is a type; the crate `plan` proves it. Assumes nothing.
use Rattle.std.specs.Prelude.{ℕ, List, [], ◌∷◌, ◌≡◌}
use Rattle.definitions.specs.Network.{Accepted}
use Rattle.definitions.specs.Forests.{marks_of}
use Rattle.definitions.specs.Text.{Network}
use Rattle.definitions.specs.Program.{input_room}
use Rattle.definitions.specs.Promised.{Promised}
use Rattle.definitions.specs.Plan.{Sheet, planner, sheet_text, plan_text}
use Rattle.definitions.specs.Demand.{Kept}
use Rattle.definitions.specs.SheetHolds.{SheetHolds}

-- The text is that of a sheet for the wish, which holds along the kept links of the network that was read.
pub record SheetPrinted (wish : List ℕ) (network : Network) (text : List ℕ) : Type 0 where
  pub sheet : Sheet
  pub wished : wish ≡ sheet.from ∷ sheet.to ∷ sheet.k ∷ []
  pub printed : text ≡ sheet_text sheet
  pub accepted : Accepted network.relays network.lows network.highs network.states
  pub holds : SheetHolds network.relays network.lows network.highs network.states
      (Kept (marks_of network.relays network.lows network.highs network.states sheet.k)) sheet

abbrev pub PlanPromise : Type 0
PlanPromise = Promised planner SheetPrinted input_room plan_text
