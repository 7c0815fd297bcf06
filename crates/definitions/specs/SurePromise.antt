-- What the sure figure promises (document 02, #107), as one statement about `sure_text`: between the last two relays of the order the
-- sheet has as many routes as there can be. The statement is a type; the crate `sure` proves it. Assumes nothing.
use Rattle.std.specs.Prelude.{ℕ, ◌≤◌, ◌<◌, List, [], ◌∷◌, ◌⊎◌, ◌≡◌, length}
use Rattle.definitions.specs.Network.{Accepted}
use Rattle.definitions.specs.Forests.{marks_of}
use Rattle.definitions.specs.Form.{write_form}
use Rattle.definitions.specs.Text.{Network}
use Rattle.definitions.specs.Program.{input_room}
use Rattle.definitions.specs.Promised.{Promised}
use Rattle.definitions.specs.Plan.{Sheet, sheet_text}
use Rattle.definitions.specs.Demand.{Kept}
use Rattle.definitions.specs.LastTwo.{RoutesInService}
use Rattle.definitions.specs.SheetHolds.{SheetHolds}
use Rattle.definitions.specs.Sure.{few_form, none_form, last_of, before_of, figure_of, serving_of, surer, sure_text}

-- A sheet from the last relay to the one before it, with d routes.
pub record FigureSheet (network : Network) (text : List ℕ) : Type 0 where
  pub sheet : Sheet
  pub printed : text ≡ sheet_text sheet
  pub from_last : sheet.from ≡ last_of network
  pub to_before : sheet.to ≡ before_of network
  pub many : sheet.k ≡ figure_of network
  pub holds : SheetHolds network.relays network.lows network.highs network.states
      (Kept (marks_of network.relays network.lows network.highs network.states sheet.k)) sheet

-- The two relays and d, where no sheet has d routes.
pub record FigureLine (network : Network) (text : List ℕ) : Type 0 where
  pub printed : text ≡ write_form none_form (last_of network ∷ before_of network ∷ figure_of network ∷ [])
  pub many : (figure_of network ≡ 0) ⊎ (32 < figure_of network)

-- Two relays or more are in service: the sheet or the line, and no list of routes between the last two has more than d.
pub record Figure (network : Network) (text : List ℕ) : Type 0 where
  pub two : 2 ≤ serving_of network
  pub told : FigureSheet network text ⊎ FigureLine network text
  pub no_more : (routes : List (List ℕ))
      → RoutesInService network.relays network.lows network.highs network.states (last_of network) (before_of network) routes
      → length routes ≤ figure_of network

-- Fewer are.
pub record TooFew (network : Network) (text : List ℕ) : Type 0 where
  pub few : serving_of network < 2
  pub printed : text ≡ write_form few_form (serving_of network ∷ [])

pub record SurePrinted (numbers : List ℕ) (network : Network) (text : List ℕ) : Type 0 where
  pub accepted : Accepted network.relays network.lows network.highs network.states
  pub figure : Figure network text ⊎ TooFew network text

abbrev pub SurePromise : Type 0
SurePromise = Promised surer SurePrinted input_room sure_text
