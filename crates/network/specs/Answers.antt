-- What each answer of the operations stands for in documents 01 and 02: the number and place of a refusal, or the values.
-- Assumes nothing.
use Rattle.std.specs.Prelude.{ℕ, [], ◌∷◌, Result, Ok, Err}
use Rattle.definitions.specs.Outcome.{Outcome, refused, done, Answer}
use Rattle.network.specs.declared.refusal.Refusal.{Refusal}
use Rattle.network.specs.declared.refusal.Refusal.TheVariants.{
  Wish,
  Form,
  RelayCount,
  LinkCount,
  RelayRange,
  NotBelow,
  Repeated,
  TableRoom,
  RouteCount,
  EndRange,
  SameEnds,
  Room,
  NotOneTree,
  SheetForm,
  SheetCount,
  States,
  Withdrawn,
  DrawingForm,
  ReportForm,
  ReportRelays,
  ReportSerials,
}

-- The number of a refusal, as the documents count them.
abbrev pub refusal_number : Refusal → ℕ
refusal_number (Wish place) = 1
refusal_number (Form place) = 2
refusal_number RelayCount = 3
refusal_number LinkCount = 4
refusal_number (RelayRange link) = 5
refusal_number (NotBelow link) = 6
refusal_number (Repeated link) = 7
refusal_number TableRoom = 8
refusal_number RouteCount = 9
refusal_number EndRange = 10
refusal_number SameEnds = 11
refusal_number Room = 12
refusal_number NotOneTree = 13
refusal_number (SheetForm place) = 14
refusal_number SheetCount = 15
refusal_number States = 16
refusal_number Withdrawn = 17
refusal_number (DrawingForm place) = 18
refusal_number ReportForm = 19
refusal_number ReportRelays = 20
refusal_number ReportSerials = 21

-- Its place in the input: a byte offset for 1, 2, 14 and 18, a link index for 5 to 7, otherwise 0.
abbrev pub refusal_place : Refusal → ℕ
refusal_place (Wish place) = place
refusal_place (Form place) = place
refusal_place RelayCount = 0
refusal_place LinkCount = 0
refusal_place (RelayRange link) = link
refusal_place (NotBelow link) = link
refusal_place (Repeated link) = link
refusal_place TableRoom = 0
refusal_place RouteCount = 0
refusal_place EndRange = 0
refusal_place SameEnds = 0
refusal_place Room = 0
refusal_place NotOneTree = 0
refusal_place (SheetForm place) = place
refusal_place SheetCount = 0
refusal_place States = 0
refusal_place Withdrawn = 0
refusal_place (DrawingForm place) = place
refusal_place ReportForm = 0
refusal_place ReportRelays = 0
refusal_place ReportSerials = 0

-- "Every refusal gives its number and a place in the input."
abbrev pub refusal_of : {A : Type 0} → Refusal → Outcome A
refusal_of refusal = refused (refusal_number refusal) (refusal_place refusal)

-- The pair number, or a refusal.
abbrev pub pair_outcome : Result ℕ Refusal → Answer
pair_outcome (Ok number) = done (number ∷ [])
pair_outcome (Err refusal) = refusal_of refusal

-- Success alone, or a refusal.
abbrev pub outcome : {A : Type 0} → Result A Refusal → Answer
outcome (Ok _) = done []
outcome (Err refusal) = refusal_of refusal
