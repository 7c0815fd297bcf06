-- The place of a refusal that has none of its own is 0. Assumes nothing.
use Prim.Native.Nat.{ℕ}
use mathlib.Core.List.{List, [], ◌∷◌}
use mathlib.Core.Path.{◌≡◌, refl}
use denote.Enum.Declared.{tag_of}
use types.Run.{OneOf, miss}
use Rattle.network.specs.Answers.{refusal_place}
use Rattle.network.specs.declared.refusal.Refusal.{Refusal}
use Rattle.network.specs.declared.refusal.Refusal.TheVariants.{
  Wish,
  Form,
  RelayCount,
  LinkCount,
  RelayRange,
  NotBelow,
  Repeated,
  TableRoom,
  RouteCount,
  EndRange,
  SameEnds,
  Room,
  NotOneTree,
  SheetForm,
  SheetCount,
  States,
  Withdrawn,
  DrawingForm,
  ReportForm,
  ReportRelays,
  ReportSerials,
}
use Rattle.network.specs.contracts.refusal.Refusal.{the_type}

-- The refusals without a place, as the enum counts them, from 0.
abbrev placeless : List ℕ
placeless = 2 ∷ 3 ∷ 7 ∷ 8 ∷ 9 ∷ 10 ∷ 11 ∷ 12 ∷ 14 ∷ 15 ∷ 16 ∷ 18 ∷ 19 ∷ 20 ∷ []

pub no_place : (refusal : Refusal) → OneOf placeless (tag_of the_type refusal) → 0 ≡ refusal_place refusal
no_place (Wish place) keys = absurd (miss placeless 0 tt keys)
no_place (Form place) keys = absurd (miss placeless 1 tt keys)
no_place RelayCount keys = refl
no_place LinkCount keys = refl
no_place (RelayRange link) keys = absurd (miss placeless 4 tt keys)
no_place (NotBelow link) keys = absurd (miss placeless 5 tt keys)
no_place (Repeated link) keys = absurd (miss placeless 6 tt keys)
no_place TableRoom keys = refl
no_place RouteCount keys = refl
no_place EndRange keys = refl
no_place SameEnds keys = refl
no_place Room keys = refl
no_place NotOneTree keys = refl
no_place (SheetForm place) keys = absurd (miss placeless 13 tt keys)
no_place SheetCount keys = refl
no_place States keys = refl
no_place Withdrawn keys = refl
no_place (DrawingForm place) keys = absurd (miss placeless 17 tt keys)
no_place ReportForm keys = refl
no_place ReportRelays keys = refl
no_place ReportSerials keys = refl
