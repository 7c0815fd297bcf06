-- What the first pass over a set leaves: where those that each relay sees begin, and what the lines tell of 19, 20 and 5. Assumes nothing.
use Rattle.std.specs.Prelude.{ℕ, ⊤, Result, Ok, Err, ◌≤◌, Bool, false, List, [], ◌≡◌, length, take}
use Rattle.definitions.specs.Outcome.{pick, done}
use Rattle.definitions.specs.Lists.{table}
use Rattle.definitions.specs.Reports.{Report}
use Rattle.definitions.specs.ReportSets.{read_reports, repeats, reporters, beyond, reports_network}
use Rattle.theory.specs.ReportPlaces.{Placed}
use Rattle.reports.specs.Offsets.{marked, reports_by, seen_of, Started}
use Rattle.reports.specs.declared.places.Places.{Places}
use Rattle.network.specs.Answers.{refusal_of}
use Rattle.network.specs.declared.refusal.Refusal.{Refusal}

-- All lines are reports, of which this is told; where no relay reports twice, those that each sees begin at its place.
pub record AllTold (text : List ℕ) (n : ℕ) (places : List Places) (twice far : Bool) : Type 0 where
  pub reports : List Report
  pub read : read_reports text [] 0 (length text) ≡ done reports
  pub twice_is : repeats (reporters reports) ≡ twice
  pub far_is : beyond n reports ≡ far
  pub placed : twice ≡ false → Placed (marked text) reports (seen_of places)
  pub room : length places ≡ 1000
  pub started : Started text places

-- Or the refusal for the set, whose n is in its range.
abbrev pub PlacedAll : (text : List ℕ) (n : ℕ) (places : List Places) → Result ⊤ Refusal → Type 0
PlacedAll text n places (Ok _) = AllTold text n places false false
PlacedAll text n places (Err refusal) =
    (room_lows room_highs room_states : ℕ) → 1 ≤ n → n ≤ 1000 → reports_network n text room_lows room_highs room_states ≡ refusal_of refusal

-- A list of states with room for n has them in its front: 1 exactly for the relays of which places are kept.
pub record StatesPut (places : List Places) (n : ℕ) (before after : List ℕ) : Type 0 where
  pub size : length after ≡ length before
  pub states : n ≤ length before → take n after ≡ table (λ r. pick (reports_by places r) 1 0) 0 n
