-- What is promised of a set of reports (document 02, #108) beyond its answer and lists, in words of their own, for every text and every
-- room. The statements are types; the crate `text_theory` proves them. Assumes nothing.
use Rattle.std.specs.Prelude.{ℕ, ◌≤◌, ◌<◌, true, List, [], ◌∷◌, ◌++◌, ◌⊎◌, ◌↔◌, ◌≡◌}
use Rattle.definitions.specs.Outcome.{refused, done}
use Rattle.definitions.specs.Lists.{has, NoRepeat}
use Rattle.definitions.specs.Network.{linked, serves, Accepted}
use Rattle.definitions.specs.Rising.{Rising}
use Rattle.definitions.specs.Form.{write_form}
use Rattle.definitions.specs.Text.{Network}
use Rattle.definitions.specs.Program.{printed, network_text}
use Rattle.definitions.specs.Promised.{AllAnswered, NetworkPrinted}
use Rattle.definitions.specs.Reports.{Report, ReportFits}
use Rattle.definitions.specs.ReportSets.{report_lines, reporters, judged_reports, reports_network, reports_form, reporter, reports_text}

abbrev pub AllFit : (reports : List Report) → Type 0
AllFit [] = Unit {0}
AllFit (report ∷ reports) = ReportFits report × AllFit reports

-- One of the reports is relay a's, and it sees b.
abbrev pub Sees : (reports : List Report) (a b : ℕ) → Type 0
Sees [] a b = ⊥
Sees (report ∷ reports) a b = ((report.relay ≡ a) × (has report.sees b ≡ true)) ⊎ Sees reports a b

-- Every number of every report is below n.
abbrev pub AllWithin : (n : ℕ) (reports : List Report) → Type 0
AllWithin n [] = Unit {0}
AllWithin n (report ∷ reports) =
    (report.relay < n) × ((b : ℕ) → has report.sees b ≡ true → b < n) × AllWithin n reports

-- The same reports in another order: the first one stands somewhere in the other list, and so do the rest in what else it has.
abbrev pub Shuffled : (one other : List Report) → Type 0
Shuffled [] other = other ≡ []
Shuffled (report ∷ one) other =
    (before : List Report) × (after : List Report) × (other ≡ before ++ (report ∷ after)) × Shuffled one (before ++ after)

-- A set of reports that was taken as this network.
pub record ReportedAs (n : ℕ) (text : List ℕ) (network : Network) : Type 0 where
  pub reports : List Report
  pub fits : AllFit reports
  pub written : report_lines reports ≡ text
  pub once : NoRepeat (reporters reports)
  pub within : AllWithin n reports
  pub size : network.relays ≡ n
  -- "a link exists exactly when each end sees the other"
  pub links : (a b : ℕ) → (linked network.lows network.highs a b ≡ true) ↔ (Sees reports a b × Sees reports b a)
  -- "a relay without a report is withdrawn", and no other.
  pub service : (r : ℕ) → (serves network.states r ≡ true) ↔ (has (reporters reports) r ≡ true)
  -- "the links are put in rising order of low, then high number"
  pub rises : Rising network.lows network.highs
  pub accepted : Accepted n network.lows network.highs network.states

pub record ReportPromise (n room_lows room_highs room_states : ℕ) : Type 0 where
  -- The lines of reports that fit are judged by these reports.
  pub form : (reports : List Report) → AllFit reports → 1 ≤ n → n ≤ 1000
      → reports_network n (report_lines reports) room_lows room_highs room_states ≡ judged_reports n room_lows room_highs room_states reports
  -- 19 exactly for a text that is not the lines of reports that fit.
  pub nineteen : (text : List ℕ) → 1 ≤ n → n ≤ 1000
      → (reports_network n text room_lows room_highs room_states ≡ refused 19 0)
      ↔ ((reports : List Report) → AllFit reports → report_lines reports ≡ text → ⊥)
  -- Only the lines of reports are taken, and what they make is an accepted network.
  pub taken : (text : List ℕ) (network : Network) → reports_network n text room_lows room_highs room_states ≡ done network
      → ReportedAs n text network
  -- "report lines in any order"
  pub any_order : (one other : List Report) → AllFit one → Shuffled one other
      → reports_network n (report_lines one) room_lows room_highs room_states
      ≡ reports_network n (report_lines other) room_lows room_highs room_states

-- The program: every input gets the text of an accepted network, or the line of the first refusal met; what it prints for a set goes by
-- the whole set.
pub record ReportsPrinted : Type 0 where
  pub answered : AllAnswered reporter NetworkPrinted reports_text
  pub set : (n : ℕ) (text : List ℕ) → n < 10000
      → reports_text (write_form reports_form (n ∷ []) ++ text) ≡ printed network_text (reports_network n text 3000 3000 1000)
