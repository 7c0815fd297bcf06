-- Document 02, #108: a set of standing reports and the network that they make, and the same as a program: the set comes in, the
-- network's own text goes out. Assumes nothing.
use Rattle.std.specs.Prelude.{ℕ, zero, suc, Bool, false, ◌&&◌, ◌||◌, List, [], ◌∷◌, ◌++◌, map, eqb, ltb, leb, length, get_or}
use Rattle.definitions.specs.Outcome.{pick, Outcome, done, Answer, refuse_if, and_then}
use Rattle.definitions.specs.Lists.{table, outside, has}
use Rattle.definitions.specs.Rising.{highs_from, lows_from}
use Rattle.definitions.specs.Form.{bytes, Item, word, numeral}
use Rattle.definitions.specs.Text.{Network, sized, counts_of, filled}
use Rattle.definitions.specs.Program.{Program, outcome_of, printed, network_text}
use Rattle.definitions.specs.Reports.{scan_report, Report, report_text, top_of, on_report}

-- "The set is report lines in any order": those from offset p on, behind the reports read so far. No text has as many lines as bytes.
unfoldable pub read_reports : (text : List ℕ) (reports : List Report) (p most : ℕ) → Outcome (List Report)
read_reports text reports p zero = done reports
read_reports text reports p (suc most) =
    pick (ltb p (length text))
    (on_report (scan_report text p) λ report q. read_reports text (reports ++ (report ∷ [])) q most)
    (done reports)

-- The lines of reports.
unfoldable pub report_lines : (reports : List Report) → List ℕ
report_lines [] = []
report_lines (report ∷ reports) = report_text report ++ report_lines reports

-- Some number stands twice.
unfoldable pub repeats : (list : List ℕ) → Bool
repeats [] = false
repeats (x ∷ list) = has list x || repeats list

unfoldable pub reporters : (reports : List Report) → List ℕ
reporters reports = map (λ report. report.relay) reports

-- "a number not below n": of a relay that reports, or of one that is seen.
unfoldable pub beyond : (n : ℕ) (reports : List Report) → Bool
beyond n [] = false
beyond n (report ∷ reports) = leb n (top_of report) || beyond n reports

-- What relay r sees by its report; nothing without one.
unfoldable pub seen_by : (reports : List Report) (r : ℕ) → List ℕ
seen_by [] r = []
seen_by (report ∷ reports) r = pick (eqb report.relay r) report.sees (seen_by reports r)

-- "each end sees the other"
unfoldable pub see_each_other : (reports : List Report) (a b : ℕ) → Bool
see_each_other reports a b = has (seen_by reports a) b && has (seen_by reports b) a

-- "a link exists exactly when each end sees the other": the link with low end a and high end b.
unfoldable pub reported_link : (reports : List Report) (a b : ℕ) → Bool
reported_link reports a b = ltb a b && see_each_other reports a b

-- "a relay without a report is withdrawn"
unfoldable pub reported_state : (reports : List Report) (r : ℕ) → ℕ
reported_state reports r = pick (has (reporters reports) r) 1 0

-- "the links are put in rising order of low, then high number"
unfoldable pub reported_network : (n : ℕ) (reports : List Report) → Network
reported_network n reports =
    record {
      relays = n;
      lows = lows_from n (reported_link reports) 0 n;
      highs = highs_from n (reported_link reports) 0 n;
      states = table (reported_state reports) 0 n;
    }

-- Of reports that are in form: "20 [..] two of one relay in a set", "5 at 0 for a number not below n, 4 for over 3,000 links and 8 for a
-- table list shorter than the links or a state list shorter than n". 21 has no cause.
unfoldable pub judged_reports : (n room_lows room_highs room_states : ℕ) (reports : List Report) → Outcome Network
judged_reports n room_lows room_highs room_states reports =
    refuse_if (repeats (reporters reports)) 20 0
    (refuse_if (beyond n reports) 5 0
    (let network = reported_network n reports in
    sized n (length network.lows) room_lows room_highs room_states (done network)))

-- "For a set, 3 comes first", then 19 for the whole text, then the rest.
unfoldable pub reports_network : (n : ℕ) (text : List ℕ) (room_lows room_highs room_states : ℕ) → Outcome Network
reports_network n text room_lows room_highs room_states =
    refuse_if (outside 1 1000 n) 3 0
    (and_then (read_reports text [] 0 (length text)) (judged_reports n room_lows room_highs room_states))

-- "with answer and lists as in Read"
unfoldable pub reports_answer : (n : ℕ) (text lows highs states : List ℕ) → Answer
reports_answer n text lows highs states = counts_of (reports_network n text (length lows) (length highs) (length states))

unfoldable pub reports_lows : (n : ℕ) (text lows highs states : List ℕ) → List ℕ
reports_lows n text lows highs states =
    filled (λ network. network.lows) (reports_network n text (length lows) (length highs) (length states)) lows

unfoldable pub reports_highs : (n : ℕ) (text lows highs states : List ℕ) → List ℕ
reports_highs n text lows highs states =
    filled (λ network. network.highs) (reports_network n text (length lows) (length highs) (length states)) highs

unfoldable pub reports_states : (n : ℕ) (text lows highs states : List ℕ) → List ℕ
reports_states n text lows highs states =
    filled (λ network. network.states) (reports_network n text (length lows) (length highs) (length states)) states

-- "The set is report lines in any order, with its n": n in the program's line in front, `(reports N)`.
unfoldable pub reports_form : List Item
reports_form = word (bytes "(reports ") ∷ numeral ∷ word (bytes ")\n") ∷ []

-- No refusal but the set's, with a program's own lists.
abbrev pub reporter : Program Network
reporter = record { form = reports_form; read = λ line text. reports_network (get_or line 0 0) text 3000 3000 1000; answers = λ _ _. [] }

unfoldable pub reported : (input : List ℕ) → Outcome Network
reported = outcome_of reporter (λ _ network. network)

-- What the program writes for what it reads: the network text, or the refusal.
unfoldable pub reports_text : (input : List ℕ) → List ℕ
reports_text input = printed network_text (reported input)
