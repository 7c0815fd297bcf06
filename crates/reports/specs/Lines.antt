-- What reading a report line answers: it is out of form or bad, or what stands in it and where. Assumes nothing.
use Rattle.std.specs.Prelude.{ℕ, Option, None, Some, ◌≤◌, ◌<◌, true, false, List, [], ◌∷◌, ◌≡◌, length}
use Rattle.std.specs.Option.{unwrap_or}
use Rattle.definitions.specs.Lists.{greatest}
use Rattle.definitions.specs.Form.{reads, scan_more, scan_form}
use Rattle.definitions.specs.Reports.{Report, report_of, report_front, scan_serial, scan_report, top_of, bad_report}
use Rattle.lists.specs.Cursors.{drop_below}
use Rattle.text_theory.specs.SpacedNumbers.{numbers_at}
use Rattle.reports.specs.declared.line.Seen.{Seen}
use Rattle.reports.specs.declared.line.Report as line

-- The report of a relay with this serial that sees these.
abbrev pub reporting : (relay serial : ℕ) (sees : List ℕ) → Report
reporting relay serial sees = record { relay = relay; serial = serial; sees = sees }

-- Those seen from offset t on, up to p, make a good report of a relay and a serial that are in their ranges. `greatest` of none is 0.
pub record SeenEnds (text : List ℕ) (relay t : ℕ) (last : Option ℕ) (p above : ℕ) : Type 0 where
  pub sees : List ℕ
  pub scanned : scan_more text t (length text) ≡ reads sees p
  pub good : (serial : ℕ) → relay ≤ 999 → serial ≤ 4294967295 → bad_report (reporting relay serial sees) ≡ false
  pub last_is : greatest sees ≡ unwrap_or last 0
  pub higher : numbers_at text above (length text) ≡ drop_below relay (numbers_at text t (length text))

-- Whatever is read of those seen, the report is bad; nothing can be read where the text departs.
abbrev pub SeenBad : (text : List ℕ) (relay t : ℕ) → Type 0
SeenBad text relay t =
    (serial : ℕ) (sees : List ℕ) (p : ℕ) → scan_more text t (length text) ≡ reads sees p → bad_report (reporting relay serial sees) ≡ true

abbrev pub SeenRead : (text : List ℕ) (relay t : ℕ) → Option Seen → Type 0
SeenRead text relay t None = SeenBad text relay t
SeenRead text relay t (Some seen) = SeenEnds text relay t seen.last seen.next seen.above

-- A report line from offset p on that was read: its report is good, what it sees stands from offset `at` on, and what is not below its
-- relay from offset `above` on.
pub record LineTold (text : List ℕ) (p relay serial at top next above : ℕ) : Type 0 where
  pub values : List ℕ
  pub scanned : scan_report text p ≡ reads values next
  pub good : bad_report (report_of values) ≡ false
  pub relay_is : (report_of values).relay ≡ relay
  pub serial_is : (report_of values).serial ≡ serial
  pub top_is : top_of (report_of values) ≡ top
  pub numbers : numbers_at text at (length text) ≡ (report_of values).sees
  pub higher : numbers_at text above (length text) ≡ drop_below relay (report_of values).sees
  pub some : 0 < at

-- A line that is out of form or bad: whatever is read, the report is bad.
abbrev pub LineRead : (text : List ℕ) (p : ℕ) → Option line.Report → Type 0
LineRead text p None = (values : List ℕ) (next : ℕ) → scan_report text p ≡ reads values next → bad_report (report_of values) ≡ true
LineRead text p (Some read) = LineTold text p read.relay.0 read.serial read.seen read.top.0 read.next read.above

-- The rest of a line from offset s on: what is read of each line that has this relay and this serial in front of it.
abbrev pub TailRead : (text : List ℕ) (relay serial s : ℕ) → Option line.Report → Type 0
TailRead text relay serial s r =
    (p u : ℕ) → scan_form text report_front p ≡ reads (relay ∷ []) u → scan_serial text u ≡ reads (serial ∷ []) s → LineRead text p r
