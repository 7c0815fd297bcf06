-- Document 02, #108: a report of one relay, and its text. Assumes nothing.
use Rattle.std.specs.Prelude.{ℕ, suc, ◌+◌, ◌≤◌, ◌<◌, Bool, true, false, ◌&&◌, ◌||◌, not, List, [], ◌∷◌, ◌++◌, ◌≡◌, ltb, leb, length, get_or, drop}
use Rattle.definitions.specs.Outcome.{Outcome, refused, done, refuse_if}
use Rattle.definitions.specs.Lists.{has, greatest}
use Rattle.definitions.specs.Form.{bytes, Item, word, numeral, Scan, departs, reads, scan_word, scan_decimal, following, scan_more, scan_form, decimal, spaced, write_form}

-- "`(report R S (sees A B ..))`, S a serial from 0 to 4,294,967,295": up to the serial.
unfoldable pub report_front : List Item
report_front = word (bytes "(report ") ∷ numeral ∷ word (bytes " ") ∷ []

-- A serial has one to ten digits.
unfoldable pub scan_serial : (text : List ℕ) (p : ℕ) → Scan
scan_serial text p = scan_decimal text 9 p

-- A report line from offset p on: the relay, the serial, and those seen. No text has as many numbers as bytes.
unfoldable pub scan_report : (text : List ℕ) (p : ℕ) → Scan
scan_report text p =
    following (scan_form text report_front p) λ q.
    following (scan_serial text q) λ s.
    following (scan_word text (bytes " (sees") s) λ t.
    following (scan_more text t (length text)) (scan_word text (bytes "))\n"))

pub record Report : Type 0 where
  pub relay : ℕ
  pub serial : ℕ
  pub sees : List ℕ

unfoldable pub report_of : (values : List ℕ) → Report
report_of values = record { relay = get_or values 0 0; serial = get_or values 1 0; sees = drop 2 values }

-- The line of a report, line end included. "`(sees)` is a relay that sees none."
unfoldable pub report_text : (report : Report) → List ℕ
report_text report =
    write_form report_front (report.relay ∷ []) ++
    (decimal report.serial ++ (bytes " (sees" ++ (spaced report.sees ++ bytes "))\n")))

-- "neighbours rising": each is at least `least`, and above the one before it.
unfoldable pub rises_from : (least : ℕ) (list : List ℕ) → Bool
rises_from least [] = true
rises_from least (x ∷ list) = leb least x && rises_from (suc x) list

-- The greatest relay number that a report names.
unfoldable pub top_of : (report : Report) → ℕ
top_of report = greatest (report.relay ∷ report.sees)

-- "with a serial past its range, a relay over 999 or its own relay among those seen", or with neighbours that do not rise.
unfoldable pub bad_report : (report : Report) → Bool
bad_report report =
    ltb 4294967295 report.serial
    || (ltb 999 (top_of report) || (has report.sees report.relay || not (rises_from 0 report.sees)))

-- "It refuses with 19 a report out of form", or a bad one: at 0. Else the next step, with the report and the offset behind it.
unfoldable pub on_report : {A : Type 0} (scan : Scan) (next : Report → ℕ → Outcome A) → Outcome A
on_report (departs p) next = refused 19 0
on_report (reads values p) next = refuse_if (bad_report (report_of values)) 19 0 (next (report_of values) p)

-- A text that is one report line, and nothing after it.
unfoldable pub read_report : (text : List ℕ) → Outcome Report
read_report text = on_report (scan_report text 0) λ report p. refuse_if (ltb p (length text)) 19 0 (done report)

-- Each number is above the one before it.
abbrev pub RisingNumbers : (list : List ℕ) → Type 0
RisingNumbers list = (i : ℕ) → i + 1 < length list → get_or list i 0 < get_or list (i + 1) 0

-- A report as it may be: "a serial from 0 to 4,294,967,295", "neighbours rising", no "relay over 999", not "its own relay among those
-- seen".
pub record ReportFits (report : Report) : Type 0 where
  pub known : report.relay ≤ 999
  pub range : report.serial ≤ 4294967295
  pub seen_known : (b : ℕ) → has report.sees b ≡ true → b ≤ 999
  pub others : has report.sees report.relay ≡ false
  pub rises : RisingNumbers report.sees
