-- What is told of one text, and of two lists and two serials. Assumes nothing.
use Rattle.std.specs.Cmp.Lexicographic.{pointwise}
use Rattle.std.proofs.Common.{◌≤◌, [], ◌∷◌, ◌&&◌, eqb, ◌≡◌, ℕ, ◌<◌, Bool, true, not, ltb, List, length, sym, refl, ap, ◌∙◌, le-ltb, lt-ltb}
use Rattle.definitions.specs.Outcome.{refused, done, refuse_if}
use Rattle.definitions.specs.Lists.{outside}
use Rattle.definitions.specs.Form.{Scan, departs, reads}
use Rattle.definitions.specs.Reports.{report_of, scan_report, bad_report, on_report, read_report}
use Rattle.definitions.specs.Stands.{wrapped, ahead, same_list}
use Rattle.reports.specs.Lines.{LineTold}
use Rattle.stands.specs.Standing.{ReportOf}

-- A line that is out of form or bad.
pub line-bad : (text : List ℕ)
    → ((values : List ℕ) (next : ℕ) → scan_report text 0 ≡ reads values next → bad_report (report_of values) ≡ true)
    → read_report text ≡ refused 19 0
unfolding read_report on_report refuse_if
line-bad text bad = go (scan_report text 0) refl
  where
    go : (scan : Scan) → scan_report text 0 ≡ scan → on_report scan (λ report p. refuse_if (ltb p (length text)) 19 0 (done report)) ≡ refused 19 0
    go (departs p) e = refl
    go (reads values next) e = rw (bad values next e)

-- A line that was read, with something after it or as all of the text.
module _ (text : List ℕ) (relay serial at top next above : ℕ) (told : LineTold text 0 relay serial at top next above) where
  pub line_more : next < length text → read_report text ≡ refused 19 0
  unfolding read_report on_report refuse_if
  line_more more = rw (told.scanned, told.good, lt-ltb next (length text) more)

  pub line-whole : length text ≤ next → ReportOf text relay serial
  unfolding read_report on_report refuse_if
  line-whole all =
      let read : read_report text ≡ done (report_of told.values) = rw (told.scanned, told.good, le-ltb next (length text) all) in
      (report_of told.values, read, told.relay_is, told.serial_is)

-- A serial is ahead where the difference is not outside its range.
pub ahead-by : (a b by : ℕ) (out : Bool) → by ≡ wrapped a b → outside 1 2147483647 by ≡ out → not out ≡ ahead a b
unfolding ahead
ahead-by a b by out e o = ap not (sym o ∙ ap (outside 1 2147483647) e)

-- Two lists are the same where they compare as equal.
pub same-compared : (one other : List ℕ) → pointwise eqb one other ≡ same_list one other
unfolding same_list
same-compared [] [] = refl
same-compared [] (y ∷ other) = refl
same-compared (x ∷ one) [] = refl
same-compared (x ∷ one) (y ∷ other) = ap (λ (same : Bool). eqb x y && same) (same-compared one other)
