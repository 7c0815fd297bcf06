-- A text is read as a report exactly if it is the text of that report, and as a set exactly if it is the lines of its reports; all else
-- is refused with 19. Assumes nothing.
use Rattle.std.specs.Prelude.{ℕ, zero, suc, ◌+◌, ◌≤◌, ◌<◌, Bool, true, false, List, [], ◌∷◌, ◌++◌, ◌≡◌, refl, ltb, length}
use Rattle.std.proofs.Common.{append-nil, sym, ◌∙◌, ap, arith, ltb-false, lt-ltb, le-ltb, length-append}
use Rattle.std.proofs.Math.Seq.{append_snoc}
use Rattle.definitions.specs.Outcome.{pick, Outcome, refused, done, refuse_if}
use Rattle.definitions.specs.Form.{Scan, departs, reads, write_form}
use Rattle.definitions.specs.Reports.{report_front, scan_report, Report, report_of, report_text, bad_report, on_report, read_report, ReportFits}
use Rattle.definitions.specs.ReportSets.{read_reports, report_lines}
use Rattle.definitions.specs.ReportPromise.{AllFit}
use Rattle.lists.specs.Parts.{Part, part-empty, part-append, part-first, part-second, part_end, part-whole}
use Rattle.lists.specs.Outcomes.{not-refused, refuse-not}
use Rattle.text_theory.specs.ReportLine.{report-line-read, read-report-line}
use Rattle.text_theory.specs.ReportFitting.{not-bad, fits-good, fits-small}

-- A report that was read, and what came of the next step.
on-report-done : {A : Type 0} (scan : Scan) (next : Report → ℕ → Outcome A) (value : A) → on_report scan next ≡ done value
    → (values : List ℕ) × (q : ℕ) × (scan ≡ reads values q) × (bad_report (report_of values) ≡ false) × (next (report_of values) q ≡ done value)
unfolding on_report
on-report-done (departs p) next value e = let z : ◌≡◌ {A = ℕ} 0 1 = cc in absurd (omega arith)
on-report-done (reads values p) next value e =
    let good = not-refused (bad_report (report_of values)) 19 0 (next (report_of values) p) value e in
    (values, p, refl, good.0, good.1)

-- A report that fits and stands at p is what is read there.
report-at : {A : Type 0} (report : Report) (text : List ℕ) (p q : ℕ) (next : Report → ℕ → Outcome A) → ReportFits report
    → Part text p (report_text report) q → on_report (scan_report text p) next ≡ next report q
unfolding on_report report_of
report-at report text p q next fits part =
    ap (λ (scan : Scan). on_report scan next) (report-line-read report text p q (fits-small report fits) part)
    ∙ refuse-not (bad_report report) 19 0 (next report q) (fits-good report fits)

-- What was read at p stands there, and fits.
record StandsAt (text : List ℕ) (p : ℕ) (report : Report) (q : ℕ) : Type 0 where
  fits : ReportFits report
  part : Part text p (report_text report) q

same-report : (values : List ℕ) (report : Report) → values ≡ report.relay ∷ report.serial ∷ report.sees → report_of values ≡ report
unfolding report_of
same-report values report e = ap report_of e

stands_at : (text : List ℕ) (p : ℕ) (values : List ℕ) (q : ℕ) → p ≤ length text → scan_report text p ≡ reads values q
    → bad_report (report_of values) ≡ false → StandsAt text p (report_of values) q
stands_at text p values q within e good =
    let line = read-report-line text p values q within e in
    record { fits = not-bad (report_of values) good; part = rw (same-report values line.report line.joined) line.part }

pub report-read : (report : Report) → ReportFits report → read_report (report_text report) ≡ done report
unfolding read_report
report-read report fits =
    let text = report_text report in
    report-at report text 0 (length text) (λ r p. refuse_if (ltb p (length text)) 19 0 (done r)) fits (part_end [] text)
    ∙ refuse-not (ltb (length text) (length text)) 19 0 (done report) (le-ltb (length text) (length text) (omega arith))

pub report-written : (text : List ℕ) (report : Report) → read_report text ≡ done report → ReportFits report × (report_text report ≡ text)
unfolding read_report
report-written text report e =
    let (values, q, scan, good, rest) =
    on-report-done (scan_report text 0) (λ r p. refuse_if (ltb p (length text)) 19 0 (done r)) report e in
    let here = stands_at text 0 values q (omega arith) scan good in
    let over = not-refused (ltb q (length text)) 19 0 (done (report_of values)) report rest in
    let end : q ≡ length text = omega (arith, ltb-false q (length text) over.0, here.part.within) in
    let same : report_of values ≡ report = cc over.1 in
    let whole : report_text (report_of values) ≡ text = part-whole text (report_text (report_of values)) (rw end at here.part) in
    (rw same at here.fits, ap report_text (sym same) ∙ whole)

-- There is no other refusal.
refuse-nineteen : {A : Type 0} (b : Bool) (rest : Outcome A) (number place : ℕ) → refuse_if b 19 0 rest ≡ refused number place
    → (rest ≡ refused number place → (number ≡ 19) × (place ≡ 0)) → (number ≡ 19) × (place ≡ 0)
unfolding refuse_if
refuse-nineteen true rest number place e later = (cc, cc)
refuse-nineteen false rest number place e later = later e

on-nineteen : {A : Type 0} (scan : Scan) (next : Report → ℕ → Outcome A) (number place : ℕ) → on_report scan next ≡ refused number place
    → ((report : Report) (q : ℕ) → next report q ≡ refused number place → (number ≡ 19) × (place ≡ 0)) → (number ≡ 19) × (place ≡ 0)
unfolding on_report
on-nineteen (departs p) next number place e later = (cc, cc)
on-nineteen (reads values p) next number place e later =
    refuse-nineteen (bad_report (report_of values)) (next (report_of values) p) number place e (later (report_of values) p)

pub no-refusal : {A : Type 0} (value : A) (number place : ℕ) → done value ≡ refused number place → ⊥
no-refusal value number place e = let z : ◌≡◌ {A = ℕ} 0 1 = cc in omega arith

pub report-nineteen : (text : List ℕ) (number place : ℕ) → read_report text ≡ refused number place → (number ≡ 19) × (place ≡ 0)
unfolding read_report
report-nineteen text number place e =
    on-nineteen (scan_report text 0) (λ r p. refuse_if (ltb p (length text)) 19 0 (done r)) number place e
    (λ report q f. refuse-nineteen (ltb q (length text)) (done report) number place f (λ g. absurd (no-refusal report number place g)))

-- A report line is not empty.
pub line-some : (report : Report) → 1 ≤ length (report_text report)
unfolding report_text report_front write_form
line-some report = omega arith

-- Behind the reports that were read so far the others are read.
reports-from : (reports so_far : List Report) (text : List ℕ) (p most : ℕ) → AllFit reports → length text ≤ p + most
    → Part text p (report_lines reports) (length text) → read_reports text so_far p most ≡ done (so_far ++ reports)
unfolding read_reports report_lines
reports-from [] so_far text p zero fits enough part = ap done (sym (append-nil so_far))
reports-from [] so_far text p (suc most) fits enough part =
    rw (le-ltb p (length text) (omega (arith, part.reaches)), append-nil so_far)
reports-from (report ∷ reports) so_far text p zero fits enough part =
    absurd (omega (arith, part.reaches, length-append (report_text report) (report_lines reports), line-some report))
reports-from (report ∷ reports) so_far text p (suc most) fits enough part =
    let line = report_text report in
    let q = p + length line in
    let some : p < length text = omega (arith, part.reaches, length-append line (report_lines reports), line-some report) in
    rw (lt-ltb p (length text) some)
    (report-at report text p q (λ r s. read_reports text (so_far ++ (r ∷ [])) s most) fits.0
    (part-first text line (report_lines reports) p (length text) part)
    ∙ reports-from reports (so_far ++ (report ∷ [])) text q most fits.1 (omega (arith, line-some report))
    (part-second text line (report_lines reports) p (length text) part)
    ∙ ap done (append_snoc so_far report reports))

pub reports-read : (reports : List Report) → AllFit reports
    → read_reports (report_lines reports) [] 0 (length (report_lines reports)) ≡ done reports
reports-read reports fits =
    let text = report_lines reports in
    reports-from reports [] text 0 (length text) fits (omega arith) (part_end [] text)

-- What stands from p on where reports were read to the end, behind those read so far.
record ReportsStand (text : List ℕ) (so_far : List Report) (p : ℕ) (all : List Report) : Type 0 where
  reports : List Report
  fits : AllFit reports
  result : all ≡ so_far ++ reports
  part : Part text p (report_lines reports) (length text)

none_left : (text : List ℕ) (so_far all : List Report) (p : ℕ) → p ≤ length text → length text ≤ p → done so_far ≡ done all
    → ReportsStand text so_far p all
unfolding report_lines
none_left text so_far all p within enough e =
    let end : p ≡ length text = omega arith in
    let same : so_far ≡ all = cc in
    record {
      reports = [];
      fits = tt;
      result = sym same ∙ sym (append-nil so_far);
      part = rw (← end) (part-empty text p within);
    }

one_more : (text : List ℕ) (so_far all : List Report) (p : ℕ) (report : Report) (q : ℕ) → StandsAt text p report q
    → ReportsStand text (so_far ++ (report ∷ [])) q all → ReportsStand text so_far p all
unfolding report_lines
one_more text so_far all p report q here rest =
    record {
      reports = report ∷ rest.reports;
      fits = (here.fits, rest.fits);
      result = rest.result ∙ append_snoc so_far report rest.reports;
      part = part-append text (report_text report) (report_lines rest.reports) p q (length text) here.part rest.part;
    }

read-reports : (most : ℕ) (text : List ℕ) (so_far all : List Report) (p : ℕ) → p ≤ length text → length text ≤ p + most
    → read_reports text so_far p most ≡ done all → ReportsStand text so_far p all
unfolding read_reports
read-reports zero text so_far all p within enough e = none_left text so_far all p within (omega arith) e
read-reports (suc most) text so_far all p within enough e =
    go (ltb p (length text)) refl e (λ report q. read-reports most text (so_far ++ (report ∷ [])) all q)
  where
    go : (b : Bool) → ltb p (length text) ≡ b
        → pick b (on_report (scan_report text p) λ report q. read_reports text (so_far ++ (report ∷ [])) q most) (done so_far) ≡ done all
        → ((report : Report) (q : ℕ) → q ≤ length text → length text ≤ q + most
        → read_reports text (so_far ++ (report ∷ [])) q most ≡ done all → ReportsStand text (so_far ++ (report ∷ [])) q all)
        → ReportsStand text so_far p all
    go true test e hyp =
        let (values, q, scan, good, rest) =
        on-report-done (scan_report text p) (λ report q. read_reports text (so_far ++ (report ∷ [])) q most) all e in
        let here = stands_at text p values q within scan good in
        let further : p + 1 ≤ q = omega (arith, here.part.reaches, line-some (report_of values)) in
        one_more text so_far all p (report_of values) q here (hyp (report_of values) q here.part.within (omega arith) rest)
    go false test e hyp = none_left text so_far all p within (ltb-false p (length text) test) e

pub reports-written : (text : List ℕ) (reports : List Report) → read_reports text [] 0 (length text) ≡ done reports
    → AllFit reports × (report_lines reports ≡ text)
reports-written text reports e =
    let stand = read-reports (length text) text [] reports 0 (omega arith) (omega arith) e in
    let same : reports ≡ stand.reports = stand.result in
    rw same (stand.fits, part-whole text (report_lines stand.reports) stand.part)

-- There is no other refusal of a set's text.
pub reports-nineteen : (most : ℕ) (text : List ℕ) (so_far : List Report) (p number place : ℕ)
    → read_reports text so_far p most ≡ refused number place → (number ≡ 19) × (place ≡ 0)
unfolding read_reports
reports-nineteen zero text so_far p number place e = absurd (no-refusal so_far number place e)
reports-nineteen (suc most) text so_far p number place e =
    go (ltb p (length text)) e (λ report q. reports-nineteen most text (so_far ++ (report ∷ [])) q number place)
  where
    go : (b : Bool)
        → pick b (on_report (scan_report text p) λ report q. read_reports text (so_far ++ (report ∷ [])) q most) (done so_far) ≡ refused number place
        → ((report : Report) (q : ℕ) → read_reports text (so_far ++ (report ∷ [])) q most ≡ refused number place → (number ≡ 19) × (place ≡ 0))
        → (number ≡ 19) × (place ≡ 0)
    go true e hyp =
        on-nineteen (scan_report text p) (λ report q. read_reports text (so_far ++ (report ∷ [])) q most) number place e hyp
    go false e hyp = absurd (no-refusal so_far number place e)
