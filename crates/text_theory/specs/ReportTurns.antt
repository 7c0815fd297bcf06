-- A set's lines read one by one, as a loop over offsets does: where the text ends, a report that is out of form or bad, and one more
-- report. No count of lines is kept. Assumes nothing.
use Rattle.std.specs.Prelude.{ℕ, zero, suc, ◌+◌, ◌≤◌, ◌<◌, Bool, true, false, List, [], ◌∷◌, ◌++◌, ◌≡◌, refl, ltb, length}
use Rattle.std.proofs.Common.{sym, ◌∙◌, ap, arith, ltb-true, lt-ltb, le-ltb, ne_eqb}
use Rattle.definitions.specs.Outcome.{pick, refused, done, refuse_if}
use Rattle.definitions.specs.Form.{Scan, departs, reads, byte_at, write_form}
use Rattle.definitions.specs.Reports.{report_front, scan_report, Report, report_of, report_text, bad_report, on_report}
use Rattle.definitions.specs.ReportSets.{read_reports, report_lines}
use Rattle.text_theory.specs.SpacedNumbers.{numbers_at, none-at, spaced-departs}
use Rattle.text_theory.specs.ReportLine.{read-report-line}
use Rattle.text_theory.specs.ReportRoundTrip.{line-some, reports-written}

-- A report line that was read ends behind where it began.
pub line-behind : (text : List ℕ) (p : ℕ) (values : List ℕ) (q : ℕ) → p ≤ length text → scan_report text p ≡ reads values q
    → (p < q) × (q ≤ length text)
line-behind text p values q within e =
    let line = read-report-line text p values q within e in
    (omega (arith, line.part.reaches, line-some line.report), line.part.within)

-- Two ways to go on from the next line that agree further on.
one_way : (text : List ℕ) (so_far : List Report) (p : ℕ) (scan : Scan) (most more : ℕ) → p < length text → scan_report text p ≡ scan
    → ((report : Report) (q : ℕ) → p < q → read_reports text (so_far ++ (report ∷ [])) q most ≡ read_reports text (so_far ++ (report ∷ [])) q more)
    → on_report scan (λ report q. read_reports text (so_far ++ (report ∷ [])) q most)
    ≡ on_report scan (λ report q. read_reports text (so_far ++ (report ∷ [])) q more)
unfolding on_report
one_way text so_far p (departs w) most more within e hyp = refl
one_way text so_far p (reads values q) most more within e hyp =
    ap (refuse_if (bad_report (report_of values)) 19 0) (hyp (report_of values) q (line-behind text p values q (omega arith) e).0)

at_once : (text : List ℕ) (so_far : List Report) (p : ℕ) → read_reports text so_far p 0 ≡ done so_far
unfolding read_reports
at_once text so_far p = refl

first-turn : (text : List ℕ) (so_far : List Report) (p most : ℕ) → p < length text
    → read_reports text so_far p (suc most) ≡ on_report (scan_report text p) (λ report q. read_reports text (so_far ++ (report ∷ [])) q most)
unfolding read_reports
first-turn text so_far p most some = rw (lt-ltb p (length text) some)

-- Lines of reports begin with a bracket, if they begin at all.
begins : (reports : List Report) → byte_at (report_lines reports) 0 ≡ 32 → ⊥
unfolding report_lines report_text report_front write_form byte_at
begins [] e = omega arith
begins (report ∷ reports) e = omega arith

-- No text has as many lines as bytes: to look for more changes nothing.
reports-enough : (most more : ℕ) (text : List ℕ) (so_far : List Report) (p : ℕ) → length text ≤ p + most → most ≤ more
    → read_reports text so_far p most ≡ read_reports text so_far p more
unfolding read_reports
reports-enough zero zero text so_far p enough h = refl
reports-enough zero (suc more) text so_far p enough h = rw (le-ltb p (length text) (omega arith))
reports-enough (suc most) zero text so_far p enough h = absurd (omega arith)
reports-enough (suc most) (suc more) text so_far p enough h =
    go (ltb p (length text)) refl (scan_report text p) refl
    (λ report q further. reports-enough most more text (so_far ++ (report ∷ [])) q (omega arith) (omega arith))
  where
    go : (b : Bool) → ltb p (length text) ≡ b → (scan : Scan) → scan_report text p ≡ scan
        → ((report : Report) (q : ℕ) → p < q → read_reports text (so_far ++ (report ∷ [])) q most ≡ read_reports text (so_far ++ (report ∷ [])) q more)
        → pick b (on_report scan (λ report q. read_reports text (so_far ++ (report ∷ [])) q most)) (done so_far)
        ≡ pick b (on_report scan (λ report q. read_reports text (so_far ++ (report ∷ [])) q more)) (done so_far)
    go true test scan e hyp = one_way text so_far p scan most more (ltb-true p (length text) test) e hyp
    go false test scan e hyp = refl

module _ (text : List ℕ) (so_far : List Report) (p : ℕ) where
  -- The text ends here.
  pub reports-stop : length text ≤ p → read_reports text so_far p (length text) ≡ done so_far
  reports-stop over = sym (reports-enough zero (length text) text so_far p (omega arith) (omega arith)) ∙ at_once text so_far p

  module _ (some : p < length text) where
    turn : read_reports text so_far p (length text) ≡ on_report (scan_report text p) (λ report q. read_reports text (so_far ++ (report ∷ [])) q (length text))
    turn = go (length text) refl
      where
        go : (size : ℕ) → length text ≡ size
            → read_reports text so_far p size ≡ on_report (scan_report text p) (λ report q. read_reports text (so_far ++ (report ∷ [])) q size)
        go zero e = absurd (omega arith)
        go (suc size) e =
            first-turn text so_far p size some
            ∙ one_way text so_far p (scan_report text p) size (suc size) some refl
            (λ report q further. reports-enough size (suc size) text (so_far ++ (report ∷ [])) q (omega arith) (omega arith))

    -- It is no report line, or a bad report.
    pub reports-depart : (w : ℕ) → scan_report text p ≡ departs w → read_reports text so_far p (length text) ≡ refused 19 0
    unfolding on_report
    reports-depart w e = turn ∙ rw e

    pub reports-bad : (values : List ℕ) (q : ℕ) → scan_report text p ≡ reads values q → bad_report (report_of values) ≡ true
        → read_reports text so_far p (length text) ≡ refused 19 0
    unfolding on_report refuse_if
    reports-bad values q e bad = turn ∙ rw (e, bad)

    -- One report more.
    pub reports-next : (values : List ℕ) (q : ℕ) → scan_report text p ≡ reads values q → bad_report (report_of values) ≡ false
        → read_reports text so_far p (length text) ≡ read_reports text (so_far ++ (report_of values ∷ [])) q (length text)
    unfolding on_report refuse_if
    reports-next values q e good = turn ∙ rw (e, good)

-- Where reports were read no number stands at offset 0, which may so stand for none.
pub start-no-number : (text : List ℕ) (reports : List Report) → read_reports text [] 0 (length text) ≡ done reports
    → numbers_at text 0 (length text) ≡ []
start-no-number text reports e =
    none-at text 0 (0, spaced-departs text 0 (ne_eqb (byte_at text 0) 32 (λ space. no-space text reports (reports-written text reports e).1 space)))
    (length text)
  where
    no-space : (text : List ℕ) (reports : List Report) → report_lines reports ≡ text → byte_at text 0 ≡ 32 → ⊥
    no-space text reports lines space = begins reports (ap (λ (l : List ℕ). byte_at l 0) lines ∙ space)
