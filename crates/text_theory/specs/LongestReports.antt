-- No report is longer than 3,917 bytes, and no set of reports that is taken longer than 3,917,000. Assumes nothing.
use Rattle.std.specs.Prelude.{ℕ, ◌+◌, ◌*◌, ◌≤◌, ◌<◌, Bool, true, false, List, [], ◌∷◌, ◌++◌, ◌⊎◌, ◌≡◌, refl, leb, length}
use Rattle.std.proofs.Common.{inl, inr, sym, ◌∙◌, ap, arith, leb-true, leb-false, length-append}
use Rattle.std.proofs.lemmas.List.{length-map}
use Rattle.definitions.specs.Outcome.{pick, done}
use Rattle.definitions.specs.Lists.{table, keep, has, count, NoRepeat}
use Rattle.definitions.specs.Form.{bytes, decimal, spaced, write_form}
use Rattle.definitions.specs.Text.{Network}
use Rattle.definitions.specs.Reports.{Report, report_front, report_text, ReportFits}
use Rattle.definitions.specs.ReportSets.{report_lines, reporters, reports_network}
use Rattle.definitions.specs.ReportPromise.{AllFit}
use Rattle.lists.specs.Tests.{and_both}
use Rattle.lists.specs.Members.{has-keep, range-has}
use Rattle.lists.specs.Distinct.{no-repeat-keep}
use Rattle.lists.specs.Counting.{no_longer, length-keep}
use Rattle.lists.specs.Tables.{length-table}
use Rattle.lists.specs.Cases.{has_here, has_there, has-nil, has-cases}
use Rattle.lists.specs.Searches.{clash}
use Rattle.lists.specs.AscendingSteps.{ascends, ascending-once}
use Rattle.text_theory.specs.Decimal.{length-decimal-at-most}
use Rattle.text_theory.specs.ReportProof.{report-promise}

-- A number below 1,000 has a digit, one more from 10 on and one more from 100 on.
digits-count : (x : ℕ) → x < 1000 → length (decimal x) ≤ 1 + (pick (leb 10 x) 1 0 + pick (leb 100 x) 1 0)
digits-count x small = go (leb 10 x) refl (leb 100 x) refl
  where
    go : (s : Bool) → leb 10 x ≡ s → (t : Bool) → leb 100 x ≡ t → length (decimal x) ≤ 1 + (pick s 1 0 + pick t 1 0)
    go true p true q = omega (arith, length-decimal-at-most 2 x small)
    go true p false q = omega (arith, length-decimal-at-most 1 x (leb-false 100 x q))
    go false p true q = absurd (omega (arith, leb-false 10 x p, leb-true 100 x q))
    go false p false q = omega (arith, length-decimal-at-most 0 x (leb-false 10 x p))

spaced-count : (list : List ℕ) → ((x : ℕ) → has list x ≡ true → x < 1000)
    → length (spaced list) ≤ 2 * length list + (count (leb 10) list + count (leb 100) list)
unfolding spaced count
spaced-count [] small = omega arith
spaced-count (x ∷ list) small =
    omega (
      arith,
      digits-count x (small x (has_here x list)),
      length-append (decimal x) (spaced list),
      spaced-count list (λ y h. small y (has_there x list y h)),
    )

-- Of numbers below 1,000, none twice, so many are not below `low`.
count-from : (low size : ℕ) (list : List ℕ) → low + size ≡ 1000 → NoRepeat list → ((x : ℕ) → has list x ≡ true → x < 1000)
    → count (leb low) list ≤ size
count-from low size list whole once small =
    omega (
      arith,
      length-keep (leb low) list,
      length-table (λ (r : ℕ). r) low size,
      no_longer (table (λ (r : ℕ). r) low size) (keep (leb low) list) (no-repeat-keep (leb low) list once)
          (λ x h.
          let both = and_both (has list x) (leb low x) (sym (has-keep (leb low) list x) ∙ h) in
          range-has low size x (leb-true low x both.1) (omega (arith, small x both.0))),
    )

all-few : (list : List ℕ) → NoRepeat list → ((x : ℕ) → has list x ≡ true → x < 1000) → length list ≤ 1000
all-few list once small =
    omega (
      arith,
      length-table (λ (r : ℕ). r) 0 1000,
      no_longer (table (λ (r : ℕ). r) 0 1000) list once (λ x h. range-has 0 1000 x (omega arith) (omega (arith, small x h))),
    )

pub spaced-longest : (list : List ℕ) → NoRepeat list → ((x : ℕ) → has list x ≡ true → x < 1000) → length (spaced list) ≤ 3890
spaced-longest list once small =
    omega (
      arith,
      spaced-count list small,
      all-few list once small,
      count-from 10 990 list refl once small,
      count-from 100 900 list refl once small,
    )

-- A line has 17 bytes beside its serial and the numbers of its relays, each with a space.
line-length : (report : Report)
    → length (report_text report) ≡ 17 + (length (decimal report.serial) + length (spaced (report.relay ∷ report.sees)))
unfolding report_text report_front write_form spaced
line-length report =
    let relay = decimal report.relay in
    let serial = decimal report.serial in
    let seen = spaced report.sees in
    omega (
      arith,
      length-append (write_form report_front (report.relay ∷ [])) (serial ++ (bytes " (sees" ++ (seen ++ bytes "))\n"))),
      length-append relay (bytes " "),
      length-append serial (bytes " (sees" ++ (seen ++ bytes "))\n")),
      length-append seen (bytes "))\n"),
      length-append relay seen,
    )

pub report-longest : (report : Report) → ReportFits report → length (report_text report) ≤ 3917
report-longest report fits =
    omega (
      arith,
      line-length report,
      length-decimal-at-most 9 report.serial (omega (arith, fits.range)),
      spaced-longest (report.relay ∷ report.sees)
          (fits.others, ascending-once report.sees (ascends report.sees fits.rises))
          (λ x h. go x (has-cases report.relay report.sees x h)),
    )
  where
    go : (x : ℕ) → (report.relay ≡ x) ⊎ (has report.sees x ≡ true) → x < 1000
    go x (inl e) = omega (arith, fits.known)
    go x (inr h) = omega (arith, fits.seen_known x h)

lines-longest : (reports : List Report) → AllFit reports → length (report_lines reports) ≤ 3917 * length reports
unfolding report_lines
lines-longest [] fits = omega arith
lines-longest (report ∷ reports) fits =
    omega (
      arith,
      length-append (report_text report) (report_lines reports),
      report-longest report fits.0,
      lines-longest reports fits.1,
    )

reporters-small : (reports : List Report) → AllFit reports → (x : ℕ) → has (reporters reports) x ≡ true → x < 1000
unfolding reporters
reporters-small [] fits x h = absurd (clash h (has-nil x))
reporters-small (report ∷ reports) fits x h = go (has-cases report.relay (reporters reports) x h) (reporters-small reports fits.1 x)
  where
    go : (report.relay ≡ x) ⊎ (has (reporters reports) x ≡ true) → (has (reporters reports) x ≡ true → x < 1000) → x < 1000
    go (inl e) later = omega (arith, fits.0.known)
    go (inr h) later = later h

-- Reports of different relays are no longer together.
pub set-longest : (reports : List Report) → AllFit reports → NoRepeat (reporters reports) → length (report_lines reports) ≤ 3917000
unfolding reporters
set-longest reports fits once =
    omega (
      arith,
      lines-longest reports fits,
      all-few (reporters reports) once (reporters-small reports fits),
      length-map reports (λ report. report.relay),
    )

-- So no longer text is taken.
pub taken-longest : (n room_lows room_highs room_states : ℕ) (text : List ℕ) (network : Network)
    → reports_network n text room_lows room_highs room_states ≡ done network → length text ≤ 3917000
taken-longest n room_lows room_highs room_states text network e =
    let t = (report-promise n room_lows room_highs room_states).taken text network e in
    omega (arith, set-longest t.reports t.fits t.once, ap length t.written)
