-- What a set of reports promises, proved for every n and every room. Assumes nothing.
use Rattle.std.specs.Prelude.{ℕ, ◌≤◌, false, ◌≡◌}
use mathlib.Core.List.{List, []}
use Rattle.std.proofs.Math.Path.{refl, ap}
use Rattle.std.proofs.Common.{sym, ◌∙◌, arith}
use Rattle.std.proofs.Math.ListN.{length}
use Rattle.definitions.specs.Outcome.{Outcome, refused, done, refuse_if, and_then}
use Rattle.definitions.specs.Lists.{outside, NoRepeat}
use Rattle.definitions.specs.Text.{Network, sized}
use Rattle.definitions.specs.Reports.{Report}
use Rattle.definitions.specs.ReportSets.{read_reports, report_lines, repeats, reporters, beyond, reported_network, judged_reports, reports_network}
use Rattle.definitions.specs.ReportPromise.{AllFit, Shuffled, ReportedAs, ReportPromise}
use Rattle.lists.specs.Outcomes.{not-refused, refused-later, refuse-not, then-done}
use Rattle.lists.specs.SameOutcomes.{refuse-same, done-then, done-same}
use Rattle.lists.specs.Ranges.{inside, inside-range}
use Rattle.lists.specs.Repeats.{repeats-none}
use Rattle.theory.specs.ReportedTable.{not_beyond, linked-see, see-linked, serves-reports, reports-serves, reported-rises, reported-accepted}
use Rattle.theory.specs.ReportOrder.{SameReports, shuffled-same, network-same}
use Rattle.text_theory.specs.Sized.{sized-done, sized-refused}
use Rattle.text_theory.specs.ReportRoundTrip.{no-refusal, reports-read, reports-written, reports-nineteen}

module _ (n room_lows room_highs room_states : ℕ) where
  -- The lines of reports that fit are judged by these reports, where n is in its range.
  lines-judged : (reports : List Report) → AllFit reports
      → reports_network n (report_lines reports) room_lows room_highs room_states
      ≡ refuse_if (outside 1 1000 n) 3 0 (judged_reports n room_lows room_highs room_states reports)
  unfolding reports_network
  lines-judged reports fits =
      let text = report_lines reports in
      ap (refuse_if (outside 1 1000 n) 3 0)
      (then-done (read_reports text [] 0 (length text)) (judged_reports n room_lows room_highs room_states) reports (reports-read reports fits))

  set-form : (reports : List Report) → AllFit reports → 1 ≤ n → n ≤ 1000
      → reports_network n (report_lines reports) room_lows room_highs room_states ≡ judged_reports n room_lows room_highs room_states reports
  set-form reports fits some few =
      lines-judged reports fits
      ∙ refuse-not (outside 1 1000 n) 3 0 (judged_reports n room_lows room_highs room_states reports) (inside 1 1000 n some few)

  -- Reports that were judged good.
  record Judged (reports : List Report) (network : Network) : Type 0 where
    once : NoRepeat (reporters reports)
    near : beyond n reports ≡ false
    short : length (reported_network n reports).lows ≤ 3000
    made : reported_network n reports ≡ network

  judged-good : (reports : List Report) (network : Network) → judged_reports n room_lows room_highs room_states reports ≡ done network
      → Judged reports network
  unfolding judged_reports
  judged-good reports network e =
      let made = reported_network n reports in
      let m = length made.lows in
      let rest = sized n m room_lows room_highs room_states (done made) in
      let twenty = not-refused (repeats (reporters reports)) 20 0 (refuse_if (beyond n reports) 5 0 rest) network e in
      let five = not-refused (beyond n reports) 5 0 rest network twenty.1 in
      let (pass, last) = sized-done n m room_lows room_highs room_states (done made) network five.1 in
      record {
        once = repeats-none (reporters reports) twenty.0;
        near = five.0;
        short = pass.few;
        made = done-same made network last;
      }

  reported-as : (text : List ℕ) (reports : List Report) → 1 ≤ n → n ≤ 1000 → AllFit reports → report_lines reports ≡ text
      → NoRepeat (reporters reports) → beyond n reports ≡ false → length (reported_network n reports).lows ≤ 3000
      → ReportedAs n text (reported_network n reports)
  unfolding reported_network
  reported-as text reports some few fits written once near short =
      let within = not_beyond n reports near in
      record {
        reports = reports;
        fits = fits;
        written = written;
        once = once;
        within = within;
        size = refl;
        links = λ a b. (linked-see n reports a b, λ both. see-linked n reports fits once within a b both.0 both.1);
        service = λ r. (serves-reports n reports r, reports-serves n reports within r);
        rises = reported-rises n reports;
        accepted = reported-accepted n reports some few short;
      }

  set-taken : (text : List ℕ) (network : Network) → reports_network n text room_lows room_highs room_states ≡ done network
      → ReportedAs n text network
  unfolding reports_network
  set-taken text network e =
      let judge = judged_reports n room_lows room_highs room_states in
      let read = read_reports text [] 0 (length text) in
      let three = not-refused (outside 1 1000 n) 3 0 (and_then read judge) network e in
      let size = inside-range 1 1000 n three.0 in
      let (reports, is_read, rest) = done-then read judge network three.1 in
      let lines = reports-written text reports is_read in
      let good = judged-good reports network rest in
      rw (← good.made)
      (reported-as text reports size.0 size.1 lines.0 lines.1 good.once good.near good.short)

  -- Reports that fit are not refused with 19.
  judged-other : (reports : List Report) → judged_reports n room_lows room_highs room_states reports ≡ refused 19 0 → ⊥
  unfolding judged_reports
  judged-other reports e =
      let made = reported_network n reports in
      let m = length made.lows in
      let rest = sized n m room_lows room_highs room_states (done made) in
      let twenty = refused-later (repeats (reporters reports)) 20 0 (refuse_if (beyond n reports) 5 0 rest) 19 0 e (λ z. omega (arith, z)) in
      let five = refused-later (beyond n reports) 5 0 rest 19 0 twenty.1 (λ z. omega (arith, z)) in
      no-refusal made 19 0
      (sized-refused n m room_lows room_highs room_states (done made) 19 0 five.1 (λ z. omega (arith, z)) (λ z. omega (arith, z)) (λ z. omega (arith, z))).1

  set-refused : (text : List ℕ) → 1 ≤ n → n ≤ 1000 → reports_network n text room_lows room_highs room_states ≡ refused 19 0
      → (reports : List Report) → AllFit reports → report_lines reports ≡ text → ⊥
  set-refused text some few e reports fits written =
      judged-other reports
      (sym (set-form reports fits some few) ∙ ap (λ (t : List ℕ). reports_network n t room_lows room_highs room_states) written ∙ e)

  set-nineteen : (text : List ℕ) → 1 ≤ n → n ≤ 1000 → ((reports : List Report) → AllFit reports → report_lines reports ≡ text → ⊥)
      → reports_network n text room_lows room_highs room_states ≡ refused 19 0
  unfolding reports_network and_then
  set-nineteen text some few none =
      refuse-not (outside 1 1000 n) 3 0 (and_then (read_reports text [] 0 (length text)) (judged_reports n room_lows room_highs room_states))
      (inside 1 1000 n some few)
      ∙ go (read_reports text [] 0 (length text)) refl
    where
      go : (read : Outcome (List Report)) → read_reports text [] 0 (length text) ≡ read
          → and_then read (judged_reports n room_lows room_highs room_states) ≡ refused 19 0
      go (refused number place) e =
          let is = reports-nineteen (length text) text [] 0 number place e in
          rw (is.0, is.1)
      go (done reports) e =
          let lines = reports-written text reports e in
          absurd (none reports lines.0 lines.1)

  -- The same reports are judged the same.
  judged-same : (one other : List Report) → SameReports one other
      → judged_reports n room_lows room_highs room_states one ≡ judged_reports n room_lows room_highs room_states other
  unfolding judged_reports
  judged-same one other same =
      rw (← same.twice, ← same.far n)
      (refuse-same (repeats (reporters one)) 20 0 (behind one) (behind other)
      (λ none.
      ap behind_network
      (network-same one other same (repeats-none (reporters one) none) (repeats-none (reporters other) (sym same.twice ∙ none)) n)))
    where
      behind_network : Network → Outcome Network
      behind_network network =
          refuse_if (beyond n one) 5 0 (sized n (length network.lows) room_lows room_highs room_states (done network))

      behind : List Report → Outcome Network
      behind reports = behind_network (reported_network n reports)

  any_order : (one other : List Report) → AllFit one → Shuffled one other
      → reports_network n (report_lines one) room_lows room_highs room_states ≡ reports_network n (report_lines other) room_lows room_highs room_states
  any_order one other fits shuffled =
      let same = shuffled-same one other shuffled in
      lines-judged one fits
      ∙ ap (refuse_if (outside 1 1000 n) 3 0) (judged-same one other same)
      ∙ sym (lines-judged other (same.fit fits))

  pub report-promise : ReportPromise n room_lows room_highs room_states
  report-promise =
      record {
        form = set-form;
        nineteen = λ text some few. (set-refused text some few, set-nineteen text some few);
        taken = set-taken;
        any_order = any_order;
      }
