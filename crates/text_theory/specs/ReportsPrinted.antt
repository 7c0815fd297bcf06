-- What the program prints of a set of reports, proved: the text of an accepted network, which Read gives back, or the first refusal met;
-- and it goes by the whole set. Assumes nothing.
use Rattle.std.specs.Prelude.{ℕ, ◌<◌, List, [], ◌∷◌, ◌++◌, ◌≢◌, ◌≡◌, refl, length, get_or, drop}
use Rattle.std.proofs.Common.{ap, arith}
use Rattle.std.proofs.Math.Seq.{drop-append_seam}
use Rattle.definitions.specs.Outcome.{done}
use Rattle.definitions.specs.Lists.{outside}
use Rattle.definitions.specs.Form.{on_scan, write_form}
use Rattle.definitions.specs.Program.{outcome_of, printed, network_text}
use Rattle.definitions.specs.Promised.{NetworkPrinted, Answered}
use Rattle.definitions.specs.ReportSets.{
  read_reports,
  repeats,
  reporters,
  beyond,
  reported_network,
  judged_reports,
  reports_network,
  reports_form,
  reporter,
  reported,
  reports_text,
}
use Rattle.definitions.specs.ReportPromise.{ReportsPrinted}
use Rattle.lists.specs.Parts.{part-start}
use Rattle.lists.specs.RefusedWithin.{RefusedAs, refused_as, refuse-as, then-as}
use Rattle.text_theory.specs.Forms.{well_formed, well_formed_behind, good_word, no_zero, ends_in_number, Line}
use Rattle.text_theory.specs.NetworkLines.{line_read}
use Rattle.text_theory.specs.Sized.{sized-as}
use Rattle.text_theory.specs.NetworkPrinted.{network-printed}
use Rattle.text_theory.specs.Programs.{AnswersAs, read-alone, outcome-as, answered}
use Rattle.text_theory.specs.ReportRoundTrip.{reports-nineteen}
use Rattle.text_theory.specs.ReportProof.{report-promise}

-- The line in front.
pub reports-line : Line reports_form
unfolding well_formed well_formed_behind good_word no_zero outside ends_in_number reports_form
reports-line = (refl, refl)

-- A set is never refused for want of room.
abbrev Roomy : (number place : ℕ) → Type 0
Roomy number place = (number ≢ 8) × (number ≢ 12)

set-roomy : (n : ℕ) (text : List ℕ) → RefusedAs Roomy (reports_network n text 3000 3000 1000)
unfolding reports_network judged_reports
set-roomy n text =
    refuse-as Roomy (outside 1 1000 n) 3 0 _ (λ _. (λ e. omega arith, λ e. omega arith))
    (λ _.
    then-as Roomy (read_reports text [] 0 (length text)) _
    (refused_as Roomy (read_reports text [] 0 (length text))
    (λ number place e.
    let is = reports-nineteen (length text) text [] 0 number place e in
    (λ z. omega (arith, is.0, z), λ z. omega (arith, is.0, z))))
    (λ reports _.
    refuse-as Roomy (repeats (reporters reports)) 20 0 _ (λ _. (λ e. omega arith, λ e. omega arith))
    (λ _.
    refuse-as Roomy (beyond n reports) 5 0 _ (λ _. (λ e. omega arith, λ e. omega arith))
    (λ _.
    sized-as Roomy n (length (reported_network n reports).lows) 3000 3000 1000 (done (reported_network n reports))
    (omega arith) (omega arith) (omega arith) (λ e. omega arith, λ e. omega arith) (λ e. omega arith, λ e. omega arith) (λ _ _. tt)))))

-- Every input gets the text of an accepted network, or the line of the first refusal met.
reports-answered : (input : List ℕ) → Answered reporter NetworkPrinted input (reports_text input)
unfolding reports_text reported AnswersAs
reports-answered input =
    answered reporter (λ _ network. network) input network_text NetworkPrinted
    (outcome-as reporter _ input Roomy (λ place below. (λ e. omega arith, λ e. omega arith)) (λ line text. set-roomy (get_or line 0 0) text)
    (λ _ _ _. tt))
    (λ line network asked _.
    let taken = (report-promise (get_or line 0 0) 3000 3000 1000).taken (drop asked.behind input) network asked.read in
    network-printed line network (rw (← taken.size) at taken.accepted))

-- What is printed for n and a set.
set-printed : (n : ℕ) (text : List ℕ) → n < 10000
    → reports_text (write_form reports_form (n ∷ []) ++ text) ≡ printed network_text (reports_network n text 3000 3000 1000)
unfolding reports_text reported reports_form outcome_of on_scan
set-printed n text small =
    let line = write_form reports_form (n ∷ []) in
    rw (
      line_read reports_form (n ∷ []) (line ++ text) 0 (length line) reports-line (small, tt) (part-start line text),
      drop-append_seam line text,
    )
    (ap (printed network_text) (read-alone (reports_network n text 3000 3000 1000)))

pub reports-printed : ReportsPrinted
reports-printed = record { answered = reports-answered; set = set-printed }
