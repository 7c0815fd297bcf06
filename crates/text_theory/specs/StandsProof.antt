-- What the program prints of two reports, proved: the one that stands, or the first refusal met; and it is about exactly these two.
-- Assumes nothing.
use Rattle.std.specs.Prelude.{ℕ, ◌≤◌, ◌<◌, not, List, [], ◌∷◌, ◌≢◌, ◌≡◌, refl, eqb, length}
use Rattle.std.proofs.Common.{ap, arith}
use Rattle.definitions.specs.Outcome.{Outcome, refused, done, and_then}
use Rattle.definitions.specs.Lists.{outside}
use Rattle.definitions.specs.Form.{bytes, on_scan}
use Rattle.definitions.specs.Program.{passing, outcome_of, printed}
use Rattle.definitions.specs.Promised.{Answered}
use Rattle.definitions.specs.Reports.{read_report}
use Rattle.definitions.specs.Stands.{
  Which,
  of_one_relay,
  standing,
  text_of_which,
  bytes_of,
  standing_bytes,
  standing_check,
  stands_form,
  stands_input,
  Two,
  two_texts,
  stander,
  stood,
  stands_text,
  stands_of,
}
use Rattle.definitions.specs.StandsPromise.{StandingPrinted, StandsPromise}
use Rattle.lists.specs.RefusedWithin.{RefusedAs, as-more, refused_as, refuse-as, then-as}
use Rattle.lists.specs.SameOutcomes.{done-then}
use Rattle.text_theory.specs.Forms.{well_formed, well_formed_behind, good_word, no_zero, ends_in_number, Line}
use Rattle.text_theory.specs.Programs.{AllDone, AnswersAs, outcome-as, answered}
use Rattle.text_theory.specs.ReportRoundTrip.{report-nineteen}
use Rattle.text_theory.specs.StandingRefused.{undecided}
use Rattle.text_theory.specs.Borders.{border-read}

-- The line in front.
pub stands-line : Line stands_form
unfolding well_formed well_formed_behind good_word no_zero outside ends_in_number stands_form
stands-line = (refl, refl)

-- What is printed of two texts.
pub two-printed : (one other : List ℕ)
    → printed (λ (text : List ℕ). text) (passing (standing_check one other ∷ []) (standing_bytes one other)) ≡ stands_of one other
unfolding passing standing_check standing_bytes bytes_of stands_of printed and_then
two-printed one other = go (standing one other)
  where
    go : (outcome : Outcome Which)
        → printed (λ (text : List ℕ). text) (and_then {B = List ℕ} (and_then {B = List ℕ} outcome (λ _. done [])) (λ _. done (bytes_of one other outcome)))
        ≡ printed (text_of_which one other) outcome
    go (refused number place) = refl
    go (done chosen) = refl

-- Two reports are refused with 19, 20 or 21.
report-late : (text : List ℕ) → RefusedAs (λ number _. 19 ≤ number) (read_report text)
report-late text = refused_as _ (read_report text) (λ number place e. omega (arith, (report-nineteen text number place e).0))

standing-late : (one other : List ℕ) → RefusedAs (λ number _. 19 ≤ number) (standing one other)
unfolding standing
standing-late one other =
    then-as _ (read_report one) _ (report-late one)
    (λ a _.
    then-as _ (read_report other) _ (report-late other)
    (λ b _.
    refuse-as _ (not (eqb a.relay b.relay)) 20 0 _ (λ _. omega arith)
    (λ _. refused_as _ (of_one_relay one other a b) (λ number place e.
    let (u, number, place) = undecided one other a b number place e in
    omega (arith, number)))))

-- Every input gets the report that stands, or the line of the first refusal met.
stands-answered : (input : List ℕ) → Answered stander StandingPrinted input (stands_text input)
unfolding stands_text stood AnswersAs AllDone standing_check standing_bytes bytes_of
stands-answered input =
    answered stander (λ _ two. standing_bytes two.one two.other) input (λ text. text) StandingPrinted
    (outcome-as stander _ input (λ number _. (number ≢ 8) × (number ≢ 12)) (λ place below. (λ e. omega arith, λ e. omega arith))
    (λ _ _. tt)
    (λ _ two _. (
      then-as _ (standing two.one two.other) _
          (as-more (λ number _. 19 ≤ number) _ (standing two.one two.other) (λ number place late. (λ e. omega arith, λ e. omega arith))
          (standing-late two.one two.other)) (λ _ _. tt),
      tt,
    )))
    (λ line two asked passed. stood-so line two passed.0.1)
  where
    stood-so : (line : List ℕ) (two : Two) {values : List ℕ} → standing_check two.one two.other ≡ done values
        → StandingPrinted line two (standing_bytes two.one two.other)
    stood-so line two {values} e =
        let (chosen, stands, last) = done-then (standing two.one two.other) _ values e in
        record { chosen = chosen; stands = stands; printed = ap (bytes_of two.one two.other) stands }

-- What is printed for two texts is about exactly these two.
two-texts : (one other : List ℕ) → length one < 100000000 → stands_text (stands_input one other) ≡ stands_of one other
unfolding stands_text stood stands_input stands_form outcome_of on_scan two_texts and_then
two-texts one other short =
    let both = border-read (bytes "(stands ") one other stands-line short in
    rw (both.read, both.before, both.after) (two-printed one other)

pub stands-promise : StandsPromise
stands-promise = record { answered = stands-answered; two = two-texts }
