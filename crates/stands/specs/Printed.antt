-- The program stage by stage: the line in front, and then the two reports. Assumes nothing.
use Rattle.std.specs.Prelude.{◌≡◌, ℕ, ◌-◌, ◌≤◌, List, [], ◌∷◌, length, take, drop, refl}
use Rattle.std.proofs.Common.{◌∙◌, ap, arith}
use Rattle.definitions.specs.Outcome.{Outcome, refused, done, Answer, and_then}
use Rattle.definitions.specs.Lists.{outside}
use Rattle.definitions.specs.Form.{departs, reads, scan_form}
use Rattle.definitions.specs.Border.{border_of}
use Rattle.definitions.specs.Program.{passing, printed}
use Rattle.definitions.specs.Reports.{Report, read_report}
use Rattle.definitions.specs.Stands.{Which, first, second, standing, text_of_which, bytes_of, standing_bytes, standing_check, stands_form, two_texts, stander, stood, stands_text, stands_of}
use Rattle.lists.specs.SameOutcomes.{done-then}
use Rattle.text_theory.specs.Forms.{no_zero, good_word, well_formed_behind, well_formed, ends_in_number, Line}
use Rattle.text_theory.specs.LongestReports.{report-longest}
use Rattle.text_theory.specs.StandingDecided.{standing-promise}
use Rattle.network.specs.Answers.{refusal_of}
use Rattle.network.specs.declared.refusal.Refusal.TheVariants.{Wish}
use Rattle.text.specs.Put.{Put}
use Rattle.program.specs.ReadStage.{line-departed, line_taken}

-- The bytes of the longest report.
abbrev pub report_room : ℕ
report_room = 3917

-- A text was written from the first byte on, and it is no longer than a report can be.
pub record StandsPut (before text after : List ℕ) (next : ℕ) : Type 0 where
  pub put : Put before 0 text after next
  pub fits : length text ≤ report_room

-- What is to be written for two texts with the border at this offset.
abbrev pub stands_at : (size : ℕ) (text : List ℕ) → List ℕ
stands_at size text = stands_of (take size text) (drop size text)

-- The text of a report is no longer.
read_fits : (text : List ℕ) (report : Report) → read_report text ≡ done report → length text ≤ report_room
read_fits text report e =
    let written = (standing-promise.reads text report).0 e in
    omega (arith, report-longest report written.0, ap length written.1)

-- One of two stands only if both are reports.
pub which-fits : (one other : List ℕ) (chosen : Which) → standing one other ≡ done chosen → length (text_of_which one other chosen) ≤ report_room
unfolding standing text_of_which
which-fits one other chosen e =
    let (a, read_one, rest) = done-then (read_report one) _ chosen e in
    let (b, read_other, last) = done-then (read_report other) _ chosen rest in
    go chosen (read_fits one a read_one) (read_fits other b read_other)
  where
    go : (chosen : Which) → length one ≤ report_room → length other ≤ report_room → length (text_of_which one other chosen) ≤ report_room
    go first low high = low
    go second low high = high

-- The line in front.
stands-line : Line stands_form
unfolding well_formed well_formed_behind good_word no_zero outside ends_in_number stands_form
stands-line = (refl, refl)

-- After it: both texts, and what stands.
both-said : (line text : List ℕ)
    → let two = two_texts line text in
    printed (λ (l : List ℕ). l) (and_then (done two) λ two. passing (standing_check two.one two.other ∷ []) (standing_bytes two.one two.other))
    ≡ stands_at (border_of line) text
unfolding two_texts and_then passing printed standing_check standing_bytes bytes_of stands_of
both-said line text = go (standing (take (border_of line) text) (drop (border_of line) text))
  where
    nothing : Answer
    nothing = done []

    go : (outcome : Outcome Which)
        → printed (λ (l : List ℕ). l)
        (and_then (and_then outcome (λ _. nothing)) (λ _. done (bytes_of (take (border_of line) text) (drop (border_of line) text) outcome)))
        ≡ printed (text_of_which (take (border_of line) text) (drop (border_of line) text)) outcome
    go (refused number place) = refl
    go (done chosen) = refl

pub stands-departed : (input : List ℕ) (p : ℕ) → scan_form input stands_form 0 ≡ departs p
    → stands_text input ≡ printed (λ (l : List ℕ). l) (refusal_of (Wish p))
unfolding stands_text stood
stands-departed input p e = ap (printed (λ l. l)) (line-departed stander _ input p e)

pub stands-taken : (input : List ℕ) (a b p : ℕ) → scan_form input stands_form 0 ≡ reads (a ∷ b ∷ []) p
    → (p ≤ length input) × (stands_text input ≡ stands_at (border_of (a ∷ b ∷ [])) (take (length input - p) (drop p input)))
unfolding stands_text stood
stands-taken input a b p e =
    let taken = line_taken stander _ input (a ∷ b ∷ []) p stands-line e in
    (taken.0, ap (printed (λ l. l)) taken.1 ∙ both-said (a ∷ b ∷ []) (take (length input - p) (drop p input)))
