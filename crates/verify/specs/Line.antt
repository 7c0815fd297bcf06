-- The program stage by stage: the line in front, the network's text and then the sheet's. What is written for two texts is about
-- exactly these two, whatever stands in either. Assumes nothing.
use Rattle.std.specs.Prelude.{ℕ, ◌-◌, ◌≤◌, ◌<◌, List, [], ◌∷◌, ◌≡◌, refl, length, take, drop}
use Rattle.std.proofs.Common.{◌∙◌, ap}
use Rattle.definitions.specs.Outcome.{Outcome, refused, done, Answer, and_then}
use Rattle.definitions.specs.Lists.{outside}
use Rattle.definitions.specs.Form.{bytes, departs, reads, scan_form, on_scan}
use Rattle.definitions.specs.Text.{Network, read_network}
use Rattle.definitions.specs.Program.{passing, outcome_of, printed, on}
use Rattle.definitions.specs.SheetTest.{sheet_answer}
use Rattle.definitions.specs.Verify.{verify_form, verify_input, filed, sheet_said, verifier, values_of, verified, verdict_text, verify_text, verdict_of}
use Rattle.definitions.specs.Border.{border_of, bordered}
use Rattle.text_theory.specs.Forms.{no_zero, good_word, well_formed_behind, well_formed, ends_in_number, Line}
use Rattle.text_theory.specs.Borders.{border-read}
use Rattle.network.specs.Answers.{refusal_of}
use Rattle.network.specs.declared.refusal.Refusal.TheVariants.{Wish}
use Rattle.program.specs.ReadStage.{line-departed, line_taken}

-- A sheet's text read back with a network's text.
abbrev pub read_back_from : (network text : List ℕ) → Answer
read_back_from network text = and_then (read_network network 3000 3000 1000) λ w. on w sheet_answer text

-- A text with the border at this offset.
abbrev pub read_back_at : (size : ℕ) (text : List ℕ) → Answer
read_back_at size text = read_back_from (take size text) (drop size text)

-- The line in front.
verify-line : Line verify_form
unfolding well_formed well_formed_behind good_word no_zero outside ends_in_number verify_form
verify-line = (refl, refl)

-- After it: both texts, and what is said of the sheet.
both-said : (line text : List ℕ)
    → and_then (filed line text) (λ both. passing (sheet_said both ∷ []) (values_of (sheet_said both))) ≡ read_back_at (border_of line) text
unfolding filed and_then passing values_of
both-said line text = go (read_network (take (border_of line) text) 3000 3000 1000)
  where
    last : (answer : Answer) → and_then answer (λ _. done (values_of answer)) ≡ answer
    last (refused number place) = refl
    last (done values) = refl

    go : (outcome : Outcome Network)
        → and_then (and_then outcome (λ w. done (record { network = w; sheet = drop (border_of line) text })))
        (λ both. and_then (sheet_said both) (λ _. done (values_of (sheet_said both))))
        ≡ and_then outcome (λ w. on w sheet_answer (drop (border_of line) text))
    go (refused number place) = refl
    go (done w) = last (on w sheet_answer (drop (border_of line) text))

pub verify-departed : (input : List ℕ) (p : ℕ) → scan_form input verify_form 0 ≡ departs p → verified input ≡ refusal_of (Wish p)
unfolding verified
verify-departed input p e = line-departed verifier _ input p e

pub verify-taken : (input : List ℕ) (a b p : ℕ) → scan_form input verify_form 0 ≡ reads (a ∷ b ∷ []) p
    → (p ≤ length input) × (verified input ≡ read_back_at (border_of (a ∷ b ∷ [])) (take (length input - p) (drop p input)))
unfolding verified
verify-taken input a b p e =
    let taken = line_taken verifier _ input (a ∷ b ∷ []) p verify-line e in
    (taken.0, taken.1 ∙ both-said (a ∷ b ∷ []) (take (length input - p) (drop p input)))

read-said : (input line : List ℕ) (p : ℕ) → scan_form input verify_form 0 ≡ reads line p
    → verified input ≡ read_back_at (border_of line) (drop p input)
unfolding verified outcome_of on_scan
read-said input line p e = rw e (both-said line (drop p input))

pub two-texts : (network sheet : List ℕ) → length network < 100000000 → verify_text (verify_input network sheet) ≡ verdict_of network sheet
unfolding verify_text verify_input verdict_of verify_form
two-texts network sheet short =
    let both = border-read (bytes "(verify ") network sheet verify-line short in
    ap (printed verdict_text) (read-said (bordered verify_form network sheet) both.line both.behind both.read ∙ rw (both.before, both.after))
