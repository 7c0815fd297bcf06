-- What the answers on two reports stand for: which of the two texts, or the refusal. Assumes nothing.
use Rattle.std.specs.Prelude.{◌≡◌, ℕ, Result, Ok, Err, List, [], ◌∷◌, length}
use Rattle.definitions.specs.Outcome.{Outcome, Answer, refused, done, and_then}
use Rattle.definitions.specs.Reports.{Report, read_report}
use Rattle.definitions.specs.Stands.{Which, first, second, standing, standing_check, text_of_which, which_number, stands_answer}
use Rattle.lists.specs.Outcomes.{then-done}
use Rattle.network.specs.Answers.{refusal_of}
use Rattle.network.specs.declared.refusal.Refusal.{Refusal}
use Rattle.program.specs.ReadStage.{stage-refused}
use Rattle.reports.specs.declared.line.Report as line
use Rattle.stands.specs.declared.Which as code
use Rattle.stands.specs.declared.Which.TheVariants as codes

-- A text is one report, of a relay with a serial.
abbrev pub ReportOf : (text : List ℕ) (relay serial : ℕ) → Type 0
ReportOf text relay serial =
    (report : Report) × (read_report text ≡ done report) × (report.relay ≡ relay) × (report.serial ≡ serial)

-- What is told of a text: its report's relay and serial, or its refusal.
abbrev pub ReportTold : (text : List ℕ) → Result line.Report Refusal → Type 0
ReportTold text (Ok read) = ReportOf text read.relay.0 read.serial
ReportTold text (Err refusal) = read_report text ≡ refusal_of refusal

-- The code's answer as the definitions' outcome.
abbrev pub which_outcome : Result code.Which Refusal → Outcome Which
which_outcome (Ok codes.First) = done first
which_outcome (Ok codes.Second) = done second
which_outcome (Err refusal) = refusal_of refusal

-- Which of two claims is due: of the first text, of the second, or none.
abbrev pub Own : (outcome : Outcome Which) → Type 0 → Type 0 → Type 0
Own (refused number place) one other = Unit {0}
Own (done first) one other = one
Own (done second) one other = other

-- The answer for C, by what stands.
pub stands-answer : (one other : List ℕ) (chosen : Which) → standing one other ≡ done chosen
    → stands_answer one other ≡ done (which_number chosen ∷ length (text_of_which one other chosen) ∷ [])
unfolding stands_answer
stands-answer one other chosen e = then-done (standing one other) _ chosen e

pub stands-refused : (one other : List ℕ) (refusal : Refusal) → standing one other ≡ refusal_of refusal
    → stands_answer one other ≡ refusal_of refusal
unfolding stands_answer
stands-refused one other refusal e = stage-refused (standing one other) _ refusal e

-- Where one of the two stands, the check passes.
pub either-stands : (one other : List ℕ) (chosen : code.Which) → which_outcome (Ok chosen) ≡ standing one other → ◌≡◌ {A = Answer} (done []) (standing_check one other)
unfolding standing_check and_then
either-stands one other codes.First e = rw (← e)
either-stands one other codes.Second e = rw (← e)

pub check-refused : (one other : List ℕ) (refusal : Refusal) → standing one other ≡ refusal_of refusal → standing_check one other ≡ refusal_of refusal
unfolding standing_check
check-refused one other refusal e = stage-refused (standing one other) _ refusal e
