-- Which of two texts stands, by what is told of each. Assumes nothing.
use Rattle.std.proofs.Common.{◌≡◌, ℕ, ◌&&◌, eqb, List, sym, ◌∙◌}
use Rattle.definitions.specs.Outcome.{pick, Outcome, refused, done, and_then}
use Rattle.definitions.specs.Reports.{read_report}
use Rattle.definitions.specs.Stands.{ahead, same_list, Which, first, second, of_one_relay, standing}
use Rattle.network.specs.Answers.{refusal_of}
use Rattle.network.specs.declared.refusal.Refusal.{Refusal}
use Rattle.text_theory.specs.StandingDecided.{twenty-refused}
use Rattle.text_theory.specs.StandingTurned.{judged}
use Rattle.stands.specs.Standing.{ReportOf}

-- One of the two is no report.
pub first-refused : (one other : List ℕ) (refusal : Refusal) → read_report one ≡ refusal_of refusal → standing one other ≡ refusal_of refusal
unfolding standing and_then
first-refused one other refusal e = rw e

pub second-refused : (one other : List ℕ) (relay serial : ℕ) (refusal : Refusal) → ReportOf one relay serial
    → read_report other ≡ refusal_of refusal → standing one other ≡ refusal_of refusal
unfolding standing and_then
second-refused one other relay serial refusal told e = rw (told.1, e)

-- What the serials decide.
abbrev pub by_serials : (one other : List ℕ) (a b : ℕ) → Outcome Which
by_serials one other a b =
    pick (ahead b a) (done second) (pick (ahead a b) (done first) (pick (eqb a b && same_list one other) (done first) (refused 21 0)))

-- Both are reports.
module _ (one other : List ℕ) (x y a b : ℕ) (told_one : ReportOf one x a) (told_other : ReportOf other y b) where
  pub two-relays : (x ≡ y → ⊥) → standing one other ≡ refused 20 0
  two-relays apart =
      twenty-refused one other told_one.0 told_other.0 told_one.1 told_other.1
      (λ e. apart (sym told_one.2 ∙ e ∙ told_other.2))

  pub one-relay : x ≡ y → standing one other ≡ by_serials one other a b
  unfolding of_one_relay
  one-relay alike =
      rw (← told_one.3, ← told_other.3)
      (judged one other told_one.0 told_other.0 told_one.1 told_other.1 (told_one.2 ∙ alike ∙ sym told_other.2))
