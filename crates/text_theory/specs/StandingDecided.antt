-- When the second of two reports stands, when the first, and when they are of two relays; then all that is promised of one report and
-- of two. Assumes nothing.
use Rattle.std.specs.Prelude.{ℕ, ◌≤◌, Bool, ◌&&◌, ◌⊎◌, ◌≡◌, eqb}
use Rattle.std.proofs.Math.Bool.{true, false}
use mathlib.Core.List.{List}
use Rattle.std.proofs.Math.Logic.{inl, inr}
use Rattle.std.proofs.Math.Path.{refl, subst}
use Rattle.std.proofs.Common.{sym, ◌∙◌, ap, arith, ne_eqb}
use Rattle.definitions.specs.Outcome.{pick, Outcome, refused, done, refuse_if}
use Rattle.definitions.specs.Reports.{Report, read_report}
use Rattle.definitions.specs.Stands.{ahead, same_list, Which, first, second, of_one_relay, standing}
use Rattle.definitions.specs.StandsPromise.{After, StandingPromise}
use Rattle.lists.specs.Tests.{and_both}
use Rattle.text_theory.specs.Serials.{ahead-once, ahead_after, after-ahead}
use Rattle.text_theory.specs.ReportRoundTrip.{report-read, report-written, report-nineteen}
use Rattle.text_theory.specs.StandingTurned.{same_lists, in-range, both_read, judged, not-both, standing-turned, standing-same}
use Rattle.text_theory.specs.StandingRefused.{undecided, refused-turned, refused_why, why-refused}

-- What the serials decide, the tests given.
abbrev decided : (x y z : Bool) → Outcome Which
decided x y z = pick x (done second) (pick y (done first) (pick z (done first) (refused 21 0)))

second-only : (x y z : Bool) → decided x y z ≡ done second → x ≡ true
second-only true y z e = refl
second-only false true z e = absurd (not-both e)
second-only false false true e = absurd (not-both e)
second-only false false false e = let d : ◌≡◌ {A = ℕ} 0 1 = cc in absurd (omega arith)

first-only : (x y z : Bool) → decided x y z ≡ done first → (y ≡ true) ⊎ (z ≡ true)
first-only true y z e = absurd (not-both (sym e))
first-only false true z e = inl refl
first-only false false true e = inr refl
first-only false false false e = let d : ◌≡◌ {A = ℕ} 0 1 = cc in absurd (omega arith)

module _ (one other : List ℕ) (a b : Report) (read_one : read_report one ≡ done a) (read_other : read_report other ≡ done b) where
  -- Two relays.
  pub refused-twenty : standing one other ≡ refused 20 0 → a.relay ≡ b.relay → ⊥
  refused-twenty e alike =
      let (u, number, place) = undecided one other a b 20 0 (sym (judged one other a b read_one read_other alike) ∙ e) in
      omega (arith, number)

  pub twenty-refused : (a.relay ≡ b.relay → ⊥) → standing one other ≡ refused 20 0
  unfolding refuse_if
  twenty-refused apart = both_read one other a b read_one read_other ∙ rw (ne_eqb a.relay b.relay apart)

  module _ (alike : a.relay ≡ b.relay) where
    low : a.serial ≤ 4294967295
    low = in-range one a read_one

    high : b.serial ≤ 4294967295
    high = in-range other b read_other

    pub second-after : standing one other ≡ done second → After a.serial b.serial
    unfolding of_one_relay
    second-after e =
        ahead_after a.serial b.serial low high
        (second-only (ahead b.serial a.serial) (ahead a.serial b.serial) (eqb a.serial b.serial && same_list one other)
        (sym (judged one other a b read_one read_other alike) ∙ e))

    pub after-second : After a.serial b.serial → standing one other ≡ done second
    unfolding of_one_relay
    after-second later = judged one other a b read_one read_other alike ∙ rw (after-ahead a.serial b.serial low high later)

    pub first-why : standing one other ≡ done first → After b.serial a.serial ⊎ (one ≡ other)
    unfolding of_one_relay
    first-why e =
        go
        (first-only (ahead b.serial a.serial) (ahead a.serial b.serial) (eqb a.serial b.serial && same_list one other)
        (sym (judged one other a b read_one read_other alike) ∙ e))
      where
        go : (ahead a.serial b.serial ≡ true) ⊎ ((eqb a.serial b.serial && same_list one other) ≡ true)
            → After b.serial a.serial ⊎ (one ≡ other)
        go (inl e) = inl (ahead_after b.serial a.serial high low e)
        go (inr e) = inr (same_lists one other (and_both (eqb a.serial b.serial) (same_list one other) e).1)

    pub why-first : After b.serial a.serial ⊎ (one ≡ other) → standing one other ≡ done first
    unfolding of_one_relay
    why-first (inl later) =
        let ahead-a = after-ahead b.serial a.serial high low later in
        judged one other a b read_one read_other alike ∙ rw (behind (ahead b.serial a.serial) refl ahead-a, ahead-a)
      where
        behind : (x : Bool) → ahead b.serial a.serial ≡ x → ahead a.serial b.serial ≡ true → x ≡ false
        behind true e f = absurd (ahead-once b.serial a.serial high low e f)
        behind false e f = refl
    why-first (inr same) = subst (λ (text : List ℕ). standing one text ≡ done first) same (standing-same one a read_one)

pub standing-promise : StandingPromise
standing-promise =
    record {
      reads = λ text report. (
        λ e. report-written text report e,
        λ fits. ap read_report (sym fits.1) ∙ report-read report fits.0,
      );
      nineteen = report-nineteen;
      turned_round = standing-turned;
      refused_round = refused-turned;
      same = standing-same;
      second_stands = λ one other a b read_one read_other alike. (
        second-after one other a b read_one read_other alike,
        after-second one other a b read_one read_other alike,
      );
      first_stands = λ one other a b read_one read_other alike. (
        first-why one other a b read_one read_other alike,
        why-first one other a b read_one read_other alike,
      );
      twenty = λ one other a b read_one read_other. (
        refused-twenty one other a b read_one read_other,
        twenty-refused one other a b read_one read_other,
      );
      twenty_one = λ one other a b read_one read_other alike. (
        refused_why one other a b read_one read_other alike,
        why-refused one other a b read_one read_other alike,
      );
    }
