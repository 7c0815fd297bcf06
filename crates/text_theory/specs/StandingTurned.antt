-- Which of two reports stands, turned round; equal texts; and when neither stands. Assumes nothing.
use Rattle.std.specs.Prelude.{ℕ, ◌≤◌, Bool, true, false, not, ◌&&◌, List, [], ◌∷◌, ◌≡◌, refl, eqb}
use Rattle.std.proofs.lemmas.Bool.{false≢true}
use Rattle.std.proofs.Common.{sym, ◌∙◌, ap, ap₂, subst, arith, eqb-true, eq-eqb}
use Rattle.definitions.specs.Outcome.{pick, Outcome, refused, done, refuse_if, and_then}
use Rattle.definitions.specs.Reports.{Report, read_report}
use Rattle.definitions.specs.Stands.{ahead, same_list, Which, first, second, of_one_relay, standing}
use Rattle.definitions.specs.StandsPromise.{turned}
use Rattle.lists.specs.Tests.{and_both, and-all, eqb-sym, tests_same}
use Rattle.lists.specs.Outcomes.{not-refused, refuse-not, then-done}
use Rattle.lists.specs.SameOutcomes.{done-then}
use Rattle.text_theory.specs.Serials.{ahead-once, ahead-self}
use Rattle.text_theory.specs.ReportRoundTrip.{report-written}

pub same_lists : (one other : List ℕ) → same_list one other ≡ true → one ≡ other
unfolding same_list
same_lists [] [] e = refl
same_lists [] (y ∷ other) e = absurd (false≢true e)
same_lists (x ∷ one) [] e = absurd (false≢true e)
same_lists (x ∷ one) (y ∷ other) e =
    let both = and_both (eqb x y) (same_list one other) e in
    ap₂ ◌∷◌ (eqb-true x y both.0) (same_lists one other both.1)

pub lists-same : (one : List ℕ) → same_list one one ≡ true
unfolding same_list
lists-same [] = refl
lists-same (x ∷ one) = and-all (eqb x x) (same_list one one) (eq-eqb x x refl) (lists-same one)

pub same-turned : (one other : List ℕ) → same_list one other ≡ same_list other one
same-turned one other =
    tests_same (same_list one other) (same_list other one)
    (λ e. subst (λ (l : List ℕ). same_list l one ≡ true) (same_lists one other e) (lists-same one))
    (λ e. subst (λ (l : List ℕ). same_list l other ≡ true) (same_lists other one e) (lists-same other))

-- A serial that was read is in range.
pub in-range : (text : List ℕ) (report : Report) → read_report text ≡ done report → report.serial ≤ 4294967295
in-range text report e = (report-written text report e).0.range

-- Two texts that are read are judged by their reports.
pub both_read : (one other : List ℕ) (a b : Report) → read_report one ≡ done a → read_report other ≡ done b
    → standing one other ≡ refuse_if (not (eqb a.relay b.relay)) 20 0 (of_one_relay one other a b)
unfolding standing
both_read one other a b e f =
    then-done (read_report one)
    (λ a. and_then (read_report other) λ b. refuse_if (not (eqb a.relay b.relay)) 20 0 (of_one_relay one other a b)) a e
    ∙ then-done (read_report other) (λ b. refuse_if (not (eqb a.relay b.relay)) 20 0 (of_one_relay one other a b)) b f

-- Of reports of one relay the serials decide.
pub judged : (one other : List ℕ) (a b : Report) → read_report one ≡ done a → read_report other ≡ done b → a.relay ≡ b.relay
    → standing one other ≡ of_one_relay one other a b
judged one other a b read_one read_other alike =
    both_read one other a b read_one read_other
    ∙ refuse-not (not (eqb a.relay b.relay)) 20 0 (of_one_relay one other a b) (ap not (eq-eqb a.relay b.relay alike))

-- One of two stands only if both are reports of one relay.
record Stood (one other : List ℕ) (chosen : Which) : Type 0 where
  a : Report
  b : Report
  read_one : read_report one ≡ done a
  read_other : read_report other ≡ done b
  alike : not (eqb a.relay b.relay) ≡ false
  decides : of_one_relay one other a b ≡ done chosen

stood : (one other : List ℕ) (chosen : Which) → standing one other ≡ done chosen → Stood one other chosen
unfolding standing
stood one other chosen e =
    let (a, read_one, rest) =
    done-then (read_report one)
    (λ a. and_then (read_report other) λ b. refuse_if (not (eqb a.relay b.relay)) 20 0 (of_one_relay one other a b)) chosen e in
    let (b, read_other, last) =
    done-then (read_report other) (λ b. refuse_if (not (eqb a.relay b.relay)) 20 0 (of_one_relay one other a b)) chosen rest in
    let decides = not-refused (not (eqb a.relay b.relay)) 20 0 (of_one_relay one other a b) chosen last in
    record { a = a; b = b; read_one = read_one; read_other = read_other; alike = decides.0; decides = decides.1 }

pub alike_turned : (a b : Report) → not (eqb a.relay b.relay) ≡ not (eqb b.relay a.relay)
alike_turned a b = ap not (eqb-sym a.relay b.relay)

pub not-both : ◌≡◌ {A = Outcome Which} (done first) (done second) → ⊥
not-both e = let c : ◌≡◌ {A = Which} first second = cc in let d : ◌≡◌ {A = ℕ} 0 1 = cc in omega arith

decided-turned : (one other : List ℕ) (a b : Report) (chosen : Which) → a.serial ≤ 4294967295 → b.serial ≤ 4294967295
    → (one ≡ other → ⊥) → of_one_relay one other a b ≡ done chosen → of_one_relay other one b a ≡ done (turned chosen)
unfolding of_one_relay turned
decided-turned one other a b chosen h k apart e =
    go (ahead b.serial a.serial) refl (ahead a.serial b.serial) refl (eqb a.serial b.serial && same_list one other) refl chosen e
  where
    go : (x : Bool) → ahead b.serial a.serial ≡ x → (y : Bool) → ahead a.serial b.serial ≡ y
        → (z : Bool) → (eqb a.serial b.serial && same_list one other) ≡ z
        → (chosen : Which) → pick x (done second) (pick y (done first) (pick z (done first) (refused 21 0))) ≡ done chosen
        → pick y (done second)
        (pick x (done first) (pick (eqb b.serial a.serial && same_list other one) (done first) (refused 21 0)))
        ≡ done (turned chosen)
    go true p true q z r chosen e = absurd (ahead-once b.serial a.serial k h p q)
    go true p false q z r first e = absurd (not-both (sym e))
    go true p false q z r second e = refl
    go false p true q z r first e = refl
    go false p true q z r second e = absurd (not-both e)
    go false p false q true r chosen e = absurd (apart (same_lists one other (and_both (eqb a.serial b.serial) (same_list one other) r).1))
    go false p false q false r chosen e = let d : ◌≡◌ {A = ℕ} 0 1 = cc in absurd (omega arith)

pub standing-turned : (one other : List ℕ) (chosen : Which) → (one ≡ other → ⊥) → standing one other ≡ done chosen
    → standing other one ≡ done (turned chosen)
standing-turned one other chosen apart e =
    let s = stood one other chosen e in
    both_read other one s.b s.a s.read_other s.read_one
    ∙ refuse-not (not (eqb s.b.relay s.a.relay)) 20 0 (of_one_relay other one s.b s.a)
    (sym (alike_turned s.a s.b) ∙ s.alike)
    ∙ decided-turned one other s.a s.b chosen (in-range one s.a s.read_one) (in-range other s.b s.read_other) apart s.decides

-- "With equal serials and equal bytes the first stands."
pub standing-same : (text : List ℕ) (report : Report) → read_report text ≡ done report → standing text text ≡ done first
unfolding of_one_relay
standing-same text report e =
    let none = ahead-self report.serial report.serial (in-range text report e) refl in
    both_read text text report report e e
    ∙ refuse-not (not (eqb report.relay report.relay)) 20 0 (of_one_relay text text report report)
    (ap not (eq-eqb report.relay report.relay refl))
    ∙ rw (none, eq-eqb report.serial report.serial refl, lists-same text)
