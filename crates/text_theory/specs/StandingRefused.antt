-- Two texts of which neither stands: turned round the refusal is the same, and 21 is given just for serials half their range apart or
-- equal on different bytes. Assumes nothing.
use Rattle.std.specs.Prelude.{ℕ, Bool, true, false, not, ◌&&◌, List, ◌⊎◌, ◌≡◌, refl, eqb}
use Rattle.std.proofs.Common.{inl, inr, sym, ◌∙◌, ap, ap₂, arith, eqb-true, ne_eqb}
use Rattle.std.proofs.lemmas.Bool.{eqb-false}
use Rattle.definitions.specs.Outcome.{pick, Outcome, refused, done, refuse_if, and_then}
use Rattle.definitions.specs.Reports.{Report, read_report}
use Rattle.definitions.specs.Stands.{ahead, same_list, Which, first, second, of_one_relay, standing}
use Rattle.definitions.specs.StandsPromise.{HalfApart}
use Rattle.lists.specs.Tests.{eqb-sym}
use Rattle.text_theory.specs.Serials.{ahead-self, neither-half, half-neither}
use Rattle.text_theory.specs.ReportRoundTrip.{report-nineteen}
use Rattle.text_theory.specs.StandingTurned.{same_lists, lists-same, same-turned, in-range, alike_turned, judged}

-- Of two reports of one relay neither stands: neither is ahead, and they are not the same.
pub record Undecided (one other : List ℕ) (a b : Report) : Type 0 where
  pub not_second : ahead b.serial a.serial ≡ false
  pub not_first : ahead a.serial b.serial ≡ false
  pub not_same : (eqb a.serial b.serial && same_list one other) ≡ false

pub undecided : (one other : List ℕ) (a b : Report) (number place : ℕ) → of_one_relay one other a b ≡ refused number place
    → Undecided one other a b × (number ≡ 21) × (place ≡ 0)
unfolding of_one_relay
undecided one other a b number place e =
    go (ahead b.serial a.serial) refl (ahead a.serial b.serial) refl (eqb a.serial b.serial && same_list one other) refl e
  where
    go : (x : Bool) → ahead b.serial a.serial ≡ x → (y : Bool) → ahead a.serial b.serial ≡ y
        → (z : Bool) → (eqb a.serial b.serial && same_list one other) ≡ z
        → pick x (done second) (pick y (done first) (pick z (done first) (refused 21 0))) ≡ refused number place
        → Undecided one other a b × (number ≡ 21) × (place ≡ 0)
    go true p y q z r e = let d : ◌≡◌ {A = ℕ} 0 1 = cc in absurd (omega arith)
    go false p true q z r e = let d : ◌≡◌ {A = ℕ} 0 1 = cc in absurd (omega arith)
    go false p false q true r e = let d : ◌≡◌ {A = ℕ} 0 1 = cc in absurd (omega arith)
    go false p false q false r e = (record { not_second = p; not_first = q; not_same = r }, cc, cc)

refused-so : (one other : List ℕ) (a b : Report) → Undecided one other a b → of_one_relay one other a b ≡ refused 21 0
unfolding of_one_relay
refused-so one other a b u = rw (u.not_second, u.not_first, u.not_same)

undecided-turned : (one other : List ℕ) (a b : Report) → Undecided one other a b → Undecided other one b a
undecided-turned one other a b u =
    record {
      not_second = u.not_first;
      not_first = u.not_second;
      not_same = ap₂ ◌&&◌ (eqb-sym b.serial a.serial) (same-turned other one) ∙ u.not_same;
    }

decided-refused : (one other : List ℕ) (a b : Report) (number place : ℕ) → of_one_relay one other a b ≡ refused number place
    → of_one_relay other one b a ≡ refused number place
decided-refused one other a b number place e =
    let (u, is_number, is_place) = undecided one other a b number place e in
    rw (is_number, is_place) (refused-so other one b a (undecided-turned one other a b u))

same-refusal : (n p m q : ℕ) → (n ≡ 19) × (p ≡ 0) → (m ≡ 19) × (q ≡ 0) → ◌≡◌ {A = Outcome Which} (refused n p) (refused m q)
same-refusal n p m q a b = rw (a.0, a.1, b.0, b.1)

pub refused-turned : (one other : List ℕ) (number place : ℕ) → standing one other ≡ refused number place
    → standing other one ≡ refused number place
unfolding standing and_then refuse_if
refused-turned one other number place e = go (read_report one) refl (read_report other) refl e
  where
    unlike : (a b : Report) (t : Bool) → not (eqb a.relay b.relay) ≡ t
        → refuse_if t 20 0 (of_one_relay one other a b) ≡ refused number place
        → refuse_if t 20 0 (of_one_relay other one b a) ≡ refused number place
    unlike a b true s e = e
    unlike a b false s e = decided-refused one other a b number place e

    go : (x : Outcome Report) → read_report one ≡ x → (y : Outcome Report) → read_report other ≡ y
        → and_then x (λ a. and_then y λ b. refuse_if (not (eqb a.relay b.relay)) 20 0 (of_one_relay one other a b)) ≡ refused number place
        → and_then y (λ b. and_then x λ a. refuse_if (not (eqb b.relay a.relay)) 20 0 (of_one_relay other one b a)) ≡ refused number place
    go (refused n p) f (refused m q) g e = same-refusal m q n p (report-nineteen other m q g) (report-nineteen one n p f) ∙ e
    go (refused n p) f (done b) g e = e
    go (done a) f (refused m q) g e = e
    go (done a) f (done b) g e =
        ap (λ (t : Bool). refuse_if t 20 0 (of_one_relay other one b a)) (alike_turned b a)
        ∙ unlike a b (not (eqb a.relay b.relay)) refl e

module _ (one other : List ℕ) (a b : Report) (read_one : read_report one ≡ done a) (read_other : read_report other ≡ done b) (alike : a.relay ≡ b.relay) where
  pub refused_why : standing one other ≡ refused 21 0
      → HalfApart a.serial b.serial ⊎ ((a.serial ≡ b.serial) × (one ≡ other → ⊥))
  refused_why e =
      let (u, is_number, is_place) = undecided one other a b 21 0 (sym (judged one other a b read_one read_other alike) ∙ e) in
      go u.not_second u.not_first (eqb a.serial b.serial) refl u.not_same
    where
      go : ahead b.serial a.serial ≡ false → ahead a.serial b.serial ≡ false → (t : Bool) → eqb a.serial b.serial ≡ t
          → (t && same_list one other) ≡ false → HalfApart a.serial b.serial ⊎ ((a.serial ≡ b.serial) × (one ≡ other → ⊥))
      go p q true t r = inr (eqb-true a.serial b.serial t, λ same. differ same r)
        where
          differ : one ≡ other → same_list one other ≡ false → ⊥
          differ same r = let d : true ≡ false = sym (lists-same one) ∙ ap (same_list one) same ∙ r in let z : ◌≡◌ {A = ℕ} 0 1 = cc in omega arith
      go p q false t r =
          inl (neither-half a.serial b.serial (in-range one a read_one) (in-range other b read_other) q p (eqb-false a.serial b.serial t))

  pub why-refused : HalfApart a.serial b.serial ⊎ ((a.serial ≡ b.serial) × (one ≡ other → ⊥)) → standing one other ≡ refused 21 0
  why-refused why = judged one other a b read_one read_other alike ∙ refused-so one other a b (go why)
    where
      apart : HalfApart a.serial b.serial → a.serial ≡ b.serial → ⊥
      apart (inl e) same = omega arith
      apart (inr e) same = omega arith

      unlike : (one ≡ other → ⊥) → (s : Bool) → same_list one other ≡ s → s ≡ false
      unlike differ true e = absurd (differ (same_lists one other e))
      unlike differ false e = refl

      first-false : (s t : Bool) → s ≡ false → (s && t) ≡ false
      first-false true t e = absurd (let z : ◌≡◌ {A = ℕ} 0 1 = cc in omega arith)
      first-false false t e = refl

      second-false : (s t : Bool) → t ≡ false → (s && t) ≡ false
      second-false true t e = e
      second-false false t e = refl

      go : HalfApart a.serial b.serial ⊎ ((a.serial ≡ b.serial) × (one ≡ other → ⊥)) → Undecided one other a b
      go (inl half) =
          let none = half-neither a.serial b.serial (in-range one a read_one) (in-range other b read_other) half in
          record {
            not_second = none.1;
            not_first = none.0;
            not_same = first-false (eqb a.serial b.serial) (same_list one other) (ne_eqb a.serial b.serial (apart half));
          }
      go (inr equal) =
          record {
            not_second = ahead-self b.serial a.serial (in-range other b read_other) (sym equal.0);
            not_first = ahead-self a.serial b.serial (in-range one a read_one) equal.0;
            not_same = second-false (eqb a.serial b.serial) (same_list one other) (unlike equal.1 (same_list one other) refl);
          }
