-- The sweep's invariant after v + 1 where that is not t: from what each side has after the shift, and j settled.
-- Over any `left` with the laws, where t and s are in one tree of forest k.
use Rattle.std.specs.Prelude.{ℕ, suc, ◌≤◌, ◌<◌, true, false, List, ◌⊎◌, ◌≢◌, ◌≡◌}
use Rattle.std.proofs.Math.Decide.{ℕ_discrete}
use Rattle.std.proofs.Common.{arith, inl, inr, sym, ◌∙◌, ap, subst}
use Rattle.std.proofs.Math.Logic.{by_cases}
use Rattle.definitions.specs.Lists.{has}
use Rattle.lists.specs.Searches.{clash}
use Rattle.theory.specs.PlaceSweep.{Slot, end_of, settle}
use Rattle.theory.specs.LeftLaws.{LeftLaws}
use Rattle.theory.proofs.Trees.{Alive}
use Rattle.theory.proofs.SweepSide.{Shifted, Passed, passed-once}
use Rattle.theory.proofs.SweepInvariant.{ClosedSlot, Sweeping, open-slot}
use Rattle.theory.proofs.SweepSettle.{SlotState, settle-both, settle-has_a, settle-has_b, lower, settled}

-- The slots with other paths.
abbrev pub with_paths : (slots : ℕ → Slot) (new_a new_b : ℕ → List ℕ) (i : ℕ) → Slot
with_paths slots new_a new_b i = record { is_open = (slots i).is_open; path_a = new_a i; path_b = new_b i }

closed-past : {left : ℕ → ℕ → ℕ} {k s t i : ℕ} {slot : Slot} (v : ℕ) → ClosedSlot left k s t (suc v) i slot → ClosedSlot left k s t v i slot
closed-past v c =
    record {
      meet = c.meet;
      before = c.before;
      rest_a = c.rest_a;
      rest_b = c.rest_b;
      shape_a = c.shape_a;
      shape_b = c.shape_b;
      above = omega (arith, c.above);
      trail_a = c.trail_a;
      trail_b = c.trail_b;
      direct = c.direct;
      without = c.without;
    }

module _ (left : ℕ → ℕ → ℕ) (laws : LeftLaws left) (k s t : ℕ) (less : t < s) (alive : Alive left k t s)
    (v j : ℕ) (slots new : ℕ → Slot) (inv : Sweeping left k s t (suc v) slots) (other : suc v ≢ t) (new_a new_b : ℕ → List ℕ)
    (pass_a : Passed left k s s j v (λ i. (slots i).is_open) (λ i. (slots i).path_a) new_a)
    (pass_b : Passed left k s t j v (λ i. (slots i).is_open) (λ i. (slots i).path_b) new_b)
    (high_open : (i : ℕ) → 1 ≤ i → i ≤ k → i ≡ j → (slots i).is_open ≡ true)
    (apart : (i : ℕ) → 1 ≤ i → i ≤ k → i ≢ j → new i ≡ with_paths slots new_a new_b i)
    (at : (i : ℕ) → 1 ≤ i → i ≤ k → i ≡ j → new i ≡ settle left (suc v) i (with_paths slots new_a new_b i)) where
  module _ (i : ℕ) (one : 1 ≤ i) (le : i ≤ k) where
    passed-without : (slots i).is_open ≡ true → v < t → has (new_a i) t ≡ true → ⊥
    passed-without opn before h = go (pass_a.comes i one le t before h)
      where
        bounds : (1 ≤ pass_a.from i) × (pass_a.from i ≤ k)
        bounds = pass_a.within i one le

        go : ((suc v < t) × (has (slots (pass_a.from i)).path_a t ≡ true)) ⊎ ((t ≡ suc v) × (i ≡ j) × (end_of (new_a i) ≡ suc v)) → ⊥
        go (inl p) = (inv.opened (pass_a.from i) bounds.0 bounds.1 (pass_a.from_open i one le ∙ opn)).without p.0 p.1
        go (inr p) = absurd (omega arith)

    passed-state : SlotState left k s t v i (new i)
    passed-state =
        by_cases (ℕ_discrete i j)
        (λ same.
        let opn : (slots i).is_open ≡ true = high_open i one le same in
        subst (λ (x : Slot). SlotState left k s t v i x) (sym (at i one le same))
        (settled left laws k s t v i less inv.below other alive one le (with_paths slots new_a new_b i) opn
        (subst (λ (h : ℕ). Shifted left k s s h v i (new_a i)) (sym same) (pass_a.shifted i one le opn))
        (subst (λ (h : ℕ). Shifted left k s t h v i (new_b i)) (sym same) (pass_b.shifted i one le opn))
        (passed-without opn)))
        (λ differ.
        subst (λ (x : Slot). SlotState left k s t v i x) (sym (apart i one le differ))
        (record {
          opened = λ opn.
              open-slot left laws k s t v i (with_paths slots new_a new_b i) (omega (arith, inv.below))
              (lower left laws k s s j v i (new_a i) (pass_a.shifted i one le opn) differ)
              (lower left laws k s t j v i (new_b i) (pass_b.shifted i one le opn) differ)
              (passed-without opn);
          closed = λ shut.
              let a : new_a i ≡ (slots i).path_a = (pass_a.from_closed i one le shut).1 in
              let b : new_b i ≡ (slots i).path_b = (pass_b.from_closed i one le shut).1 in
              let same : slots i ≡ with_paths slots new_a new_b i = λ n. record { is_open = (slots i).is_open; path_a = sym a n; path_b = sym b n } in
              subst (λ (x : Slot). ClosedSlot left k s t v i x) same (closed-past v (inv.closed i one le shut));
        }))

    passed-has_a : (w : ℕ) → suc v ≤ w → has (new i).path_a w ≡ true → has (new_a i) w ≡ true
    passed-has_a w upto h =
        by_cases (ℕ_discrete i j)
        (λ same. settle-has_a left laws (suc v) i w (with_paths slots new_a new_b i) upto (rw (at i one le same) at h))
        (λ differ. rw (apart i one le differ) at h)

    passed-has_b : (w : ℕ) → suc v ≤ w → has (new i).path_b w ≡ true → has (new_b i) w ≡ true
    passed-has_b w upto h =
        by_cases (ℕ_discrete i j)
        (λ same. settle-has_b left laws (suc v) i w (with_paths slots new_a new_b i) upto (rw (at i one le same) at h))
        (λ differ. rw (apart i one le differ) at h)

  passed-cross : (i h w : ℕ) → 1 ≤ i → i ≤ k → 1 ≤ h → h ≤ k → v < w → w < s → w ≢ t
      → has (new i).path_a w ≡ true → has (new h).path_b w ≡ true
      → (i ≡ h) × ((new i).is_open ≡ false) × (end_of (new i).path_a ≡ w)
  passed-cross i h w one le one' le' above under differ in_a in_b =
      go (pass_a.comes i one le w above (passed-has_a i one le w above in_a)) (pass_b.comes h one' le' w above (passed-has_b h one' le' w above in_b))
    where
      bounds : (1 ≤ pass_a.from i) × (pass_a.from i ≤ k)
      bounds = pass_a.within i one le

      bounds' : (1 ≤ pass_b.from h) × (pass_b.from h ≤ k)
      bounds' = pass_b.within h one' le'

      go : ((suc v < w) × (has (slots (pass_a.from i)).path_a w ≡ true)) ⊎ ((w ≡ suc v) × (i ≡ j) × (end_of (new_a i) ≡ suc v))
          → ((suc v < w) × (has (slots (pass_b.from h)).path_b w ≡ true)) ⊎ ((w ≡ suc v) × (h ≡ j) × (end_of (new_b h) ≡ suc v))
          → (i ≡ h) × ((new i).is_open ≡ false) × (end_of (new i).path_a ≡ w)
      go (inl p) (inl q) =
          let old : (pass_a.from i ≡ pass_b.from h) × ((slots (pass_a.from i)).is_open ≡ false) × (end_of (slots (pass_a.from i)).path_a ≡ w) =
          inv.cross (pass_a.from i) (pass_b.from h) w bounds.0 bounds.1 bounds'.0 bounds'.1 p.0 under differ p.1 q.1 in
          let shut : (slots i).is_open ≡ false = sym (pass_a.from_open i one le) ∙ old.1 in
          let shut' : (slots h).is_open ≡ false = sym (pass_b.from_open h one' le') ∙ sym (ap (λ (x : ℕ). (slots x).is_open) old.0) ∙ old.1 in
          let stay : (pass_a.from i ≡ i) × (new_a i ≡ (slots i).path_a) = pass_a.from_closed i one le shut in
          let stay' : (pass_b.from h ≡ h) × (new_b h ≡ (slots h).path_b) = pass_b.from_closed h one' le' shut' in
          let low : i ≢ j = λ same. clash (high_open i one le same) shut in (
            sym stay.0 ∙ old.0 ∙ stay'.0,
            ap (λ (x : Slot). x.is_open) (apart i one le low) ∙ shut,
            ap (λ (x : Slot). end_of x.path_a) (apart i one le low) ∙ ap end_of stay.1 ∙ ap (λ (x : ℕ). end_of (slots x).path_a) (sym stay.0) ∙ old.2,
          )
      go (inl p) (inr q) = absurd (omega arith)
      go (inr p) (inl q) = absurd (omega arith)
      go (inr p) (inr q) =
          let same : h ≡ i = q.1 ∙ sym p.1 in
          let end_b : end_of (new_b i) ≡ suc v = subst (λ (x : ℕ). end_of (new_b x) ≡ suc v) same q.2 in
          let shut : new i ≡ record { is_open = false; path_a = new_a i; path_b = new_b i } =
          at i one le p.1 ∙ settle-both left (suc v) i (with_paths slots new_a new_b i) p.2 end_b in
          (sym same, ap (λ (x : Slot). x.is_open) shut, ap (λ (x : Slot). end_of x.path_a) shut ∙ p.2 ∙ sym p.0)

  pub passed-sweeping : Sweeping left k s t v new
  passed-sweeping =
      record {
        below = omega (arith, inv.below);
        opened = λ i one le. (passed-state i one le).opened;
        closed = λ i one le. (passed-state i one le).closed;
        once_a = λ i h w one le one' le' above under differ in_i in_h.
            passed-once w pass_a (λ x y a b c d over. inv.once_a x y w a b c d over under differ) i h one le one' le' above
            (passed-has_a i one le w above in_i) (passed-has_a h one' le' w above in_h);
        once_b = λ i h w one le one' le' above under differ in_i in_h.
            passed-once w pass_b (λ x y a b c d over. inv.once_b x y w a b c d over under differ) i h one le one' le' above
            (passed-has_b i one le w above in_i) (passed-has_b h one' le' w above in_h);
        cross = passed-cross;
      }
