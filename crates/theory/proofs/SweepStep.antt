-- One step of the sweep keeps its invariant, at t and elsewhere, and no path ever rests: what is appended is a place.
-- Over any `left` with the laws, where t and s are in one tree of forest k.
use Rattle.std.specs.Prelude.{ℕ, suc, ◌≤◌, ◌<◌, Bool, ◌⊎◌, ◌≢◌, ◌≡◌}
use Rattle.std.proofs.Math.Decide.{dec_lt}
use native.Mathlib.Omega.{arith}
use Rattle.std.proofs.Math.Bool.{true, false}
use mathlib.Core.List.{List, [], ◌∷◌}
use Rattle.std.proofs.Common.{inl, inr, sym, ◌∙◌, ap}
use Rattle.std.proofs.Math.Logic.{by_cases}
use Rattle.std.proofs.Math.Path.{refl, subst}
use Rattle.std.proofs.Math.Dec.{eqb}
use borrow.Author.Tests.{eqb-true, eqb-false, eq-eqb, ne_eqb}
use Rattle.definitions.specs.Outcome.{pick}
use Rattle.definitions.specs.Lists.{has}
use Rattle.definitions.specs.Sweep as Sweep
use Rattle.lists.specs.Searches.{clash}
use Rattle.lists.specs.Cases.{has-nil, has-cases}
use Rattle.theory.specs.PlaceSweep.{Slot, end_of, extend, slot_at_t, ends_a, ends_b, downshift, settle, highest_at, shifted_slot, slot_elsewhere, slot_after}
use Rattle.theory.specs.LeftLaws.{LeftLaws}
use Rattle.theory.proofs.Trees.{Alive}
use Rattle.theory.proofs.SweepPaths.{OpenPath, open-end, open_above, open-past, open-longer, trail-start}
use Rattle.theory.proofs.SweepSide.{Passed, none_passes, shift_passes}
use Rattle.theory.proofs.SweepInvariant.{OpenSlot, ClosedSlot, Sweeping, goes, open-slot}
use Rattle.theory.proofs.SweepSettle.{SlotState, extend-some, extend-has, unended, goes_on}
use Rattle.theory.proofs.SweepPassed.{with_paths, passed-sweeping}
use Rattle.theory.proofs.SweepReady.{ready_a, ready_b, highest_a, highest_b, highest-none}

module _ (left : ℕ → ℕ → ℕ) (laws : LeftLaws left) (k s t : ℕ) (less : t < s) (alive : Alive left k t s) where
  module _ (v : ℕ) (slots : ℕ → Slot) (inv : Sweeping left k s t (suc v) slots) where
    -- Where v + 1 is not t.
    module _ (other : suc v ≢ t) where
      abbrev j : ℕ
      j = highest_at k t (suc v) slots

      abbrev after_a : ℕ → List ℕ
      after_a = downshift left k j (λ i. ends_a (suc v) (slots i)) (λ i. (slots i).path_a)

      abbrev after_b : ℕ → List ℕ
      after_b = downshift left k j (λ i. ends_b t (suc v) (slots i)) (λ i. (slots i).path_b)

      -- What the two sides have after the shift.
      pub passed_a : 0 < j → Passed left k s s j v (λ i. (slots i).is_open) (λ i. (slots i).path_a) after_a
      passed_a some =
          shift_passes left laws k s s j v (λ i. (slots i).is_open) (λ i. ends_a (suc v) (slots i)) (λ i. (slots i).path_a)
          (ready_a left laws k s t (suc v) slots inv) (highest_a k t (suc v) slots some)

      pub passed_b : 0 < j → Passed left k s t j v (λ i. (slots i).is_open) (λ i. (slots i).path_b) after_b
      passed_b some =
          shift_passes left laws k s t j v (λ i. (slots i).is_open) (λ i. ends_b t (suc v) (slots i)) (λ i. (slots i).path_b)
          (ready_b left laws k s t (suc v) slots inv other) (highest_b k t (suc v) slots some)

      elsewhere-sweeping : Sweeping left k s t v (slot_elsewhere left k t (suc v) slots)
      unfolding Sweep.slot_elsewhere Sweep.shifted_slot
      elsewhere-sweeping =
          by_cases (dec_lt 0 j)
          (λ some.
          passed-sweeping left laws k s t less alive v j slots (slot_elsewhere left k t (suc v) slots) inv other after_a after_b
          (passed_a some) (passed_b some)
          (λ i one le same. subst (λ (h : ℕ). (slots h).is_open ≡ true) (sym same) (highest_a k t (suc v) slots some).is_open)
          (λ i one le differ. rw (ne_eqb j 0 (omega arith), ne_eqb i j differ))
          (λ i one le same. rw (ne_eqb j 0 (omega arith), eq-eqb i j same) (ap (λ (h : ℕ). settle left (suc v) h (with_paths slots after_a after_b i)) (sym same))))
          (λ none.
          let zero' : j ≡ 0 = omega arith in
          passed-sweeping left laws k s t less alive v j slots (slot_elsewhere left k t (suc v) slots) inv other (λ i. (slots i).path_a) (λ i. (slots i).path_b)
          (none_passes left laws k s s j v (λ i. (slots i).is_open) (λ i. ends_a (suc v) (slots i)) (λ i. (slots i).path_a)
          (ready_a left laws k s t (suc v) slots inv) (λ i one le. (highest-none k t (suc v) slots zero' i one le).0))
          (none_passes left laws k s t j v (λ i. (slots i).is_open) (λ i. ends_b t (suc v) (slots i)) (λ i. (slots i).path_b)
          (ready_b left laws k s t (suc v) slots inv other) (λ i one le. (highest-none k t (suc v) slots zero' i one le).1))
          (λ i one le same. absurd (omega arith))
          (λ i one le differ. rw (eq-eqb j 0 zero'))
          (λ i one le same. absurd (omega arith)))

      -- Where not both paths of the highest index end at v + 1, that place has the neighbour that is appended.
      pub never-rests : 0 < j
          → (end_of (shifted_slot left k t (suc v) j slots j).path_a ≢ suc v) ⊎ (end_of (shifted_slot left k t (suc v) j slots j).path_b ≢ suc v)
          → 0 < left j (suc v)
      unfolding Sweep.shifted_slot
      never-rests some (inl off) =
          let opn : (slots j).is_open ≡ true = (highest_a k t (suc v) slots some).is_open in
          let le : j ≤ k = (highest_a k t (suc v) slots some).bound in
          (goes_on left laws k s t s v j (after_a j) alive (omega arith) (omega (arith, inv.below)) some le
          (unended left laws k s s j v j (after_a j) ((passed_a some).shifted j some le opn) off)).0
      never-rests some (inr off) =
          let opn : (slots j).is_open ≡ true = (highest_a k t (suc v) slots some).is_open in
          let le : j ≤ k = (highest_a k t (suc v) slots some).bound in
          (goes_on left laws k s t t v j (after_b j) alive (omega arith) (omega (arith, inv.below)) some le
          (unended left laws k s t j v j (after_b j) ((passed_b some).shifted j some le opn) off)).0

    -- Where v + 1 is t.
    module _ (at : suc v ≡ t) where
      module _ (i : ℕ) (one : 1 ≤ i) (le : i ≤ k) where
        at-t-open : (b : Bool) → (slots i).is_open ≡ b → b ≡ true
        at-t-open true e = refl
        at-t-open false e =
            let c : ClosedSlot left k s t (suc v) i (slots i) = inv.closed i one le e in
            absurd (omega (arith, c.above, trail-start left laws k t c.meet c.rest_b c.trail_b))

        state : OpenSlot left k s t (suc v) i (slots i)
        state = inv.opened i one le (at-t-open (slots i).is_open refl)

        -- Every path that does not end at t finds its neighbour of t.
        pub never-rests-at : end_of (slots i).path_a ≢ t → 0 < left i t
        never-rests-at off = state.side_a.alive t (omega (arith, open-end state.side_a, state.side_a.low)) (omega arith)

        at-t-state : SlotState left k s t v i (slot_at_t left t (slots i) i)
        unfolding Sweep.slot_at_t
        at-t-state = go (eqb (end_of (slots i).path_a) t) refl
          where
            o : OpenPath left k s s i (suc v) (slots i).path_a
            o = state.side_a

            B : (slots i).path_b ≡ t ∷ []
            B = state.alone (omega arith)

            go : (b : Bool) → eqb (end_of (slots i).path_a) t ≡ b
                → SlotState left k s t v i
                (pick b
                (record { is_open = false; path_a = (slots i).path_a; path_b = (slots i).path_b })
                (record { is_open = (slots i).is_open; path_a = (slots i).path_a; path_b = extend (left i t) (slots i).path_b }))
            go true e =
                let meets : o.end ≡ t = sym (open-end o) ∙ eqb-true (end_of (slots i).path_a) t e in
                record {
                  opened = λ opn. absurd (clash opn refl);
                  closed = λ _.
                      record {
                        meet = t;
                        before = o.before;
                        rest_a = o.rest;
                        rest_b = [];
                        shape_a = o.shape ∙ ap (λ (x : ℕ). x ∷ o.before ∷ o.rest) meets;
                        shape_b = B;
                        above = omega arith;
                        trail_a = ((i, one, le, omega arith, o.link ∙ meets), o.trail);
                        trail_b = refl;
                        direct = λ _. o.link ∙ meets;
                        without = λ _. refl;
                      };
                }
            go false e =
                let off : end_of (slots i).path_a ≢ t = eqb-false (end_of (slots i).path_a) t e in
                let some : 0 < left i t = never-rests-at off in
                let low : o.end < t = omega (arith, open-end o, o.low) in
                let longer : OpenPath left k s t i v (left i t ∷ t ∷ []) =
                subst (λ (x : ℕ). OpenPath left k s t i v (left i x ∷ x ∷ [])) at
                (open-longer left laws k s t v i [] (subst (λ (x : ℕ). 0 < left i x) (sym at) some)
                (λ x above upto. o.alive x (omega arith) upto) at) in
                record {
                  opened = λ _.
                      open-slot left laws k s t v i
                      (record { is_open = (slots i).is_open; path_a = (slots i).path_a; path_b = extend (left i t) (slots i).path_b })
                      (omega (arith, inv.below))
                      (goes (open-past left laws k s s v i (slots i).path_a o (λ same. omega arith)))
                      (goes (subst (λ (p : List ℕ). OpenPath left k s t i v p)
                      (sym (extend-some (left i t) (slots i).path_b some ∙ ap (λ (p : List ℕ). left i t ∷ p) B)) longer))
                      (λ before h. missing (open_above left laws k s s (suc v) i (slots i).path_a o t h) low);
                  closed = λ shut. absurd (clash (at-t-open (slots i).is_open refl) shut);
                }
              where
                missing : (t ≡ o.end) ⊎ ((suc v < t) × (has (o.before ∷ o.rest) t ≡ true)) → o.end < t → ⊥
                missing (inl same) low = omega arith
                missing (inr p) low = omega arith

        at-t-has_a : (w : ℕ) → has (slot_at_t left t (slots i) i).path_a w ≡ true → has (slots i).path_a w ≡ true
        unfolding Sweep.slot_at_t
        at-t-has_a w = go (eqb (end_of (slots i).path_a) t)
          where
            go : (b : Bool)
                → has (pick {A = Slot} b
                (record { is_open = false; path_a = (slots i).path_a; path_b = (slots i).path_b })
                (record { is_open = (slots i).is_open; path_a = (slots i).path_a; path_b = extend (left i t) (slots i).path_b })).path_a w ≡ true
                → has (slots i).path_a w ≡ true
            go true h = h
            go false h = h

        -- B(i) has no relay above t.
        at-t-has_b : (w : ℕ) → t < w → has (slot_at_t left t (slots i) i).path_b w ≡ true → ⊥
        unfolding Sweep.slot_at_t
        at-t-has_b w above = go (eqb (end_of (slots i).path_a) t)
          where
            only : (t ≡ w) ⊎ (has [] w ≡ true) → ⊥
            only (inl e) = omega arith
            only (inr h) = clash h (has-nil w)

            B : has (slots i).path_b w ≡ true → ⊥
            B h = only (has-cases t [] w (subst (λ (p : List ℕ). has p w ≡ true) (state.alone (omega arith)) h))

            go : (b : Bool)
                → has (pick {A = Slot} b
                (record { is_open = false; path_a = (slots i).path_a; path_b = (slots i).path_b })
                (record { is_open = (slots i).is_open; path_a = (slots i).path_a; path_b = extend (left i t) (slots i).path_b })).path_b w ≡ true
                → ⊥
            go true h = B h
            go false h = B (extend-has left laws t i w (slots i).path_b (omega arith) h)

      at-t-sweeping : Sweeping left k s t v (λ i. slot_at_t left t (slots i) i)
      at-t-sweeping =
          record {
            below = omega (arith, inv.below);
            opened = λ i one le. (at-t-state i one le).opened;
            closed = λ i one le. (at-t-state i one le).closed;
            once_a = λ i h w one le one' le' above under differ in_i in_h.
                inv.once_a i h w one le one' le' (omega arith) under differ (at-t-has_a i one le w in_i) (at-t-has_a h one' le' w in_h);
            once_b = λ i h w one le one' le' above under differ in_i in_h. absurd (at-t-has_b i one le w (omega arith) in_i);
            cross = λ i h w one le one' le' above under differ in_i in_h. absurd (at-t-has_b h one' le' w (omega arith) in_h);
          }

    pub step-sweeping : Sweeping left k s t v (slot_after left k t (suc v) slots)
    unfolding Sweep.slot_after
    step-sweeping = go (eqb (suc v) t) refl
      where
        go : (b : Bool) → eqb (suc v) t ≡ b
            → Sweeping left k s t v (λ i. pick b (slot_at_t left t (slots i) i) (slot_elsewhere left k t (suc v) slots i))
        go true e = at-t-sweeping (eqb-true (suc v) t e)
        go false e = elsewhere-sweeping (eqb-false (suc v) t e)
