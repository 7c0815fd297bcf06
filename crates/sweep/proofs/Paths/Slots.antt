-- The definition's slots after a place, case by case: at t, where no path ends there, and where j is the highest index that
-- does. Over any `left`.
use Prim.Native.Nat.{ℕ, ◌<◌}
use mathlib.Core.Bool.{Bool, true, false, ◌&&◌}
use mathlib.Core.List.{◌∷◌}
use mathlib.Core.Logic.{◌≢◌}
use mathlib.Core.Path.{◌≡◌, refl}
use native.Mathlib.Omega.{arith}
use lib.Dec.{eqb}
use borrow.Author.Tests.{eq-eqb, ne_eqb}
use Rattle.definitions.specs.Outcome.{pick}
use Rattle.definitions.specs.Sweep as Sweep
use Rattle.theory.specs.PlaceSweep.{Slot, end_of, extend, slot_at_t, settle, highest_at, shifted_slot, slot_after}
use Rattle.theory.proofs.SweepSettle.{extend-some}

module _ (left : ℕ → ℕ → ℕ) (k t v : ℕ) (slots : ℕ → Slot) where
  pub after-t : v ≡ t → (i : ℕ) → slot_after left k t v slots i ≡ slot_at_t left t (slots i) i
  unfolding Sweep.slot_after
  after-t at i = rw (eq-eqb v t at)

  module _ (other : v ≢ t) where
    pub after_none : highest_at k t v slots ≡ 0 → (i : ℕ) → slot_after left k t v slots i ≡ slots i
    unfolding Sweep.slot_after Sweep.slot_elsewhere
    after_none none i = rw (ne_eqb v t other, eq-eqb (highest_at k t v slots) 0 none)

    module _ (some : 0 < highest_at k t v slots) where
      pub after-other : (i : ℕ) → i ≢ highest_at k t v slots
          → slot_after left k t v slots i ≡ shifted_slot left k t v (highest_at k t v slots) slots i
      unfolding Sweep.slot_after Sweep.slot_elsewhere
      after-other i apart =
          rw (ne_eqb v t other, ne_eqb (highest_at k t v slots) 0 (λ e. omega arith), ne_eqb i (highest_at k t v slots) apart)

      pub after-highest : slot_after left k t v slots (highest_at k t v slots)
          ≡ settle left v (highest_at k t v slots) (shifted_slot left k t v (highest_at k t v slots) slots (highest_at k t v slots))
      unfolding Sweep.slot_after Sweep.slot_elsewhere
      after-highest =
          rw (ne_eqb v t other, ne_eqb (highest_at k t v slots) 0 (λ e. omega arith), eq-eqb (highest_at k t v slots) (highest_at k t v slots) refl)

-- The paths of an index that is settled at v.
module _ (left : ℕ → ℕ → ℕ) (v j : ℕ) (slot : Slot) where
  pub settled-goes_a : end_of slot.path_a ≡ v → end_of slot.path_b ≢ v → 0 < left j v → (settle left v j slot).path_a ≡ left j v ∷ slot.path_a
  unfolding Sweep.settle
  settled-goes_a at off some = rw (eq-eqb (end_of slot.path_a) v at, ne_eqb (end_of slot.path_b) v off) (extend-some (left j v) slot.path_a some)

  pub settled-goes_b : end_of slot.path_b ≡ v → end_of slot.path_a ≢ v → 0 < left j v → (settle left v j slot).path_b ≡ left j v ∷ slot.path_b
  unfolding Sweep.settle
  settled-goes_b at off some = rw (eq-eqb (end_of slot.path_b) v at, ne_eqb (end_of slot.path_a) v off) (extend-some (left j v) slot.path_b some)

  pub settled-meets_a : end_of slot.path_a ≡ v → end_of slot.path_b ≡ v → (settle left v j slot).path_a ≡ slot.path_a
  unfolding Sweep.settle
  settled-meets_a at at' = rw (eq-eqb (end_of slot.path_a) v at, eq-eqb (end_of slot.path_b) v at')

  pub settled-meets_b : end_of slot.path_a ≡ v → end_of slot.path_b ≡ v → (settle left v j slot).path_b ≡ slot.path_b
  unfolding Sweep.settle
  settled-meets_b at at' = rw (eq-eqb (end_of slot.path_a) v at, eq-eqb (end_of slot.path_b) v at')

  pub settled-waits_a : end_of slot.path_a ≢ v → (settle left v j slot).path_a ≡ slot.path_a
  unfolding Sweep.settle
  settled-waits_a off = rw (ne_eqb (end_of slot.path_a) v off)

  pub settled-waits_b : end_of slot.path_b ≢ v → (settle left v j slot).path_b ≡ slot.path_b
  unfolding Sweep.settle
  settled-waits_b off = rw (ne_eqb (end_of slot.path_b) v off) (go (eqb (end_of slot.path_a) v))
    where
      go : (b : Bool) → (pick {A = Slot} (b && false)
          (record { is_open = false; path_a = slot.path_a; path_b = slot.path_b })
          (record {
            is_open = slot.is_open;
            path_a = pick b (extend (left j v) slot.path_a) slot.path_a;
            path_b = slot.path_b;
          })).path_b ≡ slot.path_b
      go true = refl
      go false = refl

-- The paths of an index at t.
module _ (left : ℕ → ℕ → ℕ) (t : ℕ) (slot : Slot) (i : ℕ) where
  pub at-t-A : (slot_at_t left t slot i).path_a ≡ slot.path_a
  unfolding Sweep.slot_at_t
  at-t-A = go (eqb (end_of slot.path_a) t)
    where
      go : (b : Bool) → (pick {A = Slot} b
          (record { is_open = false; path_a = slot.path_a; path_b = slot.path_b })
          (record { is_open = slot.is_open; path_a = slot.path_a; path_b = extend (left i t) slot.path_b })).path_a ≡ slot.path_a
      go true = refl
      go false = refl

  pub at-t-meets : end_of slot.path_a ≡ t → (slot_at_t left t slot i).path_b ≡ slot.path_b
  unfolding Sweep.slot_at_t
  at-t-meets at = rw (eq-eqb (end_of slot.path_a) t at)

  pub at-t-goes : end_of slot.path_a ≢ t → 0 < left i t → (slot_at_t left t slot i).path_b ≡ left i t ∷ slot.path_b
  unfolding Sweep.slot_at_t
  at-t-goes off some = rw (ne_eqb (end_of slot.path_a) t off) (extend-some (left i t) slot.path_b some)
