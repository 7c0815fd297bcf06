-- `swept_in` on the two sides' lists, from lists of zeros, ends with the paths of the definition's `sweep`. Over any `left` with
-- the laws, where t and s are in one tree of forest k, and k up to 32.
use Prim.Native.Nat.{ℕ, zero, suc, pred, ◌+◌, ◌*◌, ◌≤◌, ◌<◌}
use mathlib.Core.List.{List}
use mathlib.Core.Path.{◌≡◌, ap}
use native.Mathlib.Omega.{arith}
use Rattle.definitions.specs.Lists.{table}
use Rattle.definitions.specs.Forests.{Entry}
use Rattle.definitions.specs.Sweep as Sweep
use Rattle.definitions.specs.Sweep.{slot_at}
use Rattle.theory.specs.PlaceSweep.{Slot, start_slot, slot_after, slots_after, sweep_from, sweep}
use Rattle.theory.specs.LeftLaws.{LeftLaws}
use Rattle.theory.proofs.Trees.{Alive}
use Rattle.theory.proofs.SweepInvariant.{Sweeping}
use Rattle.theory.proofs.SweepHolds.{slot_at-table, sweep-starts, sweep-step}
use Rattle.sweep.specs.Side.{prior_start, prior_in, NoPaths}
use Rattle.sweep.specs.Sides.{Sides, sides, start_a, start_b, step_in, sweep_in, swept_in}
use Rattle.sweep.proofs.Paths.Side.{side_same}
use Rattle.sweep.proofs.Paths.StartAndLeave.{start_a-holds, start_b-holds}
use Rattle.sweep.proofs.Paths.Step.{SidesHold, step-holds}

holds_same : (k s t : ℕ) (both : Sides) (old new : ℕ → Slot) → ((i : ℕ) → 1 ≤ i → i ≤ k → new i ≡ old i) → SidesHold k s t both old
    → SidesHold k s t both new
holds_same k s t both old new same held =
    record {
      held_a = side_same s k s both.side_a (λ i. (old i).path_a) (λ i. (new i).path_a) (λ i one le. ap (λ (x : Slot). x.path_a) (same i one le)) held.held_a;
      held_b = side_same s k t both.side_b (λ i. (old i).path_b) (λ i. (new i).path_b) (λ i one le. ap (λ (x : Slot). x.path_b) (same i one le)) held.held_b;
    }

prior-none : (n : ℕ) (side : List ℕ) → NoPaths n side → (x : ℕ) → prior_in side x ≡ 0
unfolding prior_in
prior-none n side empty x = empty.empty (prior_start + 2 * x)

module _ (left : ℕ → ℕ → ℕ) (look : ℕ → ℕ → Entry) (laws : LeftLaws left) (k s t : ℕ) (less : t < s) (alive : Alive left k t s) (positive : 1 ≤ t)
    (small : k ≤ 32) (agree : (i x : ℕ) → 1 ≤ i → i ≤ k → (look i x).place ≡ left i x) where
  steps-hold : (v : ℕ) (slots : List Slot) → Sweeping left k s t v (slot_at slots) → (a b : List ℕ) → SidesHold k s t (sides a b) (slot_at slots)
      → SidesHold k s t (sweep_in look k t v a b) (slot_at (sweep_from left k t v slots))
  unfolding sweep_in Sweep.sweep_from Sweep.slots_after
  steps-hold zero slots inv a b now = now
  steps-hold (suc v) slots inv a b now =
      let after : Sides = step_in look k t (suc v) a b in
      steps-hold v (slots_after left k t (suc v) slots) (sweep-step left laws k s t less alive v slots inv) after.side_a after.side_b
      (holds_same k s t after (slot_after left k t (suc v) (slot_at slots)) (slot_at (slots_after left k t (suc v) slots))
      (slot_at-table (slot_after left k t (suc v) (slot_at slots)) k)
      (step-holds left look laws k s t less alive positive small agree v (slot_at slots) inv a b now))

  module _ (n : ℕ) (high : s ≤ n) (a b : List ℕ) (no_a : NoPaths n a) (no_b : NoPaths n b) where
    start-holds : SidesHold k s t (sides (start_a look s k a) (start_b t k b)) (slot_at (table (start_slot left s t) 1 k))
    unfolding Sweep.start_slot
    start-holds =
        holds_same k s t (sides (start_a look s k a) (start_b t k b))
        (start_slot left s t) (slot_at (table (start_slot left s t) 1 k)) (slot_at-table (start_slot left s t) k)
        (record {
          held_a = start_a-holds left look s k small agree s (omega arith) a (omega (arith, no_a.room)) (prior-none n a no_a s);
          held_b = start_b-holds left look s k small agree t b (omega (arith, no_b.room)) (prior-none n b no_b t);
        })

    pub swept-holds : SidesHold k s t (swept_in look k s t a b) (slot_at (sweep left k s t))
    unfolding swept_in Sweep.sweep
    swept-holds =
        steps-hold (pred s) (table (start_slot left s t) 1 k) (sweep-starts left laws k s t less alive)
        (start_a look s k a) (start_b t k b) start-holds
