-- The sweep's invariant holds at the start, is kept by each v, and so holds at the end, over the list of slots.
-- Over any `left` with the laws, where t and s are in one tree of forest k.
use Prim.Native.Nat.{ℕ, zero, suc, ◌+◌, pred, ◌≤◌, ◌<◌}
use Rattle.std.proofs.Common.{arith, ◌∙◌, ap, subst}
use mathlib.Core.List.{List, []}
use Rattle.std.specs.Prelude.{◌≡◌}
use Rattle.std.proofs.Math.Path.{refl}
use Rattle.definitions.specs.Lists.{table}
use Rattle.definitions.specs.Sweep as Sweep
use Rattle.definitions.specs.Sweep.{slot_at}
use Rattle.lists.specs.Searches.{clash}
use Rattle.lists.specs.Tables.{get_or-table}
use Rattle.theory.specs.PlaceSweep.{Slot, start_slot, slot_after, slots_after, sweep_from, sweep}
use Rattle.theory.specs.LeftLaws.{LeftLaws}
use Rattle.theory.proofs.Trees.{Alive, alive-lower}
use Rattle.theory.proofs.SweepPaths.{open-longer}
use Rattle.theory.proofs.SweepInvariant.{Sweeping, alone, goes, open-slot, sweeping-same}
use Rattle.theory.proofs.SweepStep.{step-sweeping}

pub slot_at-table : (f : ℕ → Slot) (k i : ℕ) → 1 ≤ i → i ≤ k → slot_at (table f 1 k) i ≡ f i
unfolding slot_at
slot_at-table f k zero one le = absurd (omega arith)
slot_at-table f k (suc i) one le =
    let e : 1 + i ≡ suc i = omega arith in
    get_or-table f 1 k i (slot_at [] 0) (omega arith) ∙ ap f e

module _ (left : ℕ → ℕ → ℕ) (laws : LeftLaws left) (k : ℕ) where
  starts : (v t : ℕ) → t < suc v → Alive left k t (suc v) → Sweeping left k (suc v) t v (start_slot left (suc v) t)
  unfolding Sweep.start_slot
  starts v t less alive =
      record {
        below = omega arith;
        opened = λ i one le _.
            open-slot left laws k (suc v) t v i (start_slot left (suc v) t i) (omega arith)
            (goes (open-longer left laws k (suc v) (suc v) v i []
            (alive-lower left laws i k t (suc v) one le alive (suc v) less (omega arith))
            (λ x above upto. absurd (omega arith)) refl))
            (alone (omega arith) refl)
            (λ before h. absurd (omega arith));
        closed = λ i one le shut. absurd (clash refl shut);
        once_a = λ i h w one le one' le' above under. absurd (omega arith);
        once_b = λ i h w one le one' le' above under. absurd (omega arith);
        cross = λ i h w one le one' le' above under. absurd (omega arith);
      }

  module _ (s t : ℕ) (less : t < s) (alive : Alive left k t s) where
    -- Before s − 1.
    pub sweep-starts : Sweeping left k s t (pred s) (slot_at (table (start_slot left s t) 1 k))
    sweep-starts = go s less alive
      where
        go : (s : ℕ) → t < s → Alive left k t s → Sweeping left k s t (pred s) (slot_at (table (start_slot left s t) 1 k))
        go zero less alive = absurd (omega arith)
        go (suc v) less alive =
            let e : v ≡ pred (suc v) = omega arith in
            subst (λ (x : ℕ). Sweeping left k (suc v) t x (slot_at (table (start_slot left (suc v) t) 1 k))) e
            (sweeping-same (slot_at (table (start_slot left (suc v) t) 1 k)) (slot_at-table (start_slot left (suc v) t) k) (starts v t less alive))

    -- Before v, if before v + 1.
    pub sweep-step : (v : ℕ) (slots : List Slot) → Sweeping left k s t (suc v) (slot_at slots)
        → Sweeping left k s t v (slot_at (slots_after left k t (suc v) slots))
    unfolding Sweep.slots_after
    sweep-step v slots inv =
        sweeping-same (slot_at (table (slot_after left k t (suc v) (slot_at slots)) 1 k)) (slot_at-table (slot_after left k t (suc v) (slot_at slots)) k)
        (step-sweeping left laws k s t less alive v (slot_at slots) inv)

    pub sweep_from-ends : (v : ℕ) (slots : List Slot) → Sweeping left k s t v (slot_at slots)
        → Sweeping left k s t 0 (slot_at (sweep_from left k t v slots))
    unfolding Sweep.sweep_from
    sweep_from-ends zero slots inv = inv
    sweep_from-ends (suc v) slots inv = sweep_from-ends v (slots_after left k t (suc v) slots) (sweep-step v slots inv)

    pub sweep-ends : Sweeping left k s t 0 (slot_at (sweep left k s t))
    unfolding Sweep.sweep
    sweep-ends = sweep_from-ends (pred s) (table (start_slot left s t) 1 k) sweep-starts
