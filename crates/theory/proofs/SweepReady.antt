-- The two sides of the sweep before v, from its invariant, and the highest index that ends at v.
-- Over any `left` with the laws.
use Prim.Native.Nat.{ℕ, ◌≤◌, ◌<◌}
use Rattle.std.proofs.Math.Decide.{dec_lt}
use Rattle.std.proofs.Common.{arith, inl, inr}
use Rattle.std.proofs.Math.Bool.{true, or-true}
use Rattle.std.specs.Prelude.{false, ◌&&◌, ◌||◌, ◌⊎◌, ◌≢◌, ◌≡◌, ltb}
use mathlib.Core.List.{List, ◌∷◌}
use Rattle.std.proofs.Math.Logic.{by_cases}
use Rattle.std.proofs.Math.Path.{subst}
use Rattle.std.proofs.Math.Dec.{eqb}
use borrow.Author.Tests.{eqb-true, eq-eqb, lt-ltb}
use Rattle.definitions.specs.Lists.{has, largest}
use Rattle.definitions.specs.Sweep as Sweep
use Rattle.lists.specs.Tests.{and_both, or-either, or-false}
use Rattle.lists.specs.Searches.{clash, largest-bound, largest-passes, largest-above, largest-none}
use Rattle.theory.specs.PlaceSweep.{Slot, end_of, ends_a, ends_b, highest_at}
use Rattle.theory.specs.LeftLaws.{LeftLaws}
use Rattle.theory.proofs.SweepPaths.{trail-from}
use Rattle.theory.proofs.SweepSide.{Standing, waits, stands, Ready, Highest, end-alone}
use Rattle.theory.proofs.SweepInvariant.{ClosedSlot, Sweeping}

module _ (left : ℕ → ℕ → ℕ) (laws : LeftLaws left) (k s t : ℕ) where
  module _ (v : ℕ) (slots : ℕ → Slot) (inv : Sweeping left k s t v slots) where
    pub ready_a : Ready left k s s v (λ i. (slots i).is_open) (λ i. ends_a v (slots i)) (λ i. (slots i).path_a)
    unfolding Sweep.ends_a
    ready_a =
        record {
          standing = λ i one le opn. stands (inv.opened i one le opn).side_a;
          closed_above = λ i one le shut w h.
              let c : ClosedSlot left k s t v i (slots i) = inv.closed i one le shut in
              let g : has (c.meet ∷ c.before ∷ c.rest_a) w ≡ true = subst (λ (p : List ℕ). has p w ≡ true) c.shape_a h in
              omega (arith, c.above, trail-from left laws k s c.meet (c.before ∷ c.rest_a) c.trail_a w g);
          ends_open = λ i one le e. (and_both (slots i).is_open (eqb (end_of (slots i).path_a) v) e).0;
          ends_at = λ i one le e. eqb-true (end_of (slots i).path_a) v (and_both (slots i).is_open (eqb (end_of (slots i).path_a) v) e).1;
          ends_not = λ i one le opn off e.
              let on : ((slots i).is_open && eqb (end_of (slots i).path_a) v) ≡ true = rw (opn, eq-eqb (end_of (slots i).path_a) v e) in
              clash on off;
        }

    module _ (other : v ≢ t) where
      standing_b : (i : ℕ) → 1 ≤ i → i ≤ k → (slots i).is_open ≡ true → Standing left k s t i v (slots i).path_b
      standing_b i one le opn =
          by_cases (dec_lt v t)
          (λ before. stands ((inv.opened i one le opn).side_b before))
          (λ after. waits (omega arith) ((inv.opened i one le opn).alone (omega arith)))

      pub ready_b : Ready left k s t v (λ i. (slots i).is_open) (λ i. ends_b t v (slots i)) (λ i. (slots i).path_b)
      unfolding Sweep.ends_b
      ready_b =
          record {
            standing = standing_b;
            closed_above = λ i one le shut w h.
                let c : ClosedSlot left k s t v i (slots i) = inv.closed i one le shut in
                let g : has (c.meet ∷ c.rest_b) w ≡ true = subst (λ (p : List ℕ). has p w ≡ true) c.shape_b h in
                omega (arith, c.above, trail-from left laws k t c.meet c.rest_b c.trail_b w g);
            ends_open = λ i one le e. (and_both (slots i).is_open (ltb v t && eqb (end_of (slots i).path_b) v) e).0;
            ends_at = λ i one le e.
                let later : (ltb v t && eqb (end_of (slots i).path_b) v) ≡ true = (and_both (slots i).is_open (ltb v t && eqb (end_of (slots i).path_b) v) e).1 in
                eqb-true (end_of (slots i).path_b) v (and_both (ltb v t) (eqb (end_of (slots i).path_b) v) later).1;
            ends_not = λ i one le opn off e.
                by_cases (dec_lt v t)
                (λ before.
                let on : ((slots i).is_open && (ltb v t && eqb (end_of (slots i).path_b) v)) ≡ true = rw (opn, lt-ltb v t before, eq-eqb (end_of (slots i).path_b) v e) in
                clash on off)
                (λ after. omega (arith, end-alone t (slots i).path_b ((inv.opened i one le opn).alone (omega arith))));
          }

-- The highest index that ends at v is open, and at least each of them.
module _ (k t v : ℕ) (slots : ℕ → Slot) where
  highest-within : highest_at k t v slots ≤ k
  unfolding Sweep.highest_at
  highest-within = largest-bound (λ i. ends_a v (slots i) || ends_b t v (slots i)) k

  highest-open : 0 < highest_at k t v slots → (slots (highest_at k t v slots)).is_open ≡ true
  unfolding Sweep.highest_at Sweep.ends_a Sweep.ends_b
  highest-open some =
      let j : ℕ = largest (λ i. ends_a v (slots i) || ends_b t v (slots i)) k in
      go j (or-either (ends_a v (slots j)) (ends_b t v (slots j)) (largest-passes (λ i. ends_a v (slots i) || ends_b t v (slots i)) k some))
    where
      go : (j : ℕ) → (ends_a v (slots j) ≡ true) ⊎ (ends_b t v (slots j) ≡ true) → (slots j).is_open ≡ true
      go j (inl e) = (and_both (slots j).is_open (eqb (end_of (slots j).path_a) v) e).0
      go j (inr e) = (and_both (slots j).is_open (ltb v t && eqb (end_of (slots j).path_b) v) e).0

  pub highest_a : 0 < highest_at k t v slots → Highest k (highest_at k t v slots) (λ i. (slots i).is_open) (λ i. ends_a v (slots i))
  unfolding Sweep.highest_at
  highest_a some =
      record {
        one = some;
        bound = highest-within;
        is_open = highest-open some;
        top = λ i one le e. largest-above (λ i. ends_a v (slots i) || ends_b t v (slots i)) k i one le (rw e);
      }

  pub highest_b : 0 < highest_at k t v slots → Highest k (highest_at k t v slots) (λ i. (slots i).is_open) (λ i. ends_b t v (slots i))
  unfolding Sweep.highest_at
  highest_b some =
      record {
        one = some;
        bound = highest-within;
        is_open = highest-open some;
        top = λ i one le e. largest-above (λ i. ends_a v (slots i) || ends_b t v (slots i)) k i one le (rw e (or-true (ends_a v (slots i))));
      }

  -- Where there is none, no path ends at v.
  pub highest-none : highest_at k t v slots ≡ 0 → (i : ℕ) → 1 ≤ i → i ≤ k → (ends_a v (slots i) ≡ false) × (ends_b t v (slots i) ≡ false)
  unfolding Sweep.highest_at
  highest-none none i one le =
      or-false (ends_a v (slots i)) (ends_b t v (slots i)) (largest-none (λ i. ends_a v (slots i) || ends_b t v (slots i)) k none i one le)
