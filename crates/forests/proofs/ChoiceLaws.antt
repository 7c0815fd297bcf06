-- The lowest of the relays with the greatest count is the one that follows in the order, from the second place on.
-- Assumes nothing.
use Prim.Native.Nat.{ℕ, suc, ◌≤◌, ◌<◌}
use mathlib.Core.Bool.{Bool, true, false}
use mathlib.Core.List.{List}
use mathlib.Core.Path.{◌≡◌, refl, ◌∙◌}
use native.Mathlib.Omega.{arith}
use lib.ListN.{get_or}
use Rattle.definitions.specs.Lists.{has, count}
use Rattle.definitions.specs.Network.{linked}
use Rattle.definitions.specs.Order.{weight, placed_after, serving_relays}
use Rattle.lists.specs.Cases.{has-not}
use Rattle.theory.specs.ServingRelays.{serving-below}
use Rattle.forests.specs.Counts.{turns_of, Heaviest}
use Rattle.forests.specs.Scan.{placed, following, is_serving, CountsAt}
use Rattle.forests.proofs.OrderLaws.{following-new, following-is}

module _ {n : ℕ} {lows highs states : List ℕ} {k : ℕ} {counts : List ℕ} (at : CountsAt n lows highs states k counts) where
  -- A waiting relay's count, and a placed relay's.
  pub count-waiting : (r : ℕ) → is_serving n states r ≡ true → has (placed n lows highs states k) r ≡ false
      → get_or counts r 0 ≡ suc (weight (linked lows highs) (placed n lows highs states k) r)
  count-waiting r s w = at.count r s ∙ rw w

  pub count-placed : (r : ℕ) → is_serving n states r ≡ true → has (placed n lows highs states k) r ≡ true → get_or counts r 0 ≡ 0
  count-placed r s w = at.count r s ∙ rw w

  -- Who waits is in service and has no place.
  pub waits : (r : ℕ) → 0 < get_or counts r 0 → (is_serving n states r ≡ true) × (has (placed n lows highs states k) r ≡ false)
  waits r p = go (is_serving n states r) refl (has (placed n lows highs states k) r) refl
    where
      go : (s : Bool) → is_serving n states r ≡ s → (b : Bool) → has (placed n lows highs states k) r ≡ b → (s ≡ true) × (b ≡ false)
      go false e b f = absurd (omega (arith, at.rest r e))
      go true e true f = absurd (omega (arith, count-placed r e f))
      go true e false f = (refl, refl)

  pub count-beyond : (r : ℕ) → n ≤ r → get_or counts r 0 ≡ 0
  count-beyond r h = at.rest r (has-not (serving_relays n states) r (λ e. omega (arith, serving-below n states r e)))

  -- While a relay is left, one waits.
  pub some-waits : k < turns_of n states → 0 < get_or counts (following n lows highs states k) 0
  some-waits within =
      let f = following-new n lows highs states k within in
      omega (arith, count-waiting (following n lows highs states k) f.0 f.1)

  pub heaviest-follows : {x : ℕ} → k < turns_of n states → Heaviest counts x → 0 < k → following n lows highs states k ≡ x
  heaviest-follows {x} within h more =
      let own = waits x (omega (arith, some-waits within, h.most (following n lows highs states k))) in
      let count = count-waiting x own.0 own.1 in
      following-is n lows highs states k x more within own.0 own.1 (λ y s w.
      let other = count-waiting y s w in
      (omega (arith, h.most y, count, other), λ e. h.lowest y (omega (arith, count, other, e))))

-- Where no relay is placed, all counts are at most 1, and that of the first relay is 1.
pub first-heaviest : {n : ℕ} {lows highs states counts : List ℕ} → CountsAt n lows highs states 0 counts → 0 < turns_of n states
    → (r : ℕ) → get_or counts r 0 ≤ get_or counts (following n lows highs states 0) 0
unfolding placed_after weight count has
first-heaviest {n} {lows} {highs} {states} {counts} at within r = go (is_serving n states r) refl
  where
    own : get_or counts (following n lows highs states 0) 0 ≡ 1
    own = at.count (following n lows highs states 0) (following-new n lows highs states 0 within).0

    go : (s : Bool) → is_serving n states r ≡ s → get_or counts r 0 ≤ get_or counts (following n lows highs states 0) 0
    go true e = let other : get_or counts r 0 ≡ 1 = at.count r e in omega (arith, own)
    go false e = omega (arith, at.rest r e)
