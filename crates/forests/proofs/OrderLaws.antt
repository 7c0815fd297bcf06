-- The ordering of a table step by step, as the scan goes through it: the first k relays and the one that follows.
-- Assumes nothing.
use Prim.Native.Nat.{ℕ, suc, ◌+◌, ◌≤◌, ◌<◌}
use mathlib.Core.Bool.{Bool, true, false, ◌||◌, true≢false}
use mathlib.Core.List.{List, [], ◌∷◌, ◌++◌}
use mathlib.Core.Logic.{◌≢◌}
use mathlib.Core.Path.{◌≡◌, refl, sym, ◌∙◌, ap}
use native.Mathlib.Omega.{arith}
use borrow.Author.Tests.{eq-eqb, ne_eqb}
use lib.Dec.{eqb}
use lib.ListN.{length, get_or}
use Rattle.definitions.specs.Outcome.{pick}
use Rattle.definitions.specs.Lists.{has, count, position, NoRepeat}
use Rattle.definitions.specs.Network.{linked}
use Rattle.definitions.specs.Order.{weight, next_relay, place_next, placed_after, serving_relays, first_relay}
use Rattle.lists.specs.Tests.{or-none}
use Rattle.lists.specs.Members.{has-at, has-append}
use Rattle.lists.specs.Counting.{count-append}
use Rattle.lists.specs.Positions.{position-which, position_at}
use Rattle.theory.specs.ServingRelays.{serving-once, serving-below, serving-ascending, first-of-all}
use Rattle.theory.specs.Ordering.{placed-length, placed_at, next-is, next-new, placed-no-repeat}
use Rattle.forests.specs.Counts.{turns_of}
use Rattle.forests.specs.Scan.{placed, following, is_serving}

module _ (n : ℕ) (lows highs states : List ℕ) where
  pub placed-long : (k : ℕ) → length (placed n lows highs states k) ≡ k
  placed-long = placed-length (linked lows highs) (first_relay n lows highs states) (serving_relays n states)

  -- The relay that follows is one of those in service, and not placed yet.
  pub following-new : (k : ℕ) → k < turns_of n states
      → (is_serving n states (following n lows highs states k) ≡ true)
      × (has (placed n lows highs states k) (following n lows highs states k) ≡ false)
  following-new k h =
      next-new (linked lows highs) (first_relay n lows highs states) (serving_relays n states) (serving-once n states) (first-of-all n states lows highs) k h

  pub following-below : (k : ℕ) → k < turns_of n states → following n lows highs states k < n
  following-below k h = serving-below n states (following n lows highs states k) (following-new k h).0

  -- After k relays comes the one that no unplaced relay is heavier than, and of equals the lowest.
  pub following-is : (k b : ℕ) → 0 < k → k < turns_of n states → is_serving n states b ≡ true
      → has (placed n lows highs states k) b ≡ false
      → ((y : ℕ) → is_serving n states y ≡ true → has (placed n lows highs states k) y ≡ false
      → (weight (linked lows highs) (placed n lows highs states k) y ≤ weight (linked lows highs) (placed n lows highs states k) b)
      × (weight (linked lows highs) (placed n lows highs states k) y ≡ weight (linked lows highs) (placed n lows highs states k) b → b ≤ y))
      → following n lows highs states k ≡ b
  following-is k b some few serving new top =
      next-is (linked lows highs) (first_relay n lows highs states) (serving_relays n states) (serving-once n states)
      (first-of-all n states lows highs) (serving-ascending n states) k some few b serving new top

  pub following-first : following n lows highs states 0 ≡ first_relay n lows highs states
  unfolding placed_after next_relay
  following-first = refl

  pub placed-suc : (k : ℕ) → placed n lows highs states (suc k) ≡ placed n lows highs states k ++ (following n lows highs states k ∷ [])
  unfolding placed_after place_next
  placed-suc k = refl

  has-suc : (k r : ℕ)
      → has (placed n lows highs states (suc k)) r ≡ (has (placed n lows highs states k) r || (eqb (following n lows highs states k) r || false))
  unfolding has
  has-suc k r =
      ap (λ l. has l r) (placed-suc k) ∙ has-append (placed n lows highs states k) (following n lows highs states k ∷ []) r

  pub has_same : (k r : ℕ) → (r ≡ following n lows highs states k → ⊥)
      → has (placed n lows highs states (suc k)) r ≡ has (placed n lows highs states k) r
  has_same k r h =
      has-suc k r ∙ rw (ne_eqb (following n lows highs states k) r (λ e. h (sym e))) (or-none (has (placed n lows highs states k) r))

  pub has_new : (k : ℕ) → has (placed n lows highs states (suc k)) (following n lows highs states k) ≡ true
  has_new k =
      has-suc k (following n lows highs states k)
      ∙ rw (eq-eqb (following n lows highs states k) (following n lows highs states k) refl) (or-true (has (placed n lows highs states k) (following n lows highs states k)))
    where
      or-true : (a : Bool) → (a || true) ≡ true
      or-true true = refl
      or-true false = refl

  -- Who waits when the relay that follows is placed is another relay, and waited before.
  pub another : (k r : ℕ) → has (placed n lows highs states (suc k)) r ≡ false → r ≢ following n lows highs states k
  another k r h e = true≢false (sym (has_new k) ∙ ap (has (placed n lows highs states (suc k))) (sym e) ∙ h)

  pub waited : (k r : ℕ) → has (placed n lows highs states (suc k)) r ≡ false → has (placed n lows highs states k) r ≡ false
  waited k r h = sym (has_same k r (another k r h)) ∙ h

  -- One link more for each relay that is linked to the one that follows.
  weight-suc : (k r : ℕ)
      → weight (linked lows highs) (placed n lows highs states (suc k)) r
      ≡ weight (linked lows highs) (placed n lows highs states k) r + pick (linked lows highs (following n lows highs states k) r) 1 0
  unfolding weight count
  weight-suc k r =
      let test : ℕ → Bool = λ p. linked lows highs p r in
      let e : count test (placed n lows highs states (suc k)) ≡ count test (placed n lows highs states k ++ (following n lows highs states k ∷ [])) =
      ap (count test) (placed-suc k) in
      omega (arith, e, count-append test (placed n lows highs states k) (following n lows highs states k ∷ []))

  pub weight-linked : (k r : ℕ) → linked lows highs (following n lows highs states k) r ≡ true
      → weight (linked lows highs) (placed n lows highs states (suc k)) r ≡ weight (linked lows highs) (placed n lows highs states k) r + 1
  weight-linked k r e = weight-suc k r ∙ rw e

  pub weight-apart : (k r : ℕ) → linked lows highs (following n lows highs states k) r ≡ false
      → weight (linked lows highs) (placed n lows highs states (suc k)) r ≡ weight (linked lows highs) (placed n lows highs states k) r
  weight-apart k r e = weight-suc k r ∙ rw e (omega arith)

  unique : (k : ℕ) → k ≤ turns_of n states → NoRepeat (placed n lows highs states k)
  unique k h = placed-no-repeat (linked lows highs) (first_relay n lows highs states) (serving_relays n states) (serving-once n states) (first-of-all n states lows highs) k h

  at-index : (k j : ℕ) → j < k → get_or (placed n lows highs states k) j 0 ≡ following n lows highs states j
  at-index k j = placed_at (linked lows highs) (first_relay n lows highs states) (serving_relays n states) k j

  -- What was placed at step j is still there.
  pub placed-earlier : (j k : ℕ) → j < k → has (placed n lows highs states k) (following n lows highs states j) ≡ true
  placed-earlier j k h = rw (at-index k j h) at (has-at (placed n lows highs states k) j (omega (arith, placed-long k)))

  pub position-new : (k : ℕ) → k < turns_of n states → position (placed n lows highs states (suc k)) (following n lows highs states k) ≡ suc k
  position-new k h =
      ap (position (placed n lows highs states (suc k))) (sym (at-index (suc k) k (omega arith)))
      ∙ position_at (placed n lows highs states (suc k)) (unique (suc k) h) k (omega (arith, placed-long (suc k)))

  pub position-same : (k r : ℕ) → k < turns_of n states → has (placed n lows highs states k) r ≡ true
      → position (placed n lows highs states (suc k)) r ≡ position (placed n lows highs states k) r
  position-same k r h p =
      let w = position-which (placed n lows highs states k) r p in
      let j = w.0 in
      let early : j < k = omega (arith, w.1, placed-long k) in
      let e : get_or (placed n lows highs states (suc k)) j 0 ≡ r = at-index (suc k) j (omega arith) ∙ sym (at-index k j early) ∙ w.3 in
      ap (position (placed n lows highs states (suc k))) (sym e)
      ∙ position_at (placed n lows highs states (suc k)) (unique (suc k) h) j (omega (arith, placed-long (suc k)))
      ∙ sym w.2
