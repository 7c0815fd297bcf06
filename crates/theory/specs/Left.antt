-- left(i, v), over any test `linked` and any order: it is an earlier neighbour, each earlier neighbour is one, and where the order
-- is maximal it has the three laws. Then for the base.
use Prim.Native.Nat.{ℕ, zero, suc, ◌≤◌, ◌<◌, pred}
use Rattle.std.proofs.Math.Bool.{Bool, true, false}
use mathlib.Core.List.{List, []}
use Rattle.std.specs.Prelude.{◌↔◌, ◌≡◌, take}
use Rattle.std.proofs.Math.Path.{refl, ap}
use Rattle.std.proofs.Common.{◌∙◌}
use native.Mathlib.Omega.{arith}
use borrow.Author.Tests.{ltb-true, ltb-false, lt-ltb}
use Rattle.std.proofs.Math.Dec.{ltb}
use Rattle.std.proofs.Math.ListN.{length, get_or, get_or-eq_default}
use Rattle.definitions.specs.Outcome.{pick}
use Rattle.definitions.specs.Lists.{rising, has, count}
use Rattle.definitions.specs.Network.{linked as linked_in}
use Rattle.definitions.specs.Order.{weight, order_of, relay_at}
use Rattle.definitions.specs.Forests.{earlier, left, forest_between}
use Rattle.definitions.specs.Route.{left_of}
use Rattle.lists.specs.Members.{index_of}
use Rattle.lists.specs.Positions.{position-which, position_at, position_absent}
use Rattle.lists.specs.Rising.{rising-entry, rising-has, rising-no-repeat, rising-ascends, rising-front}
use Rattle.lists.specs.Rising.{rising-count, rising-at}
use Rattle.theory.specs.LeftLaws.{LeftLaws}
use Rattle.theory.specs.Ordering.{order-length, order-few, order-maximal}

-- For every two places v < w, v has at least as many neighbours before v as w has; by index, from 0.
abbrev pub Maximal : (ℕ → ℕ → Bool) → List ℕ → Type 0
Maximal linked order =
    (v w : ℕ) → v < w → w < length order
    → count (λ p. linked p (get_or order w 0)) (take v order) ≤ count (λ p. linked p (get_or order v 0)) (take v order)

module _ (linked : ℕ → ℕ → Bool) (order : List ℕ) where
  -- The earlier neighbours of a place of the order.
  pub earlier-in : (v : ℕ) → 1 ≤ v → v ≤ length order
      → earlier linked order v ≡ rising (λ u. linked (relay_at order u) (relay_at order v)) (pred v)
  unfolding earlier
  earlier-in zero h k = absurd (omega arith)
  earlier-in (suc v) h k = rw (lt-ltb v (length order) k) refl

  -- A place with earlier neighbours is a place of the order.
  earlier-some : (v : ℕ) → 0 < length (earlier linked order v) → (1 ≤ v) × (v ≤ length order)
  unfolding earlier
  earlier-some zero h = absurd (omega arith)
  earlier-some (suc v) h = go (ltb v (length order)) refl h
    where
      go : (b : Bool) → ltb v (length order) ≡ b
          → 0 < length (pick b (rising (λ u. linked (relay_at order u) (relay_at order (suc v))) v) [])
          → (1 ≤ suc v) × (suc v ≤ length order)
      go true e k = omega (arith, ltb-true v (length order) e)
      go false e k = absurd (omega arith)

  -- Where left(i, v) is, the place v and the index i are in range.
  pub left-range : (i v : ℕ) → 0 < left linked order i v
      → (1 ≤ i) × (1 ≤ v) × (v ≤ length order)
      × (pred i < length (rising (λ u. linked (relay_at order u) (relay_at order v)) (pred v)))
      × (left linked order i v ≡ get_or (rising (λ u. linked (relay_at order u) (relay_at order v)) (pred v)) (pred i) 0)
  unfolding left
  left-range zero v h = absurd (omega arith)
  left-range (suc i) v h = go (ltb i (length (earlier linked order v))) refl
    where
      go : (b : Bool) → ltb i (length (earlier linked order v)) ≡ b
          → (1 ≤ suc i) × (1 ≤ v) × (v ≤ length order)
          × (i < length (rising (λ u. linked (relay_at order u) (relay_at order v)) (pred v)))
          × (get_or (earlier linked order v) i 0 ≡ get_or (rising (λ u. linked (relay_at order u) (relay_at order v)) (pred v)) i 0)
      go true e =
          let k : i < length (earlier linked order v) = ltb-true i (length (earlier linked order v)) e in
          let at = earlier-some v (omega arith) in
          let same = earlier-in v at.0 at.1 in
          (omega arith, at.0, at.1, rw same at k, ap (λ (l : List ℕ). get_or l i 0) same)
      go false e =
          absurd (omega (arith, get_or-eq_default (earlier linked order v) 0 (ltb-false i (length (earlier linked order v)) e)))

  -- And where they are in range, left(i, v) is.
  left-some : (i v : ℕ) → 1 ≤ i → 1 ≤ v → v ≤ length order
      → pred i < length (rising (λ u. linked (relay_at order u) (relay_at order v)) (pred v)) → 0 < left linked order i v
  unfolding left
  left-some zero v h k q p = absurd (omega arith)
  left-some (suc i) v h k q p =
      rw (earlier-in v k q) (rising-entry (λ u. linked (relay_at order u) (relay_at order v)) (pred v) i p).0

  -- left(i, v) is there exactly if v has at least i earlier neighbours.
  pub left-count : (i v : ℕ) → 1 ≤ i → (0 < left linked order i v) ↔ (i ≤ length (earlier linked order v))
  left-count i v one = (counted, there)
    where
      counted : 0 < left linked order i v → i ≤ length (earlier linked order v)
      counted h =
          let r = left-range i v h in
          rw (earlier-in v r.1 r.2) (omega (arith, r.3))

      there : i ≤ length (earlier linked order v) → 0 < left linked order i v
      there h =
          let at = earlier-some v (omega arith) in
          let k : i ≤ length (rising (λ u. linked (relay_at order u) (relay_at order v)) (pred v)) =
          rw (earlier-in v at.0 at.1) at h in
          left-some i v one at.0 at.1 (omega arith)

  pub left-linked : (i v : ℕ) → 0 < left linked order i v → linked (relay_at order (left linked order i v)) (relay_at order v) ≡ true
  left-linked i v h =
      let r = left-range i v h in
      rw r.4 (rising-entry (λ u. linked (relay_at order u) (relay_at order v)) (pred v) (pred i) r.3).2

  pub left_below : (i v : ℕ) → 0 < left linked order i v → left linked order i v < v
  left_below i v h =
      let r = left-range i v h in
      omega (arith, r.1, r.4, (rising-entry (λ u. linked (relay_at order u) (relay_at order v)) (pred v) (pred i) r.3).1)

  -- The link between linked places u and v is in a forest, and there left is u.
  pub left-forest : (u v : ℕ) → 1 ≤ u → u < v → v ≤ length order → linked (relay_at order u) (relay_at order v) ≡ true
      → (1 ≤ forest_between linked order u v) × (left linked order (forest_between linked order u v) v ≡ u)
  unfolding forest_between left
  left-forest u v h k q e =
      let test : ℕ → Bool = λ x. linked (relay_at order x) (relay_at order v) in
      let there : has (earlier linked order v) u ≡ true =
      rw (earlier-in v (omega arith) q) (rising-has test (pred v) u h (omega arith) e) in
      let w = position-which (earlier linked order v) u there in
      rw w.2 (omega arith, w.3)

  -- What has a forest is a place.
  pub forest-some : (u v : ℕ) → 1 ≤ forest_between linked order u v → 1 ≤ u
  unfolding forest_between
  forest-some u v h = go (has (earlier linked order v) u) refl
    where
      go : (b : Bool) → has (earlier linked order v) u ≡ b → 1 ≤ u
      go true e =
          let at = earlier-some v (omega (arith, (index_of (earlier linked order v) u e).1)) in
          let test : ℕ → Bool = λ x. linked (relay_at order x) (relay_at order v) in
          let w = index_of (rising test (pred v)) u (rw (earlier-in v at.0 at.1) at e) in
          omega (arith, w.2, (rising-entry test (pred v) w.0 w.1).0)
      go false e = absurd (omega (arith, position_absent (earlier linked order v) u e))

  -- No other index of v leads to the same place.
  pub forest-left : (i v : ℕ) → 0 < left linked order i v → forest_between linked order (left linked order i v) v ≡ i
  unfolding forest_between
  forest-left i v h =
      let r = left-range i v h in
      let test : ℕ → Bool = λ x. linked (relay_at order x) (relay_at order v) in
      rw (r.4, earlier-in v r.1 r.2)
      (position_at (rising test (pred v)) (rising-no-repeat test (pred v)) (pred i) r.3 ∙ (omega (arith, r.0)))

  -- The forest of a link is one more than the number of neighbours of its later end before the earlier one.
  pub forest-weight : (u v : ℕ) → suc u < v → v ≤ length order → linked (relay_at order (suc u)) (relay_at order v) ≡ true
      → forest_between linked order (suc u) v ≡ suc (weight linked (take u order) (relay_at order v))
  unfolding forest_between weight relay_at
  forest-weight u v h k e =
      let test : ℕ → Bool = λ x. linked (relay_at order x) (relay_at order v) in
      let r = rising-at test (pred v) u (omega arith) e in
      let number = position_at (rising test (pred v)) (rising-no-repeat test (pred v)) (length (rising test u)) r.0 in
      let early = rising-count (λ p. linked p (relay_at order v)) order u (omega arith) in
      rw (earlier-in v (omega arith) k) ((rw r.1 at number) ∙ ap suc early)

  pub laws-of-left : Maximal linked order → LeftLaws (left linked order)
  unfolding relay_at
  laws-of-left maximal =
      record {
        below = left_below;
        rises = λ h i v some under p.
            let r = left-range i v p in
            let test : ℕ → Bool = λ x. linked (relay_at order x) (relay_at order v) in
            let early : pred h < length (rising test (pred v)) = omega (arith, r.3) in
            let q : 0 < left linked order h v = left-some h v some r.1 r.2 early in
            (q, omega (arith, r.4, (left-range h v q).4, rising-ascends test (pred v) (pred h) (pred i) (omega arith) r.3));
        maximal = λ i v w h p q.
            let r = left-range i w p in
            let test_v : ℕ → Bool = λ x. linked (relay_at order x) (relay_at order v) in
            let test_w : ℕ → Bool = λ x. linked (relay_at order x) (relay_at order w) in
            let early : pred i < length (rising test_w (pred v)) =
            rising-front test_w (pred w) (pred v) (pred i) (omega arith) r.3 (omega (arith, r.4)) in
            let within : pred v ≤ length order = omega (arith, r.2) in
            let count_w = rising-count (λ x. linked x (get_or order (pred w) 0)) order (pred v) within in
            let count_v = rising-count (λ x. linked x (get_or order (pred v) 0)) order (pred v) within in
            let more = maximal (pred v) (pred w) (omega arith) (omega (arith, r.2)) in
            omega (arith, left-some i v r.0 (omega arith) (omega (arith, r.2)) (omega arith));
      }

-- The base.
module _ (n : ℕ) (lows highs states : List ℕ) where
  base-maximal : Maximal (linked_in lows highs) (order_of n lows highs states)
  base-maximal v w h k = order-maximal n lows highs states v w h (omega (arith, order-length n lows highs states))

  pub left-laws : LeftLaws (left_of n lows highs states)
  unfolding left_of
  left-laws = laws-of-left (linked_in lows highs) (order_of n lows highs states) base-maximal

  pub left_of-range : (i v : ℕ) → 0 < left_of n lows highs states i v → (1 ≤ i) × (v ≤ n)
  unfolding left_of
  left_of-range i v h =
      let r = left-range (linked_in lows highs) (order_of n lows highs states) i v h in
      (r.0, omega (arith, r.2, order-few n lows highs states))
