-- The last two of the order are in one tree of each forest up to the number of links that the last has to relays in service
-- (document 02, #107).
use Rattle.std.specs.Prelude.{ℕ, suc, ◌≤◌, min, max, List, ◌⊎◌, ◌≢◌, ◌≡◌, length}
use Rattle.std.proofs.Common.{inl, inr, ap, subst, arith}
use Rattle.definitions.specs.Network.{linked, Serving, Accepted}
use Rattle.definitions.specs.Order.{links_at, order_of, place_of, relay_at}
use Rattle.definitions.specs.Forests.{earlier, forests_of}
use Rattle.definitions.specs.Demand.{OneTree, in_service_count}
use Rattle.theory.proofs.ForestBound.{forests-at}
use Rattle.theory.proofs.RelayTrees.{one-tree-neighbours}
use Rattle.theory.specs.LastLinks.{last-links}

module _ (n : ℕ) (lows highs states : List ℕ) (ok : Accepted n lows highs states) (two : 2 ≤ in_service_count n states) where
  abbrev order : List ℕ
  order = order_of n lows highs states

  -- The last place.
  abbrev last : ℕ
  last = in_service_count n states

  -- Relays at the last place and at the one before it, in either direction.
  pub record EndsLast (from to : ℕ) : Type 0 where
    pub starts : Serving n states from
    pub ends : Serving n states to
    pub lower : suc (min (place_of order from) (place_of order to)) ≡ last
    pub higher : max (place_of order from) (place_of order to) ≡ last
    pub is_last : (relay_at order last ≡ from) ⊎ (relay_at order last ≡ to)

  pub turned : {from to : ℕ} → EndsLast to from → EndsLast from to
  turned e =
      record {
        starts = e.ends;
        ends = e.starts;
        lower = omega (arith, e.lower);
        higher = omega (arith, e.higher);
        is_last = go e.is_last;
      }
    where
      go : {from to : ℕ} → (relay_at order last ≡ to) ⊎ (relay_at order last ≡ from) → (relay_at order last ≡ from) ⊎ (relay_at order last ≡ to)
      go (inl p) = inr p
      go (inr p) = inl p

  pub differ : {from to : ℕ} → EndsLast from to → from ≢ to
  differ {from} {to} e same =
      let equal : place_of order from ≡ place_of order to = ap (place_of order) same in
      omega (arith, e.lower, e.higher)

  -- The last two are in one tree of forest k, for each k up to the links of the last: only the last place is above the earlier of
  -- them, and it has an earlier neighbour for each of these links.
  pub last-one-tree : (k : ℕ) → 1 ≤ k → k ≤ links_at lows highs states (relay_at order last) → (from to : ℕ) → EndsLast from to
      → OneTree lows highs (forests_of n lows highs states) k from to
  last-one-tree k one most from to e =
      (one-tree-neighbours n lows highs states ok (forests_of n lows highs states) (forests-at n lows highs states) k one from to
      e.starts e.ends (differ e)).1
      (λ x over upto.
      let at : last ≡ x = omega (arith, e.lower, e.higher) in
      let neighbours : k ≤ length (earlier (linked lows highs) order last) =
      omega (arith, last-links n lows highs states ok (omega arith)) in
      subst (λ (v : ℕ). k ≤ length (earlier (linked lows highs) order v)) at neighbours)
