-- Forest i holds at most n − i links, where n counts the relays in service; each link with both ends in service is in one forest from
-- 1 to n − 1, every other in none, and the counts of all the forests add up to the links with both ends in service. The bound is
-- proved over any order.
use Prim.Native.Nat.{ℕ, suc, ◌+◌, ◌-◌, ◌≤◌, ◌<◌}
use Rattle.std.proofs.Math.Bool.{Bool, true, false}
use mathlib.Core.List.{List}
use Rattle.std.specs.Prelude.{◌≡◌}
use Rattle.std.proofs.Math.Path.{refl, ap}
use Rattle.std.proofs.Common.{sym, ◌∙◌, zero-add}
use native.Mathlib.Omega.{arith}
use borrow.Author.Tests.{eqb-true, le-leb, lt-leb}
use Rattle.std.proofs.Math.Dec.{eqb, leb}
use Rattle.std.proofs.Math.ListN.{length, get_or}
use Rattle.definitions.specs.Lists.{table, keep, count, total}
use Rattle.definitions.specs.Network.{linked, link_serves, Accepted}
use Rattle.definitions.specs.Order.{serving_relays, order_of, relay_at}
use Rattle.definitions.specs.Forests.{forest_of, forests_of}
use Rattle.lists.specs.Tables.{length-table, get_or-table}
use Rattle.lists.specs.Members.{index_of, range-bounds}
use Rattle.lists.specs.Counting.{count_same, count-table, length-keep}
use Rattle.lists.specs.Pigeonhole.{told-apart}
use Rattle.lists.specs.Totals.{total-counts}
use Rattle.theory.specs.LeftLaws.{index_below}
use Rattle.theory.specs.Ordering.{order-length}
use Rattle.theory.specs.ForestNumbers.{earlier_place, later_place, forest_in, Placed, AllPlaced, forest-placed, links-placed, accepted-link-facts, no-forest}
use Rattle.theory.specs.Arranged.{left_in, Arranged, arranged-forest, base-arranged}

-- The indices of the links of forest f.
unfoldable pub links_in : (order lows highs : List ℕ) (f : ℕ) → List ℕ
links_in order lows highs f = keep (λ j. eqb f (forest_in order lows highs j)) (table (λ r. r) 0 (length lows))

-- Over any order; a link without a forest may be in the table.
module _ (order lows highs : List ℕ) (arranged : Arranged order lows highs) where
  -- The number of a link's forest is below its later place.
  forest-below : (i : ℕ) → i < length lows → Placed order lows highs i
      → forest_in order lows highs i < later_place order lows highs i
  forest-below i h placed =
      let link = arranged-forest order lows highs arranged i h placed in
      index_below (left_in order lows highs) arranged.laws (forest_in order lows highs i)
      (later_place order lows highs i) link.forest (omega (arith, link.is_left, link.some))

  pub forest-range : (i : ℕ) → i < length lows → Placed order lows highs i
      → (1 ≤ forest_in order lows highs i) × (forest_in order lows highs i < length order)
  forest-range i h placed =
      let link = arranged-forest order lows highs arranged i h placed in
      omega (arith, link.forest, link.within, forest-below i h placed)

  module _ (f : ℕ) (all : AllPlaced order lows highs f) where
    -- The later place tells the link of a forest: left gives the earlier one.
    told-by-place : (i j : ℕ) → i < length lows → j < length lows → f ≡ forest_in order lows highs i → f ≡ forest_in order lows highs j
        → later_place order lows highs i ≡ later_place order lows highs j → i ≡ j
    told-by-place i j h k p q e =
        let link_i = arranged-forest order lows highs arranged i h (all i h (sym p)) in
        let link_j = arranged-forest order lows highs arranged j k (all j k (sym q)) in
        let same_left : earlier_place order lows highs i ≡ earlier_place order lows highs j =
        sym (rw (← p) at link_i.is_left) ∙ ap (left_in order lows highs f) e ∙ (rw (← q) at link_j.is_left) in
        arranged.once (relay_at order (earlier_place order lows highs j)) (relay_at order (later_place order lows highs j)) i j h k
        (rw (same_left, e) at link_i.ends)
        link_j.ends

    pub forest-size : length (links_in order lows highs f) ≤ length order - f
    unfolding links_in
    forest-size =
        let test : ℕ → Bool = λ j. eqb f (forest_in order lows highs j) in
        let number : (j : ℕ) → test j ≡ true → f ≡ forest_in order lows highs j = λ j. eqb-true f (forest_in order lows highs j) in
        omega (
          arith,
          length-keep test (table (λ r. r) 0 (length lows)),
          told-apart test (later_place order lows highs) (length lows) (suc f) (length order - f)
              (λ j h e.
              let placed = all j h (sym (number j e)) in
              let link = arranged-forest order lows highs arranged j h placed in
              omega (arith, number j e, forest-below j h placed, link.within))
              (λ i j h k p q. told-by-place i j h k (number i p) (number j q)),
        )

-- The list of forest numbers, entry by entry.
module _ (n : ℕ) (lows highs states : List ℕ) where
  pub forests-length : length (forests_of n lows highs states) ≡ length lows
  unfolding forests_of
  forests-length = length-table (forest_of (linked lows highs) (order_of n lows highs states) lows highs) 0 (length lows)

  pub forests-at : (i : ℕ) → i < length lows
      → get_or (forests_of n lows highs states) i 0 ≡ forest_of (linked lows highs) (order_of n lows highs states) lows highs i
  unfolding forests_of
  forests-at i h =
      let forest : ℕ → ℕ = forest_of (linked lows highs) (order_of n lows highs states) lows highs in
      get_or-table forest 0 (length lows) i 0 h ∙ ap forest (zero-add i)

-- The base, of an accepted table.
module _ (n : ℕ) (lows highs states : List ℕ) (ok : Accepted n lows highs states) where
  pub forests-bound : (f : ℕ) → 1 ≤ f → count (eqb f) (forests_of n lows highs states) ≤ length (serving_relays n states) - f
  unfolding forests_of links_in
  forests-bound f one =
      let order = order_of n lows highs states in
      let forest : ℕ → ℕ = forest_of (linked lows highs) order lows highs in
      let size = forest-size order lows highs (base-arranged n lows highs states ok) f (forest-placed order lows highs f one) in
      omega (
        arith,
        size,
        count-table (eqb f) forest 0 (length lows),
        length-keep (λ j. eqb f (forest j)) (table (λ r. r) 0 (length lows)),
        order-length n lows highs states,
      )

  pub forests-range : (i : ℕ) → i < length lows → link_serves lows highs states i ≡ true
      → (1 ≤ get_or (forests_of n lows highs states) i 0) × (get_or (forests_of n lows highs states) i 0 < length (serving_relays n states))
  forests-range i h e =
      let range =
      forest-range (order_of n lows highs states) lows highs (base-arranged n lows highs states ok) i h
      (links-placed n lows highs states ok i h e) in
      omega (arith, range.0, range.1, forests-at n lows highs states i h, order-length n lows highs states)

  pub forests-none : (i : ℕ) → i < length lows → link_serves lows highs states i ≡ false → get_or (forests_of n lows highs states) i 0 ≡ 0
  forests-none i h e = forests-at n lows highs states i h ∙ no-forest n lows highs states i h e

  -- A link has a forest exactly if both its ends are in service.
  some-forest : (i : ℕ) → i < length lows
      → leb 1 (forest_of (linked lows highs) (order_of n lows highs states) lows highs i) ≡ link_serves lows highs states i
  some-forest i h = go (link_serves lows highs states i) refl
    where
      go : (b : Bool) → link_serves lows highs states i ≡ b
          → leb 1 (forest_of (linked lows highs) (order_of n lows highs states) lows highs i) ≡ b
      go true e = le-leb 1 (forest_of (linked lows highs) (order_of n lows highs states) lows highs i) (accepted-link-facts n lows highs states ok i h e).forest
      go false e =
          lt-leb 1 (forest_of (linked lows highs) (order_of n lows highs states) lows highs i)
          (omega (arith, no-forest n lows highs states i h e))

  -- "The counts of the forests add up to the links with both ends in service" (document 02, #105).
  pub forests-total : total (table (λ f. count (eqb f) (forests_of n lows highs states)) 1 (length (serving_relays n states)))
      ≡ count (link_serves lows highs states) (table (λ i. i) 0 (length lows))
  unfolding forests_of
  forests-total =
      let forest : ℕ → ℕ = forest_of (linked lows highs) (order_of n lows highs states) lows highs in
      total-counts (forests_of n lows highs states) 1 (length (serving_relays n states))
      (λ x h.
      let w = index_of (forests_of n lows highs states) x h in
      omega (arith, forest-few w.0 (omega (arith, w.1, forests-length n lows highs states)), w.2))
      ∙ count-table (leb 1) forest 0 (length lows)
      ∙ count_same (λ i. leb 1 (forest i)) (link_serves lows highs states) (table (λ i. i) 0 (length lows))
      (λ i h. some-forest i (omega (arith, range-bounds 0 (length lows) i h)))
    where
      forest-few : (i : ℕ) → i < length lows → get_or (forests_of n lows highs states) i 0 < 1 + length (serving_relays n states)
      forest-few i h = go (link_serves lows highs states i) refl
        where
          go : (b : Bool) → link_serves lows highs states i ≡ b
              → get_or (forests_of n lows highs states) i 0 < 1 + length (serving_relays n states)
          go true e = omega (arith, forests-range i h e)
          go false e = omega (arith, forests-none i h e)
