-- The last relay of the order has an earlier neighbour for each of its links to relays in service. Of accepted networks.
use Rattle.std.specs.Prelude.{ℕ, ◌+◌, ◌≤◌, ◌<◌, true, List, ◌⊎◌, ◌≡◌, length, get_or}
use Rattle.std.proofs.Common.{inl, inr, sym, ◌∙◌, ap, ap₂, subst, arith}
use Rattle.definitions.specs.Network.{linked, touches, link_serves, Accepted}
use Rattle.definitions.specs.Order.{links_at, order_of, place_of, relay_at}
use Rattle.definitions.specs.Forests.{earlier}
use Rattle.definitions.specs.Over.{entry_of}
use Rattle.definitions.specs.Demand.{in_service_count}
use Rattle.lists.specs.Tests.{and_both}
use Rattle.lists.specs.Pigeonhole.{told-apart}
use Rattle.theory.specs.Links.{touch-ends}
use Rattle.theory.specs.RouteLinks.{at_end}
use Rattle.theory.specs.Ordering.{order-length}
use Rattle.theory.specs.Places.{place-named}
use Rattle.theory.specs.Left.{left-count}
use Rattle.theory.specs.ForestNumbers.{later_place, forest_in, LinkFacts, accepted-link-facts}
use Rattle.theory.specs.LeftEntries.{entry-own}

module _ (n : ℕ) (lows highs states : List ℕ) (ok : Accepted n lows highs states) (some : 1 ≤ in_service_count n states) where
  abbrev order : List ℕ
  order = order_of n lows highs states

  -- The last place.
  abbrev last : ℕ
  last = in_service_count n states

  -- A link of the last relay with both ends in service: its later place is the last,
  own-link : (i : ℕ) → i < length lows → at_end lows highs states (relay_at order last) i ≡ true
      → (link_serves lows highs states i ≡ true) × (later_place order lows highs i ≡ last)
  own-link i h e =
      let both = and_both (touches lows highs (relay_at order last) i) (link_serves lows highs states i) e in
      let facts = accepted-link-facts n lows highs states ok i h both.1 in
      (both.1, go facts (touch-ends lows highs (relay_at order last) i both.0))
    where
      placed : place_of order (relay_at order last) ≡ last
      placed = (place-named n lows highs states last some (omega arith)).2

      go : LinkFacts order lows highs i → (get_or lows i 0 ≡ relay_at order last) ⊎ (get_or highs i 0 ≡ relay_at order last)
          → later_place order lows highs i ≡ last
      go facts (inl p) =
          let at : place_of order (get_or lows i 0) ≡ last = ap (place_of order) p ∙ placed in
          omega (arith, at, facts.within, order-length n lows highs states)
      go facts (inr p) =
          let at : place_of order (get_or highs i 0) ≡ last = ap (place_of order) p ∙ placed in
          omega (arith, at, facts.within, order-length n lows highs states)

  -- its forest is at most the number of earlier neighbours,
  own-forest : (i : ℕ) → i < length lows → at_end lows highs states (relay_at order last) i ≡ true
      → (1 ≤ forest_in order lows highs i) × (forest_in order lows highs i < 1 + length (earlier (linked lows highs) order last))
  own-forest i h e =
      let own = own-link i h e in
      let facts = accepted-link-facts n lows highs states ok i h own.0 in
      let number = forest_in order lows highs i in
      let most : number ≤ length (earlier (linked lows highs) order (later_place order lows highs i)) =
      (left-count (linked lows highs) order number (later_place order lows highs i) facts.forest).0
      (omega (arith, facts.is_left, facts.some)) in
      let few : number ≤ length (earlier (linked lows highs) order last) =
      subst (λ (v : ℕ). number ≤ length (earlier (linked lows highs) order v)) own.1 most in
      (facts.forest, omega arith)

  -- and tells the link.
  own-told : (i j : ℕ) → i < length lows → j < length lows → at_end lows highs states (relay_at order last) i ≡ true
      → at_end lows highs states (relay_at order last) j ≡ true → forest_in order lows highs i ≡ forest_in order lows highs j → i ≡ j
  own-told i j h k p q e =
      let a = own-link i h p in
      let b = own-link j k q in
      let link : ℕ → ℕ → ℕ = λ f v. (entry_of n lows highs states f v).link in
      sym (entry-own n lows highs states ok i h a.0)
      ∙ ap₂ link e (a.1 ∙ sym b.1)
      ∙ entry-own n lows highs states ok j k b.0

  pub last-links : links_at lows highs states (relay_at order last) ≤ length (earlier (linked lows highs) order last)
  unfolding links_at
  last-links =
      told-apart (at_end lows highs states (relay_at order last)) (forest_in order lows highs) (length lows) 1
      (length (earlier (linked lows highs) order last)) own-forest own-told
