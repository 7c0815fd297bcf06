-- The certificate: whichever fewer than k relays are dead, the kept links join the same live relays as all the links.
-- Over any order, whose relays are the ones in service, and for any k from 1 on; then for the base and accepted networks.
use Rattle.std.specs.Prelude.{ℕ, ◌≤◌, ◌<◌, min, max, Bool, true, List, map, ◌↔◌, ◌≢◌, ◌≡◌, length}
use Rattle.std.proofs.Common.{inl, inr, ap, subst₂, arith}
use Rattle.std.proofs.Math.Logic.{by_cases}
use Rattle.std.proofs.Math.Decide.{dec_le}
use Rattle.definitions.specs.Lists.{has, count}
use Rattle.definitions.specs.Network.{Accepted, Serving}
use Rattle.definitions.specs.Order.{serving_relays, order_of, place_of, relay_at}
use Rattle.definitions.specs.Route.{routes_between}
use Rattle.definitions.specs.DisjointRoutes.{LinkOf, InService}
use Rattle.definitions.specs.Demand.{Joined, alone, onward, Kept, Live, dead_count}
use Rattle.lists.specs.Pigeonhole.{count-within}
use Rattle.theory.specs.JoinedRelays.{joined-map, joined-replace}
use Rattle.theory.specs.LeftLaws.{LeftLaws}
use Rattle.theory.proofs.Trees.{Alive, TreeLink, alive-lower, alive-left}
use Rattle.theory.specs.Ordering.{order-no-repeat, order-serving, order-has, order-relay}
use Rattle.theory.specs.ForestNumbers.{forest_in, Placed, joined-placed, placed-serves}
use Rattle.theory.specs.Arranged.{left_in, Arranged, arranged-forest, base-arranged}
use Rattle.theory.proofs.Columns.{MarkedIn, Marked, kept-forest}
use Rattle.theory.proofs.TableLinks.{place-link}
use Rattle.theory.proofs.RelayTrees.{AliveBetween}
use Rattle.theory.proofs.RelayRoutes.{routes-in}
use Rattle.theory.proofs.LiveRoute.{LiveIn, live-route}

-- The places between the ends of a link of forest f are alive at f.
link-alive : (left : ℕ → ℕ → ℕ) → LeftLaws left → (f p q : ℕ) → TreeLink left f p q → AliveBetween left f p q
link-alive left laws f p q (inl l) =
    let down : left f p < p = laws.below f p (omega arith) in
    let low : left f p ≡ min p q = omega arith in
    let high : p ≡ max p q = omega arith in
    subst₂ (Alive left f) low high (alive-left left laws f p (omega arith))
link-alive left laws f p q (inr l) =
    let down : left f q < q = laws.below f q (omega arith) in
    let low : left f q ≡ min p q = omega arith in
    let high : q ≡ max p q = omega arith in
    subst₂ (Alive left f) low high (alive-left left laws f q (omega arith))

-- A link has two different ends.
link-differ : (left : ℕ → ℕ → ℕ) → LeftLaws left → (f p q : ℕ) → TreeLink left f p q → p ≢ q
link-differ left laws f p q (inl l) same = omega (arith, laws.below f p (omega arith))
link-differ left laws f p q (inr l) same = omega (arith, laws.below f q (omega arith))

module _ (order lows highs : List ℕ) (arranged : Arranged order lows highs) (n : ℕ) (states : List ℕ)
    (serving : (r : ℕ) → has order r ≡ true → Serving n states r) (k : ℕ) (one : 1 ≤ k) (marks : List ℕ)
    (marked : MarkedIn order lows highs k marks) (dead : ℕ → Bool) (few : count dead order < k) where
  -- A link of the table between live relays, replaced by a chain of kept links through live relays.
  detour : (a b : ℕ) → LiveIn order dead a → LiveIn order dead b → LinkOf lows highs (λ i. Unit {0}) a b
      → Joined (LiveIn order dead) (LinkOf lows highs (Kept marks)) a b
  detour a b la lb l =
      let left : ℕ → ℕ → ℕ = left_in order lows highs in
      let f : ℕ = forest_in order lows highs l.0 in
      let p : ℕ = place_of order a in
      let q : ℕ = place_of order b in
      let placed : Placed order lows highs l.0 = joined-placed order lows highs a b l.0 la.0 lb.0 l.2 in
      let link : TreeLink left f p q = place-link order lows highs arranged l.0 a b l.1 placed l.2 in
      let some = (arranged-forest order lows highs arranged l.0 l.1 placed).forest in
      by_cases (dec_le f k)
      (λ kept. onward la (l.0, l.1, l.2, kept-forest order lows highs k marks marked l.0 l.1 some kept) (alone lb))
      (λ dropped.
      let alive : AliveBetween left k p q =
      alive-lower left arranged.laws k f (min p q) (max p q) one (omega arith) (link-alive left arranged.laws f p q link) in
      live-route order lows highs arranged n states serving k one marks marked dead few a b la lb (map (map (relay_at order)) (routes_between left k p q))
      (routes-in order lows highs arranged n states serving k marks marked one a b la.0 lb.0
      (λ e. link-differ left arranged.laws f p q link (ap (place_of order) e)) alive))

  -- All the links: any choice that has every link with both ends in the order.
  pub survives-in : (chosen : ℕ → Type 0) → ((i : ℕ) → i < length lows → Placed order lows highs i → chosen i)
      → (a b : ℕ) → Joined (LiveIn order dead) (LinkOf lows highs (Kept marks)) a b
      ↔ Joined (LiveIn order dead) (LinkOf lows highs chosen) a b
  survives-in chosen all a b = (
    joined-replace (λ r s lr ls l.
        onward lr (l.0, l.1, l.2, all l.0 l.1 (joined-placed order lows highs r s l.0 lr.0 ls.0 l.2)) (alone ls)),
    joined-replace (λ r s lr ls l. detour r s lr ls (l.0, l.1, l.2, tt)),
  )

-- The base: the relays in service, and all the links with both ends in service.
module _ (n : ℕ) (lows highs states : List ℕ) (ok : Accepted n lows highs states) (k : ℕ) (one : 1 ≤ k) (marks : List ℕ)
    (marked : Marked n lows highs states k marks) (dead : ℕ → Bool) (few : dead_count n states dead < k) where
  few-placed : count dead (order_of n lows highs states) < k
  few-placed =
      omega (
        arith,
        count-within dead (serving_relays n states) (order_of n lows highs states) (order-no-repeat n lows highs states)
            (order-serving n lows highs states),
      )

  pub survives : (a b : ℕ) → Joined (Live n states dead) (LinkOf lows highs (Kept marks)) a b
      ↔ Joined (Live n states dead) (LinkOf lows highs (InService lows highs states)) a b
  survives a b =
      let general =
      survives-in (order_of n lows highs states) lows highs (base-arranged n lows highs states ok) n states
      (order-relay n lows highs states) k one marks marked dead few-placed
      (InService lows highs states) (λ i h p. placed-serves n lows highs states i p) a b in
      (λ chain. back (general.0 (there chain)), λ chain. back (general.1 (there chain)))
    where
      there : {link : ℕ → ℕ → Type 0} → Joined (Live n states dead) link a b → Joined (LiveIn (order_of n lows highs states) dead) link a b
      there = joined-map (λ r. r) (λ r l. (order-has n lows highs states r l.0, l.1)) (λ r s l. l)

      back : {link : ℕ → ℕ → Type 0} → Joined (LiveIn (order_of n lows highs states) dead) link a b → Joined (Live n states dead) link a b
      back =
          joined-map (λ r. r)
          (λ r l. (order-relay n lows highs states r l.0, l.1)) (λ r s l. l)
