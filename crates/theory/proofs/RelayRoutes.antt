-- Routes between two relays, as relay numbers: what holds of routes between their places is carried over.
-- Over any order; then for the base and accepted networks.
use Rattle.std.specs.Prelude.{ℕ, ◌+◌, ◌-◌, ◌*◌, ◌≤◌, ◌<◌, max, true, List, [], ◌∷◌, map, ◌⊎◌, ◌≢◌, ◌≡◌, length, get_or}
use Rattle.std.proofs.Common.{inl, inr, sym, ◌∙◌, ap, ap₂, subst, subst₂, arith}
use Rattle.std.proofs.Math.ListN
use Rattle.std.proofs.lemmas.List.{length-map}
use Rattle.definitions.specs.Lists.{has, join_all}
use Rattle.definitions.specs.Network.{Accepted, Serving}
use Rattle.definitions.specs.Order.{order_of, place_of, relay_at}
use Rattle.definitions.specs.Route.{left_of, routes_between, routes_of}
use Rattle.definitions.specs.DisjointRoutes.{LinkOf, RouteHolds, Apart, DisjointRoutes}
use Rattle.definitions.specs.Demand.{Kept}
use Rattle.lists.specs.Members.{has-map}
use Rattle.lists.specs.Distinct.{no-repeat-map}
use Rattle.lists.specs.Maps.{get_or-map}
use Rattle.lists.specs.Cuts.{length-join_all-map}
use Rattle.theory.specs.JoinedRelays.{along-map}
use Rattle.lists.specs.Ends.{two-entries}
use Rattle.theory.specs.Ordering.{order-few, order-has, order-relay}
use Rattle.theory.specs.Places.{relay-of-place, place-of-relay, relay-in, places-apart}
use Rattle.theory.specs.Arranged.{left_in, Arranged, base-arranged}
use Rattle.theory.proofs.Columns.{MarkedIn, Marked}
use Rattle.theory.proofs.TableLinks.{kept-link}
use Rattle.theory.proofs.RelayTrees.{AliveBetween}
use Rattle.theory.specs.SharedLinks.{shared-link}
use Rattle.theory.proofs.PlaceRoutes.{LeftLink, RouteWithin, RoutesWithin}
use Rattle.theory.proofs.SweepRoutes.{routes-between}

-- k routes from `from` to `to` along kept links, with the relays written in all bounded by some number of relays.
pub record RoutesAmong
    (size n : ℕ) (lows highs states marks : List ℕ) (k from to : ℕ) (routes : List (List ℕ)) : Type 0 where
  pub number : length routes ≡ k
  pub disjoint : DisjointRoutes n lows highs states (Kept marks) from to routes
  pub written : length (join_all routes) ≤ size - 2 + 2 * k

-- Through relays of an order, and bounded by these; and of the base, bounded by all relays.
pub record RoutesIn (order : List ℕ) (n : ℕ) (lows highs states marks : List ℕ) (k from to : ℕ) (routes : List (List ℕ)) : Type 0 where
  pub among : RoutesAmong (length order) n lows highs states marks k from to routes
  pub within : (i : ℕ) → i < length routes → (r : ℕ) → has (get_or routes i []) r ≡ true → has order r ≡ true

abbrev pub RelayRoutes : (n : ℕ) (lows highs states marks : List ℕ) (k from to : ℕ) (routes : List (List ℕ)) → Type 0
RelayRoutes n lows highs states marks k from to routes = RoutesAmong n n lows highs states marks k from to routes

module _ (order lows highs : List ℕ) (arranged : Arranged order lows highs) (n : ℕ) (states : List ℕ)
    (serving : (r : ℕ) → has order r ≡ true → Serving n states r) (k : ℕ) (marks : List ℕ) (marked : MarkedIn order lows highs k marks) where
  -- Places that have the same relay are the same.
  same_place : (x y : ℕ) → 1 ≤ x → x ≤ length order → 1 ≤ y → y ≤ length order → relay_at order x ≡ relay_at order y → x ≡ y
  same_place x y one low two high e =
      sym (place-of-relay order arranged.unique x one low) ∙ ap (place_of order) e ∙ place-of-relay order arranged.unique y two high

  module _ (from to : ℕ) (hf : has order from ≡ true) (ht : has order to ≡ true) (top : ℕ) (bound : top ≤ length order) where
    abbrev OnPlaces : List ℕ → Type 0
    OnPlaces route = RouteWithin (left_in order lows highs) k top (place_of order from) (place_of order to) route

    place-low : (route : List ℕ) → OnPlaces route → (x : ℕ) → has route x ≡ true → (1 ≤ x) × (x ≤ length order)
    place-low route holds x h =
        let w = holds.within x h in
        (w.0, omega (arith, w.1))

    -- The relays at places of the order are relays of the order.
    placed-relays : (route : List ℕ) → OnPlaces route → (r : ℕ) → has (map (relay_at order) route) r ≡ true → has order r ≡ true
    placed-relays route holds r h =
        let x = has-map (relay_at order) route r h in
        let low = place-low route holds x.0 x.1 in
        subst (λ (z : ℕ). has order z ≡ true) x.2 (relay-in order x.0 low.0 low.1)

    route-holds : (route : List ℕ) → OnPlaces route → RouteHolds n lows highs states (Kept marks) from to (map (relay_at order) route)
    route-holds route holds =
        let at : ℕ → ℕ = relay_at order in
        let size : length (map at route) ≡ length route = length-map route at in
        let long : 2 ≤ length route = holds.long in
        let last : length (map at route) - 1 ≡ length route - 1 = omega arith in
        record {
          runs =
              record {
                long = omega arith;
                starts = get_or-map at route 0 0 0 (omega arith) ∙ ap at holds.starts ∙ (relay-of-place order from hf).2;
                ends =
                    ap (λ (i : ℕ). get_or (map at route) i 0) last ∙ get_or-map at route (length route - 1) 0 0 (omega arith)
                    ∙ ap at holds.ends ∙ (relay-of-place order to ht).2;
                along =
                    along-map (LeftLink (left_in order lows highs) k) (LinkOf lows highs (Kept marks)) at
                    (λ u v l. kept-link order lows highs arranged k marks marked l.0 u v l.2 l.3) route holds.along;
                through = λ r h. serving r (placed-relays route holds r h);
              };
          no_repeat =
              no-repeat-map at route
              (λ x y hx hy e.
              let px = place-low route holds x hx in
              let py = place-low route holds y hy in
              same_place x y px.0 px.1 py.0 py.1 e)
              holds.no_repeat;
        }

    -- Relays that two routes share come from places that they share.
    shared-relay : (one other : List ℕ) → OnPlaces one → OnPlaces other
        → ((x : ℕ) → has one x ≡ true → has other x ≡ true → (x ≡ place_of order from) ⊎ (x ≡ place_of order to))
        → (r : ℕ) → has (map (relay_at order) one) r ≡ true → has (map (relay_at order) other) r ≡ true → (r ≡ from) ⊎ (r ≡ to)
    shared-relay one other hone hother shared r p q =
        let at : ℕ → ℕ = relay_at order in
        let x = has-map at one r p in
        let y = has-map at other r q in
        let px = place-low one hone x.0 x.1 in
        let py = place-low other hother y.0 y.1 in
        let same : y.0 ≡ x.0 = same_place y.0 x.0 py.0 py.1 px.0 px.1 (y.2 ∙ sym x.2) in
        go x.0 x.2 (shared x.0 x.1 (subst (λ (z : ℕ). has other z ≡ true) same y.1))
      where
        go : (x : ℕ) → relay_at order x ≡ r → (x ≡ place_of order from) ⊎ (x ≡ place_of order to) → (r ≡ from) ⊎ (r ≡ to)
        go x e (inl s) = inl (sym e ∙ ap (relay_at order) s ∙ (relay-of-place order from hf).2)
        go x e (inr s) = inr (sym e ∙ ap (relay_at order) s ∙ (relay-of-place order to ht).2)

    -- A route of two relays is the direct one.
    direct-places : (route : List ℕ) → OnPlaces route → length (map (relay_at order) route) ≡ 2
        → route ≡ place_of order from ∷ place_of order to ∷ []
    direct-places route holds e =
        two-entries route (sym (length-map route (relay_at order)) ∙ e)
        ∙ ap₂ (λ (a b : ℕ). a ∷ b ∷ []) holds.starts holds.ends

    routes-apart : (one other : List ℕ) → OnPlaces one → OnPlaces other
        → ((x : ℕ) → has one x ≡ true → has other x ≡ true → (x ≡ place_of order from) ⊎ (x ≡ place_of order to))
        → (one ≡ place_of order from ∷ place_of order to ∷ [] → other ≡ place_of order from ∷ place_of order to ∷ [] → ⊥)
        → Apart lows highs from to (map (relay_at order) one) (map (relay_at order) other)
    routes-apart one other hone hother shared direct =
        let at : ℕ → ℕ = relay_at order in
        let relays : (r : ℕ) → has (map at one) r ≡ true → has (map at other) r ≡ true → (r ≡ from) ⊎ (r ≡ to) =
        shared-relay one other hone hother shared in
        record {
          relays = relays;
          links = λ i h p q.
              direct
              (direct-places one hone (shared-link lows highs (route-holds one hone) (map at other) relays i p q))
              (direct-places other hother
              (shared-link lows highs (route-holds other hother) (map at one) (λ r a b. relays r b a) i q p));
        }

    pub relay-routes : (routes : List (List ℕ))
        → RoutesWithin (left_in order lows highs) k top (place_of order from) (place_of order to) routes
        → RoutesIn order n lows highs states marks k from to (map (map (relay_at order)) routes)
    relay-routes routes holds =
        let at : ℕ → ℕ = relay_at order in
        let entry : (i : ℕ) → get_or (map (map at) routes) i [] ≡ map at (get_or routes i []) = λ i. ListN.get_or-map (map at) routes i [] in
        let size : length (map (map at) routes) ≡ k = length-map routes (map at) ∙ holds.number in
        let disjoint : DisjointRoutes n lows highs states (Kept marks) from to (map (map at) routes) =
        record {
          each = λ i h.
              subst (RouteHolds n lows highs states (Kept marks) from to) (sym (entry i))
              (route-holds (get_or routes i []) (holds.each i (omega (arith, size))));
          apart = λ i j hi hj ne.
              let low : i < k = omega (arith, size) in
              let high : j < k = omega (arith, size) in
              subst₂ (Apart lows highs from to) (sym (entry i)) (sym (entry j))
              (routes-apart (get_or routes i []) (get_or routes j []) (holds.each i low) (holds.each j high)
              (holds.apart i j low high ne) (holds.direct i j low high ne));
        } in
        record {
          among =
              record { number = size; disjoint = disjoint; written = omega (arith, length-join_all-map at routes, holds.written) };
          within = λ i h r e.
              placed-relays (get_or routes i []) (holds.each i (omega (arith, size))) r (subst (λ (l : List ℕ). has l r ≡ true) (entry i) e);
        }

  -- The sweep's routes, for two different relays of the order with every place between theirs alive at k.
  pub routes-in : 1 ≤ k → (from to : ℕ) → has order from ≡ true → has order to ≡ true → from ≢ to
      → AliveBetween (left_in order lows highs) k (place_of order from) (place_of order to)
      → RoutesIn order n lows highs states marks k from to
      (map (map (relay_at order)) (routes_between (left_in order lows highs) k (place_of order from) (place_of order to)))
  routes-in one from to hf ht differ alive =
      let p : ℕ = place_of order from in
      let q : ℕ = place_of order to in
      let first = relay-of-place order from hf in
      let last = relay-of-place order to ht in
      relay-routes from to hf ht (max p q) (omega (arith, first.1, last.1)) (routes_between (left_in order lows highs) k p q)
      (routes-between (left_in order lows highs) arranged.laws k p q one first.0 last.0
      (places-apart order from to hf ht differ) alive)

-- The base: the routes of Route.
pub routes-hold : (n : ℕ) (lows highs states : List ℕ) → Accepted n lows highs states → (k : ℕ) → 1 ≤ k → (marks : List ℕ) → Marked n lows highs states k marks
    → (from to : ℕ) → Serving n states from → Serving n states to → from ≢ to
    → AliveBetween (left_of n lows highs states) k (place_of (order_of n lows highs states) from) (place_of (order_of n lows highs states) to)
    → RelayRoutes n lows highs states marks k from to (routes_of n lows highs states k from to)
unfolding routes_of left_of
routes-hold n lows highs states ok k one marks marked from to hf ht differ alive =
    let r =
    routes-in (order_of n lows highs states) lows highs (base-arranged n lows highs states ok) n states
    (order-relay n lows highs states) k marks marked one from to
    (order-has n lows highs states from hf) (order-has n lows highs states to ht) differ alive in
    record {
      number = r.among.number;
      disjoint = r.among.disjoint;
      written = omega (arith, r.among.written, order-few n lows highs states);
    }
