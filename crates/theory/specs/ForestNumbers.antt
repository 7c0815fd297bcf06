-- The forest number of a link: left of its later place under that number is its earlier place, and each left entry is a link.
-- Over any order; then for the base and an accepted table.
use Prim.Native.Nat.{ℕ, ◌≤◌, ◌<◌, min, max}
use Rattle.std.specs.Prelude.{Bool, true, false, List, ◌≢◌, ◌⊎◌, ◌≡◌, refl, ltb, length, get_or}
use Rattle.std.proofs.Common.{true≢false, inl, inr, sym, ◌∙◌, ap, arith, ltb-true, ltb-false}
use Rattle.std.proofs.Math.Path.{ap₂}
use Rattle.definitions.specs.Lists.{has, NoRepeat}
use Rattle.definitions.specs.Network.{joins, linked, serves, link_serves, Accepted}
use Rattle.definitions.specs.Order.{order_of, place_of, relay_at}
use Rattle.definitions.specs.Forests.{left, forest_between, forest_of}
use Rattle.definitions.specs.Route.{left_of}
use Rattle.lists.specs.Tests.{and_both, and-all}
use Rattle.theory.specs.Accepted.{accepted}
use Rattle.theory.specs.Links.{joins-ends, joins-low-high, joins-high-low, joined-linked, linked-joined}
use Rattle.theory.specs.Ordering.{order-no-repeat, order-has, order-relay}
use Rattle.theory.specs.Places.{relay-of-place, place-of-relay, placed-in}
use Rattle.theory.specs.Left.{left-range, left_below, left-linked, left-forest, forest-some, forest-left}

-- The earlier and the later place of link i.
abbrev pub earlier_place : (order lows highs : List ℕ) (i : ℕ) → ℕ
earlier_place order lows highs i = min (place_of order (get_or lows i 0)) (place_of order (get_or highs i 0))

abbrev pub later_place : List ℕ → List ℕ → List ℕ → ℕ → ℕ
later_place order lows highs i = max (place_of order (get_or lows i 0)) (place_of order (get_or highs i 0))

-- The forest number of link i.
abbrev pub forest_in : (order lows highs : List ℕ) (i : ℕ) → ℕ
forest_in order lows highs i = forest_of (linked lows highs) order lows highs i

-- Both ends of link i have a place.
abbrev pub Placed : (order lows highs : List ℕ) (i : ℕ) → Type 0
Placed order lows highs i = (has order (get_or lows i 0) ≡ true) × (has order (get_or highs i 0) ≡ true)

-- Both ends of each link of forest f have a place: so it is of every forest from 1 on (`forest-placed`).
abbrev pub AllPlaced : (order lows highs : List ℕ) (f : ℕ) → Type 0
AllPlaced order lows highs f = (i : ℕ) → i < length lows → forest_in order lows highs i ≡ f → Placed order lows highs i

-- Link i in an order: its places, its forest, and that left gives the earlier place.
pub record LinkFacts (order lows highs : List ℕ) (i : ℕ) : Type 0 where
  pub some : 1 ≤ earlier_place order lows highs i
  pub under : earlier_place order lows highs i < later_place order lows highs i
  pub within : later_place order lows highs i ≤ length order
  pub ends : joins lows highs (relay_at order (earlier_place order lows highs i)) (relay_at order (later_place order lows highs i)) i
      ≡ true
  pub forest : 1 ≤ forest_of (linked lows highs) order lows highs i
  pub is_left : left (linked lows highs) order (forest_of (linked lows highs) order lows highs i) (later_place order lows highs i)
      ≡ earlier_place order lows highs i

module _ (order lows highs : List ℕ) where
  facts-from : (i : ℕ) → i < length lows → 1 ≤ earlier_place order lows highs i
      → earlier_place order lows highs i < later_place order lows highs i
      → later_place order lows highs i ≤ length order
      → joins lows highs (relay_at order (earlier_place order lows highs i)) (relay_at order (later_place order lows highs i)) i ≡ true
      → LinkFacts order lows highs i
  unfolding forest_of
  facts-from i h some under within ends =
      let u = earlier_place order lows highs i in
      let v = later_place order lows highs i in
      let f = left-forest (linked lows highs) order u v some under within
      (joined-linked lows highs (relay_at order u) (relay_at order v) i h ends) in
      record {
        some = some;
        under = under;
        within = within;
        ends = ends;
        forest = f.0;
        is_left = f.1;
      }

  pub link-facts : (i : ℕ) → i < length lows → Placed order lows highs i → get_or lows i 0 ≢ get_or highs i 0
      → LinkFacts order lows highs i
  link-facts i h placed apart = go (ltb p q) refl (ltb q p) refl
    where
      p : ℕ
      p = place_of order (get_or lows i 0)

      q : ℕ
      q = place_of order (get_or highs i 0)

      low : (1 ≤ p) × (p ≤ length order) × (relay_at order p ≡ get_or lows i 0)
      low = relay-of-place order (get_or lows i 0) placed.0

      high : (1 ≤ q) × (q ≤ length order) × (relay_at order q ≡ get_or highs i 0)
      high = relay-of-place order (get_or highs i 0) placed.1

      go : (s : Bool) → ltb p q ≡ s → (t : Bool) → ltb q p ≡ t → LinkFacts order lows highs i
      go true e t f =
          let less : p < q = ltb-true p q e in
          let least : min p q ≡ p = omega arith in
          let most : max p q ≡ q = omega arith in
          facts-from i h (omega (arith, low.0)) (omega arith) (omega (arith, high.1))
          (rw (least, most) (joins-low-high lows highs (relay_at order p) (relay_at order q) i (sym low.2) (sym high.2)))
      go false e true f =
          let less : q < p = ltb-true q p f in
          let least : min p q ≡ q = omega arith in
          let most : max p q ≡ p = omega arith in
          facts-from i h (omega (arith, high.0)) (omega arith) (omega (arith, low.1))
          (rw (least, most) (joins-high-low lows highs (relay_at order q) (relay_at order p) i (sym low.2) (sym high.2)))
      go false e false f =
          let same : p ≡ q = omega (arith, ltb-false p q e, ltb-false q p f) in
          absurd (apart (sym low.2 ∙ ap (relay_at order) same ∙ high.2))

  pub places-placed : (i : ℕ) → 1 ≤ earlier_place order lows highs i → Placed order lows highs i
  places-placed i h = (placed-in order (get_or lows i 0) (omega arith), placed-in order (get_or highs i 0) (omega arith))

  -- Only a link between relays of the order has a forest.
  pub forest-placed : (f : ℕ) → 1 ≤ f → AllPlaced order lows highs f
  unfolding forest_of
  forest-placed f one i h e =
      places-placed i
      (forest-some (linked lows highs) order (earlier_place order lows highs i) (later_place order lows highs i) (omega (arith, e)))

  pub joined-placed : (a b i : ℕ) → has order a ≡ true → has order b ≡ true → joins lows highs a b i ≡ true → Placed order lows highs i
  joined-placed a b i ha hb e = go (joins-ends lows highs a b i e)
    where
      go : ((get_or lows i 0 ≡ a) × (get_or highs i 0 ≡ b)) ⊎ ((get_or lows i 0 ≡ b) × (get_or highs i 0 ≡ a)) → Placed order lows highs i
      go (inl p) = (ap (has order) p.0 ∙ ha, ap (has order) p.1 ∙ hb)
      go (inr p) = (ap (has order) p.0 ∙ hb, ap (has order) p.1 ∙ ha)

  -- A left entry is a link of that forest.
  pub left-is-link : NoRepeat order → (f v : ℕ) → 0 < left (linked lows highs) order f v
      → (i : ℕ) × (i < length lows)
      × (joins lows highs (relay_at order (left (linked lows highs) order f v)) (relay_at order v) i ≡ true)
      × (earlier_place order lows highs i ≡ left (linked lows highs) order f v)
      × (later_place order lows highs i ≡ v)
      × (forest_of (linked lows highs) order lows highs i ≡ f)
  unfolding forest_of
  left-is-link unique f v h =
      let w = linked-joined lows highs (relay_at order u) (relay_at order v) (left-linked (linked lows highs) order f v h) in
      let places = go w.0 (joins-ends lows highs (relay_at order u) (relay_at order v) w.0 w.2) in
      let number : forest_of (linked lows highs) order lows highs w.0 ≡ f =
      ap₂ (forest_between (linked lows highs) order) places.0 places.1 ∙ forest-left (linked lows highs) order f v h in
      (w.0, w.1, w.2, places.0, places.1, number)
    where
      u : ℕ
      u = left (linked lows highs) order f v

      below : u < v
      below = left_below (linked lows highs) order f v h

      range : v ≤ length order
      range = (left-range (linked lows highs) order f v h).2

      back_u : place_of order (relay_at order u) ≡ u
      back_u = place-of-relay order unique u h (omega (arith, below, range))

      back_v : place_of order (relay_at order v) ≡ v
      back_v = place-of-relay order unique v (omega (arith, below)) range

      go : (i : ℕ) → ((get_or lows i 0 ≡ relay_at order u) × (get_or highs i 0 ≡ relay_at order v))
          ⊎ ((get_or lows i 0 ≡ relay_at order v) × (get_or highs i 0 ≡ relay_at order u))
          → (earlier_place order lows highs i ≡ u) × (later_place order lows highs i ≡ v)
      go i (inl e) =
          let a = ap (place_of order) e.0 ∙ back_u in
          let b = ap (place_of order) e.1 ∙ back_v in
          omega (arith, below)
      go i (inr e) =
          let a = ap (place_of order) e.0 ∙ back_v in
          let b = ap (place_of order) e.1 ∙ back_u in
          omega (arith, below)

-- The base: each link of an accepted table with both ends in service is in a forest, and no other.
module _ (n : ℕ) (lows highs states : List ℕ) where
  pub links-placed : Accepted n lows highs states → (i : ℕ) → i < length lows → link_serves lows highs states i ≡ true
      → Placed (order_of n lows highs states) lows highs i
  unfolding link_serves
  links-placed ok i h e =
      let t = accepted n lows highs states ok in
      let s = and_both (serves states (get_or lows i 0)) (serves states (get_or highs i 0)) e in (
        order-has n lows highs states (get_or lows i 0) (omega (arith, t.ordered i h, t.below i h), s.0),
        order-has n lows highs states (get_or highs i 0) (t.below i h, s.1),
      )

  pub placed-serves : (i : ℕ) → Placed (order_of n lows highs states) lows highs i → link_serves lows highs states i ≡ true
  unfolding link_serves
  placed-serves i placed =
      and-all (serves states (get_or lows i 0)) (serves states (get_or highs i 0))
      (order-relay n lows highs states (get_or lows i 0) placed.0).1 (order-relay n lows highs states (get_or highs i 0) placed.1).1

  pub accepted-link-facts : Accepted n lows highs states → (i : ℕ) → i < length lows → link_serves lows highs states i ≡ true
      → LinkFacts (order_of n lows highs states) lows highs i
  accepted-link-facts ok i h e =
      let less = (accepted n lows highs states ok).ordered i h in
      link-facts (order_of n lows highs states) lows highs i h (links-placed ok i h e) (omega arith)

  -- "its links belong to no forest" (document 02, #105)
  pub no-forest : (i : ℕ) → i < length lows → link_serves lows highs states i ≡ false
      → forest_of (linked lows highs) (order_of n lows highs states) lows highs i ≡ 0
  no-forest i h e =
      let f = forest_of (linked lows highs) (order_of n lows highs states) lows highs i in
      let none : ¬ (1 ≤ f) = λ some.
      true≢false (sym (placed-serves i (forest-placed (order_of n lows highs states) lows highs f some i h refl)) ∙ e) in
      omega arith

  pub left_of-is-link : (f v : ℕ) → 0 < left_of n lows highs states f v
      → (i : ℕ) × (i < length lows)
      × (joins lows highs (relay_at (order_of n lows highs states) (left_of n lows highs states f v)) (relay_at (order_of n lows highs states) v) i ≡ true)
      × (earlier_place (order_of n lows highs states) lows highs i ≡ left_of n lows highs states f v)
      × (later_place (order_of n lows highs states) lows highs i ≡ v)
      × (forest_of (linked lows highs) (order_of n lows highs states) lows highs i ≡ f)
  unfolding left_of
  left_of-is-link = left-is-link (order_of n lows highs states) lows highs (order-no-repeat n lows highs states)
