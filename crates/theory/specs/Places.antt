-- Relays and places turn one into the other, in any order without repeats and in the base's; and Order's two lists are a maximal
-- adjacency ordering.
use Prim.Native.Nat.{ℕ, zero, suc, ◌-◌, ◌≤◌, ◌<◌, pred}
use Rattle.std.specs.Prelude.{Bool, ◌||◌, ◌≢◌, ◌≡◌, get_or}
use Rattle.std.proofs.Math.Bool.{true, false}
use Rattle.std.proofs.Common.{true≢false, sym, ◌∙◌, zero-add, arith, le-ltb}
use mathlib.Core.List.{List, []}
use Rattle.std.proofs.Math.Path.{refl, ap}
use Rattle.std.proofs.Math.Dec.{ltb}
use Rattle.std.proofs.Math.ListN.{length}
use Rattle.definitions.specs.Outcome.{done, refuse_if}
use Rattle.definitions.specs.Lists.{overwrite, has, NoRepeat}
use Rattle.definitions.specs.Network.{serves, table_check, Accepted, Serving}
use Rattle.definitions.specs.Demand.{MaximalOrder}
use Rattle.definitions.specs.Order.{serving_relays, first_relay, order_of, place_of, relay_at, order_answer, places_of, relays_after, places_after}
use Rattle.lists.specs.Outcomes.{refuse-not, then-done, if-done}
use Rattle.lists.specs.Tests.{or-neither}
use Rattle.lists.specs.Tables.{length-table, get_or-table}
use Rattle.lists.specs.Overwritten.{get_or-overwrite, take-overwrite}
use Rattle.lists.specs.Members.{has-at}
use Rattle.lists.specs.Positions.{position-which, position_at, position_absent}
use Rattle.theory.specs.ServingRelays.{serving-has, serving-some, first-busiest, first-lowest}
use Rattle.theory.specs.Ordering.{order-length, order-no-repeat, order-has, order-relay, order-maximal, order-first}

pub relay-of-place : (order : List ℕ) (r : ℕ) → has order r ≡ true
    → (1 ≤ place_of order r) × (place_of order r ≤ length order) × (relay_at order (place_of order r) ≡ r)
unfolding place_of relay_at
relay-of-place order r h =
    let w = position-which order r h in
    (omega (arith, w.1, w.2), omega (arith, w.1, w.2), rw w.2 w.3)

-- A relay with a place is in the order, and so is the relay at each place.
pub placed-in : (order : List ℕ) (r : ℕ) → 1 ≤ place_of order r → has order r ≡ true
unfolding place_of
placed-in order r h = go (has order r) refl
  where
    go : (b : Bool) → has order r ≡ b → b ≡ true
    go true e = refl
    go false e = absurd (omega (arith, position_absent order r e))

pub relay-in : (order : List ℕ) (v : ℕ) → 1 ≤ v → v ≤ length order → has order (relay_at order v) ≡ true
unfolding relay_at
relay-in order v h k = has-at order (pred v) (omega arith)

-- Different relays of the order have different places.
pub places-apart : (order : List ℕ) (a b : ℕ) → has order a ≡ true → has order b ≡ true → a ≢ b → place_of order a ≢ place_of order b
places-apart order a b ha hb differ same =
    differ (sym (relay-of-place order a ha).2 ∙ ap (relay_at order) same ∙ (relay-of-place order b hb).2)

pub place-of-relay : (order : List ℕ) → NoRepeat order → (v : ℕ) → 1 ≤ v → v ≤ length order → place_of order (relay_at order v) ≡ v
unfolding place_of relay_at
place-of-relay order d zero h k = absurd (omega arith)
place-of-relay order d (suc v) h k = position_at order d v k

module _ (n : ℕ) (lows highs states : List ℕ) where
  -- The place of a relay in service, and the relay back; a withdrawn one has none.
  pub relay-placed : (r : ℕ) → Serving n states r
      → (1 ≤ place_of (order_of n lows highs states) r)
      × (place_of (order_of n lows highs states) r ≤ length (serving_relays n states))
      × (relay_at (order_of n lows highs states) (place_of (order_of n lows highs states) r) ≡ r)
  relay-placed r s =
      let w = relay-of-place (order_of n lows highs states) r (order-has n lows highs states r s) in
      (w.0, omega (arith, w.1, order-length n lows highs states), w.2)

  pub relay-unplaced : (r : ℕ) → serves states r ≡ false → place_of (order_of n lows highs states) r ≡ 0
  unfolding place_of
  relay-unplaced r s = position_absent (order_of n lows highs states) r (go (has (order_of n lows highs states) r) refl)
    where
      go : (b : Bool) → has (order_of n lows highs states) r ≡ b → b ≡ false
      go true e = absurd (true≢false (sym (order-relay n lows highs states r e).1 ∙ s))
      go false e = refl

  -- The relay at a place, and the place back.
  pub place-named : (v : ℕ) → 1 ≤ v → v ≤ length (serving_relays n states)
      → (relay_at (order_of n lows highs states) v < n)
      × (serves states (relay_at (order_of n lows highs states) v) ≡ true)
      × (place_of (order_of n lows highs states) (relay_at (order_of n lows highs states) v) ≡ v)
  place-named v h k =
      let order = order_of n lows highs states in
      let within : v ≤ length order = omega (arith, order-length n lows highs states) in
      let found = relay-in order v h within in (
        (order-relay n lows highs states (relay_at order v) found).0,
        (order-relay n lows highs states (relay_at order v) found).1,
        place-of-relay order (order-no-repeat n lows highs states) v h within,
      )

  order-done : (relays places : List ℕ) → Accepted n lows highs states → n ≤ length relays → n ≤ length places
      → order_answer n lows highs states relays places ≡ done []
  unfolding order_answer
  order-done relays places accepted h k =
      let short = ltb (length relays) n || ltb (length places) n in
      let enough =
      or-neither (ltb (length relays) n) (ltb (length places) n)
      (le-ltb (length relays) n h) (le-ltb (length places) n k) in
      then-done (table_check n lows highs states) (λ _. refuse_if short 12 0 (done [])) [] accepted
      ∙ refuse-not short 12 0 (done []) enough

  pub relays-after : (relays places : List ℕ) → Accepted n lows highs states → n ≤ length relays → n ≤ length places
      → relays_after n lows highs states relays places ≡ overwrite (order_of n lows highs states) relays
  unfolding relays_after
  relays-after relays places accepted h k =
      if-done (order_answer n lows highs states relays places) [] (overwrite (order_of n lows highs states) relays) relays
      (order-done relays places accepted h k)

  pub places-after : (relays places : List ℕ) → Accepted n lows highs states → n ≤ length relays → n ≤ length places
      → places_after n lows highs states relays places ≡ overwrite (places_of n (order_of n lows highs states)) places
  unfolding places_after
  places-after relays places accepted h k =
      if-done (order_answer n lows highs states relays places) [] (overwrite (places_of n (order_of n lows highs states)) places) places
      (order-done relays places accepted h k)

  -- The lists as Order leaves them, entry by entry.
  pub relay-entry : (relays : List ℕ) (v : ℕ) → v < length (serving_relays n states)
      → get_or (overwrite (order_of n lows highs states) relays) v 0 ≡ relay_at (order_of n lows highs states) (suc v)
  unfolding relay_at
  relay-entry relays v h =
      get_or-overwrite (order_of n lows highs states) relays v 0 (omega (arith, order-length n lows highs states))

  place-entry : (places : List ℕ) (r : ℕ) → r < n
      → get_or (overwrite (places_of n (order_of n lows highs states)) places) r 0 ≡ place_of (order_of n lows highs states) r
  unfolding places_of
  place-entry places r h =
      let order = order_of n lows highs states in
      let long = length-table (place_of order) 0 n in
      get_or-overwrite (places_of n order) places r 0 (omega arith)
      ∙ get_or-table (place_of order) 0 n r 0 h
      ∙ ap (place_of order) (zero-add r)

  maximal-lists : (relays places : List ℕ)
      → MaximalOrder n lows highs states
      (overwrite (order_of n lows highs states) relays) (overwrite (places_of n (order_of n lows highs states)) places)
  unfolding relay_at
  maximal-lists relays places =
      record {
        placed = λ r h s.
            let w = relay-placed r (h, s) in
            let at : place_of order r - 1 < length (serving_relays n states) = omega (arith, w.0, w.1) in
            let back : suc (place_of order r - 1) ≡ place_of order r = omega (arith, w.0) in
            rw (place-entry places r h)
            (w.0, w.1, relay-entry relays (place_of order r - 1) at ∙ ap (relay_at order) back ∙ w.2);
        unplaced = λ r h s. place-entry places r h ∙ relay-unplaced r s;
        named = λ v h.
            let w = place-named (suc v) (omega arith) h in
            rw (relay-entry relays v h) (w.0, w.1, place-entry places (relay_at order (suc v)) w.0 ∙ w.2 ∙ omega arith);
        maximal = λ v w h k.
            rw (
              take-overwrite order relays v (omega (arith, long)),
              get_or-overwrite order relays v 0 (omega (arith, long)),
              get_or-overwrite order relays w 0 (omega (arith, long)),
            )
            (order-maximal n lows highs states v w h k);
        busiest = λ r h s.
            let found = serving-has n states r (h, s) in
            rw (first_entry (serving-some n states r found)) (first-busiest n states lows highs r found);
        lowest = λ r h s.
            let found = serving-has n states r (h, s) in
            rw (first_entry (serving-some n states r found)) (first-lowest n states lows highs r found);
      }
    where
      order : List ℕ
      order = order_of n lows highs states

      long : length (order_of n lows highs states) ≡ length (serving_relays n states)
      long = order-length n lows highs states

      first_entry : 0 < length (serving_relays n states) → get_or (overwrite order relays) 0 0 ≡ first_relay n lows highs states
      first_entry some = get_or-overwrite order relays 0 0 (omega (arith, long)) ∙ order-first n lows highs states some

pub maximal-order : (n : ℕ) (lows highs states relays places : List ℕ)
    → Accepted n lows highs states → n ≤ length relays → n ≤ length places
    → MaximalOrder n lows highs states (relays_after n lows highs states relays places) (places_after n lows highs states relays places)
maximal-order n lows highs states relays places accepted h k =
    rw (relays-after n lows highs states relays places accepted h k, places-after n lows highs states relays places accepted h k)
    (maximal-lists n lows highs states relays places)
