-- The lists when all relays are placed are those of the definitions. Assumes nothing.
use Prim.Native.Nat.{ℕ, zero, suc, pred, ◌+◌, ◌≤◌, ◌<◌}
use mathlib.Core.Bool.{Bool, true, false}
use mathlib.Core.List.{List}
use mathlib.Core.Path.{◌≡◌, refl, sym, ◌∙◌, ap}
use native.Mathlib.Decide.{dec_lt}
use native.Mathlib.Omega.{arith}
use lib.ListN.{length, get_or, take}
use lib.Seq.{ext_get_or}
use Rattle.definitions.specs.Lists.{table, overwrite, has, position}
use Rattle.definitions.specs.Network.{joins, linked, link_serves, Accepted}
use Rattle.definitions.specs.Order.{weight, serving_relays, first_relay, order_of, place_of, relay_at, places_of}
use Rattle.definitions.specs.Forests.{forest_between, forest_of, forests_of}
use Rattle.lists.specs.Members.{has-at}
use Rattle.lists.specs.Cases.{has-not}
use Rattle.lists.specs.Positions.{position_absent}
use Rattle.lists.specs.Tables.{length-table, get_or-table, length-overwrite}
use Rattle.lists.specs.Overwritten.{get_or-overwrite, get_or-overwrite-past}
use Rattle.theory.specs.ServingRelays.{serving-once, first-of-all}
use Rattle.theory.specs.Ordering.{placed-front, placed_at, later_unplaced, order-length, order-serving, order-relay}
use Rattle.theory.specs.Left.{forest-weight}
use Rattle.theory.specs.Links.{joined-linked}
use Rattle.theory.specs.ForestNumbers.{earlier_place, later_place, accepted-link-facts, no-forest}
use Rattle.forests.specs.Fronts.{SameBeyond}
use Rattle.forests.specs.Counts.{turns_of}
use Rattle.forests.specs.Scan.{placed, following, is_serving, PlacesAt, ForestsAt}
use Rattle.forests.proofs.OrderLaws.{placed-long, weight-linked}

-- A list whose front is a table and whose rest is as it was is overwritten by the table.
overwritten : (f : ℕ → ℕ) (n : ℕ) (old new : List ℕ) → n ≤ length old → SameBeyond n old new
    → ((i : ℕ) → i < n → get_or new i 0 ≡ f i) → new ≡ overwrite (table f 0 n) old
overwritten f n old new room beyond front =
    ext_get_or 0 new (overwrite (table f 0 n) old)
    (beyond.long ∙ sym (length-overwrite (table f 0 n) old (omega (arith, length-table f 0 n))))
    (λ i h. go i (dec_lt i n))
  where
    go : (i : ℕ) → Dec (i < n) → get_or new i 0 ≡ get_or (overwrite (table f 0 n) old) i 0
    go i (yes p) =
        let z : 0 + i ≡ i = omega arith in
        front i p
        ∙ sym (get_or-overwrite (table f 0 n) old i 0 (omega (arith, length-table f 0 n)) ∙ get_or-table f 0 n i 0 p ∙ ap f z)
    go i (no p) =
        beyond.rest i (omega arith) ∙ sym (get_or-overwrite-past (table f 0 n) old i 0 (omega (arith, length-table f 0 n)))

module _ (n : ℕ) (lows highs states : List ℕ) where
  pub places-finish : (start places : List ℕ) → n ≤ length start → ((r : ℕ) → r < n → get_or start r 0 ≡ 0)
      → PlacesAt n lows highs states (turns_of n states) start places
      → places ≡ overwrite (places_of n (order_of n lows highs states)) start
  unfolding places_of place_of order_of
  places-finish start places room none f =
      overwritten (position order) n start places room
      (record { long = f.long; rest = λ r h. f.rest r (beyond r h) })
      (λ r h. go r h (has order r) refl)
    where
      order : List ℕ
      order = placed n lows highs states (turns_of n states)

      beyond : (r : ℕ) → n ≤ r → has order r ≡ false
      beyond r h = has-not order r (λ e. omega (arith, (order-relay n lows highs states r e).0))

      go : (r : ℕ) → r < n → (b : Bool) → has order r ≡ b → get_or places r 0 ≡ position order r
      go r h true e = f.place r e
      go r h false e = f.rest r e ∙ none r h ∙ sym (position_absent order r e)

  -- The number that a link was given when its earlier end was placed.
  given : {start forests : List ℕ} → ForestsAt n lows highs states (turns_of n states) start forests → (i u v : ℕ) → i < length lows
      → 1 ≤ u → u < v → v ≤ turns_of n states
      → joins lows highs (relay_at (order_of n lows highs states) u) (relay_at (order_of n lows highs states) v) i ≡ true
      → get_or forests i 0 ≡ forest_between (linked lows highs) (order_of n lows highs states) u v
  unfolding order_of relay_at
  given {start} {forests} f i zero v h some less within e = absurd (omega arith)
  given {start} {forests} f i (suc u) v h some less within e =
      let head = first_relay n lows highs states in
      let all = serving_relays n states in
      let turns = turns_of n states in
      let order = placed n lows highs states turns in
      let y = get_or order (pred v) 0 in
      let waits : has (placed n lows highs states u) y ≡ false =
      later_unplaced (linked lows highs) head all (serving-once n states) (first-of-all n states lows highs) turns u (pred v)
      (omega arith) (omega arith) (omega arith) in
      let serving : is_serving n states y ≡ true =
      order-serving n lows highs states y (has-at order (pred v) (omega (arith, placed-long n lows highs states turns))) in
      let joined : joins lows highs (following n lows highs states u) y i ≡ true =
      ap (λ x. joins lows highs x y i) (sym (placed_at (linked lows highs) head all turns u (omega arith))) ∙ e in
      let count : weight (linked lows highs) (placed n lows highs states (suc u)) y ≡ weight (linked lows highs) (placed n lows highs states u) y + 1 =
      weight-linked n lows highs states u y (joined-linked lows highs (following n lows highs states u) y i h joined) in
      let front : weight (linked lows highs) (placed n lows highs states u) y ≡ weight (linked lows highs) (take u order) y =
      ap (λ l. weight (linked lows highs) l y) (placed-front (linked lows highs) head all turns u (omega arith)) in
      let number : forest_between (linked lows highs) order (suc u) v ≡ suc (weight (linked lows highs) (take u order) y) =
      forest-weight (linked lows highs) order u v less (omega (arith, placed-long n lows highs states turns))
      (joined-linked lows highs (get_or order u 0) y i h e) in
      omega (arith, f.forest i u y h (omega arith) joined serving waits, count, front, number)

  pub forests-finish : (start forests : List ℕ) → Accepted n lows highs states → length lows ≤ length start
      → ForestsAt n lows highs states (turns_of n states) start forests → forests ≡ overwrite (forests_of n lows highs states) start
  unfolding forests_of forest_of
  forests-finish start forests ok room f =
      overwritten (forest_of (linked lows highs) (order_of n lows highs states) lows highs) (length lows) start forests room f.beyond
      (λ i h. number i h (link_serves lows highs states i) refl)
    where
      serving : (i : ℕ) → i < length lows → link_serves lows highs states i ≡ true
          → get_or forests i 0 ≡ forest_of (linked lows highs) (order_of n lows highs states) lows highs i
      serving i h e =
          let l = accepted-link-facts n lows highs states ok i h e in
          let order = order_of n lows highs states in
          given f i (earlier_place order lows highs i) (later_place order lows highs i) h l.some l.under
          (omega (arith, l.within, order-length n lows highs states)) l.ends

      number : (i : ℕ) → i < length lows → (b : Bool) → link_serves lows highs states i ≡ b
          → get_or forests i 0 ≡ forest_of (linked lows highs) (order_of n lows highs states) lows highs i
      number i h true e = serving i h e
      number i h false e = f.idle i h e ∙ sym (no-forest n lows highs states i h e)
