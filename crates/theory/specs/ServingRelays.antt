-- What the theory uses of the relays that get a place and of the first one: they are the relays in service, no relay stands twice
-- among them, and the first is the one of them with the most links, of equals the lowest.
use Rattle.std.specs.Prelude.{ℕ, ◌≤◌, ◌<◌, true, false, List, ◌≡◌, length}
use Rattle.std.proofs.Common.{sym, ◌∙◌}
use native.Mathlib.Omega.{arith}
use Rattle.definitions.specs.Lists.{has, NoRepeat}
use Rattle.definitions.specs.Network.{serves, Serving}
use Rattle.definitions.specs.Order.{all_relays, serving_relays, links_at, first_relay}
use Rattle.lists.specs.Ascending.{Ascending, ascending-range, ascending-keep}
use Rattle.lists.specs.Counting.{count-length, length-keep}
use Rattle.lists.specs.Distinct.{range-no-repeat, no-repeat-keep}
use Rattle.lists.specs.Members.{range-has, range-bounds, has-keep, index_of}
use Rattle.lists.specs.Tables.{length-table}
use Rattle.lists.specs.Tests.{and_both, and-false}
use Rattle.theory.specs.Heaviest.{Chosen, heaviest_of-chosen, chosen-has, chosen-most, chosen-lowest, chosen_is}

module _ (n : ℕ) (states : List ℕ) where
  pub serving-few : length (serving_relays n states) ≤ n
  unfolding serving_relays all_relays
  serving-few =
      omega (
        arith,
        length-keep (serves states) (all_relays n),
        count-length (serves states) (all_relays n),
        length-table (λ (r : ℕ). r) 0 n,
      )

  pub serving-once : NoRepeat (serving_relays n states)
  unfolding serving_relays all_relays
  serving-once = no-repeat-keep (serves states) (all_relays n) (range-no-repeat 0 n)

  pub serving-has : (r : ℕ) → Serving n states r → has (serving_relays n states) r ≡ true
  unfolding serving_relays all_relays
  serving-has r s =
      let below = s.0 in
      has-keep (serves states) (all_relays n) r ∙ rw (range-has 0 n r (omega arith) (omega arith), s.1)

  both : (r : ℕ) → has (serving_relays n states) r ≡ true → (has (all_relays n) r ≡ true) × (serves states r ≡ true)
  unfolding serving_relays
  both r h = and_both (has (all_relays n) r) (serves states r) (sym (has-keep (serves states) (all_relays n) r) ∙ h)

  pub serving-below : (r : ℕ) → has (serving_relays n states) r ≡ true → r < n
  unfolding all_relays
  serving-below r h = omega (arith, range-bounds 0 n r (both r h).0)

  pub serving-serves : (r : ℕ) → has (serving_relays n states) r ≡ true → serves states r ≡ true
  serving-serves r h = (both r h).1

  pub serving-relay : (r : ℕ) → has (serving_relays n states) r ≡ true → Serving n states r
  serving-relay r h = (serving-below r h, serving-serves r h)

  pub serving-not : (r : ℕ) → serves states r ≡ false → has (serving_relays n states) r ≡ false
  unfolding serving_relays
  serving-not r e = has-keep (serves states) (all_relays n) r ∙ rw e (and-false (has (all_relays n) r))

  pub serving-some : (r : ℕ) → has (serving_relays n states) r ≡ true → 0 < length (serving_relays n states)
  serving-some r h = omega (arith, (index_of (serving_relays n states) r h).1)

  pub serving-ascending : Ascending (serving_relays n states)
  unfolding serving_relays all_relays
  serving-ascending = ascending-keep (serves states) (all_relays n) (ascending-range 0 n)

  module _ (lows highs : List ℕ) where
    first-chosen : 0 < length (serving_relays n states)
        → Chosen (links_at lows highs states) (serving_relays n states) (first_relay n lows highs states)
    unfolding first_relay
    first-chosen = heaviest_of-chosen (links_at lows highs states) (serving_relays n states)

    pub first-of-all : 0 < length (serving_relays n states) → has (serving_relays n states) (first_relay n lows highs states) ≡ true
    first-of-all h =
        chosen-has (links_at lows highs states) (serving_relays n states) (first_relay n lows highs states) (first-chosen h)

    -- No relay in service has more links than the first, and of equals it is the lowest;
    pub first-busiest : (r : ℕ) → has (serving_relays n states) r ≡ true
        → links_at lows highs states r ≤ links_at lows highs states (first_relay n lows highs states)
    first-busiest r h =
        chosen-most (links_at lows highs states) (serving_relays n states) (first_relay n lows highs states)
        (first-chosen (serving-some r h)) r h

    pub first-lowest : (r : ℕ) → has (serving_relays n states) r ≡ true
        → links_at lows highs states r ≡ links_at lows highs states (first_relay n lows highs states) → first_relay n lows highs states ≤ r
    first-lowest r h e =
        let first = first_relay n lows highs states in
        let fewer : r < first → links_at lows highs states r < links_at lows highs states first =
        chosen-lowest (links_at lows highs states) (serving_relays n states) first serving-ascending
        (first-chosen (serving-some r h)) r h in
        let within : ¬ (r < first) = λ less. omega (arith, fewer less) in
        omega arith

    -- and by this it is told.
    pub first-is : (b : ℕ) → has (serving_relays n states) b ≡ true
        → ((y : ℕ) → has (serving_relays n states) y ≡ true
        → (links_at lows highs states y ≤ links_at lows highs states b)
        × (links_at lows highs states y ≡ links_at lows highs states b → b ≤ y))
        → first_relay n lows highs states ≡ b
    first-is b h top =
        chosen_is (links_at lows highs states) (serving_relays n states) (first_relay n lows highs states) serving-ascending
        (first-chosen (serving-some b h)) b h top
