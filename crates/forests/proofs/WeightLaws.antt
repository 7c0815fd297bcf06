-- The weight of a waiting relay is small, because the table is short: it has that many earlier neighbours when it is placed.
-- Assumes nothing.
use Prim.Native.Nat.{ℕ, suc, ◌*◌, ◌≤◌, ◌<◌}
use mathlib.Core.Bool.{Bool, true, false, true≢false}
use mathlib.Core.List.{List, ◌++◌}
use mathlib.Core.Logic.{by_cases}
use mathlib.Core.Path.{◌≡◌, sym, ◌∙◌, ap}
use native.Mathlib.Decide.{dec_lt}
use native.Mathlib.Nat.{mul-le-mul}
use native.Mathlib.Omega.{arith}
use lib.ListN.{length, get_or, take, drop, take-append-drop}
use Rattle.definitions.specs.Lists.{has, count}
use Rattle.definitions.specs.Network.{linked, Accepted}
use Rattle.definitions.specs.Order.{weight, serving_relays, first_relay, order_of, relay_at}
use Rattle.definitions.specs.Forests.{earlier}
use Rattle.lists.specs.Members.{index_of}
use Rattle.lists.specs.Counting.{count-append}
use Rattle.lists.specs.Rising.{rising-count}
use Rattle.theory.specs.Accepted.{accepted}
use Rattle.theory.specs.ServingRelays.{serving-below, serving-serves}
use Rattle.theory.specs.Ordering.{placed-front, placed_at, order-length, order-has}
use Rattle.theory.specs.Left.{earlier-in, left-count}
use Rattle.theory.specs.Arranged.{base-arranged}
use Rattle.theory.proofs.ForestDepth.{table-depth}
use Rattle.forests.specs.Counts.{turns_of}
use Rattle.forests.specs.Buckets.{most_count}
use Rattle.forests.specs.Scan.{placed, following, is_serving}
use Rattle.forests.proofs.OrderLaws.{placed-earlier}

module _ (n : ℕ) (lows highs states : List ℕ) where
  weight-rises : (k j r : ℕ) → k ≤ j
      → weight (linked lows highs) (placed n lows highs states k) r ≤ weight (linked lows highs) (placed n lows highs states j) r
  unfolding weight
  weight-rises k j r le =
      let test : ℕ → Bool = λ p. linked lows highs p r in
      let order = placed n lows highs states j in
      let front : count test (placed n lows highs states k) ≡ count test (take k order) =
      ap (count test) (placed-front (linked lows highs) (first_relay n lows highs states) (serving_relays n states) j k le) in
      let whole : count test (take k order ++ drop k order) ≡ count test order = ap (count test) (take-append-drop k order) in
      omega (arith, front, whole, count-append test (take k order) (drop k order))

  -- A relay that waits when k relays are placed comes at index k or later.
  comes-later : (k r : ℕ) → is_serving n states r ≡ true → has (placed n lows highs states k) r ≡ false
      → (j : ℕ) × (k ≤ j) × (j < turns_of n states) × (get_or (order_of n lows highs states) j 0 ≡ r)
  unfolding order_of
  comes-later k r serving waits =
      let w = index_of (order_of n lows highs states) r (order-has n lows highs states r (serving-below n states r serving, serving-serves n states r serving)) in
      let within : w.0 < turns_of n states = omega (arith, w.1, order-length n lows highs states) in
      let is_next : following n lows highs states w.0 ≡ r =
      sym (placed_at (linked lows highs) (first_relay n lows highs states) (serving_relays n states) (turns_of n states) w.0 within) ∙ w.2 in
      let late : ¬ (w.0 < k) = λ early.
      true≢false (sym (placed-earlier n lows highs states w.0 k early) ∙ ap (has (placed n lows highs states k)) is_next ∙ waits) in
      (w.0, omega arith, within, w.2)

  -- The earlier neighbours of the relay at index j are those it is linked to when j relays are placed.
  earlier-weight : (j : ℕ) → j < turns_of n states
      → length (earlier (linked lows highs) (order_of n lows highs states) (suc j))
      ≡ weight (linked lows highs) (placed n lows highs states j) (get_or (order_of n lows highs states) j 0)
  unfolding order_of relay_at weight
  earlier-weight j h =
      let order = order_of n lows highs states in
      let test : ℕ → Bool = λ p. linked lows highs p (get_or order j 0) in
      ap length (earlier-in (linked lows highs) order (suc j) (omega arith) (omega (arith, order-length n lows highs states)))
      ∙ rising-count test order j (omega (arith, order-length n lows highs states))
      ∙ ap (count test) (sym (placed-front (linked lows highs) (first_relay n lows highs states) (serving_relays n states) (turns_of n states) j (omega arith)))

weight-bound : (n : ℕ) (lows highs states : List ℕ) → Accepted n lows highs states → (k r : ℕ) → is_serving n states r ≡ true
    → has (placed n lows highs states k) r ≡ false
    → weight (linked lows highs) (placed n lows highs states k) r * suc (weight (linked lows highs) (placed n lows highs states k) r)
    ≤ 2 * length lows
weight-bound n lows highs states ok k r serving waits = by_cases (dec_lt 0 c) some none
  where
    c : ℕ
    c = weight (linked lows highs) (placed n lows highs states k) r

    some : 0 < c → c * suc c ≤ 2 * length lows
    some one =
        let order = order_of n lows highs states in
        let later = comes-later n lows highs states k r serving waits in
        let j = later.0 in
        let links : length (earlier (linked lows highs) order (suc j)) ≡ weight (linked lows highs) (placed n lows highs states j) r =
        earlier-weight n lows highs states j later.2 ∙ ap (weight (linked lows highs) (placed n lows highs states j)) later.3 in
        table-depth order lows highs (base-arranged n lows highs states ok) c (suc j)
        ((left-count (linked lows highs) order c (suc j) one).1 (omega (arith, links, weight-rises n lows highs states k j r later.1)))

    none : ¬ (0 < c) → c * suc c ≤ 2 * length lows
    none light = let nothing : c ≡ 0 = omega arith in rw nothing (omega arith)

-- 77 × 78 is more than twice 3,000.
pub weight-few : (n : ℕ) (lows highs states : List ℕ) → Accepted n lows highs states → (k r : ℕ) → is_serving n states r ≡ true
    → has (placed n lows highs states k) r ≡ false → weight (linked lows highs) (placed n lows highs states k) r < most_count
weight-few n lows highs states ok k r serving waits =
    let c = weight (linked lows highs) (placed n lows highs states k) r in
    let light : ¬ (most_count ≤ c) = λ heavy.
    let product : most_count * suc most_count ≤ c * suc c = mul-le-mul {n₁ = most_count} {m₁ = suc most_count} heavy (omega arith) in
    omega (arith, product, weight-bound n lows highs states ok k r serving waits, (accepted n lows highs states ok).short) in
    omega arith
