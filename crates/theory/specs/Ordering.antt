-- The ordering over any test `linked`, any candidates without repeats and any first relay among them: it places as many relays
-- as it takes steps, none twice, and it is maximal. Assumes nothing further of the three.
use Prim.Native.Nat.{ℕ, zero, suc, ◌≤◌, ◌<◌}
use Rattle.std.specs.Prelude.{Bool, false, List, [], ◌∷◌, ◌≡◌, refl, eqb, leb, length, take}
use Rattle.std.proofs.Math.Bool.{true, not}
use Rattle.std.proofs.Common.{sym, ◌∙◌, ap, leb-true, leb-false, length-append, take_all, get_or-take}
use native.Mathlib.Omega.{arith}
use Rattle.std.proofs.lemmas.Bool.{not-true}
use Rattle.std.proofs.Math.ListN.{get_or}
use Rattle.std.proofs.lemmas.List.{take-append-le, get_or_at}
use Rattle.definitions.specs.Lists.{has, count, NoRepeat}
use Rattle.definitions.specs.Network.{linked as linked_in, Serving}
use Rattle.definitions.specs.Order.{weight, unplaced, heaviest_of, next_relay, place_next, placed_after, serving_relays, first_relay, order_of}
use Rattle.lists.specs.Tests.{and_both}
use Rattle.lists.specs.Members.{has-at, has-keep, index_of}
use Rattle.lists.specs.Distinct.{no-repeat-snoc, distinct}
use Rattle.lists.specs.Counting.{count-has, count-not, count-once, count-present, length-keep, covers}
use Rattle.lists.specs.Ascending.{Ascending, ascending-keep}
use Rattle.theory.specs.ServingRelays.{serving-few, serving-once, serving-has, serving-relay, first-of-all}
use Rattle.theory.specs.Heaviest.{Chosen, heaviest_of-chosen, chosen-has, chosen-most, chosen_is}

-- What has no place yet: a candidate that is not placed.
pub unplaced-has : (placed candidates : List ℕ) (r : ℕ)
    → has candidates r ≡ true → has placed r ≡ false → has (unplaced placed candidates) r ≡ true
unfolding unplaced
unplaced-has placed candidates r c p = has-keep (λ x. not (has placed x)) candidates r ∙ rw (c, p)

pub has-unplaced : (placed candidates : List ℕ) (r : ℕ)
    → has (unplaced placed candidates) r ≡ true → (has candidates r ≡ true) × (has placed r ≡ false)
unfolding unplaced
has-unplaced placed candidates r h =
    let both = and_both (has candidates r) (not (has placed r)) (sym (has-keep (λ x. not (has placed x)) candidates r) ∙ h) in
    (both.0, not-true (has placed r) both.1)

-- While fewer are placed than there are candidates, some have no place.
pub unplaced-some : (placed candidates : List ℕ) → NoRepeat candidates
    → length placed < length candidates → 0 < length (unplaced placed candidates)
unfolding unplaced
unplaced-some placed candidates unique h =
    omega (
      arith,
      length-keep (λ x. not (has placed x)) candidates,
      count-not (has placed) candidates,
      count-has placed candidates unique,
    )

-- After the first relay the choice is among those that have no place.
pub next-heaviest : (linked : ℕ → ℕ → Bool) (first : ℕ) (candidates placed : List ℕ) → 0 < length placed
    → next_relay linked first candidates placed ≡ heaviest_of (weight linked placed) (unplaced placed candidates)
unfolding next_relay
next-heaviest linked first candidates [] h = absurd (omega arith)
next-heaviest linked first candidates (p ∷ placed) h = refl

pub placed-length : (linked : ℕ → ℕ → Bool) (first : ℕ) (candidates : List ℕ) (k : ℕ)
    → length (placed_after linked first candidates k) ≡ k
unfolding placed_after place_next
placed-length linked first candidates zero = refl
placed-length linked first candidates (suc k) =
    let placed = placed_after linked first candidates k in
    omega (
      arith,
      length-append placed (next_relay linked first candidates placed ∷ []),
      placed-length linked first candidates k,
    )

-- What is placed keeps its place.
pub placed-front : (linked : ℕ → ℕ → Bool) (first : ℕ) (candidates : List ℕ) (n k : ℕ) → k ≤ n
    → placed_after linked first candidates k ≡ take k (placed_after linked first candidates n)
unfolding placed_after place_next
placed-front linked first candidates zero zero h = refl
placed-front linked first candidates zero (suc k) h = absurd (omega arith)
placed-front linked first candidates (suc n) k h = go (leb k n) refl (placed-front linked first candidates n k)
  where
    go : (b : Bool) → leb k n ≡ b
        → (k ≤ n → placed_after linked first candidates k ≡ take k (placed_after linked first candidates n))
        → placed_after linked first candidates k ≡ take k (placed_after linked first candidates (suc n))
    go true e rest =
        let within : k ≤ n = leb-true k n e in
        let placed = placed_after linked first candidates n in
        rest within
        ∙ sym
        (take-append-le k placed (next_relay linked first candidates placed ∷ [])
        (omega (arith, placed-length linked first candidates n)))
    go false e rest =
        let last : k ≡ suc n = omega (arith, leb-false k n e) in
        let whole = placed_after linked first candidates (suc n) in
        ap (placed_after linked first candidates) last
        ∙ sym (take_all k whole (omega (arith, placed-length linked first candidates (suc n))))

-- The relay at index k is the one that was chosen when k were placed.
pub placed_at : (linked : ℕ → ℕ → Bool) (first : ℕ) (candidates : List ℕ) (n k : ℕ) → k < n
    → get_or (placed_after linked first candidates n) k 0 ≡ next_relay linked first candidates (placed_after linked first candidates k)
unfolding placed_after place_next
placed_at linked first candidates n k h =
    let placed = placed_after linked first candidates k in
    sym (get_or-take (suc k) (placed_after linked first candidates n) k 0 (omega arith))
    ∙ ap (λ (l : List ℕ). get_or l k 0) (sym (placed-front linked first candidates n (suc k) h))
    ∙ get_or_at placed (next_relay linked first candidates placed) [] 0 k (placed-length linked first candidates k)

module _
    (linked : ℕ → ℕ → Bool)
    (first : ℕ)
    (candidates : List ℕ)
    (unique : NoRepeat candidates)
    (first_in : 0 < length candidates → has candidates first ≡ true)
  where
    -- The relay that comes after k: of those without a place the first of the greatest weight.
    pub next-chosen : (k : ℕ) → 0 < k → k < length candidates
        → Chosen
        (weight linked (placed_after linked first candidates k))
        (unplaced (placed_after linked first candidates k) candidates)
        (next_relay linked first candidates (placed_after linked first candidates k))
    next-chosen k some few =
        let placed = placed_after linked first candidates k in
        let long : length placed ≡ k = placed-length linked first candidates k in
        rw (next-heaviest linked first candidates placed (omega arith))
        (heaviest_of-chosen (weight linked placed) (unplaced placed candidates) (unplaced-some placed candidates unique (omega arith)))

    -- Where the candidates rise, the next relay is told by its weight and number: no unplaced one is heavier, and of equals it is
    -- the lowest.
    pub next-is : Ascending candidates → (k : ℕ) → 0 < k → k < length candidates → (b : ℕ)
        → has candidates b ≡ true → has (placed_after linked first candidates k) b ≡ false
        → ((y : ℕ) → has candidates y ≡ true → has (placed_after linked first candidates k) y ≡ false
        → (weight linked (placed_after linked first candidates k) y ≤ weight linked (placed_after linked first candidates k) b)
        × (weight linked (placed_after linked first candidates k) y ≡ weight linked (placed_after linked first candidates k) b → b ≤ y))
        → next_relay linked first candidates (placed_after linked first candidates k) ≡ b
    unfolding unplaced
    next-is rise k some few b candidate waits top =
        let placed = placed_after linked first candidates k in
        let w = weight linked placed in
        chosen_is w (unplaced placed candidates) (next_relay linked first candidates placed)
        (ascending-keep (λ x. not (has placed x)) candidates rise) (next-chosen k some few) b
        (unplaced-has placed candidates b candidate waits)
        (λ y open'. let found = has-unplaced placed candidates y open' in top y found.0 found.1)

    pub next-new : (k : ℕ) → k < length candidates
        → (has candidates (next_relay linked first candidates (placed_after linked first candidates k)) ≡ true)
        × (has (placed_after linked first candidates k) (next_relay linked first candidates (placed_after linked first candidates k)) ≡ false)
    unfolding placed_after next_relay has
    next-new zero few = (first_in few, refl)
    next-new (suc k) few =
        let placed = placed_after linked first candidates (suc k) in
        let next = next_relay linked first candidates placed in
        has-unplaced placed candidates next
        (chosen-has (weight linked placed) (unplaced placed candidates) next (next-chosen (suc k) (omega arith) few))

    pub placed-no-repeat : (k : ℕ) → k ≤ length candidates → NoRepeat (placed_after linked first candidates k)
    unfolding placed_after place_next
    placed-no-repeat zero h = tt
    placed-no-repeat (suc k) h =
        let placed = placed_after linked first candidates k in
        no-repeat-snoc placed (next_relay linked first candidates placed) (placed-no-repeat k (omega arith)) (next-new k h).1

    pub placed-candidates : (k : ℕ) → k ≤ length candidates
        → (r : ℕ) → has (placed_after linked first candidates k) r ≡ true → has candidates r ≡ true
    placed-candidates k h r p =
        let i = index_of (placed_after linked first candidates k) r p in
        let long = placed-length linked first candidates k in
        let at : i.0 < k = omega (arith, i.1) in
        let e = sym (placed_at linked first candidates k i.0 at) ∙ i.2 in
        rw e at (next-new i.0 (omega arith)).0

    -- After as many steps as there are candidates each has its place.
    pub placed-all : (r : ℕ) → has candidates r ≡ true → has (placed_after linked first candidates (length candidates)) r ≡ true
    placed-all =
        let order = placed_after linked first candidates (length candidates) in
        covers candidates order
        (placed-no-repeat (length candidates) (omega arith))
        (placed-candidates (length candidates) (omega arith))
        (omega (arith, placed-length linked first candidates (length candidates)))

    -- A relay that comes at or after index v has no place among the first v.
    pub later_unplaced : (n v w : ℕ) → n ≤ length candidates → v ≤ w → w < n
        → has (placed_after linked first candidates v) (get_or (placed_after linked first candidates n) w 0) ≡ false
    later_unplaced n v w within h k = go (has placed r) refl
      where
        order : List ℕ
        order = placed_after linked first candidates n

        placed : List ℕ
        placed = placed_after linked first candidates v

        r : ℕ
        r = get_or order w 0

        go : (b : Bool) → has placed r ≡ b → b ≡ false
        go true e =
            let i = index_of placed r e in
            let early : i.0 < v = omega (arith, i.1, placed-length linked first candidates v) in
            let same : get_or order i.0 0 ≡ get_or order w 0 =
            sym (get_or-take v order i.0 0 early)
            ∙ ap (λ (l : List ℕ). get_or l i.0 0) (sym (placed-front linked first candidates n v (omega arith)))
            ∙ i.2 in
            absurd
            (distinct order (placed-no-repeat n within) i.0 w (omega arith)
            (omega (arith, placed-length linked first candidates n)) same)
        go false e = refl

    -- Maximal: the relay at index v has at least as many neighbours among the first v as any that comes later.
    pub placed-maximal : (n v w : ℕ) → n ≤ length candidates → v < w → w < n
        → count (λ p. linked p (get_or (placed_after linked first candidates n) w 0)) (take v (placed_after linked first candidates n))
        ≤ count (λ p. linked p (get_or (placed_after linked first candidates n) v 0)) (take v (placed_after linked first candidates n))
    unfolding weight count
    placed-maximal n zero w within h k = omega arith
    placed-maximal n (suc v) w within h k =
        let order = placed_after linked first candidates n in
        let placed = placed_after linked first candidates (suc v) in
        let r = get_or order w 0 in
        let next = next_relay linked first candidates placed in
        let candidate : has candidates r ≡ true =
        placed-candidates n within r (has-at order w (omega (arith, placed-length linked first candidates n))) in
        let waits : has (unplaced placed candidates) r ≡ true =
        unplaced-has placed candidates r candidate (later_unplaced n (suc v) w within (omega arith) k) in
        let most : weight linked placed r ≤ weight linked placed next =
        chosen-most (weight linked placed) (unplaced placed candidates) next
        (next-chosen (suc v) (omega arith) (omega arith)) r waits in
        rw (
          placed_at linked first candidates n (suc v) (omega arith),
          ← placed-front linked first candidates n (suc v) (omega arith),
        )
        most

-- The order as it is defined: the relays in service, `first_relay` first.
module _ (n : ℕ) (lows highs states : List ℕ) where
  pub order-length : length (order_of n lows highs states) ≡ length (serving_relays n states)
  unfolding order_of
  order-length =
      placed-length (linked_in lows highs) (first_relay n lows highs states) (serving_relays n states) (length (serving_relays n states))

  pub order-few : length (order_of n lows highs states) ≤ n
  order-few = omega (arith, order-length, serving-few n states)

  pub order-no-repeat : NoRepeat (order_of n lows highs states)
  unfolding order_of
  order-no-repeat =
      placed-no-repeat (linked_in lows highs) (first_relay n lows highs states) (serving_relays n states) (serving-once n states)
      (first-of-all n states lows highs) (length (serving_relays n states)) (omega arith)

  pub order-serving : (r : ℕ) → has (order_of n lows highs states) r ≡ true → has (serving_relays n states) r ≡ true
  unfolding order_of
  order-serving r h =
      placed-candidates (linked_in lows highs) (first_relay n lows highs states) (serving_relays n states) (serving-once n states)
      (first-of-all n states lows highs) (length (serving_relays n states)) (omega arith) r h

  pub order-relay : (r : ℕ) → has (order_of n lows highs states) r ≡ true → Serving n states r
  order-relay r h = serving-relay n states r (order-serving r h)

  pub order-has : (r : ℕ) → Serving n states r → has (order_of n lows highs states) r ≡ true
  unfolding order_of
  order-has r s =
      placed-all (linked_in lows highs) (first_relay n lows highs states) (serving_relays n states) (serving-once n states)
      (first-of-all n states lows highs) r (serving-has n states r s)

  pub order-once : (r : ℕ) → Serving n states r → count (eqb r) (order_of n lows highs states) ≡ 1
  order-once r s =
      let order = order_of n lows highs states in
      omega (arith, count-once r order order-no-repeat, count-present r order (order-has r s))

  pub order-at : (v : ℕ) → v < length (order_of n lows highs states) → get_or (order_of n lows highs states) v 0 < n
  order-at v h =
      let order = order_of n lows highs states in
      (order-relay (get_or order v 0) (has-at order v h)).0

  pub order-maximal : (v w : ℕ) → v < w → w < length (serving_relays n states)
      → count (λ p. linked_in lows highs p (get_or (order_of n lows highs states) w 0)) (take v (order_of n lows highs states))
      ≤ count (λ p. linked_in lows highs p (get_or (order_of n lows highs states) v 0)) (take v (order_of n lows highs states))
  unfolding order_of
  order-maximal v w h k =
      placed-maximal (linked_in lows highs) (first_relay n lows highs states) (serving_relays n states) (serving-once n states)
      (first-of-all n states lows highs) (length (serving_relays n states)) v w (omega arith) h k

  -- "the first relay is the one with the most links, of equals the lowest number"
  pub order-first : 0 < length (serving_relays n states) → get_or (order_of n lows highs states) 0 0 ≡ first_relay n lows highs states
  unfolding order_of placed_after next_relay
  order-first h =
      placed_at (linked_in lows highs) (first_relay n lows highs states) (serving_relays n states) (length (serving_relays n states)) 0 h
