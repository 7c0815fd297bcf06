-- The laws of links with a withdrawn end: link by link they count no more, and then what is counted at each relay are its links
-- with both ends in service. Assumes nothing.
use Prim.Native.Nat.{ℕ, suc, ◌+◌, ◌-◌, ◌≤◌, ◌<◌}
use mathlib.Core.Bool.{Bool, true, false, ◌&&◌, not}
use mathlib.Core.List.{List, [], ◌∷◌}
use mathlib.Core.Path.{◌≡◌, refl, sym, ◌∙◌, ap}
use native.Mathlib.Decide.{ℕ_discrete}
use native.Mathlib.Omega.{arith}
use borrow.Author.Tests.{eq-eqb, ne_eqb, lt-ltb, le-ltb, ltb-true, ltb-false}
use lib.Dec.{eqb, ltb}
use lib.ListN.{length, get_or, length-set}
use lib.Seq.{get_or-set_same, get_or-set_other}
use Rattle.definitions.specs.Outcome.{pick}
use Rattle.definitions.specs.Lists.{table, count}
use Rattle.definitions.specs.Network.{touches, serves, link_serves}
use Rattle.definitions.specs.Order.{links_at}
use Rattle.lists.specs.Counting.{count_none}
use Rattle.lists.specs.Members.{range-bounds}
use Rattle.lists.specs.Tests.{and-all, and-false}
use Rattle.forests.specs.Counts.{NoneBeyond, turns_of}
use Rattle.forests.specs.LinkCounts.{
  links_from,
  CountedFrom,
  idle_at,
  idle_from,
  DiscountedTo,
  ServingCounted,
  Discountable,
  less_link,
  discounted,
}
use Rattle.forests.proofs.CountLaws.{all-serve}

-- Those that pass a test pass another too, or not.
count-split : (test other : ℕ → Bool) (l : List ℕ)
    → count test l ≡ count (λ j. test j && other j) l + count (λ j. test j && not (other j)) l
unfolding count
count-split test other [] = refl
count-split test other (x ∷ l) = go (test x) (other x) (count-split test other l)
  where
    go : (a b : Bool)
        → count test l ≡ count (λ j. test j && other j) l + count (λ j. test j && not (other j)) l
        → pick a 1 0 + count test l
        ≡ pick (a && b) 1 0 + count (λ j. test j && other j) l + (pick (a && not b) 1 0 + count (λ j. test j && not (other j)) l)
    go true true e = omega (arith, e)
    go true false e = omega (arith, e)
    go false b e = omega (arith, e)

module _ (lows highs states : List ℕ) where
  idle-end : (r : ℕ) → idle_from lows highs states (length lows) r ≡ 0
  unfolding idle_from table count
  idle-end r = let p : length lows - length lows ≡ 0 = omega arith in rw p

  idle-more : (h r : ℕ) → h < length lows
      → idle_from lows highs states h r ≡ pick (idle_at lows highs states r h) 1 0 + idle_from lows highs states (h + 1) r
  unfolding idle_from table count
  idle-more h r within = let p : length lows - h ≡ suc (length lows - (h + 1)) = omega arith in rw p

  links-split : (r : ℕ) → links_from lows highs 0 r ≡ links_at lows highs states r + idle_from lows highs states 0 r
  unfolding links_from links_at idle_from idle_at
  links-split r =
      let p : length lows - 0 ≡ length lows = omega arith in
      rw p (count-split (touches lows highs r) (link_serves lows highs states) (table (λ (j : ℕ). j) 0 (length lows)))

  pub discount-starts : (counts : List ℕ) → CountedFrom lows highs 0 counts → DiscountedTo lows highs states 0 counts
  discount-starts counts c r = c r ∙ links-split r

  pub discount-ends : (counts : List ℕ) → DiscountedTo lows highs states (length lows) counts → ServingCounted lows highs states counts
  discount-ends counts d r = omega (arith, d r, idle-end r)

  -- A relay that is no end of a link has none.
  links-none : (n : ℕ) (counts : List ℕ) → Discountable n lows highs states counts → (r : ℕ) → n ≤ r → links_at lows highs states r ≡ 0
  unfolding links_at touches
  links-none n counts d r beyond =
      count_none (λ i. touches lows highs r i && link_serves lows highs states i) (table (λ (j : ℕ). j) 0 (length lows)) (λ i h.
      let within = range-bounds 0 (length lows) i h in
      let less = d.proper.ordered i (omega (arith, within)) in
      let below = d.proper.below i (omega (arith, within)) in
      rw (ne_eqb (get_or lows i 0) r (λ e. omega (arith, less, below)), ne_eqb (get_or highs i 0) r (λ e. omega (arith, below))))

  pub counted-beyond : (n : ℕ) (before counts : List ℕ) → Discountable n lows highs states before
      → ServingCounted lows highs states counts → NoneBeyond n counts
  counted-beyond n before counts d c r beyond = c r ∙ links-none n before d r beyond

  module _ (n : ℕ) (before : List ℕ) (d : Discountable n lows highs states before) where
    -- With all relays in service no link has a withdrawn end.
    pub none-idle : n ≤ turns_of n states → ServingCounted lows highs states before
    unfolding idle_from idle_at link_serves
    none-idle all r =
        let rest = length lows - 0 in
        let none : idle_from lows highs states 0 r ≡ 0 =
        count_none (idle_at lows highs states r) (table (λ (j : ℕ). j) 0 rest) (λ i h.
        let within = range-bounds 0 rest i h in
        let less = d.proper.ordered i (omega (arith, within)) in
        let below = d.proper.below i (omega (arith, within)) in
        rw (all-serve n states all (get_or lows i 0) (omega (arith, less, below)), all-serve n states all (get_or highs i 0) below)
        (and-false (touches lows highs r i))) in
        omega (arith, discount-starts before d.counted r, none)

    module _ (counts : List ℕ) (i : ℕ) (within : i < length lows) (c : DiscountedTo lows highs states i counts) where
      abbrev a : ℕ
      a = get_or lows i 0

      abbrev b : ℕ
      b = get_or highs i 0

      pub apart : a < b
      apart = d.proper.ordered i within

      pub both-states : (get_or states a 0 ≤ 1) × (get_or states b 0 ≤ 1)
      both-states =
          let below = d.proper.below i within in
          (d.stated.either a (omega (arith, apart, below)), d.stated.either b below)

      low_end : touches lows highs a i ≡ true
      unfolding touches
      low_end = rw (eq-eqb a a refl)

      high_end : touches lows highs b i ≡ true
      unfolding touches
      high_end = rw (ne_eqb a b (λ e. omega (arith, apart)), eq-eqb b b refl)

      -- A link whose states do not add up to 2 has a withdrawn end.
      idle-states : get_or states a 0 + get_or states b 0 < 2 → link_serves lows highs states i ≡ false
      unfolding link_serves serves
      idle-states less = go (ℕ_discrete (get_or states a 0) 1)
        where
          go : Dec (get_or states a 0 ≡ 1) → (eqb (get_or states a 0) 1 && eqb (get_or states b 0) 1) ≡ false
          go (yes e) = rw (e, ne_eqb (get_or states b 0) 1 (λ f. omega arith))
          go (no e) = rw (ne_eqb (get_or states a 0) 1 e)

      serving-states : 2 ≤ get_or states a 0 + get_or states b 0 → link_serves lows highs states i ≡ true
      unfolding link_serves serves
      serving-states all =
          let most = both-states in
          and-all (eqb (get_or states a 0) 1) (eqb (get_or states b 0) 1)
          (eq-eqb (get_or states a 0) 1 (omega (arith, most))) (eq-eqb (get_or states b 0) 1 (omega (arith, most)))

      idle-is : (r : ℕ) (t s : Bool) → touches lows highs r i ≡ t → link_serves lows highs states i ≡ s
          → idle_from lows highs states i r ≡ pick (t && not s) 1 0 + idle_from lows highs states (i + 1) r
      unfolding idle_at
      idle-is r t s e f =
          idle-more i r within
          ∙ ap (λ (x : Bool). pick (x && not (link_serves lows highs states i)) 1 0 + idle_from lows highs states (i + 1) r) e
          ∙ ap (λ (x : Bool). pick (t && not x) 1 0 + idle_from lows highs states (i + 1) r) f

      -- Such a link is counted at both its ends still.
      pub both-counted : get_or states a 0 + get_or states b 0 < 2 → (0 < get_or counts a 0) × (0 < get_or counts b 0)
      both-counted less =
          let idle = idle-states less in (
            omega (arith, c a, idle-is a true false low_end idle),
            omega (arith, c b, idle-is b true false high_end idle),
          )

      stays : link_serves lows highs states i ≡ true → DiscountedTo lows highs states (i + 1) counts
      stays e r = go (touches lows highs r i) refl
        where
          go : (t : Bool) → touches lows highs r i ≡ t
              → get_or counts r 0 ≡ links_at lows highs states r + idle_from lows highs states (i + 1) r
          go true f = omega (arith, c r, idle-is r true true f e)
          go false f = omega (arith, c r, idle-is r false true f e)

      less-at : length before ≤ length counts → get_or states a 0 + get_or states b 0 < 2
          → DiscountedTo lows highs states (i + 1) (less_link b (less_link a counts))
      unfolding touches
      less-at long less r = go (ℕ_discrete r a) (ℕ_discrete r b)
        where
          idle : link_serves lows highs states i ≡ false
          idle = idle-states less

          once : List ℕ
          once = less_link a counts

          below : b < length counts
          below = omega (arith, long, d.room, d.proper.below i within)

          kept : length once ≡ length counts
          kept = length-set counts a (get_or counts a 0 - 1)

          at_a : get_or once a 0 ≡ get_or counts a 0 - 1
          at_a = get_or-set_same counts a (get_or counts a 0 - 1) 0 (omega (arith, apart, below))

          at_b : get_or once b 0 ≡ get_or counts b 0
          at_b = get_or-set_other counts a b (get_or counts a 0 - 1) 0 (λ e. omega (arith, apart))

          go : Dec (r ≡ a) → Dec (r ≡ b)
              → get_or (less_link b once) r 0 ≡ links_at lows highs states r + idle_from lows highs states (i + 1) r
          go (yes e) h =
              rw e
              (get_or-set_other once b a (get_or once b 0 - 1) 0 (λ f. omega (arith, apart))
              ∙ at_a
              ∙ omega (arith, c a, idle-is a true false low_end idle))
          go (no e) (yes f) =
              rw f
              (get_or-set_same once b (get_or once b 0 - 1) 0 (omega (arith, kept, below))
              ∙ omega (arith, at_b, c b, idle-is b true false high_end idle))
          go (no e) (no f) =
              let other : touches lows highs r i ≡ false = rw (ne_eqb a r (λ z. e (sym z)), ne_eqb b r (λ z. f (sym z))) in
              get_or-set_other once b r (get_or once b 0 - 1) 0 f
              ∙ get_or-set_other counts a r (get_or counts a 0 - 1) 0 e
              ∙ omega (arith, c r, idle-is r false false other idle)

      pub discount-more : {counts' : List ℕ} → length before ≤ length counts
          → counts' ≡ discounted a b (get_or states a 0 + get_or states b 0) counts → DiscountedTo lows highs states (i + 1) counts'
      unfolding discounted
      discount-more {counts'} long e = rw e (go (ltb (get_or states a 0 + get_or states b 0) 2) refl)
        where
          go : (t : Bool) → ltb (get_or states a 0 + get_or states b 0) 2 ≡ t
              → DiscountedTo lows highs states (i + 1) (pick t (less_link b (less_link a counts)) counts)
          go true f = less-at long (ltb-true (get_or states a 0 + get_or states b 0) 2 f)
          go false f = stays (serving-states (ltb-false (get_or states a 0 + get_or states b 0) 2 f))

-- A link discounted or not, as the code does it.
module _ (a b both : ℕ) (counts : List ℕ) where
  pub discount-some : {once counts' : List ℕ} → both < 2 → once ≡ less_link a counts → counts' ≡ less_link b once
      → counts' ≡ discounted a b both counts
  unfolding discounted
  discount-some less e f = rw (lt-ltb both 2 less) (f ∙ ap (less_link b) e)

  pub discount-none : 2 ≤ both → counts ≡ discounted a b both counts
  unfolding discounted
  discount-none all = rw (le-ltb both 2 all)
