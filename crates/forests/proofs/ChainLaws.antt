-- The laws of the search that a chain of links stands for. Assumes nothing.
use Prim.Native.Nat.{ℕ, zero, suc, ◌+◌, ◌-◌, ◌*◌, ◌/◌, ◌≤◌, ◌<◌}
use mathlib.Core.Bool.{Bool, true, false, ◌||◌}
use mathlib.Core.List.{List}
use mathlib.Core.Path.{◌≡◌, refl, sym, ◌∙◌, ap, subst}
use native.Mathlib.Decide.{dec_le, ℕ_discrete}
use native.Mathlib.Omega.{arith}
use borrow.Author.Tests.{eqb-true, eqb-false, lt-ltb, le-ltb}
use lib.Dec.{eqb, ltb}
use lib.ListN.{length, get_or, set, length-set}
use lib.Seq.{get_or-set_same, get_or-set_other}
use Rattle.definitions.specs.Network.{touches}
use Rattle.definitions.specs.Outcome.{pick}
use Rattle.forests.specs.Chains.{next_at, next_from, half_of, next_half, Chainable, ChainedFrom}

module _ (lows highs : List ℕ) (r : ℕ) where
  at-within : (count i : ℕ) → (i ≤ next_at lows highs r count i) × (next_at lows highs r count i ≤ i + count)
  unfolding next_at
  at-within zero i = omega arith
  at-within (suc count) i = go (touches lows highs r i) (at-within count (suc i))
    where
      go : (b : Bool) → (suc i ≤ next_at lows highs r count (suc i)) × (next_at lows highs r count (suc i) ≤ suc i + count)
          → (i ≤ pick b i (next_at lows highs r count (suc i))) × (pick b i (next_at lows highs r count (suc i)) ≤ i + suc count)
      go true h = omega arith
      go false h = omega arith

  at-touches : (count i : ℕ) → next_at lows highs r count i < i + count
      → touches lows highs r (next_at lows highs r count i) ≡ true
  unfolding next_at
  at-touches zero i h = absurd (omega arith)
  at-touches (suc count) i h = go (touches lows highs r i) refl h (at-touches count (suc i))
    where
      go : (b : Bool) → touches lows highs r i ≡ b → pick b i (next_at lows highs r count (suc i)) < i + suc count
          → (next_at lows highs r count (suc i) < suc i + count → touches lows highs r (next_at lows highs r count (suc i)) ≡ true)
          → touches lows highs r (pick b i (next_at lows highs r count (suc i))) ≡ true
      go true e g ih = e
      go false e g ih = ih (omega arith)

  at-between : (count i j : ℕ) → i ≤ j → j < next_at lows highs r count i → touches lows highs r j ≡ false
  unfolding next_at
  at-between zero i j h g = absurd (omega arith)
  at-between (suc count) i j h g = go (touches lows highs r i) refl g (dec_le (suc i) j) (at-between count (suc i) j)
    where
      go : (b : Bool) → touches lows highs r i ≡ b → j < pick b i (next_at lows highs r count (suc i)) → Dec (suc i ≤ j)
          → (suc i ≤ j → j < next_at lows highs r count (suc i) → touches lows highs r j ≡ false)
          → touches lows highs r j ≡ false
      go true e f d ih = absurd (omega arith)
      go false e f (yes d) ih = ih d f
      go false e f (no d) ih = let p : i ≡ j = omega arith in rw p at e

  -- One link more in front.
  next-step : (i : ℕ) → i < length lows
      → next_from lows highs r i ≡ pick (touches lows highs r i) i (next_from lows highs r (suc i))
  unfolding next_from next_at
  next-step i h = let p : length lows - i ≡ suc (length lows - suc i) = omega arith in rw p

  next-end : next_from lows highs r (length lows) ≡ length lows
  unfolding next_from next_at
  next-end = let p : length lows - length lows ≡ 0 = omega arith in rw p

  pub next-within : (i : ℕ) → i ≤ length lows → (i ≤ next_from lows highs r i) × (next_from lows highs r i ≤ length lows)
  unfolding next_from
  next-within i h = omega (arith, at-within (length lows - i) i)

  pub next-touches : (i : ℕ) → next_from lows highs r i < length lows → touches lows highs r (next_from lows highs r i) ≡ true
  unfolding next_from
  next-touches i h = at-touches (length lows - i) i (omega (arith, at-within (length lows - i) i))

  pub next-between : (i j : ℕ) → i ≤ j → j < next_from lows highs r i → touches lows highs r j ≡ false
  unfolding next_from
  next-between i j = at-between (length lows - i) i j

  -- The next half-link: of the next link if there is one, else twice the number of links.
  pub half-some : (i : ℕ) → next_from lows highs r i < length lows → next_half lows highs r i ≡ half_of lows r (next_from lows highs r i)
  unfolding next_half
  half-some i h = rw (lt-ltb (next_from lows highs r i) (length lows) h)

  pub half-none : (i : ℕ) → length lows ≤ next_from lows highs r i → next_half lows highs r i ≡ 2 * length lows
  unfolding next_half
  half-none i h = rw (le-ltb (next_from lows highs r i) (length lows) h)

  -- A half-link tells its link.
  pub half-link : (i : ℕ) → half_of lows r i / 2 ≡ i
  unfolding half_of
  half-link i = go (eqb (get_or lows i 0) r)
    where
      go : (b : Bool) → pick b (2 * i) (2 * i + 1) / 2 ≡ i
      go true = omega arith
      go false = omega arith

  half_step : (i : ℕ) → i < length lows
      → next_half lows highs r i ≡ pick (touches lows highs r i) (half_of lows r i) (next_half lows highs r (suc i))
  unfolding next_half
  half_step i h = go (touches lows highs r i) (next-step i h)
    where
      go : (b : Bool) → next_from lows highs r i ≡ pick b i (next_from lows highs r (suc i))
          → pick (ltb (next_from lows highs r i) (length lows)) (half_of lows r (next_from lows highs r i)) (2 * length lows)
          ≡ pick b (half_of lows r i)
          (pick (ltb (next_from lows highs r (suc i)) (length lows)) (half_of lows r (next_from lows highs r (suc i))) (2 * length lows))
      go true e = rw (e, lt-ltb i (length lows) h)
      go false e = rw e

-- Before the first turn, at the end of the table, there are no chains.
pub chained-none : {lows highs first nexts : List ℕ} → Chainable lows highs first nexts
    → ChainedFrom lows highs (length lows) first nexts
chained-none {lows} {highs} {first} h =
    record {
      room = h.no_chains.room;
      heads = λ r b.
          h.no_chains.none r b ∙ sym (half-none lows highs r (length lows) (omega (arith, next-end lows highs r)));
      low = λ j b d. absurd (omega arith);
      high = λ j b d. absurd (omega arith);
    }

-- A relay's chain with a link in front, by its half a or b, if the relay is an end of it.
head_more : (first : List ℕ) (a b low high r next : ℕ) → a < length first → b < length first → a < b → get_or first r 0 ≡ next
    → get_or (set (set first a low) b high) r 0 ≡ pick (eqb a r || eqb b r) (pick (eqb a r) low high) next
head_more first a b low high r next p q rises e = go (eqb a r) refl (eqb b r) refl
  where
    go : (x : Bool) → eqb a r ≡ x → (y : Bool) → eqb b r ≡ y
        → get_or (set (set first a low) b high) r 0 ≡ pick (x || y) (pick x low high) next
    go true f true g = absurd (omega (arith, eqb-true a r f, eqb-true b r g))
    go false f true g =
        let d : b ≡ r = eqb-true b r g in
        subst (λ z. get_or (set (set first a low) b high) z 0 ≡ high) d (get_or-set_same (set first a low) b high 0 (rw length-set q))
    go true f false g =
        let d : a ≡ r = eqb-true a r f in
        get_or-set_other (set first a low) b r high 0 (λ z. eqb-false b r g (sym z))
        ∙ subst (λ z. get_or (set first a low) z 0 ≡ low) d (get_or-set_same first a low 0 p)
    go false f false g =
        get_or-set_other (set first a low) b r high 0 (λ z. eqb-false b r g (sym z))
        ∙ get_or-set_other first a r low 0 (λ z. eqb-false a r f (sym z))
        ∙ e

-- One turn: the halves of link h come in front of the chains of its two ends.
pub chained_more : {lows highs first nexts : List ℕ} (i h : ℕ) → ChainedFrom lows highs i first nexts
    → suc h ≡ i → i ≤ length lows → get_or lows h 0 < get_or highs h 0 → get_or highs h 0 < length first
    → ChainedFrom lows highs h
    (set (set first (get_or lows h 0) (2 * h)) (get_or highs h 0) (2 * h + 1))
    (set (set nexts (2 * h) (get_or first (get_or lows h 0) 0)) (2 * h + 1) (get_or first (get_or highs h 0) 0))
unfolding touches half_of
chained_more {lows} {highs} {first} {nexts} i h c e within rises below =
    record {
      room = simp length-set c.room;
      heads = λ r b.
          head_more first (get_or lows h 0) (get_or highs h 0) (2 * h) (2 * h + 1) r (next_half lows highs r (suc h))
          (omega arith) below rises (c.heads r (simp length-set at b) ∙ ap (next_half lows highs r) (sym e))
          ∙ sym (half_step lows highs r h (omega arith));
      low = λ j from to. low j from to (ℕ_discrete h j);
      high = λ j from to. high j from to (ℕ_discrete h j);
    }
  where
    once : List ℕ
    once = set nexts (2 * h) (get_or first (get_or lows h 0) 0)

    behind : (r : ℕ) → r < length first → get_or first r 0 ≡ next_half lows highs r (suc h)
    behind r b = c.heads r b ∙ ap (next_half lows highs r) (sym e)

    low : (j : ℕ) → h ≤ j → j < length lows → Dec (h ≡ j)
        → get_or (set once (2 * h + 1) (get_or first (get_or highs h 0) 0)) (2 * j) 0 ≡ next_half lows highs (get_or lows j 0) (suc j)
    low j from to (yes p) =
        rw (← p) (
        get_or-set_other once (2 * h + 1) (2 * h) (get_or first (get_or highs h 0) 0) 0 (λ z. omega arith)
        ∙ get_or-set_same nexts (2 * h) (get_or first (get_or lows h 0) 0) 0 (omega (arith, c.room))
        ∙ behind (get_or lows h 0) (omega arith)
        )
    low j from to (no p) =
        get_or-set_other once (2 * h + 1) (2 * j) (get_or first (get_or highs h 0) 0) 0 (λ z. omega arith)
        ∙ get_or-set_other nexts (2 * h) (2 * j) (get_or first (get_or lows h 0) 0) 0 (λ z. p (omega arith))
        ∙ c.low j (omega arith) to

    high : (j : ℕ) → h ≤ j → j < length lows → Dec (h ≡ j)
        → get_or (set once (2 * h + 1) (get_or first (get_or highs h 0) 0)) (2 * j + 1) 0 ≡ next_half lows highs (get_or highs j 0) (suc j)
    high j from to (yes p) =
        rw (← p) (
        get_or-set_same once (2 * h + 1) (get_or first (get_or highs h 0) 0) 0
        (omega (arith, length-set nexts (2 * h) (get_or first (get_or lows h 0) 0), c.room))
        ∙ behind (get_or highs h 0) below
        )
    high j from to (no p) =
        get_or-set_other once (2 * h + 1) (2 * j + 1) (get_or first (get_or highs h 0) 0) 0 (λ z. p (omega arith))
        ∙ get_or-set_other nexts (2 * h) (2 * j + 1) (get_or first (get_or lows h 0) 0) 0 (λ z. omega arith)
        ∙ c.high j (omega arith) to
