-- The laws of the greatest key: it tells the relay in service with the greatest count, of equals the lowest; and of the counted
-- links this is the first relay of the order. Assumes nothing.
use Prim.Native.Nat.{ℕ, ◌+◌, ◌≤◌, ◌<◌, max}
use mathlib.Core.Bool.{Bool, true, false, true≢false}
use mathlib.Core.List.{List}
use mathlib.Core.Path.{◌≡◌, refl, sym, ◌∙◌, ap}
use native.Mathlib.Decide.{ℕ_discrete, dec_lt}
use native.Mathlib.Omega.{arith}
use borrow.Author.Tests.{eq-eqb, ne_eqb}
use lib.ListN.{length, get_or}
use Rattle.definitions.specs.Outcome.{pick}
use Rattle.definitions.specs.Lists.{has}
use Rattle.definitions.specs.Network.{serves, Serving}
use Rattle.definitions.specs.Order.{serving_relays, first_relay}
use Rattle.theory.specs.ServingRelays.{serving-has, serving-below, serving-serves, first-of-all, first-is}
use Rattle.forests.specs.LinkCounts.{ServingCounted}
use Rattle.forests.specs.Busiest.{key_of, serving_key, Busiest}

-- The key that the code takes, case by case.
pub key-serving : (r state count : ℕ) → state ≡ 1 → serving_key r state count ≡ key_of r count
key-serving r state count e = rw (eq-eqb state 1 e) refl

pub key-withdrawn : (r state count : ℕ) → (state ≡ 1 → ⊥) → serving_key r state count ≡ 0
key-withdrawn r state count e = rw (ne_eqb state 1 e) refl

-- A key and the relay in service below r whose it is.
pub record Own (states counts : List ℕ) (r best : ℕ) : Type 0 where
  pub at : ℕ
  pub serving : Serving r states at
  pub key : best ≡ key_of at (get_or counts at 0)

-- The greatest key of the relays in service below r, 0 where there is none.
pub record Best (states counts : List ℕ) (r best : ℕ) : Type 0 where
  pub own : 0 < best → Own states counts r best
  pub most : (s : ℕ) → Serving r states s → key_of s (get_or counts s 0) ≤ best

pub best-more : (states counts : List ℕ) (r best : ℕ) → Best states counts r best
    → Best states counts (r + 1) (max best (serving_key r (get_or states r 0) (get_or counts r 0)))
unfolding serves
best-more states counts r best b = go (serves states r) refl
  where
    key : ℕ
    key = key_of r (get_or counts r 0)

    before : 0 < best → Own states counts (r + 1) best
    before some =
        let o = b.own some in
        let below = o.serving.0 in
        record { at = o.at; serving = (omega arith, o.serving.1); key = o.key }

    under : (s : ℕ) → Serving (r + 1) states s → (s ≡ r → ⊥) → key_of s (get_or counts s 0) ≤ best
    under s h apart = let below = h.0 in b.most s (omega arith, h.1)

    greatest : serves states r ≡ true → Dec (best < key) → 0 < max best key → Own states counts (r + 1) (max best key)
    greatest e (yes h) some = record { at = r; serving = (omega arith, e); key = omega arith }
    greatest e (no h) some =
        let same : max best key ≡ best = omega arith in
        rw same (before (omega arith))

    most : (s : ℕ) → Serving (r + 1) states s → Dec (s ≡ r) → key_of s (get_or counts s 0) ≤ max best key
    most s h (yes e) = rw e (omega arith)
    most s h (no e) = omega (arith, under s h e)

    go : (t : Bool) → serves states r ≡ t → Best states counts (r + 1) (max best (pick t key 0))
    go true e = record { own = greatest e (dec_lt best key); most = λ s h. most s h (ℕ_discrete s r) }
    go false e =
        let same : max best 0 ≡ best = omega arith in
        rw same (record { own = before; most = λ s h. under s h (λ z. true≢false (sym h.1 ∙ ap (serves states) z ∙ e)) })

-- The relay in service with the most links, of equals the lowest, is the first of the order.
pub busiest-first : (n : ℕ) (lows highs states counts : List ℕ) (x : ℕ) → ServingCounted lows highs states counts
    → Busiest n states counts x → 0 < length (serving_relays n states) → x ≡ first_relay n lows highs states
busiest-first n lows highs states counts x c b some =
    let among : (r : ℕ) → has (serving_relays n states) r ≡ true → Serving n states r =
    λ r h. (serving-below n states r h, serving-serves n states r h) in
    let first = first_relay n lows highs states in
    let s = b.serving first (among first (first-of-all n states lows highs some)) in
    sym
    (first-is n states lows highs x (serving-has n states x s) (λ y h.
    let own = c x in
    let other = c y in (
      omega (arith, own, other, b.most y (among y h)),
      λ e. b.lowest y (among y h) (omega (arith, own, other, e)),
    )))
