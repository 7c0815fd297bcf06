-- One side of the sweep at v, replaced and exchanged (`downshift`): from which index each index gets its path, and what was
-- done to its end. Over any family of paths, any set of indices `ends` and any j that is at least each of them.
use Rattle.std.specs.Prelude.{ℕ, zero, suc, ◌≤◌, ◌<◌, Bool, ◌&&◌, ◌||◌, ◌⊎◌, ◌≢◌, ◌≡◌, eqb}
use Rattle.std.proofs.Math.Decide.{dec_lt}
use Rattle.std.proofs.Common.{arith, inl, inr, sym, ◌∙◌, ap, subst, eqb-true, eq-eqb, ne_eqb, lt-ltb}
use Rattle.std.proofs.Math.Bool.{true, false, or-true}
use mathlib.Core.List.{List, ◌∷◌, tail}
use Rattle.std.proofs.Math.Logic.{by_cases}
use Rattle.std.proofs.Math.Path.{refl}
use Rattle.std.proofs.lemmas.Bool.{eqb-false}
use Rattle.definitions.specs.Outcome.{pick}
use Rattle.definitions.specs.Lists.{largest, first_from}
use Rattle.definitions.specs.Sweep as Sweep
use Rattle.definitions.specs.Sweep.{together, previous_in, exchange}
use Rattle.lists.specs.Searches.{clash, largest-bound, largest-passes, largest-above, First, first_holds}
use Rattle.theory.specs.PlaceSweep.{before_end, replace_ends, downshift}

-- In a set of indices whose highest is j: the next higher one of i, of j the lowest; and back.
abbrev step_up : (set : ℕ → Bool) (k j i : ℕ) → ℕ
step_up set k j i = pick (eqb i j) (first_from set 1 k) (first_from set (suc i) k)

abbrev step_down : (ℕ → Bool) → ℕ → ℕ → ℕ
step_down set j n = pick (set n) (pick (eqb (previous_in set n) 0) j (previous_in set n)) n

-- The index whose path index i gets, and back: the index that gets the path of index n.
unfoldable pub source : (k j : ℕ) (ends : ℕ → Bool) (i : ℕ) → ℕ
source k j ends i = pick (eqb (largest ends k) 0) i (pick (together ends j i) (step_up (together ends j) k j i) i)

target : ℕ → ℕ → (ℕ → Bool) → ℕ → ℕ
target k j ends n = pick (eqb (largest ends k) 0) n (step_down (together ends j) j n)

-- What index i has after the exchange, where n is the index that it got its path from.
pub data Came (left : ℕ → ℕ → ℕ) (j : ℕ) (ends : ℕ → Bool) (paths : ℕ → List ℕ) (i n : ℕ) (result : List ℕ) : Type 0 where
  -- It keeps its path, which does not end at v.
  stays : ends i ≡ false → n ≡ i → result ≡ paths i → Came left j ends paths i n result
  -- It gets the path of a higher index, with its own left entry as the end.
  moves : ends i ≡ true → (ends n ≡ true) ⊎ (n ≡ j) → i < n → n ≤ j
      → result ≡ left i (before_end (paths n)) ∷ tail (paths n) → Came left j ends paths i n result
  -- The highest gets the path of the lowest, which keeps its end v.
  takes : i ≡ j → ends n ≡ true → 1 ≤ n → n ≤ j → result ≡ paths n → Came left j ends paths i n result

pub together-cases : (ends : ℕ → Bool) (j i : ℕ) → together ends j i ≡ true → (ends i ≡ true) ⊎ (i ≡ j)
unfolding together
together-cases ends j i = go (ends i) refl
  where
    go : (b : Bool) → ends i ≡ b → (b || eqb i j) ≡ true → (ends i ≡ true) ⊎ (i ≡ j)
    go true e h = inl e
    go false e h = inr (eqb-true i j h)

pub together-ends : (ends : ℕ → Bool) (j i : ℕ) → ends i ≡ true → together ends j i ≡ true
unfolding together
together-ends ends j i e = rw e

pub together-high : (ends : ℕ → Bool) (j : ℕ) → together ends j j ≡ true
unfolding together
together-high ends j = rw (eq-eqb j j refl) (or-true (ends j))

-- The first index keeps its end, and so does one outside the set.
replace-first : (left : ℕ → ℕ → ℕ) (set : ℕ → Bool) (paths : ℕ → List ℕ) (n : ℕ) → previous_in set n ≡ 0 → replace_ends left set paths n ≡ paths n
unfolding Sweep.replace_ends
replace-first left set paths n none = rw none (go (set n))
  where
    go : (b : Bool) → pick (b && false) (left 0 (before_end (paths n)) ∷ tail (paths n)) (paths n) ≡ paths n
    go true = refl
    go false = refl

replace-outside : (left : ℕ → ℕ → ℕ) (set : ℕ → Bool) (paths : ℕ → List ℕ) (n : ℕ) → set n ≡ false → replace_ends left set paths n ≡ paths n
unfolding Sweep.replace_ends
replace-outside left set paths n out = rw out

replace-later : (left : ℕ → ℕ → ℕ) (set : ℕ → Bool) (paths : ℕ → List ℕ) (n h : ℕ) → set n ≡ true → previous_in set n ≡ h → 0 < h
    → replace_ends left set paths n ≡ left h (before_end (paths n)) ∷ tail (paths n)
unfolding Sweep.replace_ends
replace-later left set paths n h into at some = rw (at, into, lt-ltb 0 h some)

-- Before the first of a set there is none.
previous-first : (set : ℕ → Bool) (x n : ℕ) → First set 1 x n → previous_in set n ≡ 0
unfolding previous_in
previous-first set x zero first = refl
previous-first set x (suc n) first =
    by_cases (dec_lt 0 (largest set n))
    (λ some. absurd (clash (largest-passes set n some) (first.least (largest set n) some (omega (arith, largest-bound set n)))))
    (λ none. omega arith)

-- Before the next higher one of i comes i.
previous-next : (set : ℕ → Bool) (x i n : ℕ) → 1 ≤ i → set i ≡ true → First set (suc i) x n → previous_in set n ≡ i
unfolding previous_in
previous-next set x i zero one into next = absurd (omega (arith, next.from))
previous-next set x i (suc n) one into next =
    let high : i ≤ largest set n = largest-above set n i one (omega (arith, next.from)) into in
    by_cases (dec_lt i (largest set n))
    (λ more. absurd (clash (largest-passes set n (omega arith)) (next.least (largest set n) more (omega (arith, largest-bound set n)))))
    (λ same. omega arith)

module _ (left : ℕ → ℕ → ℕ) (k j : ℕ) (ends : ℕ → Bool) (paths : ℕ → List ℕ) (one : 1 ≤ j) (bound : j ≤ k)
    (top : (h : ℕ) → 1 ≤ h → h ≤ k → ends h ≡ true → h ≤ j) where
  abbrev set : ℕ → Bool
  set = together ends j

  -- The lowest index of the set, and the next higher one of i.
  lowest : First set 1 j (first_from set 1 k)
  lowest = first_holds set k 1 j one (omega arith) (together-high ends j)

  next : (i : ℕ) → 1 ≤ i → i < j → First set (suc i) j (first_from set (suc i) k)
  next i positive less = first_holds set k (suc i) j less (omega arith) (together-high ends j)

  lowest-ends : 0 < largest ends k → ends (first_from set 1 k) ≡ true
  lowest-ends some = go (together-cases ends j (first_from set 1 k) lowest.passes)
    where
      go : (ends (first_from set 1 k) ≡ true) ⊎ (first_from set 1 k ≡ j) → ends (first_from set 1 k) ≡ true
      go (inl e) = e
      go (inr e) =
          let at : ends (largest ends k) ≡ true = largest-passes ends k some in
          let under : largest ends k ≤ j = top (largest ends k) some (largest-bound ends k) at in
          by_cases (dec_lt (largest ends k) (first_from set 1 k))
          (λ less. absurd (clash (together-ends ends j (largest ends k) at) (lowest.least (largest ends k) some less)))
          (λ more. let same : largest ends k ≡ first_from set 1 k = omega arith in subst (λ (x : ℕ). ends x ≡ true) same at)

  came-some : 0 < largest ends k → (i : ℕ) → 1 ≤ i → i ≤ k
      → Came left j ends paths i
      (pick (set i) (step_up set k j i) i)
      (exchange set k j (replace_ends left set paths) i)
  unfolding exchange
  came-some some i positive within = go (set i) refl
    where
      lower : (ends i ≡ true) ⊎ (i ≡ j) → i ≢ j → set i ≡ true
          → Came left j ends paths i (first_from set (suc i) k) (replace_ends left set paths (first_from set (suc i) k))
      lower (inr same) other into = absurd (other same)
      lower (inl at) other into =
          let n : First set (suc i) j (first_from set (suc i) k) = next i positive (omega (arith, top i positive within at)) in
          moves at (together-cases ends j (first_from set (suc i) k) n.passes) n.from n.upto
          (replace-later left set paths (first_from set (suc i) k) i n.passes (previous-next set j i (first_from set (suc i) k) positive into n) positive)

      inside : (c : Bool) → eqb i j ≡ c → set i ≡ true
          → Came left j ends paths i (pick c (first_from set 1 k) (first_from set (suc i) k))
          (replace_ends left set paths (pick c (first_from set 1 k) (first_from set (suc i) k)))
      inside true e into =
          takes (eqb-true i j e) (lowest-ends some) lowest.from lowest.upto
          (replace-first left set paths (first_from set 1 k) (previous-first set j (first_from set 1 k) lowest))
      inside false e into = lower (together-cases ends j i into) (eqb-false i j e) into

      outside : (b : Bool) → ends i ≡ b → set i ≡ false → b ≡ false
      outside true e out = absurd (clash (together-ends ends j i e) out)
      outside false e out = refl

      go : (b : Bool) → set i ≡ b
          → Came left j ends paths i (pick b (step_up set k j i) i)
          (pick b (replace_ends left set paths (step_up set k j i)) (replace_ends left set paths i))
      go true into = inside (eqb i j) refl into
      go false out = stays (outside (ends i) refl out) refl (replace-outside left set paths i out)

  pub came : (i : ℕ) → 1 ≤ i → i ≤ k → Came left j ends paths i (source k j ends i) (downshift left k j ends paths i)
  unfolding source Sweep.downshift
  came i positive within = go (eqb (largest ends k) 0) refl
    where
      none : largest ends k ≡ 0 → (b : Bool) → ends i ≡ b → b ≡ false
      none zero' true e = absurd (omega (arith, largest-above ends k i positive within e))
      none zero' false e = refl

      go : (b : Bool) → eqb (largest ends k) 0 ≡ b
          → Came left j ends paths i (pick b i (pick (set i) (step_up set k j i) i))
          (pick b (paths i) (exchange set k j (replace_ends left set paths) i))
      go true e = stays (none (eqb-true (largest ends k) 0 e) (ends i) refl) refl refl
      go false e = came-some (omega (arith, eqb-false (largest ends k) 0 e)) i positive within

  -- Different indices get different paths.
  target-source : (i : ℕ) → 1 ≤ i → i ≤ k → target k j ends (source k j ends i) ≡ i
  unfolding source target
  target-source i positive within = go (eqb (largest ends k) 0)
    where
      first : (n : ℕ) → set n ≡ true → previous_in set n ≡ 0 → i ≡ j → step_down set j n ≡ i
      first n into none same = rw (into, none) (sym same)

      later : (n : ℕ) → set n ≡ true → previous_in set n ≡ i → step_down set j n ≡ i
      later n into before = rw (into, before, ne_eqb i 0 (omega arith))

      lower : (ends i ≡ true) ⊎ (i ≡ j) → i ≢ j → set i ≡ true → step_down set j (first_from set (suc i) k) ≡ i
      lower (inr same) other into = absurd (other same)
      lower (inl at) other into =
          let n : First set (suc i) j (first_from set (suc i) k) = next i positive (omega (arith, top i positive within at)) in
          later (first_from set (suc i) k) n.passes (previous-next set j i (first_from set (suc i) k) positive into n)

      inside : (c : Bool) → eqb i j ≡ c → set i ≡ true
          → step_down set j (pick c (first_from set 1 k) (first_from set (suc i) k)) ≡ i
      inside true e into = first (first_from set 1 k) lowest.passes (previous-first set j (first_from set 1 k) lowest) (eqb-true i j e)
      inside false e into = lower (together-cases ends j i into) (eqb-false i j e) into

      at : (b : Bool) → set i ≡ b → step_down set j (pick b (step_up set k j i) i) ≡ i
      at true into = inside (eqb i j) refl into
      at false out = rw out

      go : (b : Bool) → pick b (pick b i (pick (set i) (step_up set k j i) i)) (step_down set j (pick b i (pick (set i) (step_up set k j i) i))) ≡ i
      go true = refl
      go false = at (set i) refl

  pub source_one : (i h : ℕ) → 1 ≤ i → i ≤ k → 1 ≤ h → h ≤ k → source k j ends i ≡ source k j ends h → i ≡ h
  source_one i h positive within positive' within' same =
      sym (target-source i positive within) ∙ ap (target k j ends) same ∙ target-source h positive' within'
