-- The numbers from 1 to a bound that pass a test: their entries, their order, and how many there are.
use Rattle.std.specs.Prelude.{ℕ, zero, suc, ◌+◌, ◌≤◌, ◌<◌, pred, Bool, true, false, ◌||◌, List, [], ◌∷◌, ◌++◌, ◌≢◌, ◌≡◌, refl, eqb, ltb, leb, length, get_or, take}
use Rattle.std.proofs.Common.{true≢false, sym, ◌∙◌, ap, arith, eqb-true, ltb-true, ltb-false, leb-true, leb-false, length-append, take-suc}
use Rattle.std.proofs.lemmas.Bool.{eqb-false}
use Rattle.std.proofs.Math.ListN.{get_or-append}
use Rattle.std.proofs.lemmas.List.{get_or_at}
use Rattle.definitions.specs.Outcome.{pick}
use Rattle.definitions.specs.Lists.{snoc_if, rising, has, count, NoRepeat}
use Rattle.lists.specs.Tests.{or_left, or_right}
use Rattle.lists.specs.Members.{has-append, index_of}
use Rattle.lists.specs.Distinct.{no-repeat-snoc}
use Rattle.lists.specs.Counting.{count-append}

-- An entry of a list with one more behind it: one of before, or the last.
pub snoc-cases : (P : ℕ → Type 0) (l : List ℕ) (x i : ℕ) → i < length (l ++ (x ∷ []))
    → (i < length l → P (get_or l i 0)) → (i ≡ length l → P x) → P (get_or (l ++ (x ∷ [])) i 0)
snoc-cases P l x i h before last = go (ltb i (length l)) refl
  where
    go : (b : Bool) → ltb i (length l) ≡ b → P (get_or (l ++ (x ∷ [])) i 0)
    go true e =
        let k : i < length l = ltb-true i (length l) e in
        rw (get_or-append l (x ∷ []) 0 i k) (before k)
    go false e =
        let k : length l ≡ i = omega (arith, ltb-false i (length l) e, length-append l (x ∷ [])) in
        rw (get_or_at l x [] 0 i k) (last (sym k))

-- Each entry is from 1 to the bound and passes.
pub rising-entry : (test : ℕ → Bool) (v i : ℕ) → i < length (rising test v)
    → (1 ≤ get_or (rising test v) i 0) × (get_or (rising test v) i 0 ≤ v) × (test (get_or (rising test v) i 0) ≡ true)
unfolding rising snoc_if
rising-entry test zero i h = absurd (omega arith)
rising-entry test (suc v) i h = go (test (suc v)) refl (rising-entry test v i) h
  where
    go : (b : Bool) → test (suc v) ≡ b
        → (i < length (rising test v)
        → (1 ≤ get_or (rising test v) i 0) × (get_or (rising test v) i 0 ≤ v) × (test (get_or (rising test v) i 0) ≡ true))
        → i < length (snoc_if b (rising test v) (suc v))
        → (1 ≤ get_or (snoc_if b (rising test v) (suc v)) i 0)
        × (get_or (snoc_if b (rising test v) (suc v)) i 0 ≤ suc v)
        × (test (get_or (snoc_if b (rising test v) (suc v)) i 0) ≡ true)
    go true e rest k =
        snoc-cases (λ x. (1 ≤ x) × (x ≤ suc v) × (test x ≡ true)) (rising test v) (suc v) i k
        (λ q. ((rest q).0, omega (arith, (rest q).1), (rest q).2))
        (λ q. (omega arith, omega arith, e))
    go false e rest k = ((rest k).0, omega (arith, (rest k).1), (rest k).2)

-- Each number from 1 to the bound that passes is there.
pub rising-has : (test : ℕ → Bool) (v u : ℕ) → 1 ≤ u → u ≤ v → test u ≡ true → has (rising test v) u ≡ true
unfolding rising snoc_if has
rising-has test zero u h k e = absurd (omega arith)
rising-has test (suc v) u h k e = go (test (suc v)) refl (eqb (suc v) u) refl (λ q. rising-has test v u h q e)
  where
    go : (b : Bool) → test (suc v) ≡ b → (s : Bool) → eqb (suc v) u ≡ s
        → (u ≤ v → has (rising test v) u ≡ true) → has (snoc_if b (rising test v) (suc v)) u ≡ true
    go true p true q rest =
        has-append (rising test v) (suc v ∷ []) u
        ∙ or_right (has (rising test v) u) (eqb (suc v) u || false) (or_left (eqb (suc v) u) false q)
    go false p true q rest = absurd (true≢false (sym e ∙ ap test (sym (eqb-true (suc v) u q)) ∙ p))
    go true p false q rest =
        let apart : suc v ≢ u = eqb-false (suc v) u q in
        has-append (rising test v) (suc v ∷ []) u ∙ or_left (has (rising test v) u) (eqb (suc v) u || false) (rest (omega arith))
    go false p false q rest =
        let apart : suc v ≢ u = eqb-false (suc v) u q in
        rest (omega arith)

pub rising-no-repeat : (test : ℕ → Bool) (v : ℕ) → NoRepeat (rising test v)
unfolding rising snoc_if
rising-no-repeat test zero = tt
rising-no-repeat test (suc v) = go (test (suc v)) (rising-no-repeat test v)
  where
    absent : (b : Bool) → has (rising test v) (suc v) ≡ b → b ≡ false
    absent true e =
        let w = index_of (rising test v) (suc v) e in
        absurd (omega (arith, (rising-entry test v w.0 w.1).1, w.2))
    absent false e = refl

    go : (b : Bool) → NoRepeat (rising test v) → NoRepeat (snoc_if b (rising test v) (suc v))
    go true d = no-repeat-snoc (rising test v) (suc v) d (absent (has (rising test v) (suc v)) refl)
    go false d = d

pub rising-ascends : (test : ℕ → Bool) (v i j : ℕ) → i < j → j < length (rising test v)
    → get_or (rising test v) i 0 < get_or (rising test v) j 0
unfolding rising snoc_if
rising-ascends test zero i j h k = absurd (omega arith)
rising-ascends test (suc v) i j h k = go (test (suc v)) (rising-ascends test v i j h) k
  where
    go : (b : Bool) → (j < length (rising test v) → get_or (rising test v) i 0 < get_or (rising test v) j 0)
        → j < length (snoc_if b (rising test v) (suc v))
        → get_or (snoc_if b (rising test v) (suc v)) i 0 < get_or (snoc_if b (rising test v) (suc v)) j 0
    go true rest q =
        let l = rising test v in
        let early : i < length l = omega (arith, length-append l (suc v ∷ [])) in
        rw (get_or-append l (suc v ∷ []) 0 i early)
        (snoc-cases (λ x. get_or l i 0 < x) l (suc v) j q rest (λ _. omega (arith, (rising-entry test v i early).1)))
    go false rest q = rest q

-- The entries up to a lower bound are those of that bound.
pub rising-front : (test : ℕ → Bool) (w v i : ℕ) → v ≤ w → i < length (rising test w) → get_or (rising test w) i 0 ≤ v
    → i < length (rising test v)
unfolding rising snoc_if
rising-front test zero v i h k q = absurd (omega arith)
rising-front test (suc w) v i h k q = go (leb v w) refl (rising-front test w v i)
  where
    down : (b : Bool) → v ≤ w → i < length (snoc_if b (rising test w) (suc w))
        → get_or (snoc_if b (rising test w) (suc w)) i 0 ≤ v
        → (i < length (rising test w)) × (get_or (rising test w) i 0 ≤ v)
    down true le p =
        snoc-cases (λ x. x ≤ v → (i < length (rising test w)) × (get_or (rising test w) i 0 ≤ v)) (rising test w) (suc w) i p
        (λ early within. (early, within))
        (λ last within. absurd (omega arith))
    down false le p = λ within. (p, within)

    go : (s : Bool) → leb v w ≡ s
        → (v ≤ w → i < length (rising test w) → get_or (rising test w) i 0 ≤ v → i < length (rising test v))
        → i < length (rising test v)
    go true e rest =
        let le : v ≤ w = leb-true v w e in
        let both = down (test (suc w)) le k q in
        rest le both.0 both.1
    go false e rest =
        let same : v ≡ suc w = omega (arith, leb-false v w e) in
        rw same k

-- How many earlier entries of a list pass: the test on the numbers from 1 is a test on the entries.
pub rising-count : (test : ℕ → Bool) (l : List ℕ) (v : ℕ) → v ≤ length l
    → length (rising (λ u. test (get_or l (pred u) 0)) v) ≡ count test (take v l)
unfolding rising snoc_if count
rising-count test l zero h = refl
rising-count test l (suc v) h =
    let front = take v l in
    let x = get_or l v 0 in
    let split : count test (take (suc v) l) ≡ count test (front ++ (x ∷ [])) = ap (count test) (take-suc l v 0 h) in
    step (rising (λ u. test (get_or l (pred u) 0)) v) (suc v) (test x) (count test front) (rising-count test l v (omega arith))
    ∙ sym (split ∙ count-append test front (x ∷ []))
  where
    step : (k : List ℕ) (y : ℕ) (b : Bool) (c : ℕ) → length k ≡ c → length (snoc_if b k y) ≡ c + (pick b 1 0 + 0)
    step k y true c e = omega (arith, length-append k (y ∷ []))
    step k y false c e = omega arith

-- A number that passes stands behind those below it that pass.
pub rising-at : (test : ℕ → Bool) (v u : ℕ) → suc u ≤ v → test (suc u) ≡ true
    → (length (rising test u) < length (rising test v)) × (get_or (rising test v) (length (rising test u)) 0 ≡ suc u)
unfolding rising snoc_if
rising-at test zero u h e = absurd (omega arith)
rising-at test (suc v) u h e = go (eqb u v) refl (test (suc v)) refl (rising-at test v u)
  where
    go : (s : Bool) → eqb u v ≡ s → (b : Bool) → test (suc v) ≡ b
        → (suc u ≤ v → test (suc u) ≡ true
        → (length (rising test u) < length (rising test v)) × (get_or (rising test v) (length (rising test u)) 0 ≡ suc u))
        → (length (rising test u) < length (snoc_if b (rising test v) (suc v)))
        × (get_or (snoc_if b (rising test v) (suc v)) (length (rising test u)) 0 ≡ suc u)
    go true p true q rest =
        let same : u ≡ v = eqb-true u v p in
        let behind : length (rising test v) ≡ length (rising test u) = ap (λ (x : ℕ). length (rising test x)) (sym same) in (
          omega (arith, length-append (rising test v) (suc v ∷ [])),
          get_or_at (rising test v) (suc v) [] 0 (length (rising test u)) behind ∙ ap suc (sym same),
        )
    go true p false q rest = absurd (true≢false (sym e ∙ ap (λ (x : ℕ). test (suc x)) (eqb-true u v p) ∙ q))
    go false p true q rest =
        let apart : u ≢ v = eqb-false u v p in
        let r = rest (omega arith) e in (
          omega (arith, r.0, length-append (rising test v) (suc v ∷ [])),
          get_or-append (rising test v) (suc v ∷ []) 0 (length (rising test u)) r.0 ∙ r.1,
        )
    go false p false q rest =
        let apart : u ≢ v = eqb-false u v p in
        rest (omega arith) e
