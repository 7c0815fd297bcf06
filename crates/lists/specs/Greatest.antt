-- The greatest entry of a list: no entry is above it, and some entry is it. Assumes nothing.
use Rattle.std.specs.Prelude.{ℕ, zero, suc, max, ◌≤◌, ◌<◌, List, [], ◌∷◌, ◌++◌, ◌≡◌, true, length, get_or, take}
use Rattle.std.proofs.Common.{◌∙◌, ap, arith, take-suc}
use Rattle.std.proofs.Math.Decide.{dec_le}
use Rattle.definitions.specs.Lists.{has, greatest}
use Rattle.lists.specs.Members.{has-at, index_of}

pub greatest-snoc : (l : List ℕ) (x : ℕ) → greatest (l ++ (x ∷ [])) ≡ max (greatest l) x
unfolding greatest
greatest-snoc [] x = omega arith
greatest-snoc (y ∷ l) x = omega (arith, greatest-snoc l x)

-- One entry more.
pub greatest-next : (l : List ℕ) (i : ℕ) → i < length l
    → greatest (take (suc i) l) ≡ max (greatest (take i l)) (get_or l i 0)
greatest-next l i h = ap greatest (take-suc l i 0 h) ∙ greatest-snoc (take i l) (get_or l i 0)

pub greatest-above : (l : List ℕ) (i : ℕ) → i < length l → get_or l i 0 ≤ greatest l
unfolding greatest
greatest-above [] i h = absurd (omega arith)
greatest-above (x ∷ l) zero h = omega arith
greatest-above (x ∷ l) (suc i) h = omega (arith, greatest-above l i (omega arith))

pub greatest-at : (l : List ℕ) → 0 < length l → (i : ℕ) × (i < length l) × (get_or l i 0 ≡ greatest l)
unfolding greatest
greatest-at [] h = absurd (omega arith)
greatest-at (x ∷ []) h = (0, omega arith, omega arith)
greatest-at (x ∷ y ∷ l) h = go (greatest-at (y ∷ l) (omega arith)) (dec_le (greatest (y ∷ l)) x)
  where
    go : (i : ℕ) × (i < length (y ∷ l)) × (get_or (y ∷ l) i 0 ≡ greatest (y ∷ l)) → Dec (greatest (y ∷ l) ≤ x)
        → (i : ℕ) × (i < length (x ∷ y ∷ l)) × (get_or (x ∷ y ∷ l) i 0 ≡ max x (greatest (y ∷ l)))
    go t (yes p) = (0, omega arith, omega arith)
    go t (no p) = (suc t.0, omega (arith, t.1), t.2 ∙ omega arith)

-- Where no entry is above x, the greatest is not.
pub greatest-within : (l : List ℕ) (x : ℕ) → ((i : ℕ) → i < length l → get_or l i 0 ≤ x) → greatest l ≤ x
unfolding greatest
greatest-within [] x h = omega arith
greatest-within (y ∷ l) x h = omega (arith, h 0 (omega arith), greatest-within l x (λ i k. h (suc i) (omega arith)))

-- The same by membership.
pub greatest-member : (l : List ℕ) (x : ℕ) → has l x ≡ true → x ≤ greatest l
greatest-member l x h = let w = index_of l x h in omega (arith, greatest-above l w.0 w.1, w.2)

pub members-within : (l : List ℕ) (bound : ℕ) → ((x : ℕ) → has l x ≡ true → x ≤ bound) → greatest l ≤ bound
members-within l bound each = greatest-within l bound (λ i h. each (get_or l i 0) (has-at l i h))
