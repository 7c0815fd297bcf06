-- A list whose entries rise one by one rises; a rising list has no number twice. Assumes nothing.
use Rattle.std.specs.Prelude.{ℕ, zero, suc, ◌+◌, ◌<◌, true, List, [], ◌∷◌, ◌≡◌, length, get_or}
use Rattle.std.proofs.Common.{ap, arith}
use Rattle.definitions.specs.Lists.{has, NoRepeat}
use Rattle.lists.specs.Members.{index_of}
use Rattle.lists.specs.Cases.{has-not}
use Rattle.lists.specs.Ascending.{Ascending, ascending-at}

ascends-from : (x : ℕ) (l : List ℕ) → ((i : ℕ) → i + 1 < length (x ∷ l) → get_or (x ∷ l) i 0 < get_or (x ∷ l) (i + 1) 0)
    → (y : ℕ) → has l y ≡ true → x < y
ascends-from x [] step y h = let w = index_of [] y h in absurd (omega (arith, w.1))
ascends-from x (z ∷ l) step y h = go (index_of (z ∷ l) y h)
  where
    up : (j : ℕ) → j < length (z ∷ l) → x < get_or (z ∷ l) j 0
    up zero h = step zero (omega arith)
    up (suc j) h =
        let e : suc j + 1 ≡ suc (suc j) = omega arith in
        let next : get_or (z ∷ l) j 0 < get_or (x ∷ z ∷ l) (suc j + 1) 0 = step (suc j) (omega arith) in
        let last : get_or (x ∷ z ∷ l) (suc j + 1) 0 ≡ get_or (z ∷ l) (suc j) 0 = ap (λ (k : ℕ). get_or (x ∷ z ∷ l) k 0) e in
        omega (arith, up j (omega arith))

    go : (j : ℕ) × (j < length (z ∷ l)) × (get_or (z ∷ l) j 0 ≡ y) → x < y
    go w = omega (arith, up w.0 w.1, w.2)

-- The entries behind the first rise one by one as well.
steps-behind : (x : ℕ) (l : List ℕ) → ((i : ℕ) → i + 1 < length (x ∷ l) → get_or (x ∷ l) i 0 < get_or (x ∷ l) (i + 1) 0)
    → (i : ℕ) → i + 1 < length l → get_or l i 0 < get_or l (i + 1) 0
steps-behind x l step i h =
    let e : suc i + 1 ≡ suc (i + 1) = omega arith in
    let up : get_or l i 0 < get_or (x ∷ l) (suc i + 1) 0 = step (suc i) (omega arith) in
    let last : get_or (x ∷ l) (suc i + 1) 0 ≡ get_or l (i + 1) 0 = ap (λ (k : ℕ). get_or (x ∷ l) k 0) e in
    omega arith

pub ascends : (l : List ℕ) → ((i : ℕ) → i + 1 < length l → get_or l i 0 < get_or l (i + 1) 0) → Ascending l
ascends [] step = tt
ascends (x ∷ l) step = (ascends-from x l step, ascends l (steps-behind x l step))

pub ascending-steps : (l : List ℕ) → Ascending l → (i : ℕ) → i + 1 < length l → get_or l i 0 < get_or l (i + 1) 0
ascending-steps l a i h = ascending-at l a i (i + 1) (omega arith) h

pub ascending-once : (l : List ℕ) → Ascending l → NoRepeat l
ascending-once [] a = tt
ascending-once (x ∷ l) a = (has-not l x (λ h. omega (arith, a.0 x h)), ascending-once l a.1)
