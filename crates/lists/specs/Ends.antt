-- Lists without repeats whose first and last entry stand next to each other.
use Rattle.std.specs.Prelude.{ℕ, suc, ◌-◌, ◌<◌, List, [], ◌∷◌, ◌⊎◌, ◌≡◌, refl, length, get_or}
use Rattle.std.proofs.Common.{inl, inr, sym, ◌∙◌, arith}
use Rattle.definitions.specs.Lists.{NoRepeat}
use Rattle.lists.specs.Distinct.{same_index}

-- Two neighbours that are both among the ends: then the list is its two ends.
pub ends-meet : (l : List ℕ) → NoRepeat l → (s t : ℕ) → get_or l 0 0 ≡ s → get_or l (length l - 1) 0 ≡ t
    → (j : ℕ) → suc j < length l
    → (get_or l j 0 ≡ s) ⊎ (get_or l j 0 ≡ t) → (get_or l (suc j) 0 ≡ s) ⊎ (get_or l (suc j) 0 ≡ t) → length l ≡ 2
ends-meet l d s t first last j h here next = go here next
  where
    at-start : (i : ℕ) → i < length l → get_or l i 0 ≡ s → i ≡ 0
    at-start i k e = same_index l d i 0 k (omega arith) (e ∙ sym first)

    at-end : (i : ℕ) → i < length l → get_or l i 0 ≡ t → i ≡ length l - 1
    at-end i k e = same_index l d i (length l - 1) k (omega arith) (e ∙ sym last)

    go : (get_or l j 0 ≡ s) ⊎ (get_or l j 0 ≡ t) → (get_or l (suc j) 0 ≡ s) ⊎ (get_or l (suc j) 0 ≡ t) → length l ≡ 2
    go (inl p) (inl q) = absurd (omega (arith, at-start (suc j) h q))
    go (inl p) (inr q) = omega (arith, at-start j (omega arith) p, at-end (suc j) h q)
    go (inr p) (inl q) = absurd (omega (arith, at-start (suc j) h q))
    go (inr p) (inr q) = absurd (omega (arith, at-end j (omega arith) p))

-- A list of two entries.
pub two-entries : (l : List ℕ) → length l ≡ 2 → l ≡ get_or l 0 0 ∷ get_or l (length l - 1) 0 ∷ []
two-entries [] e = absurd (omega arith)
two-entries (a ∷ []) e = absurd (omega arith)
two-entries (a ∷ b ∷ []) e = refl
two-entries (a ∷ b ∷ c ∷ l) e = absurd (omega arith)
