-- Lists whose entries rise strictly.
use Rattle.std.specs.Prelude.{ℕ, zero, suc, ◌+◌, ◌<◌, Bool, true, false, List, [], ◌∷◌, ◌≡◌, length, get_or}
use Rattle.std.proofs.Common.{sym, ◌∙◌, arith}
use Rattle.definitions.specs.Lists.{table, cons_if, keep, has}
use Rattle.lists.specs.Tests.{and_both}
use Rattle.lists.specs.Members.{has-at, has-keep, range-bounds}

abbrev pub Ascending : List ℕ → Type 0
Ascending [] = Unit {0}
Ascending (x ∷ l) = ((y : ℕ) → has l y ≡ true → x < y) × Ascending l

pub ascending-keep : (test : ℕ → Bool) (l : List ℕ) → Ascending l → Ascending (keep test l)
unfolding keep cons_if
ascending-keep test [] a = tt
ascending-keep test (x ∷ l) a = go (test x) (ascending-keep test l a.1)
  where
    go : (t : Bool) → Ascending (keep test l) → Ascending (cons_if t x (keep test l))
    go true r = (λ y h. a.0 y (and_both (has l y) (test y) (sym (has-keep test l y) ∙ h)).0, r)
    go false r = r

pub ascending-range : (i n : ℕ) → Ascending (table (λ r. r) i n)
unfolding table
ascending-range i zero = tt
ascending-range i (suc n) = (λ y h. omega (arith, range-bounds (i + 1) n y h), ascending-range (i + 1) n)

pub ascending-at : (l : List ℕ) → Ascending l → (i j : ℕ) → i < j → j < length l → get_or l i 0 < get_or l j 0
ascending-at [] a i j h k = absurd (omega arith)
ascending-at (x ∷ l) a i zero h k = absurd (omega arith)
ascending-at (x ∷ l) a zero (suc j) h k = a.0 (get_or l j 0) (has-at l j (omega arith))
ascending-at (x ∷ l) a (suc i) (suc j) h k = ascending-at l a.1 i j (omega arith) (omega arith)
