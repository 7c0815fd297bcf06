-- Entries and lengths of a `table`, of a list of zeros and of an overwritten list.
use Rattle.std.specs.Prelude.{ℕ, zero, suc, ◌+◌, ◌≤◌, ◌<◌, List, ◌≡◌, refl, length, get_or, drop, replicate}
use Rattle.std.proofs.Common.{sym, ◌∙◌, ap, add-zero, arith, length-append, length-drop}
use Rattle.definitions.specs.Lists.{table, overwrite}

pub length-table : {A : Type 0} (f : ℕ → A) (i count : ℕ) → length (table f i count) ≡ count
unfolding table
length-table f i zero = refl
length-table f i (suc count) = ap suc (length-table f (i + 1) count)

pub get_or-table : {A : Type 0} (f : ℕ → A) (i count j : ℕ) (d : A) → j < count → get_or (table f i count) j d ≡ f (i + j)
unfolding table
get_or-table f i zero j d h = absurd (omega arith)
get_or-table f i (suc count) zero d h = ap f (sym (add-zero i))
get_or-table f i (suc count) (suc j) d h =
    let e : i + 1 + j ≡ i + suc j = omega arith in
    get_or-table f (i + 1) count j d (omega arith) ∙ ap f e

pub get_or-zeros : (count i : ℕ) → ◌≡◌ {A = ℕ} (get_or (replicate count 0) i 0) 0
get_or-zeros zero i = refl
get_or-zeros (suc count) zero = refl
get_or-zeros (suc count) (suc i) = get_or-zeros count i

pub length-overwrite : (new old : List ℕ) → length new ≤ length old → length (overwrite new old) ≡ length old
unfolding overwrite
length-overwrite new old h = omega (arith, length-append new (drop (length new) old), length-drop (length new) old)
