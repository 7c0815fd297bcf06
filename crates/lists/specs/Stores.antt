-- Runs of stores: from the front, one behind another, and the last store of a run first. Assumes nothing.
use Rattle.std.specs.Prelude.{ℕ, suc, ◌+◌, ◌≤◌, List, [], ◌∷◌, ◌++◌, ◌≡◌, refl, length, set}
use Rattle.std.proofs.Common.{sym, ◌∙◌, add-zero, zero-add, arith}
use Rattle.std.proofs.lemmas.List.Edits.{sets, sets-eq}
use Rattle.std.proofs.lemmas.List.{set_comm}
use Rattle.definitions.specs.Lists.{overwrite}

-- A run from the front is written over the list.
pub sets-overwrite : (new old : List ℕ) → length new ≤ length old → sets old 0 new ≡ overwrite new old
unfolding overwrite
sets-overwrite new old h = sets-eq new old 0 (omega arith) ∙ rw (zero-add (length new))

-- A run of stores, and another behind it.
pub sets-append : (s t l : List ℕ) (i : ℕ) → sets l i (s ++ t) ≡ sets (sets l i s) (i + length s) t
sets-append [] t l i = rw (add-zero i)
sets-append (a ∷ s) t l i =
    let e : suc i + length s ≡ i + suc (length s) = omega arith in
    sets-append s t (set l i a) (suc i) ∙ rw e

-- A store behind a run of stores may come first.
sets-set : (s l : List ℕ) (i j a : ℕ) → i + length s ≤ j → sets (set l j a) i s ≡ set (sets l i s) j a
sets-set [] l i j a h = refl
sets-set (b ∷ s) l i j a h =
    let other : j ≡ i → ⊥ = λ e. omega arith in
    rw (set_comm l j i a b other) (sets-set s (set l i b) (suc i) j a (omega arith))

-- The last byte first, and then the others.
pub sets_last : (s l : List ℕ) (i a : ℕ) → sets l i (s ++ (a ∷ [])) ≡ sets (set l (i + length s) a) i s
sets_last s l i a = sets-append s (a ∷ []) l i ∙ sym (sets-set s l i (i + length s) a (omega arith))
