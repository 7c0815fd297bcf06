-- The front of an overwritten list is what was written, the rest is as it was.
use Rattle.std.specs.Prelude.{ℕ, zero, suc, ◌+◌, ◌-◌, ◌≤◌, ◌<◌, List, [], ◌∷◌, ◌++◌, ◌≡◌, refl, length, get_or, take, drop}
use Rattle.std.proofs.Common.{sym, ◌∙◌, ap, arith, get_or-append-add, get_or-drop}
use Rattle.std.proofs.Math.ListN.{get_or-append}
use Rattle.std.proofs.lemmas.List.{take-append-le}
use Rattle.definitions.specs.Lists.{overwrite}

pub get_or-overwrite : (new old : List ℕ) (i d : ℕ) → i < length new → get_or (overwrite new old) i d ≡ get_or new i d
unfolding overwrite
get_or-overwrite new old i d h = get_or-append new (drop (length new) old) d i h

pub take-overwrite : (new old : List ℕ) (n : ℕ) → n ≤ length new → take n (overwrite new old) ≡ take n new
unfolding overwrite
take-overwrite new old n h = take-append-le n new (drop (length new) old) h

-- Past what was written an overwritten list is as it was.
pub get_or-overwrite-past : (new old : List ℕ) (i d : ℕ) → length new ≤ i → get_or (overwrite new old) i d ≡ get_or old i d
unfolding overwrite
get_or-overwrite-past new old i d h =
    let e : length new + (i - length new) ≡ i = omega arith in
    ap (λ j. get_or (new ++ drop (length new) old) j d) (sym e)
    ∙ get_or-append-add new (drop (length new) old) (i - length new) d
    ∙ get_or-drop (length new) old (i - length new) d
    ∙ ap (λ j. get_or old j d) e

-- A list of zeros that is overwritten has the entries of what was written.
pub get_or-overwrite-zeros : (new old : List ℕ) → ((i : ℕ) → get_or old i 0 ≡ 0) → (i : ℕ) → get_or (overwrite new old) i 0 ≡ get_or new i 0
unfolding overwrite
get_or-overwrite-zeros new old none = go new (drop (length new) old) (λ j. get_or-drop (length new) old j 0 ∙ none (length new + j))
  where
    go : (new rest : List ℕ) → ((j : ℕ) → get_or rest j 0 ≡ 0) → (i : ℕ) → get_or (new ++ rest) i 0 ≡ get_or new i 0
    go [] rest none i = none i
    go (x ∷ new) rest none zero = refl
    go (x ∷ new) rest none (suc i) = go new rest none i
