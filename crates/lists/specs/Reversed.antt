-- Lists turned round: their first and last entries, the links along them, and a function on all entries. Assumes nothing.
use Rattle.std.specs.Prelude.{ℕ, suc, ◌-◌, ◌≡◌, refl, length, get_or}
use Rattle.std.proofs.Common.{arith, sym, ◌∙◌, ap}
use mathlib.Core.List.{List, [], ◌∷◌, map, reverse_aux, reverse, reverse-reverse}
use Rattle.definitions.specs.DisjointRoutes.{AlongFrom, Along}

-- A list turned round onto another begins with the last of the one and ends with the last of the other.
pub first-reverse_aux : (x : ℕ) (rest onto : List ℕ) → get_or (reverse_aux (x ∷ rest) onto) 0 0 ≡ get_or (x ∷ rest) (length rest) 0
first-reverse_aux x [] onto = refl
first-reverse_aux x (y ∷ rest) onto = first-reverse_aux y rest (x ∷ onto)

pub last-reverse_aux : (x : ℕ) (rest onto : List ℕ)
    → get_or (reverse_aux (x ∷ rest) onto) (length (reverse_aux (x ∷ rest) onto) - 1) 0 ≡ get_or (x ∷ onto) (length onto) 0
last-reverse_aux x [] onto =
    let e : suc (length onto) - 1 ≡ length onto = omega arith in
    ap (λ (n : ℕ). get_or (x ∷ onto) n 0) e
last-reverse_aux x (y ∷ rest) onto = last-reverse_aux y rest (x ∷ onto)

pub first-reverse : (list : List ℕ) → get_or (reverse list) 0 0 ≡ get_or list (length list - 1) 0
first-reverse [] = refl
first-reverse (x ∷ rest) =
    let e : length rest ≡ suc (length rest) - 1 = omega arith in
    first-reverse_aux x rest [] ∙ ap (λ (n : ℕ). get_or (x ∷ rest) n 0) e

pub last-reverse : (list : List ℕ) → get_or (reverse list) (length (reverse list) - 1) 0 ≡ get_or list 0 0
last-reverse list = sym (first-reverse (reverse list)) ∙ ap (λ (l : List ℕ). get_or l 0 0) (reverse-reverse list)

-- Links that can be turned round lead along the list turned round.
module _ {link : ℕ → ℕ → Type 0} (turn : (a b : ℕ) → link a b → link b a) where
  pub along-reverse_aux : (x : ℕ) (rest onto : List ℕ) → AlongFrom link x rest → AlongFrom link x onto → Along link (reverse_aux (x ∷ rest) onto)
  along-reverse_aux x [] onto first second = second
  along-reverse_aux x (y ∷ rest) onto first second = along-reverse_aux y rest (x ∷ onto) first.1 (turn x y first.0, second)

  pub along-reverse : (list : List ℕ) → Along link list → Along link (reverse list)
  along-reverse [] links = tt
  along-reverse (x ∷ rest) links = along-reverse_aux x rest [] links tt

pub map_reverse_aux : (f : ℕ → ℕ) (one two : List ℕ) → map f (reverse_aux one two) ≡ reverse_aux (map f one) (map f two)
map_reverse_aux f [] two = refl
map_reverse_aux f (x ∷ one) two = map_reverse_aux f one (x ∷ two)
