-- Mapped lists: their entries, two functions one after the other, and two that agree. Assumes nothing.
use Rattle.std.specs.Prelude.{ℕ, zero, suc, ◌+◌, ◌<◌, List, [], ◌∷◌, map, ◌≡◌, refl, length, get_or}
use Rattle.std.proofs.Common.{ap, ap₂, arith}
use Rattle.definitions.specs.Lists.{table}

pub get_or-map : {A B : Type 0} (f : A → B) (l : List A) (i : ℕ) (d : A) (e : B) → i < length l → get_or (map f l) i e ≡ f (get_or l i d)
get_or-map f [] i d e h = absurd (omega arith)
get_or-map f (x ∷ l) zero d e h = refl
get_or-map f (x ∷ l) (suc i) d e h = get_or-map f l i d e (omega arith)

pub map-map : {A B C : Type 0} (g : B → C) (f : A → B) (l : List A) → map g (map f l) ≡ map (λ x. g (f x)) l
map-map g f [] = refl
map-map g f (x ∷ l) = ap (λ k. g (f x) ∷ k) (map-map g f l)

-- Two functions that agree on the entries of a list.
pub map-agree : {A B : Type 0} (f g : A → B) (d : A) (l : List A) → ((i : ℕ) → i < length l → f (get_or l i d) ≡ g (get_or l i d))
    → map f l ≡ map g l
map-agree f g d [] same = refl
map-agree f g d (x ∷ l) same =
    ap₂ (λ a k. a ∷ k) (same 0 (omega arith)) (map-agree f g d l (λ i less. same (suc i) (omega arith)))

pub map-table : {A B : Type 0} (g : A → B) (f : ℕ → A) (i count : ℕ) → map g (table f i count) ≡ table (λ j. g (f j)) i count
unfolding table
map-table g f i zero = refl
map-table g f i (suc count) = ap (λ l. g (f i) ∷ l) (map-table g f (i + 1) count)
