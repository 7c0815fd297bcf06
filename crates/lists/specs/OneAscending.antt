-- A list that rises strictly is told by its members; two such lists, one behind the other. Assumes nothing.
use Rattle.std.specs.Prelude.{ℕ, ◌<◌, true, List, [], ◌∷◌, ◌++◌, ◌⊎◌, ◌≡◌, refl}
use Rattle.std.proofs.Common.{inl, inr, sym, ap₂, subst, arith}
use Rattle.definitions.specs.Lists.{has}
use Rattle.lists.specs.Ascending.{Ascending}
use Rattle.lists.specs.Cases.{has_here, has_there, has-nil, has-cases, has_either}
use Rattle.lists.specs.Searches.{clash}

-- What one has the other has.
abbrev pub Within : (one other : List ℕ) → Type 0
Within one other = (x : ℕ) → has one x ≡ true → has other x ≡ true

-- The first entry is none of those behind it.
not_behind : (x : ℕ) (l : List ℕ) → Ascending (x ∷ l) → has l x ≡ true → ⊥
not_behind x l a h = omega (arith, a.0 x h)

-- Behind equal first entries the rests have the same members.
rest-within : (x : ℕ) (l k : List ℕ) → Ascending (x ∷ l) → Within (x ∷ l) (x ∷ k) → Within l k
rest-within x l k a w y h = go (has-cases x k y (w y (has_there x l y h)))
  where
    go : (x ≡ y) ⊎ (has k y ≡ true) → has k y ≡ true
    go (inl e) = absurd (omega (arith, a.0 y h))
    go (inr g) = g

pub ascending-same : (l k : List ℕ) → Ascending l → Ascending k → Within l k → Within k l → l ≡ k
ascending-same [] [] a b v w = refl
ascending-same [] (y ∷ k) a b v w = absurd (clash (w y (has_here y k)) (has-nil y))
ascending-same (x ∷ l) [] a b v w = absurd (clash (v x (has_here x l)) (has-nil x))
ascending-same (x ∷ l) (y ∷ k) a b v w =
    let first : x ≡ y = least (has-cases y k x (v x (has_here x l))) (has-cases x l y (w y (has_here y k))) in
    let b' : Ascending (x ∷ k) = subst (λ (z : ℕ). Ascending (z ∷ k)) (sym first) b in
    let v' : Within (x ∷ l) (x ∷ k) = subst (λ (z : ℕ). Within (x ∷ l) (z ∷ k)) (sym first) v in
    let w' : Within (x ∷ k) (x ∷ l) = subst (λ (z : ℕ). Within (z ∷ k) (x ∷ l)) (sym first) w in
    ap₂ ◌∷◌ first (ascending-same l k a.1 b.1 (rest-within x l k a v') (rest-within x k l b' w'))
  where
    least : (y ≡ x) ⊎ (has k x ≡ true) → (x ≡ y) ⊎ (has l y ≡ true) → x ≡ y
    least (inl e) other = sym e
    least (inr h) (inl e) = e
    least (inr h) (inr g) = absurd (omega (arith, b.0 x h, a.0 y g))

-- Two rising lists, the second behind the first.
pub ascending-append : (l k : List ℕ) → Ascending l → Ascending k
    → ((x y : ℕ) → has l x ≡ true → has k y ≡ true → x < y) → Ascending (l ++ k)
ascending-append [] k a b apart = b
ascending-append (x ∷ l) k a b apart = (
  λ y h. go y (has_either l k y h),
  ascending-append l k a.1 b (λ u v p q. apart u v (has_there x l u p) q),
)
  where
    go : (y : ℕ) → (has l y ≡ true) ⊎ (has k y ≡ true) → x < y
    go y (inl h) = a.0 y h
    go y (inr h) = apart x y (has_here x l) h
