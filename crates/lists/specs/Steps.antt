-- What stands between each entry of a list and the next. Assumes nothing.
use Rattle.std.specs.Prelude.{ℕ, suc, ◌+◌, ◌≤◌, ◌<◌, pred, ◌≡◌, length, get_or}
use mathlib.Core.List.{List, [], ◌∷◌, ◌++◌, map, reverse, reverse_aux, reverse_aux-eq}
use Rattle.std.proofs.Math.Path.{refl, ap}
use Rattle.std.proofs.Common.{sym, ◌∙◌, ap₂, arith, length-append}
use Rattle.definitions.specs.Lists.{join_all}

-- f of each entry and the next.
unfoldable pub steps_of : (f : ℕ → ℕ → ℕ) (list : List ℕ) → List ℕ
steps_of f [] = []
steps_of f (a ∷ []) = []
steps_of f (a ∷ b ∷ rest) = f a b ∷ steps_of f (b ∷ rest)

pub length-steps_of : (f : ℕ → ℕ → ℕ) (x : ℕ) (rest : List ℕ) → length (steps_of f (x ∷ rest)) ≡ length rest
unfolding steps_of
length-steps_of f x [] = refl
length-steps_of f x (y ∷ rest) = rw (length-steps_of f y rest)

-- A list has one step less than entries.
pub lengths-steps_of : (f : ℕ → ℕ → ℕ) (lists : List (List ℕ)) → map length (map (steps_of f) lists) ≡ map pred (map length lists)
unfolding steps_of
lengths-steps_of f [] = refl
lengths-steps_of f ([] ∷ lists) = ap (λ (sizes : List ℕ). 0 ∷ sizes) (lengths-steps_of f lists)
lengths-steps_of f ((x ∷ rest) ∷ lists) = ap₂ ◌∷◌ (length-steps_of f x rest) (lengths-steps_of f lists)

-- Lists with an entry each have one step less each.
pub length-all-steps : (f : ℕ → ℕ → ℕ) (lists : List (List ℕ)) → ((i : ℕ) → i < length lists → 1 ≤ length (get_or lists i []))
    → length (join_all (map (steps_of f) lists)) + length lists ≡ length (join_all lists)
unfolding join_all
length-all-steps f [] some = refl
length-all-steps f (list ∷ lists) some =
    omega (
      arith,
      length-append (steps_of f list) (join_all (map (steps_of f) lists)),
      length-append list (join_all lists),
      one_less list (some 0 (omega arith)),
      length-all-steps f lists (λ i less. some (suc i) (omega arith)),
    )
  where
    one_less : (list : List ℕ) → 1 ≤ length list → length (steps_of f list) + 1 ≡ length list
    one_less [] some = absurd (omega arith)
    one_less (x ∷ rest) some = omega (arith, length-steps_of f x rest)

-- Of a mapped list.
pub steps_of-map : (f : ℕ → ℕ → ℕ) (g : ℕ → ℕ) (list : List ℕ) → steps_of f (map g list) ≡ steps_of (λ a b. f (g a) (g b)) list
unfolding steps_of
steps_of-map f g [] = refl
steps_of-map f g (a ∷ []) = refl
steps_of-map f g (a ∷ b ∷ rest) = ap (λ (l : List ℕ). f (g a) (g b) ∷ l) (steps_of-map f g (b ∷ rest))

-- Of a list turned round, where what stands between two entries is the same both ways.
module _ (f : ℕ → ℕ → ℕ) (turn : (a b : ℕ) → f a b ≡ f b a) where
  pub steps_of-reverse_aux : (x : ℕ) (rest onto : List ℕ)
      → steps_of f (reverse_aux rest (x ∷ onto)) ≡ reverse_aux (steps_of f (x ∷ rest)) (steps_of f (x ∷ onto))
  unfolding steps_of
  steps_of-reverse_aux x [] onto = refl
  steps_of-reverse_aux x (y ∷ rest) onto =
      steps_of-reverse_aux y rest (x ∷ onto)
      ∙ ap (λ (z : ℕ). reverse_aux (steps_of f (y ∷ rest)) (z ∷ steps_of f (x ∷ onto))) (turn y x)

  pub steps_of-reverse : (list : List ℕ) → steps_of f (reverse list) ≡ reverse (steps_of f list)
  unfolding steps_of
  steps_of-reverse [] = refl
  steps_of-reverse (x ∷ rest) = steps_of-reverse_aux x rest []

  -- Of one list turned round and another behind it, where both begin with x.
  pub steps_of-meet : (x : ℕ) (one other : List ℕ)
      → steps_of f (reverse (x ∷ one) ++ other) ≡ reverse (steps_of f (x ∷ one)) ++ steps_of f (x ∷ other)
  steps_of-meet x one other =
      ap (steps_of f) (sym (reverse_aux-eq (x ∷ one) other)) ∙ steps_of-reverse_aux x one other
      ∙ reverse_aux-eq (steps_of f (x ∷ one)) (steps_of f (x ∷ other))
