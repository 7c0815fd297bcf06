-- A list whose first i entries have been mapped, one entry after another. Assumes nothing.
use Rattle.std.specs.Prelude.{ℕ, suc, ◌+◌, ◌≤◌, ◌<◌, List, [], ◌∷◌, ◌++◌, map, ◌≡◌, refl, length, get_or, set, take, drop}
use Rattle.std.proofs.Common.{append_assoc, sym, ◌∙◌, ap, arith, length-append, length-drop, length-take-le, take-suc, drop-cons}
use Rattle.std.proofs.lemmas.List.{length-map, set_at, get_or_at}
use Rattle.definitions.specs.Lists.{total}

map_snoc : (f : ℕ → ℕ) (l : List ℕ) (x : ℕ) → map f (l ++ (x ∷ [])) ≡ map f l ++ (f x ∷ [])
map_snoc f [] x = refl
map_snoc f (y ∷ l) x = ap (λ k. f y ∷ k) (map_snoc f l x)

total-snoc : (l : List ℕ) (x : ℕ) → total (l ++ (x ∷ [])) ≡ total l + x
unfolding total
total-snoc [] x = omega arith
total-snoc (y ∷ l) x = omega (arith, total-snoc l x)

-- The list with its first i entries mapped.
abbrev pub mapped : (ℕ → ℕ) → ℕ → List ℕ → List ℕ
mapped f i l = map f (take i l) ++ drop i l

module _ (f : ℕ → ℕ) (l : List ℕ) (i : ℕ) (h : i < length l) where
  front : length (map f (take i l)) ≡ i
  front = length-map (take i l) f ∙ length-take-le i l (omega arith)

  next : map f (take (suc i) l) ≡ map f (take i l) ++ (f (get_or l i 0) ∷ [])
  next = ap (map f) (take-suc l i 0 h) ∙ map_snoc f (take i l) (get_or l i 0)

  -- The next entry is still as it was.
  pub mapped_next : get_or (mapped f i l) i 0 ≡ get_or l i 0
  mapped_next =
      ap (λ k. get_or (map f (take i l) ++ k) i 0) (drop-cons l i 0 h)
      ∙ get_or_at (map f (take i l)) (get_or l i 0) (drop (suc i) l) 0 i front

  pub mapped-more : set (mapped f i l) i (f (get_or l i 0)) ≡ mapped f (suc i) l
  mapped-more =
      ap (λ k. set (map f (take i l) ++ k) i (f (get_or l i 0))) (drop-cons l i 0 h)
      ∙ set_at (map f (take i l)) (get_or l i 0) (drop (suc i) l) (f (get_or l i 0)) i front
      ∙ sym (append_assoc (map f (take i l)) (f (get_or l i 0) ∷ []) (drop (suc i) l))
      ∙ ap (λ k. k ++ drop (suc i) l) (sym next)

  pub total-more : total (map f (take (suc i) l)) ≡ total (map f (take i l)) + f (get_or l i 0)
  total-more = ap total next ∙ total-snoc (map f (take i l)) (f (get_or l i 0))

pub length-mapped : (f : ℕ → ℕ) (l : List ℕ) (i : ℕ) → i ≤ length l → length (mapped f i l) ≡ length l
length-mapped f l i h =
    omega (arith, length-append (map f (take i l)) (drop i l), length-map (take i l) f, length-take-le i l h, length-drop i l)
