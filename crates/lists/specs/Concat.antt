-- Lists written one behind the other (`join_all`): members, repeats, and lengths up to some entries of each. Assumes nothing.
use Rattle.std.specs.Prelude.{ℕ, zero, suc, ◌+◌, ◌*◌, ◌≤◌, ◌<◌, Bool, true, ◌||◌, not, List, [], ◌∷◌, map, ◌⊎◌, ◌≢◌, ◌≡◌, eqb, length, get_or}
use Rattle.std.proofs.Common.{arith, inl, inr, length-append}
use Rattle.definitions.specs.Lists.{has, keep, join_all, NoRepeat}
use Rattle.lists.specs.Searches.{clash}
use Rattle.lists.specs.Cases.{has-nil, has_either, Disjoint, no_repeat-append}
use Rattle.lists.specs.Counting.{count-or, count-not, count-once, length-keep}

-- A member is one of some list.
pub has-join_all : (lists : List (List ℕ)) (w : ℕ) → has (join_all lists) w ≡ true
    → (i : ℕ) × (i < length lists) × (has (get_or lists i []) w ≡ true)
unfolding join_all
has-join_all [] w h = absurd (clash h (has-nil w))
has-join_all (list ∷ lists) w h = go (has_either list (join_all lists) w h) (has-join_all lists w)
  where
    go : (has list w ≡ true) ⊎ (has (join_all lists) w ≡ true)
        → (has (join_all lists) w ≡ true → (i : ℕ) × (i < length lists) × (has (get_or lists i []) w ≡ true))
        → (i : ℕ) × (i < suc (length lists)) × (has (get_or (list ∷ lists) i []) w ≡ true)
    go (inl h) later = (zero, omega arith, h)
    go (inr h) later = (suc (later h).0, omega (arith, (later h).1), (later h).2)

-- Lists without repeats, no two of which have a common member.
pub no_repeat-join_all : (lists : List (List ℕ))
    → ((i : ℕ) → i < length lists → NoRepeat (get_or lists i []))
    → ((i j : ℕ) → i < length lists → j < length lists → i ≢ j → Disjoint (get_or lists i []) (get_or lists j []))
    → NoRepeat (join_all lists)
unfolding join_all
no_repeat-join_all [] each apart = tt
no_repeat-join_all (list ∷ lists) each apart =
    no_repeat-append list (join_all lists) (each zero (omega arith))
    (no_repeat-join_all lists (λ i less. each (suc i) (omega arith)) (λ i j less less' other. apart (suc i) (suc j) (omega arith) (omega arith) (omega arith)))
    (λ w h g.
    let later : (i : ℕ) × (i < length lists) × (has (get_or lists i []) w ≡ true) = has-join_all lists w g in
    apart zero (suc later.0) (omega arith) (omega (arith, later.1)) (omega arith) w h later.2)

-- Where each list loses at most two entries, all lose at most two for each list.
pub length-join_all-less : (less : List ℕ → List ℕ) (lists : List (List ℕ))
    → ((i : ℕ) → i < length lists → length (get_or lists i []) ≤ length (less (get_or lists i [])) + 2)
    → length (join_all lists) ≤ length (join_all (map less lists)) + 2 * length lists
unfolding join_all
length-join_all-less less [] each = omega arith
length-join_all-less less (list ∷ lists) each =
    omega (
      arith,
      each zero (omega arith),
      length-join_all-less less lists (λ i below. each (suc i) (omega arith)),
      length-append list (join_all lists),
      length-append (less list) (join_all (map less lists)),
    )

-- The entries other than two numbers.
abbrev pub is_either : ℕ → ℕ → ℕ → Bool
is_either s t w = eqb s w || eqb t w

abbrev pub inner : ℕ → ℕ → List ℕ → List ℕ
inner s t list = keep (λ w. not (is_either s t w)) list

-- A list without repeats has them once each.
pub length-inner : (s t : ℕ) (list : List ℕ) → NoRepeat list → length list ≤ length (inner s t list) + 2
length-inner s t list once =
    omega (
      arith,
      count-not (is_either s t) list,
      count-or (eqb s) (eqb t) list,
      count-once s list once,
      count-once t list once,
      length-keep (λ w. not (is_either s t w)) list,
    )
