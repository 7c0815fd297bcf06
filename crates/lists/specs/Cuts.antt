-- Lists written one behind the other and cut up again by their lengths.
use Rattle.std.specs.Prelude.{ℕ, List, [], ◌∷◌, ◌++◌, map, ◌≡◌, refl, length, take, drop}
use Rattle.std.proofs.Common.{append_assoc, ◌∙◌, ap, ap₂, arith, length-append}
use Rattle.std.proofs.lemmas.List.{length-map}
use Rattle.std.proofs.Math.Seq.{take-append_seam, drop-append_seam}
use Rattle.definitions.specs.Lists.{total, join_all}
use Rattle.definitions.specs.Demand.{cut_up}

pub cut_up-joined : (lists : List (List ℕ)) (rest : List ℕ) → cut_up (map length lists) (join_all lists ++ rest) ≡ lists
unfolding cut_up join_all
cut_up-joined [] rest = refl
cut_up-joined (l ∷ lists) rest =
    let split : l ++ join_all lists ++ rest ≡ l ++ (join_all lists ++ rest) = append_assoc l (join_all lists) rest in
    let front : take (length l) (l ++ join_all lists ++ rest) ≡ l =
    ap (take (length l)) split ∙ take-append_seam l (join_all lists ++ rest) in
    let back : drop (length l) (l ++ join_all lists ++ rest) ≡ join_all lists ++ rest =
    ap (drop (length l)) split ∙ drop-append_seam l (join_all lists ++ rest) in
    ap₂ ◌∷◌ front (ap (cut_up (map length lists)) back ∙ cut_up-joined lists rest)

pub total-lengths : (lists : List (List ℕ)) → total (map length lists) ≡ length (join_all lists)
unfolding total join_all
total-lengths [] = refl
total-lengths (l ∷ lists) = omega (arith, length-append l (join_all lists), total-lengths lists)

pub lengths-map : (f : ℕ → ℕ) (lists : List (List ℕ)) → map length (map (map f) lists) ≡ map length lists
lengths-map f [] = refl
lengths-map f (l ∷ lists) = rw (length-map l f, lengths-map f lists)

pub length-join_all-map : (f : ℕ → ℕ) (lists : List (List ℕ)) → length (join_all (map (map f) lists)) ≡ length (join_all lists)
unfolding join_all
length-join_all-map f [] = refl
length-join_all-map f (l ∷ lists) =
    omega (
      arith,
      length-append (map f l) (join_all (map (map f) lists)),
      length-append l (join_all lists),
      length-map l f,
      length-join_all-map f lists,
    )
