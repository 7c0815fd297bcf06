-- One step of the scan: the places, and the list of relays with one more. Assumes nothing.
use Prim.Native.Nat.{ℕ, suc, ◌≤◌, ◌<◌}
use mathlib.Core.Bool.{true, false, true≢false}
use mathlib.Core.List.{List, [], ◌∷◌, ◌++◌, append_assoc}
use mathlib.Core.Path.{◌≡◌, refl, sym, ◌∙◌, ap}
use native.Mathlib.Decide.{ℕ_discrete}
use native.Mathlib.Omega.{arith}
use lib.ListN.{length, get_or, set, drop, length-set, length-append}
use lib.Seq.{get_or-set_same, get_or-set_other, set_at, drop-cons}
use Rattle.definitions.specs.Lists.{overwrite, has, position}
use Rattle.definitions.specs.Order.{placed_after}
use Rattle.forests.specs.Counts.{turns_of}
use Rattle.forests.specs.Scan.{placed, following, PlacesAt}
use Rattle.forests.proofs.OrderLaws.{following-below, has_same, another, waited, position-new, position-same}

-- Before the first step.
pub places-start : {n : ℕ} {lows highs states : List ℕ} (places : List ℕ) → PlacesAt n lows highs states 0 places places
unfolding placed_after has
places-start places = record { long = refl; place = λ r h. absurd (true≢false (sym h)); rest = λ r h. refl }

-- One entry more is written over a list.
pub overwrite-next : (new old : List ℕ) (k x : ℕ) → length new ≡ k → k < length old
    → set (overwrite new old) k x ≡ overwrite (new ++ (x ∷ [])) old
unfolding overwrite
overwrite-next new old k x e h =
    let longer : length (new ++ (x ∷ [])) ≡ suc k = omega (arith, length-append new (x ∷ [])) in
    ap (λ l. set (new ++ l) k x) (ap (λ j. drop j old) e ∙ drop-cons old k 0 h)
    ∙ set_at new (get_or old k 0) (drop (suc k) old) x k e
    ∙ sym (append_assoc new (x ∷ []) (drop (suc k) old))
    ∙ ap (λ j. (new ++ (x ∷ [])) ++ drop j old) (sym longer)

module _ (n : ℕ) (lows highs states : List ℕ) (k : ℕ) (within : k < turns_of n states) where
  pub places-step : (start places : List ℕ) → n ≤ length start → PlacesAt n lows highs states k start places
      → PlacesAt n lows highs states (suc k) start (set places (following n lows highs states k) (suc k))
  places-step start places room f =
      record {
        long = length-set places (following n lows highs states k) (suc k) ∙ f.long;
        place = λ r h. go r h (ℕ_discrete r (following n lows highs states k));
        rest = λ r h. rest r h (ℕ_discrete r (following n lows highs states k));
      }
    where
      below : following n lows highs states k < n
      below = following-below n lows highs states k within

      go : (r : ℕ) → has (placed n lows highs states (suc k)) r ≡ true → Dec (r ≡ following n lows highs states k)
          → get_or (set places (following n lows highs states k) (suc k)) r 0 ≡ position (placed n lows highs states (suc k)) r
      go r h (yes e) =
          rw e (get_or-set_same places (following n lows highs states k) (suc k) 0 (omega (arith, below, f.long))
          ∙ sym (position-new n lows highs states k within))
      go r h (no d) =
          let p = sym (has_same n lows highs states k r d) ∙ h in
          get_or-set_other places (following n lows highs states k) r (suc k) 0 d
          ∙ f.place r p
          ∙ sym (position-same n lows highs states k r within p)

      rest : (r : ℕ) → has (placed n lows highs states (suc k)) r ≡ false → Dec (r ≡ following n lows highs states k)
          → get_or (set places (following n lows highs states k) (suc k)) r 0 ≡ get_or start r 0
      rest r h (yes e) = absurd (another n lows highs states k r h e)
      rest r h (no d) = get_or-set_other places (following n lows highs states k) r (suc k) 0 d ∙ f.rest r (waited n lows highs states k r h)
