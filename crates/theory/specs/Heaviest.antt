-- The choice of the ordering's first and next relay: the greatest weight, of equals the first in the list; where the list rises,
-- the lowest number.
use Prim.Native.Nat.{ℕ, zero, suc, ◌≤◌, ◌<◌}
use Rattle.std.specs.Prelude.{Bool, ◌≡◌, length, get_or}
use Rattle.std.proofs.Math.Bool.{true, false}
use mathlib.Core.List.{List, [], ◌∷◌}
use Rattle.std.proofs.Math.Path.{refl}
use Rattle.std.proofs.Common.{sym, ◌∙◌, ap}
use native.Mathlib.Omega.{arith}
use borrow.Author.Tests.{ltb-true, ltb-false}
use Rattle.std.proofs.Math.Dec.{ltb}
use Rattle.definitions.specs.Outcome.{pick}
use Rattle.definitions.specs.Lists.{has}
use Rattle.definitions.specs.Order.{heaviest, heaviest_of}
use Rattle.lists.specs.Members.{has-at, index_of}
use Rattle.lists.specs.Ascending.{Ascending, ascending-at}

-- b stands at index `at` of the list; no entry is heavier, and those before it are lighter.
pub record Chosen (weight_of : ℕ → ℕ) (l : List ℕ) (b : ℕ) : Type 0 where
  pub at : ℕ
  pub within : at < length l
  pub here : get_or l at 0 ≡ b
  pub most : (i : ℕ) → i < length l → weight_of (get_or l i 0) ≤ weight_of b
  pub first : (i : ℕ) → i < at → weight_of (get_or l i 0) < weight_of b

module _ (w : ℕ → ℕ) where
  -- A lighter entry in front changes nothing.
  behind : (x : ℕ) (l : List ℕ) (b : ℕ) → Chosen w l b → w x < w b → Chosen w (x ∷ l) b
  behind x l b c h =
      record {
        at = suc c.at;
        within = omega (arith, c.within);
        here = c.here;
        most = elim [ zero ↦ λ k. omega arith | suc i ↦ λ k. c.most i (omega arith) ];
        first = elim [ zero ↦ λ k. h | suc i ↦ λ k. c.first i (omega arith) ];
      }

  -- Nor does an entry that is no heavier, behind the first.
  second : (x y : ℕ) (l : List ℕ) (b : ℕ) → Chosen w (x ∷ l) b → w y ≤ w x → Chosen w (x ∷ y ∷ l) b
  second x y l b c h = go c.at c.within c.here c.first
    where
      front : w x ≤ w b
      front = c.most zero (omega arith)

      most : (i : ℕ) → i < suc (suc (length l)) → w (get_or (x ∷ y ∷ l) i 0) ≤ w b
      most zero k = front
      most (suc zero) k = omega (arith, front)
      most (suc (suc i)) k = c.most (suc i) (omega arith)

      go : (a : ℕ) → a < suc (length l) → get_or (x ∷ l) a 0 ≡ b → ((i : ℕ) → i < a → w (get_or (x ∷ l) i 0) < w b)
          → Chosen w (x ∷ y ∷ l) b
      go zero p q f = record { at = zero; within = omega arith; here = q; most = most; first = λ i k. absurd (omega arith) }
      go (suc a) p q f =
          let lighter : w x < w b = f zero (omega arith) in
          let before : (i : ℕ) → i < suc (suc a) → w (get_or (x ∷ y ∷ l) i 0) < w b = elim [
            | zero ↦ λ k. lighter
            | suc (i → ih) ↦ elim i as (λ i. suc i < suc (suc a) → w (get_or (x ∷ y ∷ l) (suc i) 0) < w b) [
              | zero ↦ λ k. omega arith
              | suc j ↦ λ k. f (suc j) (omega arith)
            ]
          ] in
          record { at = suc (suc a); within = omega arith; here = q; most = most; first = before }

  heaviest-chosen : (best : ℕ) (rest : List ℕ) → Chosen w (best ∷ rest) (heaviest w best rest)
  unfolding heaviest
  heaviest-chosen best [] =
      record {
        at = zero;
        within = omega arith;
        here = refl;
        most = elim [ zero ↦ λ k. omega arith | suc i ↦ λ k. absurd (omega arith) ];
        first = λ i k. absurd (omega arith);
      }
  heaviest-chosen best (r ∷ rest) =
      go (ltb (w best) (w r)) refl (heaviest-chosen best rest) (heaviest-chosen r rest)
    where
      go : (t : Bool) → ltb (w best) (w r) ≡ t
          → Chosen w (best ∷ rest) (heaviest w best rest)
          → Chosen w (r ∷ rest) (heaviest w r rest)
          → Chosen w (best ∷ r ∷ rest) (heaviest w (pick t r best) rest)
      go true e stay move =
          behind best (r ∷ rest) (heaviest w r rest) move
          (omega (arith, ltb-true (w best) (w r) e, move.most zero (omega arith)))
      go false e stay move = second best r rest (heaviest w best rest) stay (ltb-false (w best) (w r) e)

  pub heaviest_of-chosen : (l : List ℕ) → 0 < length l → Chosen w l (heaviest_of w l)
  unfolding heaviest_of
  heaviest_of-chosen [] h = absurd (omega arith)
  heaviest_of-chosen (r ∷ rest) h = heaviest-chosen r rest

  pub chosen-has : (l : List ℕ) (b : ℕ) → Chosen w l b → has l b ≡ true
  chosen-has l b c = rw c.here at (has-at l c.at c.within)

  pub chosen-most : (l : List ℕ) (b : ℕ) → Chosen w l b → (y : ℕ) → has l y ≡ true → w y ≤ w b
  chosen-most l b c y h =
      let i = index_of l y h in
      rw i.2 at (c.most i.0 i.1)

  -- "of equals the lowest": in a rising list those below b are lighter.
  pub chosen-lowest : (l : List ℕ) (b : ℕ) → Ascending l → Chosen w l b → (y : ℕ) → has l y ≡ true → y < b → w y < w b
  chosen-lowest l b a c y h k = go (ltb i.0 c.at) refl
    where
      i : (j : ℕ) × (j < length l) × (get_or l j 0 ≡ y)
      i = index_of l y h

      go : (t : Bool) → ltb i.0 c.at ≡ t → w y < w b
      go true e = rw i.2 at (c.first i.0 (ltb-true i.0 c.at e))
      go false e = absurd (after (ltb c.at i.0) refl)
        where
          after : (t : Bool) → ltb c.at i.0 ≡ t → ⊥
          after true q =
              omega (arith, ascending-at l a c.at i.0 (ltb-true c.at i.0 q) i.1, c.here, i.2)
          after false q =
              let same : i.0 ≡ c.at = omega (arith, ltb-false i.0 c.at e, ltb-false c.at i.0 q) in
              omega (arith, sym i.2 ∙ ap (λ (j : ℕ). get_or l j 0) same ∙ c.here)

  -- Where the list rises, the choice is told by weight and number: nothing is heavier, and of equals it is the lowest.
  pub chosen_is : (l : List ℕ) (c : ℕ) → Ascending l → Chosen w l c → (b : ℕ) → has l b ≡ true
      → ((y : ℕ) → has l y ≡ true → (w y ≤ w b) × (w y ≡ w b → b ≤ y)) → c ≡ b
  chosen_is l c rise chosen b h top =
      let up : w b ≤ w c = chosen-most l c chosen b h in
      let down : (w c ≤ w b) × (w c ≡ w b → b ≤ c) = top c (chosen-has l c chosen) in
      let low : b ≤ c = down.1 (omega (arith, down.0)) in
      let high : b < c → w b < w c = chosen-lowest l c rise chosen b h in
      let within : ¬ (b < c) = λ less. omega (arith, high less, down.0) in
      omega arith
