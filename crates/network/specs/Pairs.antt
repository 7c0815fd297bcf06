-- Pair numbers: different pairs a b, a below b, have different ones, and those of n relays lie below row start n.
-- Assumes nothing.
use Rattle.std.specs.Prelude.{ℕ, zero, suc, ◌+◌, ◌-◌, ◌*◌, ◌≤◌, ◌<◌, Bool, true, false, ◌&&◌, ◌≡◌, refl, eqb, ltb}
use Rattle.std.proofs.Common.{sym, ap, mul-suc, suc-mul, arith, eq-eqb, ne_eqb, eqb-true, ltb-true, ltb-false}
use Rattle.std.proofs.Math.Decide.{le_ind}
use Rattle.std.proofs.lemmas.Bool.{eqb-false}
use Rattle.definitions.specs.Network.{row_start, pair_number}

-- Row b has b pairs.
next_row : (b : ℕ) → row_start (suc b) ≡ row_start b + b
unfolding row_start
next_row zero = refl
next_row (suc b) =
    let high : suc (suc b) * (suc (suc b) - 1) ≡ suc (suc b) * suc b = ap (λ (x : ℕ). suc (suc b) * x) (omega arith) in
    let low : suc b * (suc b - 1) ≡ suc b * b = ap (λ (x : ℕ). suc b * x) (omega arith) in
    omega (arith, high, low, suc-mul (suc b) (suc b), mul-suc (suc b) b)

rows-rise : (b c : ℕ) → b ≤ c → row_start b ≤ row_start c
rows-rise b = le_ind (λ c. row_start b ≤ row_start c) (omega arith) λ c _ h. omega (arith, next_row c)

in_row : (a b : ℕ) → a < b → (row_start b ≤ pair_number a b) × (pair_number a b < row_start (suc b))
unfolding pair_number
in_row a b h = omega (arith, next_row b)

pub pair-below : (n a b : ℕ) → a < b → b < n → pair_number a b < row_start n
pair-below n a b h k = omega (arith, in_row a b h, rows-rise (suc b) n k)

-- How many pairs up to 32, up to 128, up to 512 and up to 1,000 relays have at most.
pub rows-of-32 : (n : ℕ) → n ≤ 32 → row_start n ≤ 496
unfolding row_start
rows-of-32 n = rows-rise n 32

pub rows-of-128 : (n : ℕ) → n ≤ 128 → row_start n ≤ 8128
unfolding row_start
rows-of-128 n = rows-rise n 128

pub rows-of-512 : (n : ℕ) → n ≤ 512 → row_start n ≤ 130816
unfolding row_start
rows-of-512 n = rows-rise n 512

pub rows-of-1000 : (n : ℕ) → n ≤ 1000 → row_start n ≤ 499500
unfolding row_start
rows-of-1000 n = rows-rise n 1000

same_row : (a b c d : ℕ) → a < b → c < d → pair_number a b ≡ pair_number c d → b < d → ⊥
same_row a b c d h k e l = omega (arith, in_row a b h, in_row c d k, rows-rise (suc b) d l)

pair-high : (a b c d : ℕ) → a < b → c < d → pair_number a b ≡ pair_number c d → b ≡ d
pair-high a b c d h k e = go (ltb b d) (ltb d b) refl refl
  where
    go : (less more : Bool) → ltb b d ≡ less → ltb d b ≡ more → b ≡ d
    go true more p q = absurd (same_row a b c d h k e (ltb-true b d p))
    go false true p q = absurd (same_row c d a b k h (sym e) (ltb-true d b q))
    go false false p q = omega (arith, ltb-false b d p, ltb-false d b q)

pair-low : (a b c d : ℕ) → a < b → c < d → pair_number a b ≡ pair_number c d → a ≡ c
unfolding pair_number
pair-low a b c d h k e = omega (arith, e, ap row_start (pair-high a b c d h k e))

-- Two pairs are the same exactly if their numbers are.
pub pair-test : (a b c d : ℕ) → a < b → c < d → eqb (pair_number a b) (pair_number c d) ≡ (eqb c a && eqb d b)
pair-test a b c d h k = go (eqb c a) (eqb d b) refl refl
  where
    go : (low high : Bool) → eqb c a ≡ low → eqb d b ≡ high → eqb (pair_number a b) (pair_number c d) ≡ (low && high)
    go true true p q = eq-eqb (pair_number a b) (pair_number c d) (cc (eqb-true c a p, eqb-true d b q))
    go false true p q = ne_eqb (pair_number a b) (pair_number c d) (λ e. eqb-false c a p (sym (pair-low a b c d h k e)))
    go true false p q = ne_eqb (pair_number a b) (pair_number c d) (λ e. eqb-false d b q (sym (pair-high a b c d h k e)))
    go false false p q = ne_eqb (pair_number a b) (pair_number c d) (λ e. eqb-false c a p (sym (pair-low a b c d h k e)))
