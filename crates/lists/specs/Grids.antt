-- Rows of n entries laid one behind the other: entry b of row a has index a × n + b. Assumes nothing.
use Rattle.std.specs.Prelude.{ℕ, suc, ◌+◌, ◌*◌, ◌≤◌, ◌<◌, ◌≡◌}
use Rattle.std.proofs.Common.{ap, suc-mul, mul-le-mul_right, arith}
use Rattle.std.proofs.Math.Decide.{dec_lt}

-- The whole row a lies below a later row.
row_below : (a c n : ℕ) → a < c → a * n + n ≤ c * n
row_below a c n h = omega (arith, suc-mul a n, mul-le-mul_right {m = suc a} {n = c} n h)

pub grid-within : (a b k n : ℕ) → a < k → b < n → a * n + b < k * n
grid-within a b k n h p = omega (arith, row_below a k n h)

-- An index tells its row and its entry.
pub grid-row : (a b c d n : ℕ) → b < n → d < n → a * n + b ≡ c * n + d → a ≡ c
grid-row a b c d n p q e = go (dec_lt a c) (dec_lt c a)
  where
    go : Dec (a < c) → Dec (c < a) → a ≡ c
    go (yes h) other = absurd (omega (arith, row_below a c n h))
    go (no h) (yes k) = absurd (omega (arith, row_below c a n k))
    go (no h) (no k) = omega arith

pub grid-entry : (a b c d n : ℕ) → b < n → d < n → a * n + b ≡ c * n + d → b ≡ d
grid-entry a b c d n p q e = omega (arith, e, ap (λ x. x * n) (grid-row a b c d n p q e))
