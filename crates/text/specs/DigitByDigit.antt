-- How a number is read digit by digit: the first digit, later digits, where it ends. Assumes nothing.
use Rattle.std.specs.Prelude.{ℕ, zero, suc, ◌+◌, ◌-◌, ◌*◌, ◌^◌, ◌≤◌, ◌<◌, true, false, List, [], ◌∷◌, ◌⊎◌, ◌≡◌, refl}
use Rattle.std.proofs.Common.{inl, inr, add-one, arith, eq-eqb, ne_eqb}
use Rattle.definitions.specs.Lists.{outside}
use Rattle.lists.specs.Ranges.{inside, below}
use Rattle.definitions.specs.Form.{departs, reads, byte_at, scan_digits, scan_decimal}

-- A byte that is no digit ends the number.
pub digits-end : (text : List ℕ) (x p more : ℕ) → outside 48 57 (byte_at text p) ≡ true → scan_digits text x p more ≡ reads (x ∷ []) p
unfolding scan_digits
digits-end text x p zero e = refl
digits-end text x p (suc more) e = rw e

pub digits-done : (text : List ℕ) (x p more : ℕ) → more ≡ 0 → scan_digits text x p more ≡ reads (x ∷ []) p
unfolding scan_digits
digits-done text x p more e = rw e

-- A line end, a space and a bracket are no digits.
pub no_digit : (b : ℕ) → (b ≡ 10) ⊎ ((b ≡ 32) ⊎ (b ≡ 41)) → outside 48 57 b ≡ true
no_digit b (inl e) = below 48 57 b (omega arith)
no_digit b (inr (inl e)) = below 48 57 b (omega arith)
no_digit b (inr (inr e)) = below 48 57 b (omega arith)

-- A later digit.
pub digits_step : (text : List ℕ) (x p more : ℕ) → 0 < more → outside 48 57 (byte_at text p) ≡ false
    → scan_digits text x p more ≡ scan_digits text (x * 10 + (byte_at text p - 48)) (p + 1) (more - 1)
unfolding scan_digits
digits_step text x p zero h e = absurd (omega arith)
digits_step text x p (suc more) h e =
    let m : suc more - 1 ≡ more = omega arith in
    rw (e, m)

power-step : (k : ℕ) → 10 ^ suc k ≡ 10 * 10 ^ k
power-step k = omega arith

power-room : (j k : ℕ) → j ≤ k → 10 ^ j ≤ 10 ^ k
power-room zero zero h = omega arith
power-room zero (suc k) h = omega (arith, power-step k, power-room zero k (omega arith))
power-room (suc j) zero h = absurd (omega arith)
power-room (suc j) (suc k) h = omega (arith, power-step k, power-step j, power-room j k (omega arith))

-- A number of so many digits, with one more behind it.
pub digits-bound : (count x d : ℕ) → x < 10 ^ count → d ≤ 9 → x * 10 + d < 10 ^ (count + 1)
digits-bound count x d b e = rw (add-one count) (omega (arith, power-step count, b))

pub digits-room : (count most x : ℕ) → count ≤ most → x < 10 ^ count → x < 10 ^ most
digits-room count most x h b = omega (arith, b, power-room count most h)

-- "no zero in front except in `0` itself", for a number of at most `more` + 1 digits.
pub decimal-zero : (text : List ℕ) (more p : ℕ) → byte_at text p ≡ 48 → scan_decimal text more p ≡ reads (0 ∷ []) (p + 1)
decimal-zero text more p e = rw (eq-eqb _ _ e)

pub decimal-departs : (text : List ℕ) (more p : ℕ) → (byte_at text p ≡ 48 → ⊥) → outside 49 57 (byte_at text p) ≡ true
    → scan_decimal text more p ≡ departs p
decimal-departs text more p n e = rw (ne_eqb _ _ n, e)

pub decimal-digits : (text : List ℕ) (more p : ℕ) → 49 ≤ byte_at text p → byte_at text p ≤ 57
    → scan_decimal text more p ≡ scan_digits text (byte_at text p - 48) (p + 1) more
decimal-digits text more p l h = rw (ne_eqb (byte_at text p) 48 (λ e. omega arith), inside 49 57 _ l h)
