-- Laws of `decimal`: its last digit, its digits one by one below 10,000, and induction over the digits of a number.
-- Assumes nothing.
use Rattle.std.specs.Prelude.{ℕ, zero, suc, ◌+◌, ◌*◌, ◌/◌, ◌%◌, ◌^◌, ◌≤◌, ◌<◌, Bool, true, false, List, [], ◌∷◌, ◌++◌, ◌≡◌, refl, ltb, length, get_or}
use Rattle.std.proofs.Common.{sym, ◌∙◌, ap, arith, lit<, length-append, lt-ltb, le-ltb, ltb-true, ltb-false}
use Rattle.std.proofs.Math.Nat.{one-le-pow}
use Rattle.std.proofs.Math.ListN.{get_or-append}
use Rattle.definitions.specs.Form.{decimal_within, decimal}

-- Any fuel from x on gives the same digits.
same-within : (f g x : ℕ) → x ≤ f → x ≤ g → decimal_within f x ≡ decimal_within g x
unfolding decimal_within
same-within zero zero x hf hg = refl
same-within zero (suc g) x hf hg =
    let e : x ≡ 0 = omega arith in
    rw e
same-within (suc f) zero x hf hg =
    let e : x ≡ 0 = omega arith in
    rw e
same-within (suc f) (suc g) x hf hg =
    rw (same-within f g (x / 10) (omega arith) (omega arith))

-- A number of one digit.
pub decimal_digit : (x : ℕ) → x < 10 → decimal x ≡ (48 + x) ∷ []
unfolding decimal decimal_within
decimal_digit zero h = refl
decimal_digit (suc x) h = rw (lt-ltb (suc x) 10 h)

-- Any other number ends in its last digit, behind the digits of its tens.
pub decimal-tens : (x : ℕ) → 10 ≤ x → decimal x ≡ decimal (x / 10) ++ ((48 + x % 10) ∷ [])
unfolding decimal decimal_within
decimal-tens zero h = absurd (omega arith)
decimal-tens (suc x) h =
    rw (le-ltb (suc x) 10 h, same-within x (suc x / 10) (suc x / 10) (omega arith) (omega arith))

-- A digit written behind a number that is not 0.
pub decimal-more : (x d : ℕ) → 0 < x → d < 10 → decimal (x * 10 + d) ≡ decimal x ++ ((48 + d) ∷ [])
decimal-more x d positive small =
    let tens : (x * 10 + d) / 10 ≡ x = omega arith in
    let last : (x * 10 + d) % 10 ≡ d = omega arith in
    decimal-tens (x * 10 + d) (omega arith) ∙ rw (tens, last)

induction-within : (P : ℕ → Type 0) → ((x : ℕ) → x < 10 → P x) → ((x : ℕ) → 10 ≤ x → P (x / 10) → P x)
    → (fuel x : ℕ) → x ≤ fuel → P x
induction-within P one more zero x h = one x (omega arith)
induction-within P one more (suc fuel) x h =
    go (ltb x 10) refl (λ (_ : 10 ≤ x). induction-within P one more fuel (x / 10) (omega arith))
  where
    go : (b : Bool) → ltb x 10 ≡ b → (10 ≤ x → P (x / 10)) → P x
    go true e hyp = one x (ltb-true x 10 e)
    go false e hyp = let large = ltb-false x 10 e in more x large (hyp large)

-- What holds of every number of one digit, and of a number if it holds of its tens, holds of all numbers.
pub decimal-induction : (P : ℕ → Type 0) → ((x : ℕ) → x < 10 → P x) → ((x : ℕ) → 10 ≤ x → P (x / 10) → P x)
    → (x : ℕ) → P x
decimal-induction P one more x = induction-within P one more x x (omega arith)

-- The digits one by one, below 100, below 1,000 and below 10,000.
pub decimal-two : (x : ℕ) → 10 ≤ x → x < 100 → decimal x ≡ (48 + x / 10) ∷ (48 + x % 10) ∷ []
decimal-two x low high = decimal-tens x low ∙ rw (decimal_digit (x / 10) (omega arith))

pub decimal-three : (x : ℕ) → 100 ≤ x → x < 1000
    → decimal x ≡ (48 + x / 100) ∷ (48 + x / 10 % 10) ∷ (48 + x % 10) ∷ []
decimal-three x low high =
    let hundreds : x / 10 / 10 ≡ x / 100 = omega arith in
    decimal-tens x (omega arith) ∙ rw (decimal-two (x / 10) (omega arith) (omega arith), hundreds)

pub decimal-four : (x : ℕ) → 1000 ≤ x → x < 10000
    → decimal x ≡ (48 + x / 1000) ∷ (48 + x / 100 % 10) ∷ (48 + x / 10 % 10) ∷ (48 + x % 10) ∷ []
decimal-four x low high =
    let thousands : x / 10 / 100 ≡ x / 1000 = omega arith in
    let hundreds : x / 10 / 10 ≡ x / 100 = omega arith in
    decimal-tens x (omega arith) ∙ rw (decimal-three (x / 10) (omega arith) (omega arith), thousands, hundreds)

-- How many digits a number has.
pub length-decimal-tens : (x : ℕ) → 10 ≤ x → length (decimal x) ≡ length (decimal (x / 10)) + 1
length-decimal-tens x h = ap length (decimal-tens x h) ∙ length-append (decimal (x / 10)) ((48 + x % 10) ∷ [])

pub length-decimal-one : (x : ℕ) → x < 10 → length (decimal x) ≡ 1
length-decimal-one x h = ap length (decimal_digit x h)

pub length-decimal-three : (x : ℕ) → 100 ≤ x → x < 1000 → length (decimal x) ≡ 3
length-decimal-three x low high = ap length (decimal-three x low high)

pub length-decimal-four : (x : ℕ) → 1000 ≤ x → x < 10000 → length (decimal x) ≡ 4
length-decimal-four x low high = ap length (decimal-four x low high)

pub decimal-not-empty : (x : ℕ) → 1 ≤ length (decimal x)
decimal-not-empty =
    decimal-induction (λ x. 1 ≤ length (decimal x))
    (λ x h. omega (arith, length-decimal-one x h))
    (λ x h hyp. omega (arith, length-decimal-tens x h))

-- A number below 10 to the power of `more` + 1 has at most that many digits.
pub length-decimal-at-most : (more x : ℕ) → x < 10 ^ suc more → length (decimal x) ≤ suc more
length-decimal-at-most zero x h = omega (arith, length-decimal-one x h)
length-decimal-at-most (suc more) x h = go (ltb x 10) refl (length-decimal-at-most more (x / 10) (omega arith))
  where
    go : (b : Bool) → ltb x 10 ≡ b → length (decimal (x / 10)) ≤ suc more → length (decimal x) ≤ suc (suc more)
    go true e hyp = omega (arith, length-decimal-one x (ltb-true x 10 e))
    go false e hyp = omega (arith, length-decimal-tens x (ltb-false x 10 e))

-- A number of at most `more` + 1 digits is below 10 to that power.
pub decimal-below : (more x : ℕ) → length (decimal x) ≤ suc more → x < 10 ^ suc more
decimal-below zero x h = go (ltb x 10) refl
  where
    go : (b : Bool) → ltb x 10 ≡ b → x < 10
    go true e = ltb-true x 10 e
    go false e =
        absurd (omega (arith, length-decimal-tens x (ltb-false x 10 e), decimal-not-empty (x / 10)))
decimal-below (suc more) x h = go (ltb x 10) refl (decimal-below more (x / 10))
  where
    go : (b : Bool) → ltb x 10 ≡ b → (length (decimal (x / 10)) ≤ suc more → x / 10 < 10 ^ suc more) → x < 10 ^ suc (suc more)
    go true e hyp = omega (arith, ltb-true x 10 e, one-le-pow more 10 (lit< tt))
    go false e hyp = omega (arith, hyp (omega (arith, length-decimal-tens x (ltb-false x 10 e))))

-- Every byte is a digit, 48 to 57.
abbrev pub Digits : List ℕ → Type 0
Digits [] = Unit {0}
Digits (b ∷ rest) = (48 ≤ b) × (b ≤ 57) × Digits rest

pub digits_append : (s t : List ℕ) → Digits s → Digits t → Digits (s ++ t)
digits_append [] t hs ht = ht
digits_append (b ∷ s) t hs ht = (hs.0, hs.1, digits_append s t hs.2 ht)

pub decimal-digits : (x : ℕ) → Digits (decimal x)
decimal-digits =
    decimal-induction (λ x. Digits (decimal x))
    (λ x h. rw (decimal_digit x h) (omega arith, omega arith, tt))
    (λ x h hyp. rw (decimal-tens x h) (digits_append (decimal (x / 10)) _ hyp (omega arith, omega arith, tt)))

-- The first byte is 48 only for 0 itself.
pub decimal-zero : (x : ℕ) → get_or (decimal x) 0 0 ≡ 48 → x ≡ 0
decimal-zero = decimal-induction (λ x. get_or (decimal x) 0 0 ≡ 48 → x ≡ 0) one more
  where
    one : (x : ℕ) → x < 10 → get_or (decimal x) 0 0 ≡ 48 → x ≡ 0
    one x h e = let first : 48 + x ≡ 48 = rw (decimal_digit x h) at e in omega arith

    more : (x : ℕ) → 10 ≤ x → (get_or (decimal (x / 10)) 0 0 ≡ 48 → x / 10 ≡ 0) → get_or (decimal x) 0 0 ≡ 48 → x ≡ 0
    more x h hyp e =
        let first : get_or (decimal (x / 10) ++ ((48 + x % 10) ∷ [])) 0 0 ≡ 48 = rw (decimal-tens x h) at e in
        let none : x / 10 ≡ 0 =
        hyp (sym (get_or-append (decimal (x / 10)) ((48 + x % 10) ∷ []) 0 0 (decimal-not-empty (x / 10))) ∙ first) in
        absurd (omega arith)
