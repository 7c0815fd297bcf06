-- Reading a number and writing it are each other's inverse, over any number of digits.
-- Assumes nothing.
use Rattle.std.specs.Prelude.{ℕ, zero, suc, ◌+◌, ◌-◌, ◌*◌, ◌/◌, ◌%◌, ◌^◌, ◌≤◌, ◌<◌, Bool, true, false, List, [], ◌∷◌, ◌++◌, ◌≡◌, refl, eqb, ltb, length, get_or}
use Rattle.std.proofs.Common.{append_assoc, append-nil, sym, ◌∙◌, ap, arith, ne_eqb, eqb-true, ltb-true, ltb-false}
use Rattle.std.proofs.Math.ListN.{get_or-eq_default}
use Rattle.definitions.specs.Outcome.{pick}
use Rattle.definitions.specs.Lists.{outside}
use Rattle.definitions.specs.Form.{departs, reads, byte_at, scan_digits, scan_decimal, scan_number, decimal}
use Rattle.lists.specs.Parts.{Part, part-empty, part-cons, part-head, part-tail}
use Rattle.lists.specs.Ranges.{inside, inside-range}
use Rattle.text_theory.specs.Decimal.{
  Digits,
  decimal_digit,
  decimal-tens,
  decimal-more,
  decimal-induction,
  decimal-digits,
  decimal-zero,
  decimal-not-empty,
  length-decimal-at-most,
  decimal-below,
}

-- The number x with these digits behind it.
unfoldable pub value_from : ℕ → List ℕ → ℕ
value_from x [] = x
value_from x (b ∷ rest) = value_from (x * 10 + (b - 48)) rest

value-append : (s t : List ℕ) (x : ℕ) → value_from x (s ++ t) ≡ value_from (value_from x s) t
unfolding value_from
value-append [] t x = refl
value-append (b ∷ s) t x = value-append s t (x * 10 + (b - 48))

-- The digits of a number have its value.
pub value-decimal : (x : ℕ) → value_from 0 (decimal x) ≡ x
unfolding value_from
value-decimal =
    decimal-induction (λ x. value_from 0 (decimal x) ≡ x)
    (λ x h. rw (decimal_digit x h) (omega arith))
    (λ x h hyp. rw (decimal-tens x h, value-append (decimal (x / 10)) ((48 + x % 10) ∷ []) 0, hyp) (omega arith))

-- Digits behind a number that is not 0 are the last digits of the number with that value.
pub decimal-value : (s : List ℕ) (x : ℕ) → 0 < x → Digits s → decimal (value_from x s) ≡ decimal x ++ s
unfolding value_from
decimal-value [] x positive digits = sym (append-nil (decimal x))
decimal-value (b ∷ s) x positive digits =
    let last : 48 + (b - 48) ≡ b = omega arith in
    decimal-value s (x * 10 + (b - 48)) (omega arith) digits.2
    ∙ rw (decimal-more x (b - 48) positive (omega arith), last) (append_assoc (decimal x) (b ∷ []) s)

-- Digits that begin with no 48 are the digits of their value.
pub decimal-of-digits : (b : ℕ) (s : List ℕ) → 49 ≤ b → Digits (b ∷ s) → decimal (value_from 0 (b ∷ s)) ≡ b ∷ s
unfolding value_from
decimal-of-digits b s first digits =
    let same : 48 + (0 * 10 + (b - 48)) ≡ b = omega arith in
    decimal-value s (0 * 10 + (b - 48)) (omega arith) digits.2
    ∙ rw (decimal_digit (0 * 10 + (b - 48)) (omega arith), same)

value-first : (b : ℕ) (s : List ℕ) → value_from (b - 48) s ≡ value_from 0 (b ∷ s)
unfolding value_from
value-first b s =
    let e : b - 48 ≡ 0 * 10 + (b - 48) = omega arith in
    ap (λ (x : ℕ). value_from x s) e

-- Later digits: they are read as far as they go.
digits-read : (text s : List ℕ) (x p q more : ℕ) → Part text p s q → Digits s → length s ≤ more
    → outside 48 57 (byte_at text q) ≡ true → scan_digits text x p more ≡ reads (value_from x s ∷ []) q
unfolding scan_digits value_from byte_at
digits-read text [] x p q zero part digits fits stops =
    let e : p ≡ q = omega (arith, part.reaches) in
    rw e
digits-read text [] x p q (suc more) part digits fits stops =
    let e : p ≡ q = omega (arith, part.reaches) in
    rw (e, stops)
digits-read text (b ∷ s) x p q zero part digits fits stops = absurd (omega arith)
digits-read text (b ∷ s) x p q (suc more) part digits fits stops =
    rw (part-head text s b p q part, inside 48 57 b digits.0 digits.1)
    (digits-read text s (x * 10 + (b - 48)) (p + 1) q more (part-tail text s b p q part) digits.2 (omega arith) stops)

-- What reading later digits from p to q gave.
record DigitsRead (text : List ℕ) (x p more : ℕ) (values : List ℕ) (q : ℕ) : Type 0 where
  digits : List ℕ
  are_digits : Digits digits
  few : length digits ≤ more
  part : Part text p digits q
  value : values ≡ value_from x digits ∷ []

-- Past the end the byte is 0, so a byte that is not 0 stands before the end.
pub past_end : (text : List ℕ) (p : ℕ) → length text ≤ p → byte_at text p ≡ 0
unfolding byte_at
past_end text p h = get_or-eq_default text 0 h

pub byte-within : (text : List ℕ) (p : ℕ) → 0 < byte_at text p → p < length text
byte-within text p h = go (ltb p (length text)) refl
  where
    go : (b : Bool) → ltb p (length text) ≡ b → p < length text
    go true e = ltb-true p (length text) e
    go false e = absurd (omega (arith, past_end text p (ltb-false p (length text) e)))

-- A byte that is not 0, and a part behind it.
pub byte-then : (text part : List ℕ) (b p q : ℕ) → byte_at text p ≡ b → 0 < b → Part text (p + 1) part q → Part text p (b ∷ part) q
unfolding byte_at
byte-then text part b p q same positive after =
    rw (← same) (part-cons text part p q (byte-within text p (omega arith)) after)

read-digits : (text : List ℕ) (x p more : ℕ) (values : List ℕ) (q : ℕ) → p ≤ length text
    → scan_digits text x p more ≡ reads values q → DigitsRead text x p more values q
unfolding scan_digits value_from byte_at
read-digits text x p zero values q within e =
    let same : p ≡ q = cc in
    record { digits = []; are_digits = tt; few = omega arith; part = rw (← same) (part-empty text p within); value = cc }
read-digits text x p (suc more) values q within e =
    go (outside 48 57 (byte_at text p)) refl e (read-digits text (x * 10 + (byte_at text p - 48)) (p + 1) more values q)
  where
    go : (b : Bool) → outside 48 57 (byte_at text p) ≡ b
        → pick b (reads (x ∷ []) p) (scan_digits text (x * 10 + (byte_at text p - 48)) (p + 1) more) ≡ reads values q
        → (p + 1 ≤ length text → scan_digits text (x * 10 + (byte_at text p - 48)) (p + 1) more ≡ reads values q
        → DigitsRead text (x * 10 + (byte_at text p - 48)) (p + 1) more values q)
        → DigitsRead text x p (suc more) values q
    go true test e hyp =
        let same : p ≡ q = cc in
        record { digits = []; are_digits = tt; few = omega arith; part = rw (← same) (part-empty text p within); value = cc }
    go false test e hyp =
        let range = inside-range 48 57 (byte_at text p) test in
        let before : p < length text = byte-within text p (omega arith) in
        let rest = hyp (omega arith) e in
        record {
          digits = byte_at text p ∷ rest.digits;
          are_digits = (range.0, range.1, rest.are_digits);
          few = omega (arith, rest.few);
          part = part-cons text rest.digits p q before rest.part;
          value = rest.value;
        }

-- A number of at most `more` + 1 digits that is followed by no digit is read whole.
pub decimal-read : (more : ℕ) (text : List ℕ) (x p q : ℕ) → x < 10 ^ suc more → Part text p (decimal x) q
    → outside 48 57 (byte_at text q) ≡ true → scan_decimal text more p ≡ reads (x ∷ []) q
unfolding byte_at
decimal-read more text zero p q small part stops =
    let zero_part : Part text p (48 ∷ []) q = rw (decimal_digit 0 (omega arith)) at part in
    rw (part-head text [] 48 p q zero_part) (ap (reads (0 ∷ [])) (sym zero_part.reaches))
decimal-read more text (suc y) p q small part stops = go (decimal (suc y)) refl part
  where
    go : (d : List ℕ) → decimal (suc y) ≡ d → Part text p d q → scan_decimal text more p ≡ reads (suc y ∷ []) q
    go [] e part = absurd (omega (arith, decimal-not-empty (suc y), ap length e))
    go (b ∷ s) e part =
        let digits : Digits (b ∷ s) = rw e at (decimal-digits (suc y)) in
        let not_zero : b ≡ 48 → ⊥ =
        λ z. omega (arith, decimal-zero (suc y) (ap (λ (l : List ℕ). get_or l 0 0) e ∙ z)) in
        let first : 49 ≤ b = omega arith in
        let few : length s ≤ more = omega (arith, length-decimal-at-most more (suc y) small, ap length e) in
        let value : value_from (b - 48) s ≡ suc y = value-first b s ∙ ap (value_from 0) (sym e) ∙ value-decimal (suc y) in
        rw (part-head text s b p q part, ne_eqb b 48 not_zero, inside 49 57 b first digits.1)
        (digits-read text s (b - 48) (p + 1) q more (part-tail text s b p q part) digits.2 few stops
        ∙ rw value)

-- What was read is a number below `bound`, and it stands there as it is written.
pub record NumberWithin (bound : ℕ) (text : List ℕ) (p : ℕ) (values : List ℕ) (q : ℕ) : Type 0 where
  pub number : ℕ
  pub value : values ≡ number ∷ []
  pub small : number < bound
  pub part : Part text p (decimal number) q

pub read-decimal : (more : ℕ) (text : List ℕ) (p : ℕ) (values : List ℕ) (q : ℕ) → scan_decimal text more p ≡ reads values q
    → NumberWithin (10 ^ suc more) text p values q
unfolding byte_at
read-decimal more text p values q e = zero_first (eqb (byte_at text p) 48) refl e
  where
    written : (s : List ℕ) → (49 ≤ byte_at text p) × (byte_at text p ≤ 57) → Digits s
        → decimal (value_from (byte_at text p - 48) s) ≡ byte_at text p ∷ s
    written s range digits =
        rw (value-first (byte_at text p) s)
        (decimal-of-digits (byte_at text p) s range.0 (omega arith, range.1, digits))

    digit_first : (b : Bool) → outside 49 57 (byte_at text p) ≡ b
        → pick b (departs p) (scan_digits text (byte_at text p - 48) (p + 1) more) ≡ reads values q
        → NumberWithin (10 ^ suc more) text p values q
    digit_first true test e = let z : ◌≡◌ {A = ℕ} 0 1 = cc in absurd (omega arith)
    digit_first false test e =
        let range = inside-range 49 57 (byte_at text p) test in
        let before : p < length text = byte-within text p (omega arith) in
        let rest = read-digits text (byte_at text p - 48) (p + 1) more values q (omega arith) e in
        record {
          number = value_from (byte_at text p - 48) rest.digits;
          value = rest.value;
          small = decimal-below more _ (rw (written rest.digits range rest.are_digits) (omega (arith, rest.few)));
          part =
              rw (written rest.digits range rest.are_digits)
              (part-cons text rest.digits p q before rest.part);
        }

    zero_first : (b : Bool) → eqb (byte_at text p) 48 ≡ b
        → pick b (reads (0 ∷ []) (p + 1))
        (pick (outside 49 57 (byte_at text p)) (departs p) (scan_digits text (byte_at text p - 48) (p + 1) more)) ≡ reads values q
        → NumberWithin (10 ^ suc more) text p values q
    zero_first true test e =
        let byte : byte_at text p ≡ 48 = eqb-true (byte_at text p) 48 test in
        let before : p < length text = byte-within text p (omega arith) in
        let same : p + 1 ≡ q = cc in
        let part : Part text p (decimal 0) q =
        rw (← same, decimal_digit 0 (omega arith), ← byte)
        (part-cons text [] p (p + 1) before (part-empty text (p + 1) (omega arith))) in
        record {
          number = 0;
          value = cc;
          small = decimal-below more 0 (rw (decimal_digit 0 (omega arith)) (omega arith));
          part = part;
        }
    zero_first false test e = digit_first (outside 49 57 (byte_at text p)) refl e

-- A number of one to four digits.
pub number_read : (text : List ℕ) (x p q : ℕ) → x < 10000 → Part text p (decimal x) q
    → outside 48 57 (byte_at text q) ≡ true → scan_number text p ≡ reads (x ∷ []) q
unfolding scan_number
number_read text x p q small part stops = decimal-read 3 text x p q small part stops

abbrev pub NumberRead : (text : List ℕ) (p : ℕ) (values : List ℕ) (q : ℕ) → Type 0
NumberRead text p values q = NumberWithin 10000 text p values q

pub read_number : (text : List ℕ) (p : ℕ) (values : List ℕ) (q : ℕ) → scan_number text p ≡ reads values q
    → NumberRead text p values q
unfolding scan_number
read_number text p values q e = read-decimal 3 text p values q e
