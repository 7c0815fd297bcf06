-- A set of numbers as the bits of a list of 64-bit words: whether a number is marked, and what marking one or turning its mark over changes.
-- Assumes nothing.
use Prim.Native.Nat.{ℕ, zero, suc, ◌+◌, ◌-◌, ◌*◌, ◌/◌, ◌%◌, ◌^◌, ◌<◌}
use Rattle.std.specs.Prelude.{Bool, true, false, not, ◌||◌, List, ◌≡◌, eqb, ltb, length, get_or, set, replicate}
use Rattle.std.proofs.Math.Bool.{xor, or-false}
use Rattle.std.proofs.Math.Path.{refl}
use Rattle.std.proofs.Common.{sym, ◌∙◌, ap, one-mul, mod-lt, mod-eq_of_lt, arith, eq-eqb, ne_eqb, eqb-true, ltb-true, ltb-false, lit<, length-set, pow_pos, pow-add, get_or-set_same, get_or-set_other}
use Rattle.std.proofs.Math.Nat.{div_self, div-eq_of_lt, zero-div, mul-mod_right, pow-succ'}
use Rattle.std.proofs.lemmas.Bool.{eqb-false}
use Rattle.std.specs.Int.Bits.{bit_or, bit_xor, or_zero_r, xor_zero_r}
use Rattle.std.proofs.lemmas.Nat.{or_shr, or_mod, xor_shr, xor_mod, shl-shr}
use Rattle.std.proofs.lemmas.List.{get_or-replicate}
use Rattle.std.proofs.Math.Pow.{pow-lt}
use Rattle.std.proofs.Math.Seq.{set_out}

-- Bit s of a word.
unfoldable pub bit_of : ℕ → ℕ → Bool
bit_of word s = eqb (word / 2 ^ s % 2) 1

-- p is marked: bit p % 64 of word p / 64 is set.
unfoldable pub marked : List ℕ → ℕ → Bool
marked bits p = bit_of (get_or bits (p / 64) 0) (p % 64)

-- The words with p marked.
unfoldable pub mark : List ℕ → ℕ → List ℕ
mark bits p = set bits (p / 64) (bit_or (get_or bits (p / 64) 0) (2 ^ (p % 64)))

-- The words with the mark of p turned over.
unfoldable pub flip : List ℕ → ℕ → List ℕ
flip bits p = set bits (p / 64) (bit_xor (get_or bits (p / 64) 0) (2 ^ (p % 64)))

-- Digit t of a power of two.
power-same : (t : ℕ) → 2 ^ t / 2 ^ t % 2 ≡ 1
power-same t = ap (λ (x : ℕ). x % 2) (div_self (pow_pos t))

power_below : (s t : ℕ) → s < t → 2 ^ s / 2 ^ t % 2 ≡ 0
power_below s t h = ap (λ (x : ℕ). x % 2) (div-eq_of_lt (pow-lt h))

power-over : (d t : ℕ) → 2 ^ (suc d + t) / 2 ^ t % 2 ≡ 0
power-over d t =
    ap (λ (x : ℕ). x / 2 ^ t % 2) (pow-add 2 (suc d) t)
    ∙ ap (λ (x : ℕ). x % 2) (shl-shr (2 ^ suc d) t)
    ∙ ap (λ (x : ℕ). x % 2) (pow-succ' 2 d)
    ∙ mul-mod_right 2 (2 ^ d)

power-above : (s t : ℕ) → t < s → 2 ^ s / 2 ^ t % 2 ≡ 0
power-above s t h = rw e (power-over (s - suc t) t)
  where
    e : s ≡ suc (s - suc t) + t
    e = omega arith

power-other : (s t : ℕ) → (t ≡ s → ⊥) → 2 ^ s / 2 ^ t % 2 ≡ 0
power-other s t differ = go (ltb s t) refl
  where
    go : (b : Bool) → ltb s t ≡ b → 2 ^ s / 2 ^ t % 2 ≡ 0
    go true e = power_below s t (ltb-true s t e)
    go false e = power-above s t (omega (arith, ltb-false s t e, differ))

-- Two numbers of one word are told apart by their bits.
same_word : (p q : ℕ) → q / 64 ≡ p / 64 → eqb (q % 64) (p % 64) ≡ eqb q p
same_word p q word = go (eqb q p) refl
  where
    go : (b : Bool) → eqb q p ≡ b → eqb (q % 64) (p % 64) ≡ b
    go true e = eq-eqb (q % 64) (p % 64) (ap (λ (x : ℕ). x % 64) (eqb-true q p e))
    go false e = ne_eqb (q % 64) (p % 64) (λ (same : q % 64 ≡ p % 64). eqb-false q p e (omega arith))

-- An operation on words that works on each digit alone, and what it does to the test of a digit.
record Digitwise (op : ℕ → ℕ → ℕ) (test : Bool → Bool → Bool) : Type 0 where
  shifted : (a b k : ℕ) → op a b / 2 ^ k ≡ op (a / 2 ^ k) (b / 2 ^ k)
  cut : (a b k : ℕ) → op a b % 2 ^ k ≡ op (a % 2 ^ k) (b % 2 ^ k)
  by_zero : (a : ℕ) → op a 0 ≡ a
  by_one : (y : ℕ) → y < 2 → eqb (op y 1) 1 ≡ test (eqb y 1) true
  by-false : (b : Bool) → test b false ≡ b

digitwise-or : Digitwise bit_or ◌||◌
digitwise-or = record { shifted = or_shr; cut = or_mod; by_zero = or_zero_r; by_one = one; by-false = or-false }
  where
    one : (y : ℕ) → y < 2 → eqb (bit_or y 1) 1 ≡ (eqb y 1 || true)
    one zero h = refl
    one (suc zero) h = refl
    one (suc (suc y)) h = absurd (omega arith)

digitwise-xor : Digitwise bit_xor xor
unfolding xor
digitwise-xor = record { shifted = xor_shr; cut = xor_mod; by_zero = xor_zero_r; by_one = one; by-false = untouched }
  where
    one : (y : ℕ) → y < 2 → eqb (bit_xor y 1) 1 ≡ xor (eqb y 1) true
    one zero h = refl
    one (suc zero) h = refl
    one (suc (suc y)) h = absurd (omega arith)

    untouched : (b : Bool) → xor b false ≡ b
    untouched true = refl
    untouched false = refl

module _ (op : ℕ → ℕ → ℕ) (test : Bool → Bool → Bool) (laws : Digitwise op test) where
  -- Digit t of a word after the operation with bit s.
  digit-op : (word s t : ℕ) → op word (2 ^ s) / 2 ^ t % 2 ≡ op (word / 2 ^ t % 2) (2 ^ s / 2 ^ t % 2)
  digit-op word s t = ap (λ (x : ℕ). x % 2) (laws.shifted word (2 ^ s) t) ∙ laws.cut (word / 2 ^ t) (2 ^ s / 2 ^ t) 1

  bit-op : (word s t : ℕ) → bit_of (op word (2 ^ s)) t ≡ test (bit_of word t) (eqb t s)
  unfolding bit_of
  bit-op word s t = go (eqb t s) refl
    where
      digit : ℕ
      digit = word / 2 ^ t % 2

      go : (b : Bool) → eqb t s ≡ b → eqb (op word (2 ^ s) / 2 ^ t % 2) 1 ≡ test (eqb digit 1) b
      go true e =
          let one : 2 ^ s / 2 ^ t % 2 ≡ 1 = ap (λ (x : ℕ). 2 ^ s / 2 ^ x % 2) (eqb-true t s e) ∙ power-same s in
          ap (λ (x : ℕ). eqb x 1) (digit-op word s t ∙ ap (op digit) one) ∙ laws.by_one digit (mod-lt (word / 2 ^ t) (lit< tt))
      go false e =
          ap (λ (x : ℕ). eqb x 1) (digit-op word s t ∙ ap (op digit) (power-other s t (eqb-false t s e)) ∙ laws.by_zero digit)
          ∙ sym (laws.by-false (eqb digit 1))

  -- The operation with the bit of p changes whether p is marked and nothing else.
  marked-op : (bits : List ℕ) (p q : ℕ) → p / 64 < length bits
      → marked (set bits (p / 64) (op (get_or bits (p / 64) 0) (2 ^ (p % 64)))) q ≡ test (marked bits q) (eqb q p)
  unfolding marked
  marked-op bits p q h = go (eqb (q / 64) (p / 64)) refl
    where
      word : ℕ
      word = op (get_or bits (p / 64) 0) (2 ^ (p % 64))

      go : (b : Bool) → eqb (q / 64) (p / 64) ≡ b
          → bit_of (get_or (set bits (p / 64) word) (q / 64) 0) (q % 64) ≡ test (bit_of (get_or bits (q / 64) 0) (q % 64)) (eqb q p)
      go true e =
          let same = eqb-true (q / 64) (p / 64) e in
          ap (λ (i : ℕ). bit_of (get_or (set bits (p / 64) word) i 0) (q % 64)) same
          ∙ ap (λ (x : ℕ). bit_of x (q % 64)) (get_or-set_same bits (p / 64) word 0 h)
          ∙ bit-op (get_or bits (p / 64) 0) (p % 64) (q % 64)
          ∙ ap (test (bit_of (get_or bits (p / 64) 0) (q % 64))) (same_word p q same)
          ∙ ap (λ (i : ℕ). test (bit_of (get_or bits i 0) (q % 64)) (eqb q p)) (sym same)
      go false e =
          ap (λ (x : ℕ). bit_of x (q % 64)) (get_or-set_other bits (p / 64) (q / 64) word 0 (eqb-false (q / 64) (p / 64) e))
          ∙ sym (laws.by-false (bit_of (get_or bits (q / 64) 0) (q % 64)))
          ∙ ap (test (bit_of (get_or bits (q / 64) 0) (q % 64)))
          (sym (ne_eqb q p (λ same. eqb-false (q / 64) (p / 64) e (ap (λ (x : ℕ). x / 64) same))))

-- Marking p marks p and nothing else.
pub marked-mark : (bits : List ℕ) (p q : ℕ) → p / 64 < length bits → marked (mark bits p) q ≡ (marked bits q || eqb q p)
unfolding mark
marked-mark = marked-op bit_or ◌||◌ digitwise-or

pub length-mark : (bits : List ℕ) (p : ℕ) → length (mark bits p) ≡ length bits
unfolding mark
length-mark bits p = length-set bits (p / 64) (bit_or (get_or bits (p / 64) 0) (2 ^ (p % 64)))

-- Turning p over turns over whether p is marked and nothing else.
pub flip-same : (bits : List ℕ) (p : ℕ) → p / 64 < length bits → marked (flip bits p) p ≡ not (marked bits p)
unfolding flip xor
flip-same bits p h =
    marked-op bit_xor xor digitwise-xor bits p p h
    ∙ ap (xor (marked bits p)) (eq-eqb p p refl)
    ∙ turned (marked bits p)
  where
    turned : (b : Bool) → xor b true ≡ not b
    turned true = refl
    turned false = refl

pub flip-other : (bits : List ℕ) (p q : ℕ) → (q ≡ p → ⊥) → marked (flip bits p) q ≡ marked bits q
unfolding flip
flip-other bits p q differ = go (ltb (p / 64) (length bits)) refl
  where
    word : ℕ
    word = bit_xor (get_or bits (p / 64) 0) (2 ^ (p % 64))

    go : (b : Bool) → ltb (p / 64) (length bits) ≡ b → marked (set bits (p / 64) word) q ≡ marked bits q
    go true e =
        marked-op bit_xor xor digitwise-xor bits p q (ltb-true (p / 64) (length bits) e)
        ∙ ap (xor (marked bits q)) (ne_eqb q p differ)
        ∙ digitwise-xor.by-false (marked bits q)
    go false e = ap (λ (l : List ℕ). marked l q) (set_out bits (p / 64) word (ltb-false (p / 64) (length bits) e))

pub length-flip : (bits : List ℕ) (p : ℕ) → length (flip bits p) ≡ length bits
unfolding flip
length-flip bits p = length-set bits (p / 64) (bit_xor (get_or bits (p / 64) 0) (2 ^ (p % 64)))

-- In a word of zeros no bit is set, and in words of zeros nothing is marked.
pub no-bit : (s : ℕ) → bit_of 0 s ≡ false
unfolding bit_of
no-bit s = ap (λ (x : ℕ). eqb (x % 2) 1) (zero-div (2 ^ s))

pub marked-none : (count p : ℕ) → p / 64 < count → marked (replicate count 0) p ≡ false
unfolding marked
marked-none count p h = ap (λ (x : ℕ). bit_of x (p % 64)) (get_or-replicate count (p / 64) 0 0 h) ∙ no-bit (p % 64)

-- A one that is shifted to a bit stays in its word.
pub one_bit : (p : ℕ) → 1 * 2 ^ (p % 64) % 2 ^ 64 ≡ 2 ^ (p % 64)
one_bit p = ap (λ (x : ℕ). x % 2 ^ 64) (one-mul (2 ^ (p % 64))) ∙ mod-eq_of_lt (pow-lt (mod-lt p (lit< tt)))
