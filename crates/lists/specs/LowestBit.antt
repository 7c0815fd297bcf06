-- The lowest set bit of a word stands where its trailing zeros end, and the bits of a number of ones. Assumes nothing.
use Rattle.std.specs.Prelude.{ℕ, zero, suc, ◌-◌, ◌/◌, ◌%◌, ◌^◌, ◌<◌, true, false, ◌≡◌, refl, eqb, ltb}
use Rattle.std.proofs.Common.{sym, ◌∙◌, ap, div-one, zero-lt-suc, add-one, one-add, arith, lt-ltb, le-ltb, pow_pos, shr-shr, shr_lt}
use Rattle.std.proofs.Math.Nat.{pow-succ'}
use Rattle.std.specs.Int.Count.{count_trailing_zeros, under}
use Rattle.std.proofs.Math.Dec.{leb-suc-suc}
use Rattle.lists.specs.Bitmap.{bit_of, no-bit}

-- Bit 0 is the lowest digit, and bit s + 1 is bit s of the half.
bit-zero : (word digit : ℕ) → word % 2 ≡ digit → bit_of word 0 ≡ eqb digit 1
unfolding bit_of
bit-zero word digit e = ap (λ (x : ℕ). eqb (x % 2) 1) (div-one word) ∙ ap (λ (x : ℕ). eqb x 1) e

bit-suc : (word s : ℕ) → bit_of word (suc s) ≡ bit_of (word / 2) s
unfolding bit_of
bit-suc word s = ap (λ (x : ℕ). eqb (x % 2) 1) (ap (λ (x : ℕ). word / 2 ^ x) (sym (one-add s)) ∙ sym (shr-shr word 1 s))

-- Bit t is the lowest that is set in the word, and one of its k lowest.
abbrev Lowest : ℕ → ℕ → ℕ → Type 0
Lowest k word t = (t < k) × (bit_of word t ≡ true) × ((s : ℕ) → s < t → bit_of word s ≡ false)

lowest : (k word : ℕ) → 0 < word → word < 2 ^ k → Lowest k word (count_trailing_zeros k word)
unfolding count_trailing_zeros
lowest zero word some h = absurd (omega (arith, some, h))
lowest (suc k) word some h = go (word % 2) refl (λ (even : word % 2 ≡ 0). lowest k (word / 2) (omega arith) (shr_lt k 1 (rw (add-one k) h)))
  where
    t : ℕ
    t = count_trailing_zeros k (word / 2)

    clear : word % 2 ≡ 0 → ((s : ℕ) → s < t → bit_of (word / 2) s ≡ false) → (s : ℕ) → s < suc t → bit_of word s ≡ false
    clear even below zero g = bit-zero word 0 even
    clear even below (suc s) g = bit-suc word s ∙ below s (omega (arith, g))

    go : (digit : ℕ) → word % 2 ≡ digit → (word % 2 ≡ 0 → Lowest k (word / 2) t) → Lowest (suc k) word (under digit t)
    go zero e half = let l = half e in (omega (arith, l.0), bit-suc word t ∙ l.1, clear e l.2)
    go (suc zero) e half = (zero-lt-suc k, bit-zero word 1 e, λ s g. absurd (omega (arith, g)))
    go (suc (suc r)) e half = absurd (omega (arith, e))

-- The trailing zeros of a word that is not 0 count the bits below its lowest set bit.
pub lowest-bit : (word : ℕ) → 0 < word → word < 2 ^ 64
    → (count_trailing_zeros 64 word < 64)
    × (bit_of word (count_trailing_zeros 64 word) ≡ true)
    × ((s : ℕ) → s < count_trailing_zeros 64 word → bit_of word s ≡ false)
lowest-bit = lowest 64

-- The number of k ones has the k lowest bits and no other.
pub bit-ones : (k s : ℕ) → bit_of (2 ^ k - 1) s ≡ ltb s k
bit-ones zero s = no-bit s ∙ sym (le-ltb s 0 (omega arith))
bit-ones (suc k) zero =
    bit-zero (2 ^ suc k - 1) 1 (omega (arith, pow-succ' 2 k, pow_pos k)) ∙ sym (lt-ltb 0 (suc k) (omega arith))
bit-ones (suc k) (suc s) =
    let half : (2 ^ suc k - 1) / 2 ≡ 2 ^ k - 1 = omega (arith, pow-succ' 2 k) in
    bit-suc (2 ^ suc k - 1) s ∙ ap (λ (x : ℕ). bit_of x s) half ∙ bit-ones k s ∙ sym (leb-suc-suc (suc s) k)
