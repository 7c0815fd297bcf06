-- The codes of links by index, and highs that are all below a bound. Assumes nothing.
use Rattle.std.specs.Prelude.{ℕ, zero, suc, ◌+◌, ◌*◌, ◌<◌, List, [], ◌∷◌, ◌≡◌, refl, length, get_or}
use Rattle.std.proofs.Common.{ap, arith}
use Rattle.lists.specs.RisingRows.{codes, BelowAll}

pub codes_at : (n : ℕ) (ls hs : List ℕ) (i : ℕ) → length ls ≡ length hs → i < length ls → get_or (codes n ls hs) i 0 ≡ get_or ls i 0 * n + get_or hs i 0
unfolding codes
codes_at n [] hs i e h = absurd (omega arith)
codes_at n (a ∷ ls) [] i e h = absurd (omega arith)
codes_at n (a ∷ ls) (b ∷ hs) zero e h = refl
codes_at n (a ∷ ls) (b ∷ hs) (suc i) e h = codes_at n ls hs i (omega arith) (omega arith)

pub codes-length : (n : ℕ) (ls hs : List ℕ) → length ls ≡ length hs → length (codes n ls hs) ≡ length ls
unfolding codes
codes-length n [] hs e = refl
codes-length n (a ∷ ls) [] e = absurd (omega arith)
codes-length n (a ∷ ls) (b ∷ hs) e = ap suc (codes-length n ls hs (omega arith))

pub below_at : (n : ℕ) (l : List ℕ) (i : ℕ) → BelowAll n l → i < length l → get_or l i 0 < n
below_at n [] i below h = absurd (omega arith)
below_at n (b ∷ l) zero below h = below.0
below_at n (b ∷ l) (suc i) below h = below_at n l i below.1 (omega arith)

pub at-below : (n : ℕ) (l : List ℕ) → ((i : ℕ) → i < length l → get_or l i 0 < n) → BelowAll n l
at-below n [] each = tt
at-below n (b ∷ l) each = (each zero (omega arith), at-below n l (λ i h. each (suc i) (omega arith)))
