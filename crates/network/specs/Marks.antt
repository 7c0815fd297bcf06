-- What the marks of the pairs seen so far hold, over any reading of them, `at`, by pair number.
-- Assumes nothing.
use Rattle.std.specs.Prelude.{ℕ, ◌+◌, ◌<◌, Bool, false, ◌&&◌, ◌||◌, List, ◌≡◌, eqb, get_or}
use Rattle.std.proofs.Math.Bool.{or_comm}
use Rattle.std.proofs.Common.{sym, ◌∙◌, ap, ap₂}
use Rattle.definitions.specs.Lists.{some_below}
use Rattle.definitions.specs.Network.{row_start, pair_number, is_pair}
use Rattle.lists.specs.Below.{some_next, some_same}
use Rattle.network.specs.Pairs.{pair-below, pair-test}

-- Marked are the pairs of the first i links of the table, of all pairs of n relays.
abbrev pub Marks : (n : ℕ) (at : ℕ → Bool) (lows highs : List ℕ) (i : ℕ) → Type 0
Marks n at lows highs i = (a b : ℕ) → a < b → b < n → at (pair_number a b) ≡ some_below (is_pair lows highs a b) i

pub marks-none : (n : ℕ) (at : ℕ → Bool) (lows highs : List ℕ) → ((p : ℕ) → p < row_start n → at p ≡ false)
    → Marks n at lows highs 0
unfolding some_below
marks-none n at lows highs none a b h k = none (pair_number a b) (pair-below n a b h k)

-- The next link's pair is marked too.
pub marks-next : (n : ℕ) (at after : ℕ → Bool) (lows highs : List ℕ) (i a b : ℕ)
    → a < b → get_or lows i 0 ≡ a → get_or highs i 0 ≡ b
    → ((p : ℕ) → after p ≡ (at p || eqb p (pair_number a b)))
    → Marks n at lows highs i → Marks n after lows highs (i + 1)
unfolding is_pair
marks-next n at after lows highs i a b h low high marked marks c d k l =
    marked (pair_number c d)
    ∙ ap₂ ◌||◌ (marks c d k l) (pair-test c d a b k h ∙ sym this)
    ∙ or_comm (some_below (is_pair lows highs c d) i) (is_pair lows highs c d i)
    ∙ sym (some_next (is_pair lows highs c d) i)
  where
    this : is_pair lows highs c d i ≡ (eqb a c && eqb b d)
    this = ap₂ ◌&&◌ (ap (λ (x : ℕ). eqb x c) low) (ap (λ (x : ℕ). eqb x d) high)

-- The marks say nothing of the table past its first i links.
pub marks-front : (n : ℕ) (at : ℕ → Bool) (lows highs lows' highs' : List ℕ) (i : ℕ)
    → ((j : ℕ) → j < i → get_or lows j 0 ≡ get_or lows' j 0) → ((j : ℕ) → j < i → get_or highs j 0 ≡ get_or highs' j 0)
    → Marks n at lows highs i → Marks n at lows' highs' i
unfolding is_pair
marks-front n at lows highs lows' highs' i low high marks a b h k =
    marks a b h k
    ∙ some_same (is_pair lows highs a b) (is_pair lows' highs' a b) i λ j l.
    ap₂ ◌&&◌ (ap (λ (x : ℕ). eqb x a) (low j l)) (ap (λ (x : ℕ). eqb x b) (high j l))
