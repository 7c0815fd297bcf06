-- Links in rising order of low, then high number (document 02, #108), of any test on pairs. Assumes nothing.
use Rattle.std.specs.Prelude.{ℕ, zero, suc, ◌+◌, ◌<◌, Bool, true, List, [], ◌++◌, ◌≡◌, length, get_or, replicate}
use Rattle.definitions.specs.Lists.{table, keep}
use Rattle.definitions.specs.Network.{link_below}

-- The high ends of the links with low end a, rising.
unfoldable pub high_ends : (n : ℕ) (link : ℕ → ℕ → Bool) (a : ℕ) → List ℕ
high_ends n link a = keep (link a) (table (λ b. b) 0 n)

-- The high ends and the low ends of all links, for `count` low ends from a on.
unfoldable pub highs_from : (n : ℕ) (link : ℕ → ℕ → Bool) (a count : ℕ) → List ℕ
highs_from n link a zero = []
highs_from n link a (suc count) = high_ends n link a ++ highs_from n link (a + 1) count

unfoldable pub lows_from : (n : ℕ) (link : ℕ → ℕ → Bool) (a count : ℕ) → List ℕ
lows_from n link a zero = []
lows_from n link a (suc count) = replicate (length (high_ends n link a)) a ++ lows_from n link (a + 1) count

-- A table in rising order: each link is below the next.
abbrev pub Rising : (lows highs : List ℕ) → Type 0
Rising lows highs =
    (i : ℕ) → i + 1 < length lows → link_below (get_or lows i 0) (get_or highs i 0) (get_or lows (i + 1) 0) (get_or highs (i + 1) 0) ≡ true
