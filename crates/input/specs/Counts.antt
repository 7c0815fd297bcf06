-- How many of a buffer's bytes are there.
use Rattle.std.specs.Prelude.{◌≡◌, ℕ, ◌≤◌, List, length, take}

-- The first n of the elements are there, and n of them. The second part follows from the first, and spares a caller's `&buffer[..n]` a
-- proof file.
abbrev pub IsPrefixLen : ℕ → List ℕ → Type 0
IsPrefixLen n xs = (n ≤ length xs) × (n ≡ length (take n xs))
