-- The relay in service with the greatest count, of equals the lowest. Assumes nothing.
use Rattle.std.specs.Prelude.{ℕ, ◌+◌, ◌-◌, ◌*◌, ◌≤◌, List, ◌≡◌, eqb, get_or}
use Rattle.definitions.specs.Network.{Serving}
use Rattle.definitions.specs.Outcome.{pick}

-- A relay's key: the greater the more links it has, of equals the lower its number is.
abbrev pub key_of : (r count : ℕ) → ℕ
key_of r count = count * 1024 + (1023 - r)

-- The same of a relay in service, 0 of a withdrawn one.
abbrev pub serving_key : (r state count : ℕ) → ℕ
serving_key r state count = pick (eqb state 1) (key_of r count) 0

-- Where any of the first n relays is in service, x is one of these, and of them the lowest with the greatest count.
pub record Busiest (n : ℕ) (states counts : List ℕ) (x : ℕ) : Type 0 where
  pub serving : (r : ℕ) → Serving n states r → Serving n states x
  pub most : (r : ℕ) → Serving n states r → get_or counts r 0 ≤ get_or counts x 0
  pub lowest : (r : ℕ) → Serving n states r → get_or counts r 0 ≡ get_or counts x 0 → x ≤ r
