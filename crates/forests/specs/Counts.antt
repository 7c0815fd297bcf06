-- The count of a relay: 0 once it is placed and if it is withdrawn, else one more than its links to placed relays. Assumes nothing.
use Rattle.std.specs.Prelude.{ℕ, ◌+◌, ◌≤◌, ◌<◌, List, ◌≡◌, eqb, length, get_or, set}
use Rattle.definitions.specs.Outcome.{pick}
use Rattle.definitions.specs.Network.{serves}
use Rattle.definitions.specs.Order.{serving_relays}

-- One link more; 0, the count of a placed relay, stays.
unfoldable pub raised_count : ℕ → ℕ
raised_count count = pick (eqb count 0) 0 (count + 1)

-- The links that a waiting relay has to placed ones after that link, which is its count before, are the link's forest number;
-- with a placed relay the number was given before.
unfoldable pub forest_number : (count old : ℕ) → ℕ
forest_number count old = pick (eqb count 0) old count

-- From relay n on no relay waits.
abbrev pub NoneBeyond : (n : ℕ) (counts : List ℕ) → Type 0
NoneBeyond n counts = (r : ℕ) → n ≤ r → get_or counts r 0 ≡ 0

-- The counts when the first n relays wait and none is placed.
pub record AllWait (n : ℕ) (counts : List ℕ) : Type 0 where
  pub room : n ≤ length counts
  pub waiting : (r : ℕ) → r < n → get_or counts r 0 ≡ 1
  pub rest : NoneBeyond n counts

-- A relay of state 0, withdrawn, does not wait.
unfoldable pub withdrawn_count : (r state : ℕ) (counts : List ℕ) → List ℕ
withdrawn_count r state counts = pick (eqb state 0) (set counts r 0) counts

-- The counts when only relays in service wait.
pub record StartCounts (n : ℕ) (states counts : List ℕ) : Type 0 where
  pub room : n ≤ length counts
  pub waiting : (r : ℕ) → r < n → get_or counts r 0 ≡ pick (serves states r) 1 0
  pub rest : NoneBeyond n counts

-- How many relays those are: each takes a turn to be placed.
abbrev pub turns_of : (n : ℕ) (states : List ℕ) → ℕ
turns_of n states = length (serving_relays n states)

-- x is the lowest of the relays with the greatest count: document 01's "unplaced relay with the most links to placed ones, of
-- equals the lowest relay number".
pub record Heaviest (counts : List ℕ) (x : ℕ) : Type 0 where
  pub most : (r : ℕ) → get_or counts r 0 ≤ get_or counts x 0
  pub lowest : (r : ℕ) → get_or counts r 0 ≡ get_or counts x 0 → x ≤ r
