-- The outcome of an operation: a numbered refusal with its place, or the values that document 01 names.
-- Assumes nothing.
use Rattle.std.specs.Prelude.{ℕ, Bool, true, false, List}

-- One of two values, by a test.
abbrev pub pick : {A : Type 0} → Bool → A → A → A
pick true a b = a
pick false a b = b

-- "Every refusal gives its number and a place in the input."
pub data Outcome (A : Type 0) : Type 0 where
  refused : ℕ → ℕ → Outcome A
  done : A → Outcome A

-- The outcome of a public operation: its answer is a list of numbers, empty where success alone is reported.
abbrev pub Answer : Type 0
Answer = Outcome (List ℕ)

-- The refusal `number` at `place` where the test holds, else what follows.
unfoldable pub refuse_if : {A : Type 0} → Bool → ℕ → ℕ → Outcome A → Outcome A
refuse_if true number place rest = refused number place
refuse_if false number place rest = rest

-- The first refusal stands; after a success the next step decides.
unfoldable pub and_then : {A B : Type 0} → Outcome A → (A → Outcome B) → Outcome B
and_then (refused number place) next = refused number place
and_then (done value) next = next value

-- "Otherwise a refusal changes no list": `new` after a success, `old` after a refusal.
unfoldable pub if_done : {A B : Type 0} → Outcome A → B → B → B
if_done (refused number place) new old = old
if_done (done value) new old = new
