-- Demand 2 of the text, as one statement about what Read and Write answer and leave in the lent lists: "Given lists long enough, the
-- reader accepts exactly the texts that the writer can write, and each gives back the other's work." Lists are long enough for Read if it
-- has no cause for 8, and for Write if it has no cause for 12. The statement is a type; the crate `text_theory` proves it.
use Rattle.std.specs.Prelude.{ℕ, List, [], ◌∷◌, ◌↔◌, ◌≢◌, ◌≡◌, length, take}
use Rattle.definitions.specs.Outcome.{refused, done}
use Rattle.definitions.specs.Network.{Accepted}
use Rattle.definitions.specs.Text.{read_answer, lows_after, highs_after, states_after, write_answer, buffer_after}

-- Read answers n and m for the text, and the fronts of its three lists are the table and the states.
pub record TableBack (n : ℕ) (lows highs states text to_lows to_highs to_states : List ℕ) : Type 0 where
  pub answered : read_answer text to_lows to_highs to_states ≡ done (n ∷ length lows ∷ [])
  pub lows_back : take (length lows) (lows_after text to_lows to_highs to_states) ≡ lows
  pub highs_back : take (length lows) (highs_after text to_lows to_highs to_states) ≡ highs
  pub states_back : take n (states_after text to_lows to_highs to_states) ≡ states

-- The table and the states are those of an accepted network with m links, and for it Write answers the text's length and puts the
-- text at the front of any buffer that is long enough.
pub record TextBack (n m : ℕ) (lows highs states text : List ℕ) : Type 0 where
  pub passes : Accepted n lows highs states
  pub links : length lows ≡ m
  pub answered : (buffer : List ℕ) → write_answer n lows highs states buffer ≢ refused 12 0
      → write_answer n lows highs states buffer ≡ done (length text ∷ [])
  pub bytes_back : (buffer : List ℕ) → write_answer n lows highs states buffer ≢ refused 12 0
      → take (length text) (buffer_after n lows highs states buffer) ≡ text

-- Write puts the text of some accepted network at the front of some buffer.
abbrev pub CanBeWritten : List ℕ → Type 0
CanBeWritten text =
    (n : ℕ) × (lows : List ℕ) × (highs : List ℕ) × (states : List ℕ) × (buffer : List ℕ) × (size : ℕ)
    × Accepted n lows highs states
    × (write_answer n lows highs states buffer ≡ done (size ∷ []))
    × (take size (buffer_after n lows highs states buffer) ≡ text)

pub record DemandTwo : Type 0 where
  -- "the reader accepts exactly the texts that the writer can write"
  pub exactly : (text lows highs states : List ℕ) → read_answer text lows highs states ≢ refused 8 0
      → ((n : ℕ) × (m : ℕ) × (read_answer text lows highs states ≡ done (n ∷ m ∷ []))) ↔ CanBeWritten text
  -- "each gives back the other's work": the reader that of the writer
  pub reads_back : (n : ℕ) (lows highs states : List ℕ) → Accepted n lows highs states
      → (buffer : List ℕ) → write_answer n lows highs states buffer ≢ refused 12 0
      → (size : ℕ) × (write_answer n lows highs states buffer ≡ done (size ∷ []))
      × ((to_lows to_highs to_states : List ℕ)
      → read_answer (take size (buffer_after n lows highs states buffer)) to_lows to_highs to_states ≢ refused 8 0
      → TableBack n lows highs states (take size (buffer_after n lows highs states buffer)) to_lows to_highs to_states)
  -- and the writer that of the reader
  pub writes_back : (text lows highs states : List ℕ) (n m : ℕ) → read_answer text lows highs states ≡ done (n ∷ m ∷ [])
      → TextBack n m (take m (lows_after text lows highs states)) (take m (highs_after text lows highs states))
      (take n (states_after text lows highs states)) text
