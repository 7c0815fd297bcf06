-- What Write answers for an accepted network, and its buffer afterwards: short of room, and with room for the text.
-- Assumes nothing.
use Rattle.std.specs.Prelude.{ℕ, ◌≤◌, ◌<◌, List, [], ◌∷◌, ◌≡◌, length}
use borrow.Author.Tests.{lt-ltb, le-ltb}
use Rattle.definitions.specs.Outcome.{refused, done, refuse_if, and_then, if_done}
use Rattle.definitions.specs.Lists.{overwrite}
use Rattle.definitions.specs.Network.{Accepted}
use Rattle.definitions.specs.Text.{text_of, write_answer, buffer_after}

module _ (n : ℕ) (lows highs states buffer : List ℕ) (check : Accepted n lows highs states) where
  pub write-short : length buffer < length (text_of n lows highs states)
      → (write_answer n lows highs states buffer ≡ refused 12 0) × (buffer_after n lows highs states buffer ≡ buffer)
  unfolding write_answer buffer_after and_then if_done refuse_if
  write-short h = (
    rw (check, lt-ltb (length buffer) (length (text_of n lows highs states)) h),
    rw (check, lt-ltb (length buffer) (length (text_of n lows highs states)) h),
  )

  pub write_done : length (text_of n lows highs states) ≤ length buffer
      → (write_answer n lows highs states buffer ≡ done (length (text_of n lows highs states) ∷ []))
      × (buffer_after n lows highs states buffer ≡ overwrite (text_of n lows highs states) buffer)
  unfolding write_answer buffer_after and_then if_done refuse_if
  write_done h = (
    rw (check, le-ltb (length buffer) (length (text_of n lows highs states)) h),
    rw (check, le-ltb (length buffer) (length (text_of n lows highs states)) h),
  )
