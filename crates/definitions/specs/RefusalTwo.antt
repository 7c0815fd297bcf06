-- Document 01, Read: "2: the text departs from the form due, at the first byte that does so (the length, if it ends early)", as one
-- statement about Read's answer. The statement is a type; the crate `text_theory` proves it. Assumes nothing.
use Rattle.std.specs.Prelude.{ℕ, ◌+◌, max, ◌≤◌, ◌<◌, List, [], ◌∷◌, ◌++◌, ◌↔◌, ◌≢◌, ◌≡◌, length, replicate}
use Rattle.definitions.specs.Outcome.{refused}
use Rattle.definitions.specs.Network.{Accepted}
use Rattle.definitions.specs.Form.{write_form}
use Rattle.definitions.specs.Text.{header_form, link_form, out_form, end_form, read_answer, link_lines, out_lines}
use Rattle.definitions.specs.Departs.{StandsAt, DepartsAt}

-- The text departs from both forms, which are due from byte p on, and from the later of them at byte q: up to it the bytes begin an
-- out line or the end line, and with it neither.
pub record BothDepart (text : List ℕ) (p q : ℕ) : Type 0 where
  pub from_out : ℕ
  pub from_end : ℕ
  pub out_line : DepartsAt text out_form p from_out
  pub end_line : DepartsAt text end_form p from_end
  pub later : q ≡ max from_out from_end

-- What is due at byte `at` behind the out lines, and how the text departs from it at byte q: an out line or the end line; or, the end
-- line being there, nothing.
pub data EndDeparts (text : List ℕ) (at q : ℕ) : Type 0 where
  out_or_end_due : BothDepart text at q → EndDeparts text at q
  nothing_due : StandsAt text at (write_form end_form []) q → q < length text → EndDeparts text at q

-- Where a text departs: in its header line; behind that line and the lines of an accepted table, up to byte `at`, where `left` more
-- link lines are due; or behind all the link lines that the header announces and the out lines of some states.
pub data Departure (text : List ℕ) (q : ℕ) : Type 0 where
  header_due : DepartsAt text header_form 0 q → Departure text q
  link_due : (n : ℕ) (lows highs : List ℕ) (left at : ℕ) → Accepted n lows highs (replicate n 1) → 0 < left
      → length lows + left ≤ 3000
      → StandsAt text 0 (write_form header_form (n ∷ (length lows + left) ∷ []) ++ link_lines lows highs 0 (length lows)) at
      → DepartsAt text link_form at q → Departure text q
  end_due : (n : ℕ) (lows highs states : List ℕ) (at : ℕ) → Accepted n lows highs states
      → StandsAt text 0
      (write_form header_form (n ∷ length lows ∷ []) ++ (link_lines lows highs 0 (length lows) ++ out_lines states 0 (length states))) at
      → EndDeparts text at q → Departure text q

-- For every text and lists of any length, unless they give cause for 8: Read refuses with 2 at q exactly if the text departs at q.
abbrev pub RefusalTwo : Type 0
RefusalTwo =
    (text lows highs states : List ℕ) (q : ℕ) → read_answer text lows highs states ≢ refused 8 0
    → (read_answer text lows highs states ≡ refused 2 q) ↔ Departure text q
