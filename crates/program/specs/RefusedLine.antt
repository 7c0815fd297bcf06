-- A line that is written from the first byte of an output on, and the room that the refused line takes. Assumes nothing.
use Rattle.std.specs.Prelude.{ℕ, ◌^◌, ◌≤◌, ◌<◌, List, [], ◌∷◌, length}
use Rattle.std.proofs.Common.{arith}
use Rattle.definitions.specs.Form.{write_form}
use Rattle.definitions.specs.Program.{refused_form}
use Rattle.text_theory.specs.Spans.{span, written-span}
use Rattle.text.specs.Put.{Put}

-- The bytes that every refused line fits: with two numbers of twenty digits it has as many.
abbrev pub line_room : ℕ
line_room = 52

-- A line was written from the first byte on, and it is no longer than the refused line can be.
pub record LinePut (before line after : List ℕ) (next : ℕ) : Type 0 where
  pub put : Put before 0 line after next
  pub fits : length line ≤ line_room

-- The refused line, whatever its number and its place.
pub refused-fits : (number place : ℕ) → number < 2 ^ 64 → place < 2 ^ 64 → length (write_form refused_form (number ∷ place ∷ [])) ≤ line_room
unfolding refused_form span
refused-fits number place small near = written-span 19 refused_form (number ∷ place ∷ []) (omega arith, (omega arith, tt))
