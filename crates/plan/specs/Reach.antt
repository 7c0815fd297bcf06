-- How far the planner looks: a longer input cannot change what it prints.
-- Assumes nothing.
use Rattle.std.specs.Prelude.{ℕ, ◌≤◌, List, ◌≡◌, take}
use Rattle.std.proofs.Common.{ap, arith}
use Rattle.definitions.specs.Program.{input_room, printed}
use Rattle.definitions.specs.Plan.{wish_form, planner, planned, sheet_text, plan_text}
use Rattle.text_theory.specs.Spans.{span}
use Rattle.text_theory.specs.Reach.{network-reach}
use Rattle.text_theory.specs.Programs.{outcome-reach}

-- The wish line has at most 22 bytes, and behind it the reader looks at 54,934 at most.
pub plan-reach : (n : ℕ) (input : List ℕ) → input_room ≤ n → plan_text (take n input) ≡ plan_text input
unfolding plan_text planned span wish_form input_room
plan-reach n input h =
    ap (printed sheet_text)
    (outcome-reach planner 54934 n input (λ size _ text. network-reach size text 3000 3000 1000) (omega arith) _)
