-- How far the list of links looks: a longer input cannot change what is printed.
-- Assumes nothing.
use Rattle.std.specs.Prelude.{ℕ, ◌≤◌, List, ◌≡◌, take}
use Rattle.std.proofs.Common.{ap, arith}
use Rattle.definitions.specs.Program.{input_room, printed}
use Rattle.definitions.specs.Keep.{keep_form, keeper, leased, lease_text, keep_text}
use Rattle.text_theory.specs.Spans.{span}
use Rattle.text_theory.specs.Reach.{network-reach}
use Rattle.text_theory.specs.Programs.{outcome-reach}

-- The line in front has at most 12 bytes, and behind it the reader needs at most 54,934.
pub keep-reach : (n : ℕ) (input : List ℕ) → input_room ≤ n → keep_text (take n input) ≡ keep_text input
unfolding keep_text leased span keep_form input_room
keep-reach n input h =
    ap (printed lease_text)
    (outcome-reach keeper 54934 n input (λ size _ text. network-reach size text 3000 3000 1000) (omega arith) _)
