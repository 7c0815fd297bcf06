-- What may be the whole of an input, by the bytes that were read and whether it ended with them; and what is computed from its
-- front alone. Assumes nothing.
use Rattle.std.specs.Prelude.{ℕ, ◌≤◌, List, ◌≡◌, refl, length, take}
use Rattle.std.proofs.Common.{sym, ◌∙◌, ap}
use Rattle.definitions.specs.Program.{input_room}
use Rattle.input.specs.declared.arrived.End.{End}
use Rattle.input.specs.declared.arrived.End.TheVariants.{Ended, Full}

-- The bytes that a program takes in at most if its answer rests on the input's last byte too: a million, and one that tells a longer
-- input. Such a program answers only an input that ended.
unfoldable pub long_input_room : ℕ
long_input_room = 1000001

-- The same for a set of reports, of which the longest that can be taken has 3,917,000 bytes after a line of at most 15.
unfoldable pub set_input_room : ℕ
set_input_room = 3917016

-- An input that begins with the bytes read, and is just these if it ended.
pub record Whole (bytes : List ℕ) (end : End) (whole : List ℕ) : Type 0 where
  pub begins : take (length bytes) whole ≡ bytes
  pub all : end ≡ Ended → whole ≡ bytes

-- The room was filled, or the input ended.
abbrev pub Enough : (bytes : List ℕ) (end : End) → Type 0
Enough bytes end = end ≡ Full → input_room ≤ length bytes

-- What rests on an input's first bytes alone is the same for all of it.
whole_same : (text : List ℕ → List ℕ) → ((n : ℕ) (input : List ℕ) → input_room ≤ n → text (take n input) ≡ text input)
    → (bytes : List ℕ) (end : End) (whole : List ℕ) → Enough bytes end → Whole bytes end whole
    → text bytes ≡ text whole
whole_same text reach bytes Ended whole enough given = ap text (sym (given.all refl))
whole_same text reach bytes Full whole enough given =
    ap text (sym given.begins) ∙ reach (length bytes) whole (enough refl)

-- The text of the whole input, whichever it is, as far as the bytes read tell of it.
abbrev pub Answered : (text : List ℕ → List ℕ) (bytes : List ℕ) (end : End) (output : List ℕ) → Type 0
Answered text bytes end output = (whole : List ℕ) → Whole bytes end whole → output ≡ text whole

pub answered : (text : List ℕ → List ℕ) → ((n : ℕ) (input : List ℕ) → input_room ≤ n → text (take n input) ≡ text input)
    → (bytes : List ℕ) (end : End) (output : List ℕ) → Enough bytes end → output ≡ text bytes → Answered text bytes end output
answered text reach bytes end output enough same whole given = same ∙ whole_same text reach bytes end whole enough given
