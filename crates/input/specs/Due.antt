-- Which text is due, by what a program is asked for and by how much of its input was read. Assumes nothing.
use Rattle.std.specs.Prelude.{ℕ, ◌≤◌, List, ◌≡◌, refl, length, take}
use Rattle.std.proofs.Common.{sym, ◌∙◌, ap}
use Rattle.definitions.specs.Program.{input_room}
use Rattle.definitions.specs.Plan.{plan_text}
use Rattle.definitions.specs.Keep.{keep_text}
use Rattle.definitions.specs.Verify.{verify_text}
use Rattle.definitions.specs.Import.{import_text}
use Rattle.definitions.specs.Sure.{sure_text}
use Rattle.definitions.specs.ReportSets.{reports_text}
use Rattle.definitions.specs.Stands.{stands_text}
use Rattle.input.specs.declared.arrived.End.{End}
use Rattle.input.specs.declared.arrived.End.TheVariants.{Ended, Full}
use Rattle.input.specs.declared.output.Feature.{Feature}
use Rattle.input.specs.declared.output.Feature.TheVariants as asked
use Rattle.input.specs.Whole.{long_input_room, set_input_room, Enough, Answered, answered}

-- The text of what is asked for.
abbrev pub text_of : Feature → List ℕ → List ℕ
text_of asked.Plan = plan_text
text_of asked.Keep = keep_text
text_of asked.Verify = verify_text
text_of asked.Import = import_text
text_of asked.Sure = sure_text
text_of asked.Reports = reports_text
text_of asked.Stands = stands_text

-- The bytes that the program takes in at most: one more than it answers, where its answer rests on the last byte.
abbrev pub room_of : Feature → ℕ
room_of asked.Plan = input_room
room_of asked.Keep = input_room
room_of asked.Verify = long_input_room
room_of asked.Import = long_input_room
room_of asked.Sure = input_room
room_of asked.Reports = set_input_room
room_of asked.Stands = long_input_room

-- For some bytes, as many as arrived, the text of every input that begins with them, and has no more if it ended.
pub record Due (text : List ℕ → List ℕ) (count : ℕ) (end : End) (printed : List ℕ) : Type 0 where
  pub bytes : List ℕ
  pub counted : length bytes ≡ count
  pub answer : Answered text bytes end printed

-- The text rests on the front of the input alone.
abbrev pub Reaches : (List ℕ → List ℕ) → Type 0
Reaches text = (n : ℕ) (input : List ℕ) → input_room ≤ n → text (take n input) ≡ text input

module _
    (text : List ℕ → List ℕ)
    (bytes : List ℕ)
    (end : End)
    (printed : List ℕ)
    (count : ℕ)
    (counted : length bytes ≡ count)
    (same : printed ≡ text bytes)
  where
    -- Of a text that rests on the front of the input alone: the room was filled, or the input ended.
    pub due-front : Reaches text → (end ≡ Full → input_room ≤ count)
        → Due text count end printed
    due-front reach enough =
        let filled : Enough bytes end = λ more. rw counted (enough more) in
        record { bytes = bytes; counted = counted; answer = answered text reach bytes end printed filled same }

    -- Of any other text: the input ended.
    pub due-ended : end ≡ Ended → Due text count end printed
    due-ended all = record { bytes = bytes; counted = counted; answer = λ whole given. same ∙ ap text (sym (given.all all)) }

-- Of a text that rests on the front of the input alone where the room was filled, and of any text where the input ended.
pub due-either : (text : List ℕ → List ℕ) (bytes : List ℕ) (end : End) (printed : List ℕ) (count : ℕ) → length bytes ≡ count
    → printed ≡ text bytes → (end ≡ Full → (input_room ≤ count) × Reaches text) → Due text count end printed
due-either text bytes Ended printed count counted same front = due-ended text bytes Ended printed count counted same refl
due-either text bytes Full printed count counted same front =
    due-front text bytes Full printed count counted same (front refl).1 (λ full. (front full).0)
