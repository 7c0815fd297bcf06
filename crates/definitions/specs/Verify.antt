-- Document 02, #103, as a program: a line that tells where the border is, a network's text and a sheet's text come in, one line goes
-- out. Assumes nothing.
use Rattle.std.specs.Prelude.{ℕ, List, [], ◌∷◌, eqb, get_or, take, drop}
use Rattle.definitions.specs.Outcome.{pick, Outcome, refused, done, Answer, and_then}
use Rattle.definitions.specs.Form.{bytes, Item}
use Rattle.definitions.specs.Text.{Network, read_network}
use Rattle.definitions.specs.Program.{Program, outcome_of, printed, on, own_read}
use Rattle.definitions.specs.Border.{border_form, border_of, bordered}
use Rattle.definitions.specs.SheetTest.{sheet_answer}

-- The line in front, `(verify A B)`: how many bytes after it are the network's.
unfoldable pub verify_form : List Item
verify_form = border_form (bytes "(verify ")

-- The input for a network's text and a sheet's, whatever stands in either.
unfoldable pub verify_input : (network sheet : List ℕ) → List ℕ
verify_input = bordered verify_form

-- A network, and the text of a sheet.
pub record Filed : Type 0 where
  pub network : Network
  pub sheet : List ℕ

-- The network is read from its own bytes; the rest is the sheet's, however it goes on.
unfoldable pub filed : (line text : List ℕ) → Outcome Filed
filed line text =
    and_then (own_read line (take (border_of line) text)) λ network.
    done (record { network = network; sheet = drop (border_of line) text })

-- What is said of the sheet, whose offsets count from its own first byte.
abbrev pub sheet_said : (both : Filed) → Answer
sheet_said both = on both.network sheet_answer both.sheet

abbrev pub verifier : Program Filed
verifier = record { form = verify_form; read = filed; answers = λ _ both. sheet_said both ∷ [] }

-- The values of an answer, none where it is refused.
unfoldable pub values_of : (answer : Answer) → List ℕ
values_of (refused number place) = []
values_of (done values) = values

unfoldable pub verified : (input : List ℕ) → Answer
verified = outcome_of verifier (λ _ both. values_of (sheet_said both))

-- The line for yes and the line for no.
unfoldable pub verdict_text : (values : List ℕ) → List ℕ
verdict_text values = pick (eqb (get_or values 0 0) 1) (bytes "(holds)\n") (bytes "(fails)\n")

-- What the program writes for what it reads.
unfoldable pub verify_text : (input : List ℕ) → List ℕ
verify_text input = printed verdict_text (verified input)

-- What is to be written for a network's text and a sheet's: Read's refusals, then those of the sheet, then yes or no.
unfoldable pub verdict_of : (network sheet : List ℕ) → List ℕ
verdict_of network sheet = printed verdict_text (and_then (read_network network 3000 3000 1000) λ w. on w sheet_answer sheet)
