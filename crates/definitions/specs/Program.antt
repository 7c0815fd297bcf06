-- What every program of ours is, said once: a line in front that asks, what is read after it, the operations that are called in turn,
-- and a text. Each program adds what is its own. Assumes nothing.
use Rattle.std.specs.Prelude.{ℕ, List, [], ◌∷◌, ltb, length, drop, replicate}
use Rattle.definitions.specs.Outcome.{Outcome, refused, done, Answer, refuse_if, and_then, if_done}
use Rattle.definitions.specs.Lists.{overwrite}
use Rattle.definitions.specs.Form.{bytes, Item, word, numeral, scan_form, on_scan, write_form}
use Rattle.definitions.specs.Text.{Network, read_network, text_of}

-- The form of the line in front, or no items where there is none; the reader of the text after it, which may go by the numbers of the
-- line; and, for these numbers and what was read, the answers of the operations that are called, in turn.
pub record Program (A : Type 0) : Type 0 where
  pub form : List Item
  pub read : (numbers text : List ℕ) → Outcome A
  pub answers : (numbers : List ℕ) (thing : A) → List Answer

-- The first of the answers that is a refusal stands; where none is, the value is given.
unfoldable pub passing : {B : Type 0} (answers : List Answer) (value : B) → Outcome B
passing [] value = done value
passing (answer ∷ answers) value = and_then answer λ _. passing answers value

-- "the first refusal met is the one printed": 1 where the line in front departs from its form, at the byte; then the reader's, whose
-- "Offsets .. count from the first byte after that line"; then those of the operations. Else a value of the numbers and what was read.
unfoldable pub outcome_of : {A B : Type 0} (program : Program A) (value : List ℕ → A → B) (input : List ℕ) → Outcome B
outcome_of program value input =
    on_scan 1 (scan_form input program.form 0) λ numbers p.
    and_then (program.read numbers (drop p input)) λ thing.
    passing (program.answers numbers thing) (value numbers thing)

unfoldable pub refused_form : List Item
refused_form = word (bytes "(refused ") ∷ numeral ∷ word (bytes " ") ∷ numeral ∷ word (bytes ")\n") ∷ []

-- "A refusal prints only `(refused NUMBER PLACE)`, PLACE with as many digits as it takes." Else the text of what is done.
unfoldable pub printed : {A : Type 0} (text_of : A → List ℕ) (outcome : Outcome A) → List ℕ
printed text_of (refused number place) = write_form refused_form (number ∷ place ∷ [])
printed text_of (done value) = text_of value

-- A program lends an operation a list of its own, which holds zeros.
unfoldable pub room : (size : ℕ) → List ℕ
room size = replicate size 0

-- A program that reads a network takes in at most so many bytes of its input, and answers a longer one from these alone: 22 for the
-- longest line in front, `(want 9999 9999 9999)` with its line end, and 54,934, past which no reading of a network text looks.
unfoldable pub input_room : ℕ
input_room = 54956

-- What an operation gives for a network.
abbrev pub on : {B : Type 0} (network : Network) (operation : ℕ → List ℕ → List ℕ → List ℕ → B) → B
on network operation = operation network.relays network.lows network.highs network.states

-- The reader of a network text with a program's own lists, which are long enough for every network, whatever the line says.
abbrev pub own_read : (numbers text : List ℕ) → Outcome Network
own_read numbers text = read_network text 3000 3000 1000

-- The text of a network.
unfoldable pub network_text : (network : Network) → List ℕ
network_text network = on network text_of

-- A text that is to be printed into a lent list, for the C interface: 12 where the list is shorter than the text. The answer is
-- the text's length.
unfoldable pub print_answer : (text output : List ℕ) → Answer
print_answer text output = refuse_if (ltb (length output) (length text)) 12 0 (done (length text ∷ []))

-- The list afterwards.
unfoldable pub output_after : (text output : List ℕ) → List ℕ
output_after text output = if_done (print_answer text output) (overwrite text output) output
