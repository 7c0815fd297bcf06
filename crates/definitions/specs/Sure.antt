-- Document 02, #107, as a program: a network text comes in, and the sheet for the last two relays of the order goes out, with as many
-- routes as there are; where no sheet has that many, a line that tells why. Assumes nothing.
use Rattle.std.specs.Prelude.{ℕ, List, [], ◌∷◌, ltb}
use Rattle.definitions.specs.Outcome.{pick}
use Rattle.definitions.specs.Lists.{outside}
use Rattle.definitions.specs.Order.{order_of}
use Rattle.definitions.specs.Form.{bytes, Item, word, numeral, write_form}
use Rattle.definitions.specs.Text.{Network}
use Rattle.definitions.specs.Program.{Program, outcome_of, printed, on, own_read}
use Rattle.definitions.specs.Plan.{sheet_for, sheet_text}
use Rattle.definitions.specs.Demand.{in_service_count}
use Rattle.definitions.specs.LastTwo.{last_relay, last_but_one, sure_figure}

-- The line where fewer than two relays are in service, with how many are.
unfoldable pub few_form : List Item
few_form = word (bytes "(none (serving ") ∷ numeral ∷ word (bytes "))\n") ∷ []

-- The line where the last relay has no link to a relay in service, or more than 32: the two relays, and how many it has.
unfoldable pub none_form : List Item
none_form =
    word (bytes "(none (from ") ∷ numeral ∷ word (bytes ") (to ") ∷ numeral ∷ word (bytes ") (links ") ∷ numeral ∷ word (bytes "))\n")
    ∷ []

-- The last relay, the one before it, and d, of the order of a network.
abbrev pub last_of : Network → ℕ
last_of w = last_relay w.relays w.states (on w order_of)

abbrev pub before_of : Network → ℕ
before_of w = last_but_one w.relays w.states (on w order_of)

abbrev pub figure_of : Network → ℕ
figure_of w = sure_figure w.relays w.lows w.highs w.states (on w order_of)

abbrev pub serving_of : Network → ℕ
serving_of w = in_service_count w.relays w.states

unfoldable pub figure_text : (network : Network) → List ℕ
figure_text w =
    pick (ltb (serving_of w) 2) (write_form few_form (serving_of w ∷ []))
    (pick (outside 1 32 (figure_of w)) (write_form none_form (last_of w ∷ before_of w ∷ figure_of w ∷ []))
    (sheet_text (sheet_for (last_of w) (before_of w) (figure_of w) w)))

-- No line in front, and no refusal but the reader's.
abbrev pub surer : Program Network
surer = record { form = []; read = own_read; answers = λ _ _. [] }

-- What the program writes for what it reads.
unfoldable pub sure_text : (input : List ℕ) → List ℕ
sure_text input = printed figure_text (outcome_of surer (λ _ network. network) input)
