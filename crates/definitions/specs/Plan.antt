-- Document 01, 'The planner program': from the bytes of the input to the bytes of the output.
-- Assumes nothing.
use Rattle.std.specs.Prelude.{ℕ, get_or}
use mathlib.Core.List.{List, [], ◌∷◌, ◌++◌, tail}
use Rattle.definitions.specs.Outcome.{Outcome, Answer}
use Rattle.definitions.specs.Lists.{total}
use Rattle.definitions.specs.Forests.{marks_of, cut_answer}
use Rattle.definitions.specs.Route.{routes_of, route_answer}
use Rattle.definitions.specs.Over.{overs_of}
use Rattle.definitions.specs.Form.{bytes, Item, word, numeral, spaced, write_form}
use Rattle.definitions.specs.Text.{Network, end_form}
use Rattle.definitions.specs.Program.{Program, outcome_of, printed, room, on, own_read}

-- "a line `(want FROM TO K)`"
unfoldable pub wish_form : List Item
wish_form =
    word (bytes "(want ") ∷ numeral ∷ word (bytes " ") ∷ numeral ∷ word (bytes " ") ∷ numeral ∷ word (bytes ")\n") ∷ []

unfoldable pub sheet_form : List Item
sheet_form =
    word (bytes "(sheet (from ") ∷ numeral ∷ word (bytes ") (to ") ∷ numeral ∷ word (bytes ") (k ") ∷ numeral
    ∷ word (bytes "))\n") ∷ []

unfoldable pub kept_form : List Item
kept_form = word (bytes "(kept ") ∷ numeral ∷ word (bytes ")\n") ∷ []

-- A sheet: the wish, the routes, for each of them its links, and the count of kept links.
pub record Sheet : Type 0 where
  pub from : ℕ
  pub to : ℕ
  pub k : ℕ
  pub routes : List (List ℕ)
  pub overs : List (List ℕ)
  pub kept : ℕ

-- The bytes that the program has for its output, enough for every sheet: 39 + 32 × 15 + 4 × 1,062 + 5 × 1,030 + 12 + 6. These are the
-- first line, the two lines of 32 routes without their numbers, 1,062 relays, 1,030 links, and the two last lines.
unfoldable pub output_room : ℕ
output_room = 9935

-- The sheet of a network for a wish: Route's routes, their links, and the count from the cut.
unfoldable pub sheet_for : (from to k : ℕ) (network : Network) → Sheet
sheet_for from to k network =
    record {
      from = from;
      to = to;
      k = k;
      routes = on network routes_of k from to;
      overs = on network overs_of k from to;
      kept = total (on network marks_of k);
    }

-- "It reads, cuts and routes": the answers of Cut and Route, with the program's own lists.
unfoldable pub sheet_answers : (wish : List ℕ) (network : Network) → List Answer
sheet_answers wish network =
    on network cut_answer (get_or wish 2 0) (room 3000)
    ∷ on network route_answer (get_or wish 2 0) (get_or wish 0 0) (get_or wish 1 0) (room 32) (room 1062) (room 32000)
    ∷ []

abbrev pub planner : Program Network
planner = record { form = wish_form; read = own_read; answers = sheet_answers }

unfoldable pub planned : (input : List ℕ) → Outcome Sheet
planned = outcome_of planner (λ wish. sheet_for (get_or wish 0 0) (get_or wish 1 0) (get_or wish 2 0))

-- A line of numbers behind a word.
unfoldable pub numbers_line : (name numbers : List ℕ) → List ℕ
numbers_line name numbers = name ++ (spaced numbers ++ bytes ")\n")

-- "each `route` lists relay numbers"; "After each `(route ..)` line the sheet gets `(over ..)` with the indices of the links in
-- turn" (document 02, #101).
unfoldable pub route_lines : (routes overs : List (List ℕ)) → List ℕ
route_lines [] overs = []
route_lines (route ∷ routes) overs =
    numbers_line (bytes "(route") route ++
    (numbers_line (bytes "(over") (get_or overs 0 []) ++ route_lines routes (tail overs))

-- "`from`, `to` and `k` repeat the wish, each `route` lists relay numbers, `kept` is the count from the cut."
unfoldable pub sheet_text : (sheet : Sheet) → List ℕ
sheet_text sheet =
    write_form sheet_form (sheet.from ∷ sheet.to ∷ sheet.k ∷ []) ++
    (route_lines sheet.routes sheet.overs ++ (write_form kept_form (sheet.kept ∷ []) ++ write_form end_form []))

-- What the program writes for what it reads.
unfoldable pub plan_text : (input : List ℕ) → List ℕ
plan_text input = printed sheet_text (planned input)
