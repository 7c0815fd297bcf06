-- Sheets read back with the mesh and the square: our own, others that hold, and what makes a sheet a no or a refusal.
-- By computation. Assumes nothing.
use Rattle.std.specs.Prelude.{ℕ, List, [], ◌∷◌, ◌++◌, ◌≡◌, refl}
use Prim.Native.String.{String}
use Rattle.definitions.specs.Outcome.{refused, done, Answer}
use Rattle.definitions.specs.Form.{bytes}
use Rattle.definitions.specs.Text.{Network}
use Rattle.definitions.specs.SheetTest.{sheet_answer}
use Rattle.definitions.specs.Verify.{verify_input, verify_text}
use Rattle.definitions.specs.Networks.{Example, AllHold, square, mesh}
use Rattle.definitions.specs.Opened.{opened}

-- A sheet read back with a network, and what is said of it.
abbrev says : (w : Network) (text : List ℕ) (answer : Answer) → Example
says w text answer =
    record {
      found = record { answer = sheet_answer w.relays w.lows w.highs w.states text; lists = [] };
      due = record { answer = answer; lists = [] };
    }

abbrev yes : Answer
yes = done (1 ∷ [])

abbrev no : Answer
no = done (0 ∷ [])

-- Between relays 4 and 1 of the mesh, for two routes.
abbrev between : (lines : String) → List ℕ
between lines = bytes "(sheet (from 4) (to 1) (k 2))\n" ++ (bytes lines ++ bytes "(end)\n")

abbrev sheet_examples : List Example
sheet_examples =
    -- The printed sheet, and its routes in the other order.
    says mesh (between "(route 4 2 1)\n(over 5 2)\n(route 4 3 1)\n(over 6 3)\n(kept 7)\n") yes
    ∷ says mesh (between "(route 4 3 1)\n(over 6 3)\n(route 4 2 1)\n(over 5 2)\n(kept 7)\n") yes
    -- Routes that ours are not: 0 1 2 and 0 3 2 in the square, where Route refuses with 13.
    ∷ says square
    (bytes "(sheet (from 0) (to 2) (k 2))\n(route 0 1 2)\n(over 0 1)\n(route 0 3 2)\n(over 3 2)\n(kept 4)\n(end)\n") yes
    -- "Walking each forest's own tree path. In the mesh 4 2 0 1 and 4 3 2 1 share relay 2."
    ∷ says mesh (between "(route 4 2 0 1)\n(over 5 1 0)\n(route 4 3 2 1)\n(over 6 4 2)\n(kept 7)\n") no
    -- The circuits of a route exchanged, one too few, one too many, an index that no link has.
    ∷ says mesh (between "(route 4 3 1)\n(over 3 6)\n(route 4 2 1)\n(over 5 2)\n(kept 7)\n") no
    ∷ says mesh (between "(route 4 3 1)\n(over 6)\n(route 4 2 1)\n(over 5 2)\n(kept 7)\n") no
    ∷ says mesh (between "(route 4 3 1)\n(over 6 3 3)\n(route 4 2 1)\n(over 5 2)\n(kept 7)\n") no
    ∷ says mesh (between "(route 4 3 1)\n(over 6 7)\n(route 4 2 1)\n(over 5 2)\n(kept 7)\n") no
    -- Another count of kept links, a route too few and one too many.
    ∷ says mesh (between "(route 4 3 1)\n(over 6 3)\n(route 4 2 1)\n(over 5 2)\n(kept 6)\n") no
    ∷ says mesh (between "(route 4 3 1)\n(over 6 3)\n(kept 7)\n") no
    ∷ says mesh (between "(kept 7)\n") no
    ∷ says mesh (between "(route 4 3 1)\n(over 6 3)\n(route 4 2 1)\n(over 5 2)\n(route 4 2 0 1)\n(over 5 1 0)\n(kept 7)\n") no
    -- A relay not below n; routes that begin or end elsewhere; one through its own end; `from` and `to` the same.
    ∷ says mesh (between "(route 4 5 1)\n(over 6 3)\n(route 4 2 1)\n(over 5 2)\n(kept 7)\n") no
    ∷ says mesh (between "(route 3 1)\n(over 3)\n(route 4 2 1)\n(over 5 2)\n(kept 7)\n") no
    ∷ says mesh (between "(route 4 3)\n(over 6)\n(route 4 2 1)\n(over 5 2)\n(kept 7)\n") no
    ∷ says mesh (between "(route 4 3 1 0 1)\n(over 6 3 0 0)\n(route 4 2 1)\n(over 5 2)\n(kept 7)\n") no
    ∷ says mesh (bytes "(sheet (from 1) (to 1) (k 1))\n(route 1 0 1)\n(over 0 0)\n(kept 4)\n(end)\n") no
    -- Two routes that share their link, the only one of each.
    ∷ says square (bytes "(sheet (from 0) (to 1) (k 2))\n(route 0 1)\n(over 0)\n(route 0 1)\n(over 0)\n(kept 4)\n(end)\n") no
    -- 14 at the byte: an empty text, a sheet without `over` lines, one relay, no index, neither `(route` nor `(kept`, five digits, a
    -- zero in front, something behind the end. Then 15.
    ∷ says mesh [] (refused 14 0)
    ∷ says mesh (between "(route 4 3 1)\n(route 4 2 1)\n(kept 7)\n") (refused 14 45)
    ∷ says mesh (between "(route 4)\n(over 6)\n(kept 7)\n") (refused 14 38)
    ∷ says mesh (between "(route 4 3)\n(over)\n(kept 7)\n") (refused 14 47)
    ∷ says mesh (between "(raute 4 3)\n(over 6)\n(kept 7)\n") (refused 14 32)
    ∷ says mesh (between "(Kept 7)\n") (refused 14 31)
    ∷ says mesh (between "(route 4 31000)\n(over 6)\n(kept 7)\n") (refused 14 43)
    ∷ says mesh (between "(route 4 3 01)\n(over 6 3)\n(kept 7)\n") (refused 14 42)
    ∷ says mesh (between "(kept 7)\n" ++ bytes "x") (refused 14 45)
    ∷ says mesh (bytes "(sheet (from 4) (to 1) (k 0))\n(kept 0)\n(end)\n") (refused 15 0)
    ∷ says mesh (bytes "(sheet (from 4) (to 1) (k 33))\n(kept 0)\n(end)\n") (refused 15 0)
    -- The table check comes first.
    ∷ says (record { relays = 0; lows = []; highs = []; states = [] }) [] (refused 3 0)
    ∷ []

pub sheet-examples-hold : AllHold sheet_examples
unfolding opened
sheet-examples-hold = refl

-- The program: two relays with one link and a sheet that holds, its bytes and the line in front, the same with another count, no sheet,
-- no `(end)`, and no line in front.
abbrev pair_net : String
pair_net = "(net (relays 2) (links 1))\n(link 0 1)\n(end)\n"

abbrev pair_sheet : String
pair_sheet = "(sheet (from 0) (to 1) (k 1))\n(route 0 1)\n(over 0)\n(kept 1)\n(end)\n"

abbrev said : (network sheet : String) → List ℕ
said network sheet = verify_text (verify_input (bytes network) (bytes sheet))

pub pair-input : verify_input (bytes pair_net) (bytes pair_sheet) ≡ bytes "(verify 0 44)\n" ++ (bytes pair_net ++ bytes pair_sheet)
unfolding opened
pair-input = refl

pub pair-holds : said pair_net pair_sheet ≡ bytes "(holds)\n"
unfolding opened
pair-holds = refl

pub pair-fails : said pair_net "(sheet (from 0) (to 1) (k 1))\n(route 0 1)\n(over 0)\n(kept 0)\n(end)\n" ≡ bytes "(fails)\n"
unfolding opened
pair-fails = refl

pub pair-alone : said pair_net "" ≡ bytes "(refused 14 0)\n"
unfolding opened
pair-alone = refl

pub no_end : said "(net (relays 2) (links 0))\n(and)\n" "" ≡ bytes "(refused 2 28)\n"
unfolding opened
no_end = refl

pub no_line : verify_text (bytes pair_net ++ bytes pair_sheet) ≡ bytes "(refused 1 1)\n"
unfolding opened
no_line = refl

-- The border is where the line says: the sheet's text in the network's, and the network's last line in the sheet's, are refused.
pub sheet-in-network : said "(net (relays 2) (links 1))\n(link 0 1)\n(end)\n(sheet (from 0) (to 1) (k 1))\n(route 0 1)\n(over 0)\n(kept 1)\n(end)\n" ""
    ≡ bytes "(refused 2 44)\n"
unfolding opened
sheet-in-network = refl

pub end-in-sheet : said "(net (relays 2) (links 1))\n(link 0 1)\n" "(end)\n(sheet (from 0) (to 1) (k 1))\n(route 0 1)\n(over 0)\n(kept 1)\n(end)\n"
    ≡ bytes "(refused 2 38)\n"
unfolding opened
end-in-sheet = refl
