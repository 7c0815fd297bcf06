-- The import on the mesh and on small texts (document 02, #106): what is taken, each refusal with its place, and what the program
-- prints. By computation. Assumes nothing.
use Rattle.std.specs.Prelude.{ℕ, List, [], ◌∷◌, ◌++◌, refl, replicate}
use Prim.Native.String.{String}
use Rattle.definitions.specs.Outcome.{refused, done, Answer}
use Rattle.definitions.specs.Form.{bytes}
use Rattle.definitions.specs.Text.{text_of}
use Rattle.definitions.specs.Dimacs.{import_answer, import_lows, import_highs, import_states}
use Rattle.definitions.specs.DimacsText.{alone, saying, dimacs_text}
use Rattle.definitions.specs.Import.{import_text}
use Rattle.definitions.specs.Networks.{Example, AllHold, mesh, lent}
use Rattle.definitions.specs.Opened.{opened}

-- A text imported into lists with this much room: the answer and the lists.
abbrev imports : (text : List ℕ) (room_lows room_highs room_states : ℕ) (answer : Answer) (lists : List (List ℕ)) → Example
imports text room_lows room_highs room_states answer lists =
    record {
      found =
          record {
            answer = import_answer text (lent room_lows) (lent room_highs) (lent room_states);
            lists =
                import_lows text (lent room_lows) (lent room_highs) (lent room_states)
                ∷ import_highs text (lent room_lows) (lent room_highs) (lent room_states)
                ∷ import_states text (lent room_lows) (lent room_highs) (lent room_states)
                ∷ [];
          };
      due = record { answer = answer; lists = lists };
    }

-- A text imported into lists of two links and four states.
abbrev takes : (text : String) (answer : Answer) (lists : List (List ℕ)) → Example
takes text answer lists = imports (bytes text) 2 2 4 answer lists

abbrev refuses : (text : String) (number place : ℕ) → Example
refuses text number place =
    takes text (refused number place) (replicate 2 0 ∷ replicate 2 0 ∷ replicate 4 0 ∷ [])

-- What the program prints.
abbrev prints : (input : String) (due : List ℕ) → Example
prints input due =
    record { found = record { answer = done []; lists = import_text (bytes input) ∷ [] }; due = record { answer = done []; lists = due ∷ [] } }

-- The mesh, with comments before, between and behind, and two ends exchanged.
abbrev mesh_drawn : String
mesh_drawn = "c the mesh\np edge 5 7\ne 1 2\ne 3 1\nc\ne 2 3\ne 2 4\nc \ne 4 3\ne 3 5\ne 4 5\nc e 1 5\n"

abbrev import_examples : List Example
import_examples =
    prints mesh_drawn (text_of 5 mesh.lows mesh.highs (replicate 5 1))
    -- Zeros behind the links and states, whatever stood there.
    ∷ takes "p edge 3 1\ne 3 1\n" (done (3 ∷ 1 ∷ [])) ((0 ∷ 0 ∷ []) ∷ (2 ∷ 0 ∷ []) ∷ (1 ∷ 1 ∷ 1 ∷ 0 ∷ []) ∷ [])
    ∷ takes "p edge 1 0\n" (done (1 ∷ 0 ∷ [])) ((0 ∷ 0 ∷ []) ∷ (0 ∷ 0 ∷ []) ∷ (1 ∷ 0 ∷ 0 ∷ 0 ∷ []) ∷ [])
    -- Comments behind the last `e` line; and "any or no bytes other than 10": byte 0 too.
    ∷ takes "p edge 3 1\ne 1 2\nc a\nc b\n" (done (3 ∷ 1 ∷ [])) ((0 ∷ 0 ∷ []) ∷ (1 ∷ 0 ∷ []) ∷ (1 ∷ 1 ∷ 1 ∷ 0 ∷ []) ∷ [])
    ∷ imports (bytes "c " ++ (0 ∷ 255 ∷ 13 ∷ []) ++ bytes "\np edge 1 0\n") 0 0 1 (done (1 ∷ 0 ∷ [])) ([] ∷ [] ∷ (1 ∷ []) ∷ [])
    -- 18: nothing at all; `c` and another byte; a comment without its line end; another word than `edge`.
    ∷ refuses "" 18 0
    ∷ refuses "cx\np edge 1 0\n" 18 1
    ∷ refuses "c" 18 1
    ∷ refuses "c no end" 18 8
    ∷ refuses "p col 3 1\ne 1 2\n" 18 2
    -- A zero in front, a fifth digit, a space at the end of a line, a line end of two bytes.
    ∷ refuses "p edge 3 1\ne 01 2\n" 18 14
    ∷ refuses "p edge 10000 1\n" 18 11
    ∷ refuses "p edge 3 1 \n" 18 10
    ∷ imports (bytes "p edge 3 1" ++ (13 ∷ 10 ∷ [])) 0 0 0 (refused 18 10) ([] ∷ [] ∷ [] ∷ [])
    -- An `e` line before the `p` line, too few of them, too many, a second `p` line, a blank line.
    ∷ refuses "e 1 2\np edge 3 1\n" 18 0
    ∷ refuses "p edge 3 2\ne 1 2\n" 18 17
    ∷ refuses "p edge 3 1\ne 1 2\ne 1 3\n" 18 17
    ∷ refuses "p edge 3 1\np edge 3 1\n" 18 11
    ∷ refuses "p edge 3 1\n\ne 1 2\n" 18 11
    -- After the `p` line, before anything behind it: 3, 4 and 8 for each of the three lists.
    ∷ refuses "p edge 0 1\nx" 3 0
    ∷ refuses "p edge 1001 9999\nx" 3 0
    ∷ refuses "p edge 3 3001\nx" 4 0
    ∷ refuses "p edge 3 3\nx" 8 0
    ∷ refuses "p edge 5 1\nx" 8 0
    ∷ imports (bytes "p edge 3 1\ne 1 2\n") 1 0 3 (refused 8 0) ((0 ∷ []) ∷ [] ∷ (0 ∷ 0 ∷ 0 ∷ []) ∷ [])
    -- After an `e` line, before anything behind it: 5, 6 and 7, with the index of that line.
    ∷ refuses "p edge 3 1\ne 0 1\n" 5 0
    ∷ refuses "p edge 3 2\ne 1 2\ne 3 4\nx" 5 1
    ∷ refuses "p edge 3 1\ne 4 4\n" 5 0
    ∷ refuses "p edge 3 2\ne 1 2\nc\ne 2 2\nx" 6 1
    ∷ refuses "p edge 3 2\ne 1 2\ne 1 2\n" 7 1
    ∷ refuses "p edge 3 2\ne 1 2\ne 2 1\nx" 7 1
    ∷ prints "p edge 3 2\ne 1 2\ne 2 1\n" (bytes "(refused 7 1)\n")
    -- A drawing written out is of the form.
    ∷ imports
    (dimacs_text
    (record {
      relays = 3;
      notes = saying (bytes "made by hand") ∷ alone ∷ [];
      edges = record { notes = saying [] ∷ []; u = 3; v = 2 } ∷ [];
      last = alone ∷ [];
    }))
    1 1 3 (done (3 ∷ 1 ∷ [])) ((1 ∷ []) ∷ (2 ∷ []) ∷ (1 ∷ 1 ∷ 1 ∷ []) ∷ [])
    ∷ []

pub import-examples : AllHold import_examples
unfolding opened
import-examples = refl
