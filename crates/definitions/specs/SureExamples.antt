-- Document 02, #107, on the networks of document 01: what the program for the sure figure prints. By computation. No example has d
-- over 32: all pairs of 34 relays are the least such network, and too many to compute. Assumes nothing.
use Rattle.std.specs.Prelude.{ℕ, List, [], ◌∷◌, refl}
use Prim.Native.String.{String}
use Rattle.definitions.specs.Outcome.{done}
use Rattle.definitions.specs.Form.{bytes}
use Rattle.definitions.specs.Program.{network_text}
use Rattle.definitions.specs.Sure.{sure_text}
use Rattle.definitions.specs.Networks.{Example, AllHold, square, mesh, bare, with_states}
use Rattle.definitions.specs.Opened.{opened}
use Rattle.definitions.specs.StateExamples.{without_two}

abbrev prints : (input : List ℕ) (output : String) → Example
prints input output =
    record { found = record { answer = done []; lists = sure_text input ∷ [] }; due = record { answer = done []; lists = bytes output ∷ [] } }

abbrev pub sure_examples : List Example
sure_examples =
    -- Mesh, order 2 0 1 3 4; without relay 2, order 1 0 3 4; square, order 0 1 2 3.
    prints (network_text mesh) "(sheet (from 4) (to 3) (k 2))\n(route 4 2 3)\n(over 5 4)\n(route 4 3)\n(over 6)\n(kept 7)\n(end)\n"
    ∷ prints (network_text without_two) "(sheet (from 4) (to 3) (k 1))\n(route 4 3)\n(over 6)\n(kept 3)\n(end)\n"
    ∷ prints (network_text square) "(sheet (from 3) (to 2) (k 2))\n(route 3 0 1 2)\n(over 3 0 1)\n(route 3 2)\n(over 2)\n(kept 4)\n(end)\n"
    -- No links; one relay; one in service, and none.
    ∷ prints (network_text (bare 2)) "(none (from 1) (to 0) (links 0))\n"
    ∷ prints (network_text (bare 1)) "(none (serving 1))\n"
    ∷ prints (network_text (with_states mesh (0 ∷ 0 ∷ 0 ∷ 1 ∷ 0 ∷ []))) "(none (serving 1))\n"
    ∷ prints (network_text (with_states mesh (0 ∷ 0 ∷ 0 ∷ 0 ∷ 0 ∷ []))) "(none (serving 0))\n"
    -- A refusal of Read.
    ∷ prints (bytes "(want 4 3 2)\n") "(refused 2 1)\n"
    ∷ []

pub sure-examples-hold : AllHold sure_examples
unfolding opened
sure-examples-hold = refl
