-- Document 02, #105, on the mesh without relay 2 and on other networks with withdrawn relays: every operation, the texts, what the
-- programs print, and the refusals 16 and 17. By computation. Assumes nothing.
use Rattle.std.specs.Prelude.{ℕ, List, [], ◌∷◌, ◌++◌, ◌≡◌, refl, replicate}
use Prim.Native.String.{String}
use Rattle.definitions.specs.Outcome.{refused, done, Answer}
use Rattle.definitions.specs.Form.{bytes}
use Rattle.definitions.specs.Text.{Network, read_answer, states_after, text_of}
use Rattle.definitions.specs.Plan.{plan_text}
use Rattle.definitions.specs.Keep.{keep_text}
use Rattle.definitions.specs.SheetTest.{sheet_answer}
use Rattle.definitions.specs.Networks.{
  Example,
  AllHold,
  mesh,
  with_states,
  lent,
  check_of,
  order_with,
  split_with,
  cut_with,
  route_with,
}
use Rattle.definitions.specs.Opened.{opened}

-- The mesh without relay 2: of its links 0 1, 1 3 and 3 4 have both ends in service.
abbrev pub without_two : Network
without_two = with_states mesh (1 ∷ 1 ∷ 0 ∷ 1 ∷ 1 ∷ [])

-- All relays of the mesh withdrawn, and all but relay 3.
abbrev none_serves : Network
none_serves = with_states mesh (replicate 5 0)

abbrev one_serves : Network
one_serves = with_states mesh (0 ∷ 0 ∷ 0 ∷ 1 ∷ 0 ∷ [])

abbrev answers : (found due : Answer) → Example
answers found due = record { found = record { answer = found; lists = [] }; due = record { answer = due; lists = [] } }

-- The table check of the mesh with these states.
abbrev checks : (states : List ℕ) (due : Answer) → Example
checks states due = record { found = check_of (with_states mesh states); due = record { answer = due; lists = [] } }

-- A text read into lists of one link and six states: the answer and the states.
abbrev reads : (text : String) (due : Answer) (states : List ℕ) → Example
reads text due states =
    record {
      found =
          record {
            answer = read_answer (bytes text) (lent 1) (lent 1) (lent 6);
            lists = states_after (bytes text) (lent 1) (lent 1) (lent 6) ∷ [];
          };
      due = record { answer = due; lists = states ∷ [] };
    }

abbrev none : List ℕ
none = replicate 6 0

-- What a program prints.
abbrev prints : (found : List ℕ) (due : String) → Example
prints found due =
    record { found = record { answer = done []; lists = found ∷ [] }; due = record { answer = done []; lists = bytes due ∷ [] } }

-- A sheet between relays 4 and 1 of the mesh without relay 2.
abbrev says : (lines : String) (due : Answer) → Example
says lines due =
    answers
    (sheet_answer 5 without_two.lows without_two.highs without_two.states
    (bytes "(sheet (from 4) (to 1) (k 1))\n" ++ (bytes lines ++ bytes "(end)\n"))) due

abbrev state_examples : List Example
state_examples =
    -- The list of relays is left past the relays in service.
    record {
      found = order_with 5 without_two;
      due = record { answer = done []; lists = (1 ∷ 0 ∷ 3 ∷ 4 ∷ 7 ∷ []) ∷ (2 ∷ 1 ∷ 0 ∷ 3 ∷ 4 ∷ []) ∷ [] };
    }
    ∷ record {
      found = split_with 7 without_two;
      due = record { answer = done (1 ∷ []); lists = (1 ∷ 0 ∷ 0 ∷ 1 ∷ 0 ∷ 0 ∷ 1 ∷ []) ∷ [] };
    }
    ∷ record {
      found = cut_with 7 without_two 32;
      due = record { answer = done (3 ∷ []); lists = (1 ∷ 0 ∷ 0 ∷ 1 ∷ 0 ∷ 0 ∷ 1 ∷ []) ∷ [] };
    }
    -- 17 comes straight after 11, before 12; list lengths still go by all relays.
    ∷ record { found = route_with 0 0 0 without_two 4 2 1; due = record { answer = refused 17 0; lists = [] ∷ [] ∷ [] ∷ [] } }
    ∷ record { found = route_with 0 0 0 without_two 2 4 1; due = record { answer = refused 17 0; lists = [] ∷ [] ∷ [] ∷ [] } }
    ∷ record { found = route_with 0 0 0 without_two 2 2 1; due = record { answer = refused 11 0; lists = [] ∷ [] ∷ [] ∷ [] } }
    ∷ record { found = route_with 1 5 4 without_two 4 1 1; due = record { answer = refused 12 0; lists = lent 1 ∷ lent 5 ∷ lent 4 ∷ [] } }
    ∷ record {
      found = route_with 1 5 5 without_two 4 1 1;
      due = record { answer = done (3 ∷ []); lists = (3 ∷ []) ∷ (4 ∷ 3 ∷ 1 ∷ 7 ∷ 7 ∷ []) ∷ replicate 5 0 ∷ [] };
    }
    -- All relays withdrawn: nothing is placed, split or kept. One relay in service.
    ∷ record { found = order_with 5 none_serves; due = record { answer = done []; lists = lent 5 ∷ replicate 5 0 ∷ [] } }
    ∷ record { found = split_with 7 none_serves; due = record { answer = done (0 ∷ []); lists = replicate 7 0 ∷ [] } }
    ∷ record { found = cut_with 7 none_serves 1; due = record { answer = done (0 ∷ []); lists = replicate 7 0 ∷ [] } }
    ∷ record {
      found = order_with 5 one_serves;
      due = record { answer = done []; lists = (3 ∷ 7 ∷ 7 ∷ 7 ∷ 7 ∷ []) ∷ (0 ∷ 0 ∷ 0 ∷ 1 ∷ 0 ∷ []) ∷ [] };
    }
    -- The busiest by the links with both ends in service: 0 2 is the only one of them, so 0 is first and not 1.
    ∷ record {
      found = order_with 5 (record { relays = 5; lows = 0 ∷ 1 ∷ 1 ∷ []; highs = 2 ∷ 3 ∷ 4 ∷ []; states = 1 ∷ 1 ∷ 1 ∷ 0 ∷ 0 ∷ [] });
      due = record { answer = done []; lists = (0 ∷ 2 ∷ 1 ∷ 7 ∷ 7 ∷ []) ∷ (1 ∷ 3 ∷ 2 ∷ 0 ∷ 0 ∷ []) ∷ [] };
    }
    -- 16: a state too few, one too many, an entry of 2; after a faulty link.
    ∷ checks (replicate 5 0) (done [])
    ∷ checks (replicate 4 1) (refused 16 0)
    ∷ checks (replicate 6 1) (refused 16 0)
    ∷ checks (1 ∷ 1 ∷ 1 ∷ 1 ∷ 2 ∷ []) (refused 16 0)
    ∷ record {
      found = check_of (record { relays = 2; lows = 1 ∷ []; highs = 1 ∷ []; states = [] });
      due = record { answer = refused 6 0; lists = [] };
    }
    -- `out` lines: in rising order, the states 0 past n; then 16 after the form, 2 at the byte, 8 for a list of states too short.
    ∷ reads "(net (relays 4) (links 0))\n(out 0)\n(out 2)\n(end)\n" (done (4 ∷ 0 ∷ [])) (0 ∷ 1 ∷ 0 ∷ 1 ∷ 0 ∷ 0 ∷ [])
    ∷ reads "(net (relays 1) (links 0))\n(out 0)\n(end)\n" (done (1 ∷ 0 ∷ [])) none
    ∷ reads "(net (relays 4) (links 0))\n(out 4)\n" (refused 16 0) none
    ∷ reads "(net (relays 4) (links 0))\n(out 2)\n(out 2)\n" (refused 16 0) none
    ∷ reads "(net (relays 4) (links 0))\n(out 2)\n(out 1)\n" (refused 16 0) none
    ∷ reads "(net (relays 1) (links 0))\n(out 0)\n(out 0)\n" (refused 16 0) none
    ∷ reads "(net (relays 4) (links 0))\n(out 4)" (refused 2 34) none
    ∷ reads "(net (relays 4) (links 0))\n(out 02)\n" (refused 2 33) none
    ∷ reads "(net (relays 4) (links 0))\n(oot 2)\n" (refused 2 29) none
    ∷ reads "(net (relays 4) (links 0))\n(aut 2)\n" (refused 2 28) none
    ∷ reads "(net (relays 4) (links 1))\n(out 2)\n" (refused 2 28) none
    ∷ reads "(net (relays 7) (links 0))\n" (refused 8 0) none
    -- The programs: a sheet past relay 2, 17 for a withdrawn end, and the list, where a link with a withdrawn end is idle.
    ∷ prints
    (plan_text
    (bytes "(want 4 1 1)\n(net (relays 5) (links 7))\n(link 0 1)\n(link 0 2)\n(link 1 2)\n(link 1 3)\n(link 2 3)\n(link 2 4)\n(link 3 4)\n(out 2)\n(end)\n"))
    "(sheet (from 4) (to 1) (k 1))\n(route 4 3 1)\n(over 6 3)\n(kept 3)\n(end)\n"
    ∷ prints
    (plan_text
    (bytes "(want 4 2 1)\n(net (relays 5) (links 7))\n(link 0 1)\n(link 0 2)\n(link 1 2)\n(link 1 3)\n(link 2 3)\n(link 2 4)\n(link 3 4)\n(out 2)\n(end)\n"))
    "(refused 17 0)\n"
    ∷ prints
    (keep_text
    (bytes "(keep 1)\n(net (relays 4) (links 4))\n(link 0 1)\n(link 0 2)\n(link 1 2)\n(link 2 3)\n(out 3)\n(end)\n"))
    "(lease (k 1))\n(keep 0 0 1)\n(keep 1 0 2)\n(drop 2 1 2)\n(idle 3 2 3)\n(kept 2)\n(dropped 1)\n(withdrawn 1)\n(end)\n"
    -- "a sheet that touches a withdrawn relay is a no"
    ∷ says "(route 4 3 1)\n(over 6 3)\n(kept 3)\n" (done (1 ∷ []))
    ∷ says "(route 4 2 1)\n(over 5 2)\n(kept 3)\n" (done (0 ∷ []))
    ∷ answers (sheet_answer 5 mesh.lows mesh.highs [] []) (refused 16 0)
    ∷ []

pub state-examples-hold : AllHold state_examples
unfolding opened
state-examples-hold = refl

-- The text of the mesh without relay 2.
pub text-without-two :
    text_of 5 without_two.lows without_two.highs without_two.states
    ≡ bytes "(net (relays 5) (links 7))\n(link 0 1)\n(link 0 2)\n(link 1 2)\n(link 1 3)\n(link 2 3)\n(link 2 4)\n(link 3 4)\n(out 2)\n(end)\n"
unfolding opened
text-without-two = refl
