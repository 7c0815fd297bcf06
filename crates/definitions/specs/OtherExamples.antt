-- The remaining examples of document 01: 'Others', the texts, and the printed sheet of the mesh; and the mesh's list of links.
-- By computation. Assumes nothing.
use Rattle.std.specs.Prelude.{ℕ, ◌+◌, ◌*◌, List, [], ◌∷◌, ◌++◌, ◌≡◌, refl, length, replicate}
use Prim.Native.String.{String}
use Rattle.definitions.specs.Outcome.{refused, done}
use Rattle.definitions.specs.Form.{bytes, write_form}
use Rattle.definitions.specs.Text.{Network, header_form, link_form, out_form, end_form, read_answer, lows_after, highs_after, states_after, write_answer, buffer_after}
use Rattle.definitions.specs.Plan.{plan_text}
use Rattle.definitions.specs.Keep.{keep_text}
use Rattle.definitions.specs.Networks.{
  Result,
  Example,
  AllHold,
  square,
  mesh,
  bare,
  lent,
  check_of,
  pair_of,
  order_with,
  split_with,
  cut_with,
  route_with,
  route_links_with,
}
use Rattle.definitions.specs.Opened.{opened}

-- Read a text into two lists of this length, and a list of five states.
abbrev read_with : (size : ℕ) (text : String) → Result
read_with size text =
    record {
      answer = read_answer (bytes text) (lent size) (lent size) (lent 5);
      lists =
          lows_after (bytes text) (lent size) (lent size) (lent 5)
          ∷ highs_after (bytes text) (lent size) (lent size) (lent 5)
          ∷ states_after (bytes text) (lent size) (lent size) (lent 5)
          ∷ [];
    }

-- Write a network's text into a buffer of this length.
abbrev write_with : (size : ℕ) (w : Network) → Result
write_with size w =
    record {
      answer = write_answer w.relays w.lows w.highs w.states (lent size);
      lists = buffer_after w.relays w.lows w.highs w.states (lent size) ∷ [];
    }

-- What the program prints.
abbrev prints_for : (input : String) → Result
prints_for input = record { answer = done []; lists = plan_text (bytes input) ∷ [] }

-- What the list of links prints.
abbrev lists_for : (input : String) → Result
lists_for input = record { answer = done []; lists = keep_text (bytes input) ∷ [] }

abbrev prints : (output : String) → Result
prints output = record { answer = done []; lists = bytes output ∷ [] }

-- A refusal that leaves these lists.
abbrev refused_at : (number place : ℕ) (lists : List (List ℕ)) → Result
refused_at number place lists = record { answer = refused number place; lists = lists }

abbrev zeros : (size : ℕ) → List ℕ
zeros size = replicate size 0

-- Four relays and one link.
abbrev one_link : (a b : ℕ) → Network
one_link a b = record { relays = 4; lows = a ∷ []; highs = b ∷ []; states = replicate 4 1 }

abbrev pub other_examples : List Example
other_examples =
    -- "n 0 and 1,001 give 3, 1,000 passes; m 3,001 gives 4; k 0 and 33 give 9"
    record { found = check_of (bare 0); due = refused_at 3 0 [] }
    ∷ record { found = check_of (bare 1001); due = refused_at 3 0 [] }
    ∷ record { found = check_of (bare 1000); due = record { answer = done []; lists = [] } }
    ∷ record {
      found = check_of (record { relays = 5; lows = zeros 3001; highs = replicate 3001 1; states = [] });
      due = refused_at 4 0 [];
    }
    ∷ record { found = check_of (record { relays = 5; lows = 0 ∷ []; highs = []; states = [] }); due = refused_at 4 0 [] }
    ∷ record { found = cut_with 7 mesh 0; due = refused_at 9 0 (lent 7 ∷ []) }
    ∷ record { found = cut_with 7 mesh 33; due = refused_at 9 0 (lent 7 ∷ []) }
    ∷ record { found = cut_with 6 mesh 32; due = refused_at 12 0 (lent 6 ∷ []) }
    ∷ record { found = order_with 4 mesh; due = refused_at 12 0 (lent 4 ∷ lent 4 ∷ []) }
    ∷ record { found = split_with 6 mesh; due = refused_at 12 0 (lent 6 ∷ []) }
    -- "`(link 7 7)` among four relays gives 5, `(link 2 2)` 6"
    ∷ record { found = check_of (one_link 7 7); due = refused_at 5 0 [] }
    ∷ record { found = check_of (one_link 2 2); due = refused_at 6 0 [] }
    ∷ record {
      found = read_with 1 "(net (relays 4) (links 1))\n(link 7 7)\n(end)\n";
      due = refused_at 5 0 (zeros 1 ∷ zeros 1 ∷ zeros 5 ∷ []);
    }
    ∷ record {
      found = read_with 2 "(net (relays 4) (links 2))\n(link 0 1)\n(link 2 2)\n(end)\n";
      due = refused_at 6 1 (zeros 2 ∷ zeros 2 ∷ zeros 5 ∷ []);
    }
    ∷ record {
      found = read_with 3 "(net (relays 4) (links 2))\n(link 0 1)\n(link 0 1)\n(end)\n";
      due = refused_at 7 1 (zeros 3 ∷ zeros 3 ∷ zeros 5 ∷ []);
    }
    -- "`(net (relays 04` gives 2 at byte 14; an empty text 2 at 0"
    ∷ record { found = read_with 1 "(net (relays 04"; due = refused_at 2 14 (zeros 1 ∷ zeros 1 ∷ zeros 5 ∷ []) }
    ∷ record { found = read_with 0 ""; due = refused_at 2 0 ([] ∷ [] ∷ zeros 5 ∷ []) }
    -- A second number of five digits, a byte behind the end, a list too short.
    ∷ record { found = read_with 1 "(net (relays 4) (links 10000"; due = refused_at 2 27 (zeros 1 ∷ zeros 1 ∷ zeros 5 ∷ []) }
    ∷ record {
      found = read_with 1 "(net (relays 4) (links 0))\n(end)\n ";
      due = refused_at 2 33 (zeros 1 ∷ zeros 1 ∷ zeros 5 ∷ []);
    }
    ∷ record { found = read_with 1 "(net (relays 4) (links 2))\n"; due = refused_at 8 0 (zeros 1 ∷ zeros 1 ∷ zeros 5 ∷ []) }
    -- The square's text, read and written.
    ∷ record {
      found = read_with 5 "(net (relays 4) (links 4))\n(link 0 1)\n(link 1 2)\n(link 2 3)\n(link 0 3)\n(end)\n";
      due =
          record {
            answer = done (4 ∷ 4 ∷ []);
            lists = (0 ∷ 1 ∷ 2 ∷ 0 ∷ 0 ∷ []) ∷ (1 ∷ 2 ∷ 3 ∷ 3 ∷ 0 ∷ []) ∷ (1 ∷ 1 ∷ 1 ∷ 1 ∷ 0 ∷ []) ∷ [];
          };
    }
    ∷ record {
      found = write_with 78 square;
      due =
          record {
            answer = done (77 ∷ []);
            lists =
                (bytes "(net (relays 4) (links 4))\n(link 0 1)\n(link 1 2)\n(link 2 3)\n(link 0 3)\n(end)\n" ++ lent 1)
                ∷ [];
          };
    }
    ∷ record { found = write_with 76 square; due = refused_at 12 0 (lent 76 ∷ []) }
    -- Route's refusals 10, 11 and 12, each list one too short in turn.
    ∷ record { found = route_with 2 7 10 mesh 5 1 2; due = refused_at 10 0 (lent 2 ∷ lent 7 ∷ lent 10 ∷ []) }
    ∷ record { found = route_with 2 7 10 mesh 1 1 2; due = refused_at 11 0 (lent 2 ∷ lent 7 ∷ lent 10 ∷ []) }
    ∷ record { found = route_with 1 7 10 mesh 4 1 2; due = refused_at 12 0 (lent 1 ∷ lent 7 ∷ lent 10 ∷ []) }
    ∷ record { found = route_with 2 6 10 mesh 4 1 2; due = refused_at 12 0 (lent 2 ∷ lent 6 ∷ lent 10 ∷ []) }
    ∷ record { found = route_with 2 7 9 mesh 4 1 2; due = refused_at 12 0 (lent 2 ∷ lent 7 ∷ lent 9 ∷ []) }
    -- Route with links: lists that just fit, the list of links one too short, and 13.
    ∷ record {
      found = route_links_with 2 7 5 10 mesh 4 1 2;
      due =
          record {
            answer = done (6 ∷ []);
            lists = (3 ∷ 3 ∷ []) ∷ (4 ∷ 2 ∷ 1 ∷ 4 ∷ 3 ∷ 1 ∷ 7 ∷ []) ∷ (5 ∷ 2 ∷ 6 ∷ 3 ∷ 7 ∷ []) ∷ zeros 10 ∷ [];
          };
    }
    ∷ record {
      found = route_links_with 2 7 4 10 mesh 4 1 2;
      due = refused_at 12 0 (lent 2 ∷ lent 7 ∷ lent 4 ∷ lent 10 ∷ []);
    }
    ∷ record {
      found = route_links_with 2 6 4 8 square 0 2 2;
      due = refused_at 13 0 (lent 2 ∷ lent 6 ∷ lent 4 ∷ zeros 8 ∷ []);
    }
    -- Pair numbers out of range and out of order.
    ∷ record { found = pair_of 0 1000; due = refused_at 5 0 [] }
    ∷ record { found = pair_of 3 3; due = refused_at 6 0 [] }
    -- The planner program: the sheet of the mesh that document 01 prints, with the lines of document 02, #101 and in the order of
    -- #104, the other worked sheets, and refusals as they are printed.
    ∷ record {
      found =
          prints_for
          "(want 4 1 2)\n(net (relays 5) (links 7))\n(link 0 1)\n(link 0 2)\n(link 1 2)\n(link 1 3)\n(link 2 3)\n(link 2 4)\n(link 3 4)\n(end)\n";
      due = prints "(sheet (from 4) (to 1) (k 2))\n(route 4 2 1)\n(over 5 2)\n(route 4 3 1)\n(over 6 3)\n(kept 7)\n(end)\n";
    }
    ∷ record {
      found =
          prints_for
          "(want 1 4 2)\n(net (relays 5) (links 7))\n(link 0 1)\n(link 0 2)\n(link 1 2)\n(link 1 3)\n(link 2 3)\n(link 2 4)\n(link 3 4)\n(end)\n";
      due = prints "(sheet (from 1) (to 4) (k 2))\n(route 1 2 4)\n(over 2 5)\n(route 1 3 4)\n(over 3 6)\n(kept 7)\n(end)\n";
    }
    ∷ record {
      found =
          prints_for
          "(want 4 1 1)\n(net (relays 5) (links 7))\n(link 0 1)\n(link 0 2)\n(link 1 2)\n(link 1 3)\n(link 2 3)\n(link 2 4)\n(link 3 4)\n(end)\n";
      due = prints "(sheet (from 4) (to 1) (k 1))\n(route 4 2 1)\n(over 5 2)\n(kept 4)\n(end)\n";
    }
    ∷ record {
      found =
          prints_for
          "(want 3 2 2)\n(net (relays 4) (links 4))\n(link 0 1)\n(link 1 2)\n(link 2 3)\n(link 0 3)\n(end)\n";
      due = prints "(sheet (from 3) (to 2) (k 2))\n(route 3 0 1 2)\n(over 3 0 1)\n(route 3 2)\n(over 2)\n(kept 4)\n(end)\n";
    }
    ∷ record {
      found =
          prints_for
          "(want 3 2 3)\n(net (relays 4) (links 6))\n(link 0 1)\n(link 0 2)\n(link 0 3)\n(link 1 2)\n(link 1 3)\n(link 2 3)\n(end)\n";
      due = prints "(sheet (from 3) (to 2) (k 3))\n(route 3 0 2)\n(over 2 1)\n(route 3 1 2)\n(over 4 3)\n(route 3 2)\n(over 5)\n(kept 6)\n(end)\n";
    }
    ∷ record { found = prints_for "(want 4 1)\n"; due = prints "(refused 1 9)\n" }
    ∷ record { found = prints_for "(want 4 1 2)\n(net (relays 04"; due = prints "(refused 2 14)\n" }
    ∷ record {
      found = prints_for "(want 0 1 33)\n(net (relays 2) (links 0))\n(end)\n";
      due = prints "(refused 9 0)\n";
    }
    -- The list of the mesh's links, cut to 1; a line in front that departs, a network that Read refuses, a k that Cut refuses.
    ∷ record {
      found =
          lists_for
          "(keep 1)\n(net (relays 5) (links 7))\n(link 0 1)\n(link 0 2)\n(link 1 2)\n(link 1 3)\n(link 2 3)\n(link 2 4)\n(link 3 4)\n(end)\n";
      due =
          prints
          "(lease (k 1))\n(drop 0 0 1)\n(keep 1 0 2)\n(keep 2 1 2)\n(drop 3 1 3)\n(keep 4 2 3)\n(keep 5 2 4)\n(drop 6 3 4)\n(kept 4)\n(dropped 3)\n(withdrawn 0)\n(end)\n";
    }
    ∷ record { found = lists_for "(keep 01)\n"; due = prints "(refused 1 7)\n" }
    ∷ record { found = lists_for "(keep 1)\n(net (relays 2) (links 1))\n(link 1 1)\n"; due = prints "(refused 6 0)\n" }
    ∷ record { found = lists_for "(keep 33)\n(net (relays 2) (links 0))\n(end)\n"; due = prints "(refused 9 0)\n" }
    ∷ []

pub other-examples-hold : AllHold other_examples
unfolding opened
other-examples-hold = refl

-- "The longest accepted text has 45,039 bytes": the longest header, 3,000 of the longest link lines, and the end; "the longest now
-- has 54,929 bytes" (document 02, #105), with the lines of 1,000 withdrawn relays.
pub longest-text :
    length (write_form header_form (1000 ∷ 3000 ∷ []))
    + 3000 * length (write_form link_form (998 ∷ 999 ∷ []))
    + 10 * length (write_form out_form (9 ∷ []))
    + 90 * length (write_form out_form (99 ∷ []))
    + 900 * length (write_form out_form (999 ∷ []))
    + length (write_form end_form [])
    ≡ 54929
unfolding opened
longest-text = refl
