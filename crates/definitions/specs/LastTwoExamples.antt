-- Document 02, #107, on the networks of document 01: which relays are the last two of the order, the sure figure d and Route's d routes
-- between them; of the mesh in both directions, and with 13 for one route more. By computation. Assumes nothing.
use Rattle.std.specs.Prelude.{ℕ, List, [], ◌∷◌, refl, replicate}
use Rattle.definitions.specs.Outcome.{refused, done}
use Rattle.definitions.specs.Order.{order_answer, relays_after}
use Rattle.definitions.specs.Text.{Network}
use Rattle.definitions.specs.LastTwo.{last_relay, last_but_one, sure_figure}
use Rattle.definitions.specs.Networks.{Example, AllHold, square, full_four, mesh, lent, route_with}
use Rattle.definitions.specs.Opened.{opened}
use Rattle.definitions.specs.StateExamples.{without_two}

-- The last relay of the order as Order lists it, the one before it, and the sure figure.
abbrev figures : (w : Network) (relays : List ℕ) → List ℕ
figures w relays =
    last_relay w.relays w.states relays
    ∷ last_but_one w.relays w.states relays
    ∷ sure_figure w.relays w.lows w.highs w.states relays
    ∷ []

abbrev quoted : (w : Network) (last before figure : ℕ) → Example
quoted w last before figure =
    record {
      found =
          record {
            answer = order_answer w.relays w.lows w.highs w.states (lent 9) (lent 9);
            lists = figures w (relays_after w.relays w.lows w.highs w.states (lent 9) (lent 9)) ∷ [];
          };
      due = record { answer = done []; lists = (last ∷ before ∷ figure ∷ []) ∷ [] };
    }

-- Route with lists long enough for three routes among five relays: counts and relays afterwards, scratch zeroed.
abbrev routed : (w : Network) (from to k written : ℕ) (counts relays : List ℕ) → Example
routed w from to k written counts relays =
    record {
      found = route_with 3 9 15 w from to k;
      due = record { answer = done (written ∷ []); lists = counts ∷ relays ∷ replicate 15 0 ∷ [] };
    }

-- 13: the two lists as they were, scratch zeroed.
abbrev one_more : (w : Network) (from to k : ℕ) → Example
one_more w from to k =
    record { found = route_with 3 9 15 w from to k; due = record { answer = refused 13 0; lists = lent 3 ∷ lent 9 ∷ replicate 15 0 ∷ [] } }

abbrev pub last_two_examples : List Example
last_two_examples =
    -- Mesh, order 2 0 1 3 4: Route gives 2 routes between 4 and 3, 4 2 3 and 4 3, and 13 for a third. That no list has 3 routes is not
    -- said by 13; the bound of #107 says it (`theory/Mesh`).
    quoted mesh 4 3 2
    ∷ routed mesh 4 3 2 5 (3 ∷ 2 ∷ 7 ∷ []) (4 ∷ 2 ∷ 3 ∷ 4 ∷ 3 ∷ 7 ∷ 7 ∷ 7 ∷ 7 ∷ [])
    ∷ routed mesh 3 4 2 5 (3 ∷ 2 ∷ 7 ∷ []) (3 ∷ 2 ∷ 4 ∷ 3 ∷ 4 ∷ 7 ∷ 7 ∷ 7 ∷ 7 ∷ [])
    ∷ one_more mesh 4 3 3
    ∷ one_more mesh 3 4 3
    -- Mesh without relay 2, order 1 0 3 4: relay 4 has one link to a relay in service.
    ∷ quoted without_two 4 3 1
    ∷ routed without_two 4 3 1 2 (2 ∷ 7 ∷ 7 ∷ []) (4 ∷ 3 ∷ 7 ∷ 7 ∷ 7 ∷ 7 ∷ 7 ∷ 7 ∷ 7 ∷ [])
    ∷ one_more without_two 4 3 2
    -- Full four, order 0 1 2 3.
    ∷ quoted full_four 3 2 3
    ∷ routed full_four 2 3 3 8 (3 ∷ 3 ∷ 2 ∷ []) (2 ∷ 0 ∷ 3 ∷ 2 ∷ 1 ∷ 3 ∷ 2 ∷ 3 ∷ 7 ∷ [])
    -- Square, order 0 1 2 3.
    ∷ quoted square 3 2 2
    ∷ routed square 2 3 2 6 (4 ∷ 2 ∷ 7 ∷ []) (2 ∷ 1 ∷ 0 ∷ 3 ∷ 2 ∷ 3 ∷ 7 ∷ 7 ∷ 7 ∷ [])
    ∷ []

pub last-two-examples-hold : AllHold last_two_examples
unfolding opened
last-two-examples-hold = refl
