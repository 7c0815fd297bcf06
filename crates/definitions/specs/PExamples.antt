-- The examples that document 01 marks P, from the definitions by computation, in one statement over one list; those of the mesh
-- as they come out from relay 2 on: "the mesh starts at 2 and has its examples worked out anew" (document 02, #104).
-- Assumes nothing.
use Rattle.std.specs.Prelude.{ℕ, List, [], ◌∷◌, ◌++◌, refl, replicate}
use Rattle.definitions.specs.Outcome.{refused, done}
use Rattle.definitions.specs.Networks.{
  Result,
  Example,
  AllHold,
  square,
  full_four,
  mesh,
  bare,
  lent,
  pair_of,
  order_with,
  split_with,
  cut_with,
  route_with,
}
use Rattle.definitions.specs.Opened.{opened}

-- The result of Route with lists of lengths 40, 80 and 200: so many relays, the counts, the relays; scratch zeroed.
abbrev routed : (written : ℕ) (counts counts' relays relays' : List ℕ) → Result
routed written counts counts' relays relays' =
    record { answer = done (written ∷ []); lists = (counts ++ counts') ∷ (relays ++ relays') ∷ replicate 200 0 ∷ [] }

-- 13: the two lists as they were, scratch zeroed.
abbrev apart : Result
apart = record { answer = refused 13 0; lists = lent 40 ∷ lent 80 ∷ replicate 200 0 ∷ [] }

abbrev pub p_examples : List Example
p_examples =
    -- P1 square: order 0 1 2 3; forests by link 1 1 2 1.
    record {
      found = order_with 4 square;
      due = record { answer = done []; lists = (0 ∷ 1 ∷ 2 ∷ 3 ∷ []) ∷ (1 ∷ 2 ∷ 3 ∷ 4 ∷ []) ∷ [] };
    }
    ∷ record {
      found = split_with 6 square;
      due = record { answer = done (2 ∷ []); lists = (1 ∷ 1 ∷ 2 ∷ 1 ∷ 7 ∷ 7 ∷ []) ∷ [] };
    }
    -- P2 square, 3 to 2, k 2: 3 0 1 2 and 3 2.
    ∷ record {
      found = route_with 40 80 200 square 3 2 2;
      due = routed 6 (4 ∷ 2 ∷ []) (lent 38) (3 ∷ 0 ∷ 1 ∷ 2 ∷ 3 ∷ 2 ∷ []) (lent 74);
    }
    -- P3 square, 0 to 2, k 2: 13.
    ∷ record { found = route_with 40 80 200 square 0 2 2; due = apart }
    -- P4 full four, 3 to 2, k 3: 3 0 2, 3 1 2, 3 2.
    ∷ record {
      found = route_with 40 80 200 full_four 3 2 3;
      due = routed 8 (3 ∷ 3 ∷ 2 ∷ []) (lent 37) (3 ∷ 0 ∷ 2 ∷ 3 ∷ 1 ∷ 2 ∷ 3 ∷ 2 ∷ []) (lent 72);
    }
    -- P5 mesh: order 2 0 1 3 4; forests 2 1 1 2 1 1 2.
    ∷ record {
      found = order_with 6 mesh;
      due =
          record {
            answer = done [];
            lists = (2 ∷ 0 ∷ 1 ∷ 3 ∷ 4 ∷ 7 ∷ []) ∷ (2 ∷ 3 ∷ 1 ∷ 4 ∷ 5 ∷ 7 ∷ []) ∷ [];
          };
    }
    ∷ record {
      found = split_with 7 mesh;
      due = record { answer = done (2 ∷ []); lists = (2 ∷ 1 ∷ 1 ∷ 2 ∷ 1 ∷ 1 ∷ 2 ∷ []) ∷ [] };
    }
    -- P6 mesh, 4 to 1, k 2: 4 2 1 and 4 3 1.
    ∷ record {
      found = route_with 40 80 200 mesh 4 1 2;
      due = routed 6 (3 ∷ 3 ∷ []) (lent 38) (4 ∷ 2 ∷ 1 ∷ 4 ∷ 3 ∷ 1 ∷ []) (lent 74);
    }
    -- P7 mesh, 1 to 4, k 2: 1 2 4 and 1 3 4.
    ∷ record {
      found = route_with 40 80 200 mesh 1 4 2;
      due = routed 6 (3 ∷ 3 ∷ []) (lent 38) (1 ∷ 2 ∷ 4 ∷ 1 ∷ 3 ∷ 4 ∷ []) (lent 74);
    }
    -- P8 mesh, 4 to 1, k 1: 4 2 1.
    ∷ record {
      found = route_with 40 80 200 mesh 4 1 1;
      due = routed 3 (3 ∷ []) (lent 39) (4 ∷ 2 ∷ 1 ∷ []) (lent 77);
    }
    -- P9 mesh cut to 1: marks 0 1 1 0 1 1 0, count 4.
    ∷ record {
      found = cut_with 8 mesh 1;
      due = record { answer = done (4 ∷ []); lists = (0 ∷ 1 ∷ 1 ∷ 0 ∷ 1 ∷ 1 ∷ 0 ∷ 7 ∷ []) ∷ [] };
    }
    -- P10 one relay, no link, cut to 32: count 0; highest forest 0.
    ∷ record { found = cut_with 1 (bare 1) 32; due = record { answer = done (0 ∷ []); lists = lent 1 ∷ [] } }
    ∷ record { found = split_with 1 (bare 1); due = record { answer = done (0 ∷ []); lists = lent 1 ∷ [] } }
    -- P11 two relays, no link, 0 to 1, k 1: 13.
    ∷ record { found = route_with 40 80 200 (bare 2) 0 1 1; due = apart }
    -- P12 pair numbers: 0 1 is 0; 998 999 is 499,499.
    ∷ record { found = pair_of 0 1; due = record { answer = done (0 ∷ []); lists = [] } }
    ∷ record { found = pair_of 998 999; due = record { answer = done (499499 ∷ []); lists = [] } }
    ∷ []

pub p-examples-hold : AllHold p_examples
unfolding opened
p-examples-hold = refl
