-- Document 01, 'Where planners have gone astray': for each mistake a network on which it gives another answer.
-- The networks were found by search; the mistakes that are edits of a definition stand in must-fail/. Assumes nothing.
use Rattle.std.specs.Prelude.{ℕ, zero, suc, ◌<◌, Bool, true, false, ◌||◌, List, [], ◌∷◌, ◌⊎◌, ◌≡◌, refl, eqb, length, replicate}
use Rattle.std.proofs.Common.{inl, inr, arith, eqb-true}
use Rattle.definitions.specs.Outcome.{refused}
use Rattle.definitions.specs.Lists.{has}
use Rattle.definitions.specs.Network.{Serving}
use Rattle.definitions.specs.Forests.{forests_of}
use Rattle.definitions.specs.Route.{route_answer, routes_of}
use Rattle.definitions.specs.Text.{Network}
use Rattle.definitions.specs.DisjointRoutes.{LinkOf, InService, Along, uses, RouteHolds, Apart}
use Rattle.definitions.specs.Demand.{InForest}
use Rattle.definitions.specs.Networks.{square, lent}
use Rattle.definitions.specs.Opened.{opened}

abbrev routes : (w : Network) (from to k : ℕ) → List (List ℕ)
routes w from to k = routes_of w.relays w.lows w.highs w.states k from to

-- Six relays: 0 1, 0 2, 1 2, 0 3, 1 3, 0 4, 1 5, 2 5. The order is 0 1 2 3 5 4.
abbrev six : Network
six =
    record {
      relays = 6;
      lows = 0 ∷ 0 ∷ 1 ∷ 0 ∷ 1 ∷ 0 ∷ 1 ∷ 2 ∷ [];
      highs = 1 ∷ 2 ∷ 2 ∷ 3 ∷ 3 ∷ 4 ∷ 5 ∷ 5 ∷ [];
      states = replicate 6 1;
    }

-- A route of the six relays along links of forest f alone.
abbrev six_along : (f : ℕ) (route : List ℕ) → Type 0
six_along f = Along (LinkOf six.lows six.highs (InForest (forests_of 6 six.lows six.highs six.states) f))

-- "Walking each forest's own tree path." Here these are 5 1 0 3 and 5 2 1 3, which share relay 1.
pub not-tree-paths :
    (routes six 5 3 2 ≡ (5 ∷ 2 ∷ 0 ∷ 3 ∷ []) ∷ (5 ∷ 1 ∷ 3 ∷ []) ∷ [])
    × six_along 1 (5 ∷ 1 ∷ 0 ∷ 3 ∷ [])
    × six_along 2 (5 ∷ 2 ∷ 1 ∷ 3 ∷ [])
unfolding opened
not-tree-paths = (
  refl,
  ((6, omega arith, refl, refl), ((0, omega arith, refl, refl), ((3, omega arith, refl, refl), tt))),
  ((7, omega arith, refl, refl), ((2, omega arith, refl, refl), ((4, omega arith, refl, refl), tt))),
)

-- "Taking 13 to mean that no routes exist. P3 has two": Route refuses, and over all the links of the square 0 1 2 and
-- 0 3 2 are routes that share the ends alone.
abbrev square_route : List ℕ → Type 0
square_route =
    RouteHolds 4 square.lows square.highs square.states (InService square.lows square.highs square.states) 0 2

not-both : false ≡ true → ⊥
not-both e = let z : ◌≡◌ {A = ℕ} 0 1 = cc in omega arith

-- A relay of three is one of them.
one_of : (a b c r : ℕ) → has (a ∷ b ∷ c ∷ []) r ≡ true → (a ≡ r) ⊎ ((b ≡ r) ⊎ (c ≡ r))
unfolding has
one_of a b c r = go (eqb a r) (eqb b r) (eqb c r) refl refl refl
  where
    go : (p q s : Bool) → eqb a r ≡ p → eqb b r ≡ q → eqb c r ≡ s → (p || (q || (s || false))) ≡ true
        → (a ≡ r) ⊎ ((b ≡ r) ⊎ (c ≡ r))
    go true q s ea eb ec h = inl (eqb-true a r ea)
    go false true s ea eb ec h = inr (inl (eqb-true b r eb))
    go false false true ea eb ec h = inr (inr (eqb-true c r ec))
    go false false false ea eb ec h = absurd (not-both h)

-- All four relays of the square are in service, and so are those of each of the two routes.
square-serves : (r : ℕ) → r < 4 → Serving 4 square.states r
unfolding opened
square-serves zero h = (h, refl)
square-serves (suc zero) h = (h, refl)
square-serves (suc (suc zero)) h = (h, refl)
square-serves (suc (suc (suc zero))) h = (h, refl)
square-serves (suc (suc (suc (suc r)))) h = absurd (omega arith)

square-through : (b : ℕ) → b < 4 → (r : ℕ) → has (0 ∷ b ∷ 2 ∷ []) r ≡ true → Serving 4 square.states r
square-through b low r h = square-serves r (go (one_of 0 b 2 r h))
  where
    go : (0 ≡ r) ⊎ ((b ≡ r) ⊎ (2 ≡ r)) → r < 4
    go (inl e) = omega arith
    go (inr (inl e)) = omega arith
    go (inr (inr e)) = omega arith

square-relays : (r : ℕ) → has (0 ∷ 1 ∷ 2 ∷ []) r ≡ true → has (0 ∷ 3 ∷ 2 ∷ []) r ≡ true → (r ≡ 0) ⊎ (r ≡ 2)
square-relays r h l = go (one_of 0 1 2 r h) (one_of 0 3 2 r l)
  where
    go : (0 ≡ r) ⊎ ((1 ≡ r) ⊎ (2 ≡ r)) → (0 ≡ r) ⊎ ((3 ≡ r) ⊎ (2 ≡ r)) → (r ≡ 0) ⊎ (r ≡ 2)
    go (inl e) other = inl (omega arith)
    go (inr (inr e)) other = inr (omega arith)
    go (inr (inl e)) (inl d) = absurd (omega arith)
    go (inr (inl e)) (inr (inl d)) = absurd (omega arith)
    go (inr (inl e)) (inr (inr d)) = absurd (omega arith)

square-links : (i : ℕ) → i < length square.lows → uses square.lows square.highs i (0 ∷ 1 ∷ 2 ∷ []) ≡ true
    → uses square.lows square.highs i (0 ∷ 3 ∷ 2 ∷ []) ≡ true → ⊥
unfolding opened
square-links zero h one other = not-both other
square-links (suc zero) h one other = not-both other
square-links (suc (suc zero)) h one other = not-both one
square-links (suc (suc (suc zero))) h one other = not-both one
square-links (suc (suc (suc (suc i)))) h one other = omega arith

pub thirteen-with-routes :
    (route_answer 4 square.lows square.highs square.states 2 0 2 (lent 2) (lent 6) (lent 8) ≡ refused 13 0)
    × square_route (0 ∷ 1 ∷ 2 ∷ [])
    × square_route (0 ∷ 3 ∷ 2 ∷ [])
    × Apart square.lows square.highs 0 2 (0 ∷ 1 ∷ 2 ∷ []) (0 ∷ 3 ∷ 2 ∷ [])
unfolding opened
thirteen-with-routes = (
  refl,
  record {
    runs = record {
      long = omega arith;
      starts = refl;
      ends = refl;
      along = ((0, omega arith, refl, refl), ((1, omega arith, refl, refl), tt));
      through = square-through 1 (omega arith);
    };
    no_repeat = (refl, (refl, (refl, tt)));
  },
  record {
    runs = record {
      long = omega arith;
      starts = refl;
      ends = refl;
      along = ((3, omega arith, refl, refl), ((2, omega arith, refl, refl), tt));
      through = square-through 3 (omega arith);
    };
    no_repeat = (refl, (refl, (refl, tt)));
  },
  record { relays = square-relays; links = square-links },
)

-- "Closing an A-path and a B-path of different indices where they meet (document 002, figure 4)." Here the routes would
-- come out as 5 3 1 and 5 2 4 1, and 5 2 is no link.
abbrev crossing : Network
crossing =
    record {
      relays = 6;
      lows = 4 ∷ 2 ∷ 1 ∷ 3 ∷ 0 ∷ 0 ∷ 0 ∷ 2 ∷ 1 ∷ 0 ∷ [];
      highs = 5 ∷ 4 ∷ 3 ∷ 5 ∷ 2 ∷ 4 ∷ 3 ∷ 3 ∷ 4 ∷ 5 ∷ [];
      states = replicate 6 1;
    }

pub one-index-for-both : routes crossing 5 1 2 ≡ (5 ∷ 0 ∷ 4 ∷ 1 ∷ []) ∷ (5 ∷ 3 ∷ 1 ∷ []) ∷ []
unfolding opened
one-index-for-both = refl

-- "Exchanging before replacing, so that left is looked up under the new index." Of the six relays again: the first route would
-- come out as 5 2 1 3, its path left at relay 1, where the second goes; carried on under its own index, as 5 2 1 0 3.
pub replaced-before-exchanged : routes six 5 3 2 ≡ (5 ∷ 2 ∷ 0 ∷ 3 ∷ []) ∷ (5 ∷ 1 ∷ 3 ∷ []) ∷ []
unfolding opened
replaced-before-exchanged = refl

-- "Ranking earlier neighbours by relay number instead of place." Here the order is 1 0 2 3, and the forests would come out as
-- 1 1 2 1.
abbrev renumbered : Network
renumbered = record { relays = 4; lows = 0 ∷ 0 ∷ 1 ∷ 1 ∷ []; highs = 1 ∷ 2 ∷ 2 ∷ 3 ∷ []; states = replicate 4 1 }

pub ranked-by-place : forests_of 4 renumbered.lows renumbered.highs renumbered.states ≡ 1 ∷ 2 ∷ 1 ∷ 1 ∷ []
unfolding opened
ranked-by-place = refl
