-- The links of the routes are the links that join each relay of a route to the next: at each step the index is that of the one
-- link of the table that does. From what the look-ups gave along the paths, and "at most one for each two".
-- Over any order; then for the base and accepted networks.
use Prim.Native.Nat.{ℕ, ◌+◌, ◌-◌, ◌≤◌, ◌<◌}
use Rattle.std.specs.Prelude.{Bool, true, ◌≢◌, ◌≡◌, length}
use mathlib.Core.List.{List, [], ◌∷◌, map}
use Rattle.std.proofs.Common.{sym, ◌∙◌, arith}
use Rattle.std.proofs.Math.Path.{ap, fun_ext}
use Rattle.definitions.specs.Lists.{first_from, join_all}
use Rattle.definitions.specs.Network.{is_pair, joins, Accepted, Serving}
use Rattle.definitions.specs.Order.{order_of, place_of, relay_at}
use Rattle.definitions.specs.Forests.{left_entry, forests_of, marks_of}
use Rattle.definitions.specs.Route.{left_of, routes_between, routes_of, one_tree_of}
use Rattle.definitions.specs.Over.{overs_between, entry_of, overs_of, OverFrom, OverHolds}
use Rattle.definitions.specs.DisjointRoutes.{LinkOf, AlongFrom, Along}
use Rattle.lists.specs.Tests.{or_turn}
use Rattle.lists.specs.Searches.{first_holds}
use Rattle.lists.specs.Maps.{map-map}
use Rattle.lists.specs.Steps.{steps_of, steps_of-map, length-all-steps}
use Rattle.theory.specs.Arranged.{left_in, Arranged, base-arranged}
use Rattle.theory.proofs.RelayTrees.{AliveBetween, places-differ, one-tree-alive, one-tree-test}
use Rattle.theory.proofs.ForestBound.{forests-at}
use Rattle.theory.proofs.Columns.{mark-entry}
use Rattle.theory.proofs.RelayRoutes.{routes-hold}
use Rattle.theory.specs.LeftEntries.{entry_in, EntryLink, entry-link-in, entry-joins-in}
use Rattle.theory.proofs.OverSteps.{over-steps}

-- The link of the table that joins a and b; 0 if there is none.
unfoldable pub pair_link : (lows highs : List ℕ) (a b : ℕ) → ℕ
pair_link lows highs a b = first_from (joins lows highs a b) 0 (length lows)

module _ (lows highs : List ℕ) where
  joins-turn : (a b i : ℕ) → joins lows highs a b i ≡ joins lows highs b a i
  unfolding joins
  joins-turn a b i = or_turn (is_pair lows highs a b i) (is_pair lows highs b a i)

  pub pair_turn : (a b : ℕ) → pair_link lows highs a b ≡ pair_link lows highs b a
  unfolding pair_link
  pair_turn a b = ap (λ (test : ℕ → Bool). first_from test 0 (length lows)) (fun_ext (joins-turn a b))

  -- It joins them, if some link does.
  pair-joins : (a b i : ℕ) → i < length lows → joins lows highs a b i ≡ true
      → (pair_link lows highs a b < length lows) × (joins lows highs a b (pair_link lows highs a b) ≡ true)
  unfolding pair_link
  pair-joins a b i h e =
      let w = first_holds (joins lows highs a b) (length lows) 0 i (omega arith) (omega arith) e in
      (omega (arith, w.upto), w.passes)

  module _ (once : (a b i j : ℕ) → i < length lows → j < length lows → joins lows highs a b i ≡ true → joins lows highs a b j ≡ true → i ≡ j) where
    pair_one : (a b i : ℕ) → i < length lows → joins lows highs a b i ≡ true → i ≡ pair_link lows highs a b
    pair_one a b i h e =
        let w = pair-joins a b i h e in
        once a b i (pair_link lows highs a b) h w.0 e w.1

    -- The links of a route's steps hold, whichever links of the table it runs along.
    over-from : (picked : ℕ → Type 0) (a : ℕ) (rest : List ℕ) → AlongFrom (LinkOf lows highs picked) a rest
        → OverFrom lows highs a rest (steps_of (pair_link lows highs) (a ∷ rest))
    unfolding steps_of
    over-from picked a [] along = tt
    over-from picked a (b ∷ rest) along =
        let l = along.0 in
        let w = pair-joins a b l.0 l.1 l.2 in
        ((w.0, w.1, pair_one a b), over-from picked b rest along.1)

    pub over-holds : (picked : ℕ → Type 0) (route : List ℕ) → 1 ≤ length route → Along (LinkOf lows highs picked) route
        → OverHolds lows highs route (steps_of (pair_link lows highs) route)
    over-holds picked [] some along = omega arith
    over-holds picked (a ∷ rest) some along = over-from picked a rest along

-- The link between the relays at two places of an order.
abbrev pub place_link : (order lows highs : List ℕ) (x y : ℕ) → ℕ
place_link order lows highs x y = pair_link lows highs (relay_at order x) (relay_at order y)

module _ (order lows highs : List ℕ) (arranged : Arranged order lows highs) where
  -- Each look-up gives the link between its two places.
  pub look-gives : (h x : ℕ) → 0 < (entry_in order lows highs h x).place
      → (entry_in order lows highs h x).link ≡ place_link order lows highs (entry_in order lows highs h x).place x
  unfolding left_entry
  look-gives h x some =
      let e : EntryLink order lows highs h x (entry_in order lows highs h x).link = entry-link-in order lows highs arranged h x some in
      pair_one lows highs arranged.once (relay_at order (left_in order lows highs h x)) (relay_at order x)
      (entry_in order lows highs h x).link e.within (entry-joins-in order lows highs arranged h x (entry_in order lows highs h x).link e)

  -- The links of the routes between two places.
  pub overs-in : (k p q : ℕ) → p ≢ q → AliveBetween (left_in order lows highs) k p q
      → overs_between (entry_in order lows highs) k p q ≡ map (steps_of (place_link order lows highs)) (routes_between (left_in order lows highs) k p q)
  unfolding left_entry
  overs-in k p q differ alive =
      over-steps (entry_in order lows highs) (place_link order lows highs)
      (λ x y. pair_turn lows highs (relay_at order x) (relay_at order y)) look-gives arranged.laws k p q differ alive

-- The base: the links of Route's routes.
pub overs-found : (n : ℕ) (lows highs states : List ℕ) → Accepted n lows highs states → (k from to : ℕ) → Serving n states from → Serving n states to → from ≢ to
    → AliveBetween (left_of n lows highs states) k (place_of (order_of n lows highs states) from) (place_of (order_of n lows highs states) to)
    → overs_of n lows highs states k from to ≡ map (steps_of (pair_link lows highs)) (routes_of n lows highs states k from to)
unfolding overs_of entry_of left_of routes_of
overs-found n lows highs states ok k from to hf ht differ alive =
    let order : List ℕ = order_of n lows highs states in
    let routes : List (List ℕ) = routes_between (left_in order lows highs) k (place_of order from) (place_of order to) in
    overs-in order lows highs (base-arranged n lows highs states ok) k (place_of order from) (place_of order to)
    (places-differ n lows highs states from to hf ht differ) alive
    ∙ ap (λ (f : List ℕ → List ℕ). map f routes) (fun_ext λ l. sym (steps_of-map (pair_link lows highs) (relay_at order) l))
    ∙ sym (map-map (steps_of (pair_link lows highs)) (map (relay_at order)) routes)

-- The base, from Route's test of one tree.
module _ (n : ℕ) (lows highs states : List ℕ) (ok : Accepted n lows highs states) (k : ℕ) (one : 1 ≤ k) (from to : ℕ) (hf : Serving n states from) (ht : Serving n states to) (differ : from ≢ to)
    (tree : one_tree_of n lows highs states k from to ≡ true) where
  pub tree-between : AliveBetween (left_of n lows highs states) k (place_of (order_of n lows highs states) from) (place_of (order_of n lows highs states) to)
  tree-between =
      (one-tree-alive n lows highs states ok (forests_of n lows highs states) (forests-at n lows highs states) k one from to hf ht differ).0
      ((one-tree-test n lows highs states ok (forests_of n lows highs states) (forests-at n lows highs states) k one from to hf ht differ).1 tree)

  -- On each route one link less than relays: n − 2 + k at most in all.
  pub overs-fit : length (join_all (overs_of n lows highs states k from to)) ≤ n - 2 + k
  overs-fit =
      let routes : List (List ℕ) = routes_of n lows highs states k from to in
      let holds = routes-hold n lows highs states ok k one (marks_of n lows highs states k) (mark-entry n lows highs states k) from to hf ht differ tree-between in
      omega (
        arith,
        ap (λ (l : List (List ℕ)). length (join_all l)) (overs-found n lows highs states ok k from to hf ht differ tree-between),
        length-all-steps (pair_link lows highs) routes (λ i less. omega (arith, (holds.disjoint.each i less).runs.long)),
        holds.number,
        holds.written,
      )
