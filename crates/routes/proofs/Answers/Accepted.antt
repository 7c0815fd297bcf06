-- Route on an accepted table: `one_tree_in` over the left table is the definition's `one_tree_of`, and where it holds,
-- `between_in` writes the definition's `routes_of` and `links_between` its `overs_of`.
use Prim.Native.Nat.{ℕ, pred, ◌+◌, ◌-◌, ◌*◌, ◌≤◌, ◌<◌, max}
use mathlib.Core.Bool.{true}
use mathlib.Core.List.{List, map}
use mathlib.Core.Logic.{◌≢◌, by_cases}
use mathlib.Core.Path.{◌≡◌, sym, ◌∙◌, ap, fun_ext}
use native.Mathlib.Decide.{dec_lt}
use native.Mathlib.Omega.{arith}
use borrow.Author.Tests.{lt-ltb, le-ltb}
use lib.ListN.{length, get_or, length-map}
use lib.Seq.{sets}
use Rattle.definitions.specs.Lists.{overwrite, join_all}
use Rattle.definitions.specs.Order.{order_of, place_of, relay_at}
use Rattle.definitions.specs.Forests.{Entry}
use Rattle.definitions.specs.Route.{left_of, routes_between, routes_of, one_tree_of}
use Rattle.definitions.specs.Over.{entry_of, overs_of}
use Rattle.definitions.specs.Network.{Accepted, Serving}
use Rattle.lists.specs.Overwritten.{get_or-overwrite-zeros}
use Rattle.lists.specs.Stores.{sets-overwrite}
use Rattle.lists.specs.Steps.{steps_of}
use Rattle.lists.specs.Cuts.{lengths-map, length-join_all-map}
use Rattle.theory.proofs.Trees.{Alive}
use Rattle.theory.specs.Accepted.{accepted}
use Rattle.theory.specs.ServingRelays.{serving-few}
use Rattle.theory.specs.Left.{left-laws}
use Rattle.theory.specs.Places.{relay-placed}
use Rattle.theory.specs.Arranged.{base-arranged}
use Rattle.theory.proofs.RelayTrees.{AliveBetween, places-differ}
use Rattle.theory.proofs.PlaceRoutes.{RoutesWithin}
use Rattle.theory.proofs.SweepRoutes.{routes-between}
use Rattle.theory.proofs.OverLinks.{place_link, pair_turn, overs-in}
use Rattle.forests.specs.Left.{LeftTable}
use Rattle.sweep.specs.Side.{table_entry, NoPaths}
use Rattle.routes.specs.Writing.{Written, written}
use Rattle.routes.specs.Between.{one_tree_in, between_in, links_between}
use Rattle.routes.proofs.Routes.Between.{routed-down, routed-up}
use Rattle.routes.proofs.Routes.Links.{linked-down, linked_up}
use Rattle.routes.proofs.Answers.Table.{table-left, table-link}
use Rattle.routes.proofs.Answers.OneTree.{one-tree-same, one-tree-falls, one-tree-rises}

-- The order's list in the front of a list of zeros gives the same relays.
pub front-relays : (order list : List ℕ) → ((i : ℕ) → get_or list i 0 ≡ 0) → relay_at (overwrite order list) ≡ relay_at order
unfolding relay_at
front-relays order list none = fun_ext λ v. get_or-overwrite-zeros order list none (pred v)

module _ (n : ℕ) (lows highs states : List ℕ) (k from to : ℕ) (ok : Accepted n lows highs states) (one : 1 ≤ k) (small : k ≤ 32)
    (source : Serving n states from) (goal : Serving n states to) (differ : from ≢ to) (old table ends : List ℕ) (made : LeftTable n k lows highs states old table ends) where
  abbrev p : ℕ
  p = place_of (order_of n lows highs states) from

  abbrev q : ℕ
  q = place_of (order_of n lows highs states) to

  abbrev look : ℕ → ℕ → Entry
  look = table_entry table ends n

  abbrev left : ℕ → ℕ → ℕ
  left = left_of n lows highs states

  upto-n : (r : ℕ) → Serving n states r → place_of (order_of n lows highs states) r ≤ n
  upto-n r serving = omega (arith, (relay-placed n lows highs states r serving).1, serving-few n states)

  apart : p ≢ q
  apart = places-differ n lows highs states from to source goal differ

  agree : (i x : ℕ) → 1 ≤ i → i ≤ k → (look i x).place ≡ left i x
  agree i x positive le = table-left n k lows highs states ok old table ends made i x positive le

  pub tree-tested : one_tree_in look k p q ≡ one_tree_of n lows highs states k from to
  unfolding one_tree_of
  tree-tested =
      one-tree-same left look (left-laws n lows highs states) k p q (λ x. agree k x one (omega arith))
      (relay-placed n lows highs states from source).0 (relay-placed n lows highs states to goal).0 apart

  module _ (joins : one_tree_in look k p q ≡ true) (order counts relays : List ℕ)
      (same : relay_at order ≡ relay_at (order_of n lows highs states)) (a b : List ℕ) (no_a : NoPaths n a) (no_b : NoPaths n b)
      (room_c : k ≤ length counts) (room_r : n - 2 + 2 * k ≤ length relays) where
    abbrev routes : List (List ℕ)
    routes = routes_between left k p q

    abbrev named : List (List ℕ)
    named = map (map (relay_at (order_of n lows highs states))) routes

    falls : q < p → Alive left k q p
    falls less =
        one-tree-falls left look (left-laws n lows highs states) k p q (λ x. agree k x one (omega arith))
        (relay-placed n lows highs states from source).0 (relay-placed n lows highs states to goal).0 apart less joins

    rises : p < q → Alive left k p q
    rises less =
        one-tree-rises left look (left-laws n lows highs states) k p q (λ x. agree k x one (omega arith))
        (relay-placed n lows highs states from source).0 (relay-placed n lows highs states to goal).0 apart less joins

    alive : AliveBetween left k p q
    alive =
        by_cases (dec_lt q p)
        (λ less x above upto. falls less x (omega arith) (omega arith))
        (λ more x above upto. rises (omega arith) x (omega arith) (omega arith))

    within : RoutesWithin left k (max p q) p q routes
    within =
        routes-between left (left-laws n lows highs states) k p q one (relay-placed n lows highs states from source).0 (relay-placed n lows highs states to goal).0 apart alive

    abbrev places_written : Written
    places_written =
        written (sets counts 0 (map length routes)) (sets relays 0 (join_all (map (map (relay_at order)) routes))) (length (join_all routes))

    swept : between_in a b look k p q order counts relays ≡ places_written
    unfolding between_in
    swept =
        by_cases (dec_lt q p)
        (λ less.
        rw (lt-ltb q p less)
        (routed-down left look (left-laws n lows highs states) k p q less (falls less) (relay-placed n lows highs states to goal).0 small agree
        n (accepted n lows highs states ok).few (upto-n from source) a b no_a no_b order counts relays))
        (λ more.
        rw (le-ltb q p (omega arith))
        (routed-up left look (left-laws n lows highs states) k q p (omega (arith, apart)) (rises (omega (arith, apart))) (relay-placed n lows highs states from source).0 small agree
        n (accepted n lows highs states ok).few (upto-n to goal) a b no_a no_b order counts relays))

    longest : length (join_all named) ≤ length relays
    longest =
        omega (
          arith,
          length-join_all-map (relay_at (order_of n lows highs states)) routes,
          within.written,
          upto-n from source,
          upto-n to goal,
        )

    pub routes-written : between_in a b look k p q order counts relays
        ≡ written (overwrite (map length (routes_of n lows highs states k from to)) counts)
        (overwrite (join_all (routes_of n lows highs states k from to)) relays)
        (length (join_all (routes_of n lows highs states k from to)))
    unfolding routes_of
    routes-written =
        swept
        ∙ ap (λ (f : ℕ → ℕ). written (sets counts 0 (map length routes)) (sets relays 0 (join_all (map (map f) routes))) (length (join_all routes))) same
        ∙ ap (λ (l : List ℕ). written l (sets relays 0 (join_all named)) (length (join_all routes)))
        (ap (sets counts 0) (sym (lengths-map (relay_at (order_of n lows highs states)) routes))
        ∙ sets-overwrite (map length named) counts
        (omega (arith, length-map named length, length-map routes (map (relay_at (order_of n lows highs states))), within.number)))
        ∙ ap (λ (l : List ℕ). written (overwrite (map length named) counts) l (length (join_all routes))) (sets-overwrite (join_all named) relays longest)
        ∙ ap (written (overwrite (map length named) counts) (overwrite (join_all named) relays)) (sym (length-join_all-map (relay_at (order_of n lows highs states)) routes))

    -- The links of the same routes.
    module _ (links : List ℕ) where
      abbrev between : ℕ → ℕ → ℕ
      between = place_link (order_of n lows highs states) lows highs

      turn : (x y : ℕ) → between x y ≡ between y x
      turn x y = pair_turn lows highs (relay_at (order_of n lows highs states) x) (relay_at (order_of n lows highs states) y)

      swept-links : links_between a b look k p q links ≡ sets links 0 (join_all (map (steps_of between) routes))
      unfolding links_between routes_between
      swept-links =
          by_cases (dec_lt q p)
          (λ less.
          rw (lt-ltb q p less)
          (linked-down left look (left-laws n lows highs states) k p q less (falls less) (relay-placed n lows highs states to goal).0 small agree between turn
          (table-link n k lows highs states ok old table ends made)
          n (accepted n lows highs states ok).few (upto-n from source) a b no_a no_b links))
          (λ more.
          rw (le-ltb q p (omega arith))
          (linked_up left look (left-laws n lows highs states) k q p (omega (arith, apart)) (rises (omega (arith, apart))) (relay-placed n lows highs states from source).0 small agree between turn
          (table-link n k lows highs states ok old table ends made)
          n (accepted n lows highs states ok).few (upto-n to goal) a b no_a no_b links))

      pub links-written : links_between a b look k p q links ≡ sets links 0 (join_all (overs_of n lows highs states k from to))
      unfolding overs_of entry_of left_of
      links-written =
          swept-links
          ∙ ap (λ (l : List (List ℕ)). sets links 0 (join_all l))
          (sym (overs-in (order_of n lows highs states) lows highs (base-arranged n lows highs states ok) k p q apart alive))
