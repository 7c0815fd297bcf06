-- `swept_in` and `write_from` on the two sides' lists write the definition's `routes_between` two places. Over any `left` with the
-- laws, where the two are in one tree of forest k, places up to 1,000 and k up to 32.
use Prim.Native.Nat.{ℕ, suc, ◌≤◌, ◌<◌}
use mathlib.Core.List.{List, [], ◌∷◌, ◌++◌, map, reverse, reverse_aux, reverse_aux-eq, reverse_aux-reverse_aux-nil, tail, append_assoc}
use mathlib.Core.Path.{◌≡◌, sym, ◌∙◌, ap, subst}
use native.Mathlib.Nat.{zero-add}
use native.Mathlib.Omega.{arith}
use lib.ListN.{length, get_or, length-map}
use lib.Seq.{sets}
use borrow.Author.Tests.{lt-ltb, le-ltb}
use Rattle.definitions.specs.Lists.{join_all}
use Rattle.definitions.specs.Order.{relay_at}
use Rattle.definitions.specs.Forests.{Entry}
use Rattle.definitions.specs.Sweep.{slot_at, slot_route, sweep_routes}
use Rattle.definitions.specs.Route.{routes_between}
use Rattle.lists.specs.Maps.{get_or-map}
use Rattle.theory.specs.PlaceSweep.{Slot, sweep}
use Rattle.theory.specs.LeftLaws.{LeftLaws}
use Rattle.theory.proofs.Trees.{Alive}
use Rattle.theory.proofs.SweepPaths.{trail-length}
use Rattle.theory.proofs.SweepInvariant.{ClosedSlot}
use Rattle.theory.proofs.SweepHolds.{sweep-ends}
use Rattle.theory.proofs.SweepRoutes.{sweep-length, get_or-sweep_routes}
use Rattle.theory.proofs.NothingShared.{all_closed}
use Rattle.sweep.specs.Side.{NoPaths}
use Rattle.sweep.specs.Sides.{Sides, swept_in}
use Rattle.sweep.proofs.Paths.Side.{HoldsPath}
use Rattle.sweep.proofs.Paths.Sweep.{swept-holds}
use Rattle.routes.specs.Writing.{written, write_from}
use Rattle.routes.proofs.Routes.Write.{HoldsRoute, routes-write}

module _ (left : ℕ → ℕ → ℕ) (look : ℕ → ℕ → Entry) (laws : LeftLaws left) (k s t : ℕ) (less : t < s) (alive : Alive left k t s) (positive : 1 ≤ t)
    (small : k ≤ 32) (agree : (i x : ℕ) → 1 ≤ i → i ≤ k → (look i x).place ≡ left i x)
    (n : ℕ) (few : n ≤ 1000) (high : s ≤ n) (a b : List ℕ) (no_a : NoPaths n a) (no_b : NoPaths n b) where
  abbrev out : Sides
  out = swept_in look k s t a b

  module _ (h : ℕ) (within : h < k) where
    abbrev slot : Slot
    slot = slot_at (sweep left k s t) (suc h)

    closed : ClosedSlot left k s t 0 (suc h) slot
    closed =
        (sweep-ends left laws k s t less alive).closed (suc h) (omega arith) within
        (all_closed left laws k s t less (slot_at (sweep left k s t)) (sweep-ends left laws k s t less alive) (suc h) (omega arith) within)

    held_a : HoldsPath out.side_a (suc h) (closed.meet ∷ closed.before ∷ closed.rest_a)
    held_a =
        subst (λ (p : List ℕ). HoldsPath out.side_a (suc h) p) closed.shape_a
        ((swept-holds left look laws k s t less alive positive small agree n high a b no_a no_b).held_a.held (suc h) (omega arith) within)

    held_b : HoldsPath out.side_b (suc h) (closed.meet ∷ closed.rest_b)
    held_b =
        subst (λ (p : List ℕ). HoldsPath out.side_b (suc h) p) closed.shape_b
        ((swept-holds left look laws k s t less alive positive small agree n high a b no_a no_b).held_b.held (suc h) (omega arith) within)

    shape : get_or (sweep_routes left k s t) h [] ≡ reverse_aux (closed.before ∷ closed.rest_a) (closed.meet ∷ closed.rest_b)
    unfolding slot_route
    shape =
        get_or-sweep_routes left k s t h
        ∙ ap (λ (p : List ℕ). reverse p ++ tail slot.path_b) closed.shape_a
        ∙ ap (λ (p : List ℕ). reverse (closed.meet ∷ closed.before ∷ closed.rest_a) ++ tail p) closed.shape_b
        ∙ ap (λ (l : List ℕ). l ++ closed.rest_b) (reverse_aux-eq (closed.before ∷ closed.rest_a) (closed.meet ∷ []))
        ∙ append_assoc (reverse (closed.before ∷ closed.rest_a)) (closed.meet ∷ []) closed.rest_b
        ∙ sym (reverse_aux-eq (closed.before ∷ closed.rest_a) (closed.meet ∷ closed.rest_b))

    short_a : length (closed.before ∷ closed.rest_a) ≤ 1000
    short_a = omega (arith, trail-length left laws k s closed.meet (closed.before ∷ closed.rest_a) closed.trail_a)

    short_b : length closed.rest_b ≤ 1000
    short_b = omega (arith, trail-length left laws k t closed.meet closed.rest_b closed.trail_b)

    pub falling : HoldsRoute out.side_a out.side_b (suc h) (get_or (sweep_routes left k s t) h [])
    falling =
        record {
          meet = closed.meet;
          down = closed.before ∷ closed.rest_a;
          up = closed.rest_b;
          some = closed.above;
          shape = shape;
          held_down = held_a;
          held_up = held_b;
          short_down = short_a;
          short_up = short_b;
        }

    pub turned : HoldsRoute out.side_b out.side_a (suc h) (reverse (get_or (sweep_routes left k s t) h []))
    turned =
        record {
          meet = closed.meet;
          down = closed.rest_b;
          up = closed.before ∷ closed.rest_a;
          some = closed.above;
          shape = ap reverse shape ∙ reverse_aux-reverse_aux-nil (closed.before ∷ closed.rest_a) (closed.meet ∷ closed.rest_b);
          held_down = held_b;
          held_up = held_a;
          short_down = short_b;
          short_up = short_a;
        }

  pub routes-length : length (sweep_routes left k s t) ≡ k
  unfolding sweep_routes
  routes-length = length-map (sweep left k s t) slot_route ∙ sweep-length left k s t

  module _ (order counts relays : List ℕ) where
    -- All routes, as the two sides in this order give them.
    whole : (front back : List ℕ) (routes : List (List ℕ)) → length routes ≡ k
        → ((h : ℕ) → h < k → HoldsRoute front back (suc h) (get_or routes h []))
        → write_from front back order k 0 0 counts relays
        ≡ written (sets counts 0 (map length routes)) (sets relays 0 (join_all (map (map (relay_at order)) routes))) (length (join_all routes))
    whole front back routes number held =
        ap (λ (x : ℕ). write_from front back order x 0 0 counts relays) (sym number)
        ∙ routes-write front back order routes 0 0 counts relays
        (λ h under. subst (λ (x : ℕ). HoldsRoute front back x (get_or routes h [])) (omega arith) (held h (omega arith)))
        ∙ ap (λ (x : ℕ). written (sets counts 0 (map length routes)) (sets relays 0 (join_all (map (map (relay_at order)) routes))) x)
        (zero-add (length (join_all routes)))

    -- From s to t.
    pub routed-down : write_from out.side_a out.side_b order k 0 0 counts relays
        ≡ written (sets counts 0 (map length (routes_between left k s t)))
        (sets relays 0 (join_all (map (map (relay_at order)) (routes_between left k s t))))
        (length (join_all (routes_between left k s t)))
    unfolding routes_between
    routed-down = rw (lt-ltb t s less) (whole out.side_a out.side_b (sweep_routes left k s t) routes-length falling)

    -- From t to s.
    pub routed-up : write_from out.side_b out.side_a order k 0 0 counts relays
        ≡ written (sets counts 0 (map length (routes_between left k t s)))
        (sets relays 0 (join_all (map (map (relay_at order)) (routes_between left k t s))))
        (length (join_all (routes_between left k t s)))
    unfolding routes_between
    routed-up =
        rw (le-ltb s t (omega arith))
        (whole out.side_b out.side_a (map reverse (sweep_routes left k s t))
        (length-map (sweep_routes left k s t) reverse ∙ routes-length)
        (λ h within.
        subst (λ (r : List ℕ). HoldsRoute out.side_b out.side_a (suc h) r)
        (sym (get_or-map reverse (sweep_routes left k s t) h [] [] (omega (arith, routes-length)))) (turned h within)))
