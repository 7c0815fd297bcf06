-- The links that the paths carry are those of the routes' steps: for each route f of each place and the next, where f is any
-- function that gives the link of every look-up from its two places, whichever comes first.
-- Over any look-up whose places have the laws of `left`, where the two places are in one tree of forest k.
use Prim.Native.Nat.{ℕ, suc, ◌≤◌, ◌<◌, min, max}
use Rattle.std.specs.Prelude.{Bool, ◌≢◌, ◌≡◌, get_or}
use Rattle.std.proofs.Math.Bool.{true, false}
use mathlib.Core.List.{List, [], ◌∷◌, ◌++◌, map, reverse, tail}
use Rattle.std.proofs.Math.Path.{refl, sym, ap, ap₂, subst}
use Rattle.std.proofs.Common.{◌∙◌, arith}
use Rattle.std.proofs.Math.Dec.{ltb}
use Rattle.std.proofs.Math.ListN.{length}
use Rattle.std.proofs.lemmas.List.{length-map}
use borrow.Author.Tests.{ltb-true, ltb-false}
use Rattle.definitions.specs.Outcome.{pick}
use Rattle.definitions.specs.Lists.{has}
use Rattle.definitions.specs.Forests.{Entry}
use Rattle.definitions.specs.Sweep as Sweep
use Rattle.definitions.specs.Sweep.{slot_at, slot_route, sweep_routes}
use Rattle.definitions.specs.Route.{routes_between}
use Rattle.definitions.specs.Over.{entry_look, path_links, slot_over, sweep_overs, overs_between}
use Rattle.lists.specs.Cases.{has_here, has_there}
use Rattle.lists.specs.Maps.{map-map, map-agree}
use Rattle.lists.specs.Steps.{steps_of, steps_of-reverse, steps_of-meet}
use Rattle.theory.specs.PlaceSweep as Places
use Rattle.theory.specs.LeftLaws.{LeftLaws}
use Rattle.theory.proofs.Trees.{Alive}
use Rattle.theory.proofs.SweepPaths.{trail-from}
use Rattle.theory.proofs.SweepInvariant.{ClosedSlot, Sweeping}
use Rattle.theory.proofs.SweepHolds.{sweep-ends}
use Rattle.theory.proofs.NothingShared.{all_closed}
use Rattle.theory.proofs.SweepRoutes.{sweep-length}
use Rattle.theory.specs.Erased.{places, erase, slot-erased, sweep-erased}
use Rattle.theory.specs.LookedPaths.{Looked, LookedSlot, sweep-looked}

module _ (entry : ℕ → ℕ → Entry) (f : ℕ → ℕ → ℕ) (turn : (a b : ℕ) → f a b ≡ f b a)
    (given : (h x : ℕ) → 0 < (entry h x).place → (entry h x).link ≡ f (entry h x).place x) where
  abbrev left : ℕ → ℕ → ℕ
  left i v = (entry i v).place

  starts : (v : ℕ) → (entry_look entry).place ((entry_look entry).start v) ≡ v
  starts v = refl

  abbrev places_of : List Entry → List ℕ
  places_of = places (entry_look entry) starts

  abbrev bare_slot : Sweep.Slot Entry → Places.Slot
  bare_slot = erase (entry_look entry) starts

  -- One path.
  path-steps : (path : List Entry) → Looked (entry_look entry) path → ((w : ℕ) → has (places_of path) w ≡ true → 0 < w)
      → path_links path ≡ steps_of f (places_of path)
  unfolding path_links steps_of
  path-steps [] looked some = refl
  path-steps (e ∷ []) looked some = refl
  path-steps (e ∷ g ∷ rest) looked some =
      let h : ℕ = looked.0.0 in
      let is : e ≡ entry h g.place = looked.0.1 in
      let positive : 0 < (entry h g.place).place =
      subst (λ (x : Entry). 0 < x.place) is (some e.place (has_here e.place (places_of (g ∷ rest)))) in
      ap₂ (λ (x : ℕ) (l : List ℕ). x ∷ l)
      (ap (λ (x : Entry). x.link) is ∙ given h g.place positive ∙ ap (λ (x : Entry). f x.place g.place) (sym is))
      (path-steps (g ∷ rest) looked.1 (λ w into. some w (has_there e.place (places_of (g ∷ rest)) w into)))

  module _ (laws : LeftLaws left) (k s t : ℕ) (less : t < s) (alive : Alive left k t s) where
    abbrev slots : List (Sweep.Slot Entry)
    slots = Sweep.sweep (entry_look entry) k s t

    abbrev bare_slots : ℕ → Places.Slot
    bare_slots = slot_at (Places.sweep left k s t)

    bare-slot : (i : ℕ) → bare_slot (slot_at slots i) ≡ bare_slots i
    bare-slot i =
        slot-erased (entry_look entry) starts slots i
        ∙ ap (λ (l : List Places.Slot). slot_at l i) (sweep-erased (entry_look entry) starts k t s)

    inv : Sweeping left k s t 0 bare_slots
    inv = sweep-ends left laws k s t less alive

    -- One index.
    slot-steps : (i : ℕ) → 1 ≤ i → i ≤ k → slot_over (slot_at slots i) ≡ steps_of f (slot_route (bare_slot (slot_at slots i)))
    unfolding slot_over slot_route
    slot-steps i one le =
        let slot : Sweep.Slot Entry = slot_at slots i in
        let looked : LookedSlot (entry_look entry) t 0 slot = sweep-looked (entry_look entry) starts k t s i in
        let c : ClosedSlot left k s t 0 i (bare_slots i) = inv.closed i one le (all_closed left laws k s t less bare_slots inv i one le) in
        let shape_a : places_of slot.path_a ≡ c.meet ∷ c.before ∷ c.rest_a =
        ap (λ (x : Places.Slot). x.path_a) (bare-slot i) ∙ c.shape_a in
        let shape_b : places_of slot.path_b ≡ c.meet ∷ c.rest_b = ap (λ (x : Places.Slot). x.path_b) (bare-slot i) ∙ c.shape_b in
        let some_a : (w : ℕ) → has (places_of slot.path_a) w ≡ true → 0 < w =
        λ w into.
        let low = trail-from left laws k s c.meet (c.before ∷ c.rest_a) c.trail_a w (subst (λ (l : List ℕ). has l w ≡ true) shape_a into) in
        omega (arith, c.above) in
        let some_b : (w : ℕ) → has (places_of slot.path_b) w ≡ true → 0 < w =
        λ w into.
        let low = trail-from left laws k t c.meet c.rest_b c.trail_b w (subst (λ (l : List ℕ). has l w ≡ true) shape_b into) in
        omega (arith, c.above) in
        ap₂ (λ (a b : List ℕ). reverse a ++ b)
        (path-steps slot.path_a looked.in_a some_a ∙ ap (steps_of f) shape_a)
        (path-steps slot.path_b looked.in_b some_b ∙ ap (steps_of f) shape_b)
        ∙ sym (steps_of-meet f turn c.meet (c.before ∷ c.rest_a) c.rest_b)
        ∙ ap₂ (λ (a b : List ℕ). steps_of f (reverse a ++ tail b)) (sym shape_a) (sym shape_b)

    -- The k routes from s to t.
    sweep-steps : sweep_overs entry k s t ≡ map (steps_of f) (sweep_routes left k s t)
    unfolding sweep_overs sweep_routes slot_at
    sweep-steps =
        let size : length slots ≡ k =
        sym (length-map slots bare_slot) ∙ ap length (sweep-erased (entry_look entry) starts k t s) ∙ sweep-length left k s t in
        map-agree slot_over (λ x. steps_of f (slot_route (bare_slot x))) (slot_at [] 0) slots
        (λ i below. slot-steps (suc i) (omega arith) (omega arith))
        ∙ sym (map-map (λ (x : Places.Slot). steps_of f (slot_route x)) bare_slot slots)
        ∙ ap (map (λ (x : Places.Slot). steps_of f (slot_route x))) (sweep-erased (entry_look entry) starts k t s)
        ∙ sym (map-map (steps_of f) slot_route (Places.sweep left k s t))

  -- The routes from either of two places to the other.
  pub over-steps : LeftLaws left → (k p q : ℕ) → p ≢ q → Alive left k (min p q) (max p q)
      → overs_between entry k p q ≡ map (steps_of f) (routes_between left k p q)
  unfolding overs_between routes_between
  over-steps laws k p q differ alive = go (ltb q p) refl
    where
      go : (b : Bool) → ltb q p ≡ b
          → pick b (sweep_overs entry k p q) (map reverse (sweep_overs entry k q p))
          ≡ map (steps_of f) (pick b (sweep_routes left k p q) (map reverse (sweep_routes left k q p)))
      go true e =
          sweep-steps laws k p q (ltb-true q p e)
          (λ x above upto. let less = ltb-true q p e in alive x (omega arith) (omega arith))
      go false e =
          let less : p < q = omega (arith, ltb-false q p e, differ) in
          ap (map reverse) (sweep-steps laws k q p less (λ x above upto. alive x (omega arith) (omega arith)))
          ∙ map-map reverse (steps_of f) (sweep_routes left k q p)
          ∙ map-agree (λ l. reverse (steps_of f l)) (λ l. steps_of f (reverse l)) [] (sweep_routes left k q p)
          (λ i below. sym (steps_of-reverse f turn (get_or (sweep_routes left k q p) i [])))
          ∙ sym (map-map (steps_of f) reverse (sweep_routes left k q p))
