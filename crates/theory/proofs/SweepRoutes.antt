-- The routes of the sweep are k routes from s to t that share only their ends, and so of the routes between two places.
-- Over any `left` with the laws, where t and s are in one tree of forest k.
use Prim.Native.Nat.{ℕ, zero, suc, pred, ◌≤◌, ◌<◌, min, max}
use Rattle.std.proofs.Math.Decide.{dec_lt, ℕ_discrete}
use native.Mathlib.Omega.{arith}
use Rattle.std.specs.Prelude.{Bool, ◌⊎◌, ◌≢◌, ◌≡◌, length, get_or}
use Rattle.std.proofs.Math.Bool.{true, false}
use mathlib.Core.List.{List, [], ◌∷◌, map, reverse}
use Rattle.std.proofs.Common.{inl, inr, ◌∙◌}
use Rattle.std.proofs.Math.Logic.{by_cases}
use Rattle.std.proofs.Math.Path.{refl, sym, subst}
use Rattle.std.proofs.Math.Dec.{ltb}
use borrow.Author.Tests.{ltb-true, ltb-false}
use Rattle.std.proofs.lemmas.List.{length-map}
use Rattle.std.proofs.Math.ListN.{get_or-map}
use Rattle.definitions.specs.Outcome.{pick}
use Rattle.definitions.specs.Lists.{has, table}
use Rattle.definitions.specs.Sweep as Sweep
use Rattle.definitions.specs.Sweep.{slot_at, slot_route, sweep_routes}
use Rattle.definitions.specs.Route.{routes_between}
use Rattle.lists.specs.Tables.{length-table}
use Rattle.theory.specs.PlaceSweep.{Slot, start_slot, slot_after, slots_after, sweep_from, sweep}
use Rattle.theory.specs.LeftLaws.{LeftLaws}
use Rattle.theory.proofs.Trees.{Alive}
use Rattle.theory.proofs.PlaceRoutes.{RoutesWithin, PlaceRoute, PlaceRoutes, written-within, routes-reverse}
use Rattle.theory.proofs.SweepInvariant.{Sweeping}
use Rattle.theory.proofs.SweepHolds.{sweep-ends}
use Rattle.theory.proofs.NothingShared.{route-holds, route-direct, nothing-shared}

-- There are as many slots as indices.
sweep_from-length : (left : ℕ → ℕ → ℕ) (k t v : ℕ) (slots : List Slot) → length slots ≡ k → length (sweep_from left k t v slots) ≡ k
unfolding Sweep.sweep_from Sweep.slots_after
sweep_from-length left k t zero slots size = size
sweep_from-length left k t (suc v) slots size =
    sweep_from-length left k t v (slots_after left k t (suc v) slots) (length-table (slot_after left k t (suc v) (slot_at slots)) 1 k)

pub sweep-length : (left : ℕ → ℕ → ℕ) (k s t : ℕ) → length (sweep left k s t) ≡ k
unfolding Sweep.sweep
sweep-length left k s t = sweep_from-length left k t (pred s) (table (start_slot left s t) 1 k) (length-table (start_slot left s t) 1 k)

-- Route i is made of slot i + 1, since indices count from 1.
pub get_or-sweep_routes : (left : ℕ → ℕ → ℕ) (k s t i : ℕ) → get_or (sweep_routes left k s t) i [] ≡ slot_route (slot_at (sweep left k s t) (suc i))
unfolding sweep_routes slot_at slot_route
get_or-sweep_routes left k s t i = get_or-map slot_route (sweep left k s t) i (slot_at [] 0)

module _ (left : ℕ → ℕ → ℕ) (laws : LeftLaws left) (k s t : ℕ) (less : t < s) (slots : ℕ → Slot) (inv : Sweeping left k s t 0 slots) where
  routes-apart : (i h : ℕ) → 1 ≤ i → i ≤ k → 1 ≤ h → h ≤ k → i ≢ h → (x : ℕ)
      → has (slot_route (slots i)) x ≡ true → has (slot_route (slots h)) x ≡ true → (x ≡ s) ⊎ (x ≡ t)
  routes-apart i h one le one' le' differ x in_i in_h =
      by_cases (ℕ_discrete x s) inl
      (λ not_s. by_cases (ℕ_discrete x t) inr
      (λ not_t. absurd (nothing-shared left laws k s t less slots inv i h one le one' le' differ x (omega arith) (omega arith) in_i in_h)))

  routes-direct : 1 ≤ t → (i h : ℕ) → 1 ≤ i → i < h → h ≤ k → slot_route (slots i) ≡ s ∷ t ∷ [] → slot_route (slots h) ≡ s ∷ t ∷ [] → ⊥
  routes-direct some i h one low le e f =
      let a : left i s ≡ t = route-direct left laws k s t less slots inv i one (omega arith) e in
      let b : left h s ≡ t = route-direct left laws k s t less slots inv h (omega arith) le f in
      omega (arith, (laws.rises i h s one low (omega arith)).1)

module _ (left : ℕ → ℕ → ℕ) (laws : LeftLaws left) where
  pub sweep-routes : (k s t : ℕ) → 1 ≤ k → 1 ≤ t → t < s → Alive left k t s → PlaceRoutes left k s t (sweep_routes left k s t)
  unfolding sweep_routes
  sweep-routes k s t _ some less alive =
      record {
        number = size;
        each = each;
        apart = apart;
        direct = λ i j below below' differ e f.
            let e' : slot_route (slots (suc i)) ≡ s ∷ t ∷ [] = sym (same i) ∙ e in
            let f' : slot_route (slots (suc j)) ≡ s ∷ t ∷ [] = sym (same j) ∙ f in
            by_cases (dec_lt i j)
            (λ low. routes-direct left laws k s t less slots inv some (suc i) (suc j) (omega arith) (omega arith) below' e' f')
            (λ high. routes-direct left laws k s t less slots inv some (suc j) (suc i) (omega arith) (omega arith) below f' e');
        written = written-within left k s s t (sweep_routes left k s t) (omega arith) (omega arith) some (omega arith) (omega arith) size each apart;
      }
    where
      slots : ℕ → Slot
      slots = slot_at (sweep left k s t)

      inv : Sweeping left k s t 0 (slot_at (sweep left k s t))
      inv = sweep-ends left laws k s t less alive

      size : length (sweep_routes left k s t) ≡ k
      size = length-map (sweep left k s t) slot_route ∙ sweep-length left k s t

      same : (i : ℕ) → get_or (sweep_routes left k s t) i [] ≡ slot_route (slot_at (sweep left k s t) (suc i))
      same i = get_or-sweep_routes left k s t i

      each : (i : ℕ) → i < k → PlaceRoute left k s t (get_or (sweep_routes left k s t) i [])
      each i below =
          subst (λ (l : List ℕ). PlaceRoute left k s t l) (sym (same i))
          (route-holds left laws k s t less (slot_at (sweep left k s t)) inv (suc i) (omega arith) below)

      apart : (i j : ℕ) → i < k → j < k → i ≢ j → (x : ℕ) → has (get_or (sweep_routes left k s t) i []) x ≡ true
          → has (get_or (sweep_routes left k s t) j []) x ≡ true → (x ≡ s) ⊎ (x ≡ t)
      apart i j below below' differ x h g =
          routes-apart left laws k s t less (slot_at (sweep left k s t)) inv (suc i) (suc j) (omega arith) below (omega arith) below' (omega arith) x
          (subst (λ (l : List ℕ). has l x ≡ true) (same i) h) (subst (λ (l : List ℕ). has l x ≡ true) (same j) g)

  -- The routes from either of two places to the other.
  pub routes-between : (k p q : ℕ) → 1 ≤ k → 1 ≤ p → 1 ≤ q → p ≢ q → Alive left k (min p q) (max p q)
      → RoutesWithin left k (max p q) p q (routes_between left k p q)
  unfolding routes_between
  routes-between k p q positive one one' differ alive = go (ltb q p) refl
    where
      go : (b : Bool) → ltb q p ≡ b → RoutesWithin left k (max p q) p q (pick b (sweep_routes left k p q) (map reverse (sweep_routes left k q p)))
      go true e =
          let less : q < p = ltb-true q p e in
          let top : p ≡ max p q = omega arith in
          subst (λ (n : ℕ). RoutesWithin left k n p q (sweep_routes left k p q)) top
          (sweep-routes k p q positive one' less (λ x above upto. alive x (omega arith) (omega arith)))
      go false e =
          let less : p < q = omega (arith, ltb-false q p e) in
          let top : q ≡ max p q = omega arith in
          subst (λ (n : ℕ). RoutesWithin left k n p q (map reverse (sweep_routes left k q p))) top
          (routes-reverse (sweep_routes left k q p) one' (omega arith) one (omega arith) (omega arith)
          (sweep-routes k q p positive one less (λ x above upto. alive x (omega arith) (omega arith))))
