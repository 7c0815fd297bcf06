-- The routes of a sheet one after another: the test says yes exactly where each is good and each two are apart.
use Rattle.std.specs.Prelude.{ℕ, zero, suc, ◌+◌, ◌<◌, Bool, true, ◌&&◌, ◌||◌, ◌⊎◌, ◌≢◌, ◌≡◌, get_or}
use Rattle.std.proofs.Math.Bool.{false, not}
use Rattle.std.proofs.lemmas.Bool.{false≢true, eqb-false, not-true, not-false}
use mathlib.Core.List.{List, [], ◌∷◌}
use Rattle.std.proofs.Math.Logic.{inl, inr}
use Rattle.std.proofs.Math.Path.{refl, ap}
use Rattle.std.proofs.Common.{sym, ◌∙◌, arith, eqb-true, eq-eqb, ne_eqb}
use Rattle.std.proofs.Math.Dec.{eqb}
use Rattle.std.proofs.Math.ListN.{length}
use Rattle.definitions.specs.Lists.{has}
use Rattle.definitions.specs.DisjointRoutes.{Apart}
use Rattle.definitions.specs.SheetTest.{Walk, walk_route, good_steps, routes_hold}
use Rattle.lists.specs.Tests.{or_left, or_right, or-false, or-neither, or-either, and_both, and-all, and-false}
use Rattle.lists.specs.Searches.{clash}
use Rattle.theory.specs.Accepted.{ProperTable}
use Rattle.theory.specs.ApartRoutes.{relays-apart, apart-longer}
use Rattle.theory.specs.SheetWalk.{passes}
use Rattle.theory.specs.SheetRoute.{NewTo, GoodRoute, route-steps, route-met, route-good}

-- The routes with their links are good after the relays met before: as many lists of links as routes, each route good, each two
-- apart; and after a route of a single step none of them is one.
pub record GoodRoutes (n : ℕ) (lows highs states : List ℕ) (from to : ℕ) (met : ℕ → Bool) (direct : Bool) (routes overs : List (List ℕ)) : Type 0 where
  pub even : length overs ≡ length routes
  pub each : (i : ℕ) → i < length routes → GoodRoute n lows highs states from to met (get_or routes i []) (get_or overs i [])
  pub apart : (i j : ℕ) → i < j → j < length routes → Apart lows highs from to (get_or routes i []) (get_or routes j [])
  pub single : direct ≡ true → (i : ℕ) → i < length routes → 2 < length (get_or routes i [])

-- Steps that are good after the routes before, as numbers: there is one at least, and a second if a route before was a single step.
steps-good : (steps : ℕ) (direct : Bool) → good_steps steps direct ≡ true → (0 < steps) × (direct ≡ true → 1 < steps)
unfolding good_steps
steps-good steps direct e =
    let both = and_both (not (eqb steps 0)) (not (eqb steps 1 && direct)) e in
    let some : steps ≢ 0 = eqb-false steps 0 (not-true (eqb steps 0) both.0) in
    (omega arith, λ d. go d (eqb steps 1) refl (not-true (eqb steps 1 && direct) both.1) (omega arith))
  where
    go : direct ≡ true → (b : Bool) → eqb steps 1 ≡ b → (b && direct) ≡ false → 0 < steps → 1 < steps
    go d true p q some = absurd (clash d q)
    go d false p q some =
        let more : steps ≢ 1 = eqb-false steps 1 p in
        omega arith

good-steps : (steps : ℕ) (direct : Bool) → 0 < steps → (direct ≡ true → 1 < steps) → good_steps steps direct ≡ true
unfolding good_steps
good-steps steps direct some more =
    and-all (not (eqb steps 0)) (not (eqb steps 1 && direct)) (ap not (ne_eqb steps 0 (λ e. omega arith))) (go direct more)
  where
    go : (d : Bool) → (d ≡ true → 1 < steps) → not (eqb steps 1 && d) ≡ true
    go true more =
        let two : 1 < steps = more refl in
        rw (ne_eqb steps 1 (λ e. omega arith)) refl
    go false more = ap not (and-false (eqb steps 1))

module _ (n : ℕ) (lows highs states : List ℕ) (from to : ℕ) where
  -- A good route is good after other relays too if they are new to it.
  good-after : (met : ℕ → Bool) {before : ℕ → Bool} {route over : List ℕ} → GoodRoute n lows highs states from to before route over
      → ((r : ℕ) → has route r ≡ true → NewTo from to met r) → GoodRoute n lows highs states from to met route over
  good-after met good fresh = record { holds = good.holds; links = good.links; fresh = fresh }

  module _ (met : ℕ → Bool) (started : met from ≡ true) (direct : Bool) (route over : List ℕ)
      (good : GoodRoute n lows highs states from to met route over) (routes overs : List (List ℕ)) where
    -- The walk along the first route, and what is good after it.
    abbrev steps : ℕ
    steps = (walk_route n lows highs states from to met route over).steps

    abbrev later : ℕ → Bool
    later = (walk_route n lows highs states from to met route over).met

    abbrev All : Type 0
    All = GoodRoutes n lows highs states from to met direct (route ∷ routes) (over ∷ overs)

    abbrev Rest : Type 0
    Rest = GoodRoutes n lows highs states from to later (direct || eqb steps 1) routes overs

    met-later : (r : ℕ) → later r ≡ (met r || passes to route r)
    met-later = route-met n lows highs states from to met started route over good

    size : length route ≡ steps + 1
    size = route-steps n lows highs states from to met route over good

    -- What is new to the routes before is new after the first route too, on a route that is apart from it.
    still-fresh : (other : List ℕ) → Apart lows highs from to route other → (r : ℕ) → has other r ≡ true
        → NewTo from to met r → NewTo from to later r
    unfolding passes
    still-fresh other apart r h (inl e) = inl e
    still-fresh other apart r h (inr (inl e)) = inr (inl e)
    still-fresh other apart r h (inr (inr e)) = go (has route r) refl
      where
        ends : (r ≡ from) ⊎ (r ≡ to) → NewTo from to later r
        ends (inl p) = inl p
        ends (inr p) = inr (inl p)

        go : (b : Bool) → has route r ≡ b → NewTo from to later r
        go true p = ends (apart.relays r p h)
        go false p =
            inr (inr (met-later r ∙ or-neither (met r) (passes to route r) e (ap (λ (b : Bool). b && not (eqb r to)) p)))

    -- What is good with the first route is good after it.
    good-rest : All → Rest
    good-rest all =
        record {
          even = omega (arith, all.even);
          each = λ i h.
              let other = all.each (suc i) (omega arith) in
              good-after later other
              (λ r e. still-fresh (get_or routes i []) (all.apart 0 (suc i) (omega arith) (omega arith)) r e (other.fresh r e));
          apart = λ i j less h. all.apart (suc i) (suc j) (omega arith) (omega arith);
          single = λ d i h. longer i h (or-either direct (eqb steps 1) d);
        }
      where
        longer : (i : ℕ) → i < length routes → (direct ≡ true) ⊎ (eqb steps 1 ≡ true) → 2 < length (get_or routes i [])
        longer i h (inl d) = all.single d (suc i) (omega arith)
        longer i h (inr e) =
            apart-longer lows highs route (get_or routes i []) good.holds (all.each (suc i) (omega arith)).holds
            (all.apart 0 (suc i) (omega arith) (omega arith)) (omega (arith, size, eqb-true steps 1 e))

    -- What is new after the first route was new before, and is on the first route only if it is an end.
    not-passed : (r : ℕ) → later r ≡ false → (met r ≡ false) × (passes to route r ≡ false)
    not-passed r e = or-false (met r) (passes to route r) (sym (met-later r) ∙ e)

    new-before : (r : ℕ) → NewTo from to later r → NewTo from to met r
    new-before r (inl e) = inl e
    new-before r (inr (inl e)) = inr (inl e)
    new-before r (inr (inr e)) = inr (inr (not-passed r e).0)

    new-shared : (r : ℕ) → has route r ≡ true → NewTo from to later r → (r ≡ from) ⊎ (r ≡ to)
    unfolding passes
    new-shared r h (inl e) = inl e
    new-shared r h (inr (inl e)) = inr e
    new-shared r h (inr (inr e)) =
        let end : not (eqb r to) ≡ false = ap (λ (b : Bool). b && not (eqb r to)) (sym h) ∙ (not-passed r e).1 in
        inr (eqb-true r to (not-false (eqb r to) end))

    -- What is good after the first route is good with it, if its steps are.
    good-all : good_steps steps direct ≡ true → Rest → All
    good-all e rest = record { even = ap suc rest.even; each = each; apart = apart; single = single }
      where
        each : (i : ℕ) → i < length (route ∷ routes)
            → GoodRoute n lows highs states from to met (get_or (route ∷ routes) i []) (get_or (over ∷ overs) i [])
        each zero h = good
        each (suc i) h =
            let other = rest.each i (omega arith) in
            good-after met other (λ r e. new-before r (other.fresh r e))

        apart : (i j : ℕ) → i < j → j < length (route ∷ routes)
            → Apart lows highs from to (get_or (route ∷ routes) i []) (get_or (route ∷ routes) j [])
        apart i zero less h = absurd (omega arith)
        apart zero (suc j) less h =
            let other = rest.each j (omega arith) in
            relays-apart lows highs route (get_or routes j []) good.holds other.holds
            (λ r p q. new-shared r p (other.fresh r q))
            (λ two. rest.single (or_right direct (eqb steps 1) (eq-eqb steps 1 (omega (arith, size, two)))) j (omega arith))
        apart (suc i) (suc j) less h = rest.apart i j (omega arith) (omega arith)

        single : direct ≡ true → (i : ℕ) → i < length (route ∷ routes) → 2 < length (get_or (route ∷ routes) i [])
        single d zero h = omega (arith, size, (steps-good steps direct e).1 d)
        single d (suc i) h = rest.single (or_left direct (eqb steps 1) d) i (omega arith)

    -- `from` is met after the first route.
    still-started : later from ≡ true
    still-started = met-later from ∙ or_left (met from) (passes to route from) started

module _ (n : ℕ) (lows highs states : List ℕ) (from to : ℕ) where
  -- Where the routes are good the test says yes,
  pub good-routes : (met : ℕ → Bool) → met from ≡ true → (direct : Bool) (routes overs : List (List ℕ))
      → GoodRoutes n lows highs states from to met direct routes overs → routes_hold n lows highs states from to met direct routes overs ≡ true
  unfolding routes_hold
  good-routes met started direct [] [] all = refl
  good-routes met started direct [] (over ∷ overs) all = absurd (omega (arith, all.even))
  good-routes met started direct (route ∷ routes) [] all = absurd (omega (arith, all.even))
  good-routes met started direct (route ∷ routes) (over ∷ overs) all =
      let good : GoodRoute n lows highs states from to met route over = all.each 0 (omega arith) in
      let w : Walk = walk_route n lows highs states from to met route over in
      let size : length route ≡ w.steps + 1 = route-steps n lows highs states from to met route over good in
      and-all (good_steps w.steps direct) (routes_hold n lows highs states from to w.met (direct || eqb w.steps 1) routes overs)
      (good-steps w.steps direct (omega (arith, size, good.holds.runs.long)) (λ d. omega (arith, size, all.single d 0 (omega arith))))
      (good-routes w.met (still-started n lows highs states from to met started direct route over good routes overs)
      (direct || eqb w.steps 1) routes overs (good-rest n lows highs states from to met started direct route over good routes overs all))

  -- and where it says yes they are good.
  pub routes-good : ProperTable n lows highs → (met : ℕ → Bool) → met from ≡ true → (direct : Bool) (routes overs : List (List ℕ))
      → routes_hold n lows highs states from to met direct routes overs ≡ true → GoodRoutes n lows highs states from to met direct routes overs
  unfolding routes_hold
  routes-good proper met started direct [] [] e =
      record {
        even = refl;
        each = λ i h. absurd (omega arith);
        apart = λ i j less h. absurd (omega arith);
        single = λ d i h. absurd (omega arith);
      }
  routes-good proper met started direct [] (over ∷ overs) e = absurd (false≢true e)
  routes-good proper met started direct (route ∷ routes) [] e = absurd (false≢true e)
  routes-good proper met started direct (route ∷ routes) (over ∷ overs) e =
      let w : Walk = walk_route n lows highs states from to met route over in
      let both =
      and_both (good_steps w.steps direct) (routes_hold n lows highs states from to w.met (direct || eqb w.steps 1) routes overs) e in
      let good : GoodRoute n lows highs states from to met route over =
      route-good n lows highs states from to met started proper route over (steps-good w.steps direct both.0).0 in
      good-all n lows highs states from to met started direct route over good routes overs both.0
      (routes-good proper w.met (still-started n lows highs states from to met started direct route over good routes overs)
      (direct || eqb w.steps 1) routes overs both.1)
