-- One route of a sheet with its links: the walk along it does not fail exactly where the route is good after the relays met before.
use Rattle.std.specs.Prelude.{ℕ, ◌+◌, ◌-◌, ◌<◌, Bool, ◌&&◌, ◌||◌, ◌⊎◌, ◌≡◌, length, get_or}
use Rattle.std.proofs.Math.Bool.{true, false, not}
use mathlib.Core.List.{List, [], ◌∷◌}
use Rattle.std.proofs.Common.{inl, inr, sym, ◌∙◌, subst, arith, eqb-true, eq-eqb}
use Rattle.std.proofs.Math.Path.{refl, ap}
use Rattle.std.proofs.Math.Dec.{eqb}
use Rattle.definitions.specs.Outcome.{pick}
use Rattle.definitions.specs.Lists.{has}
use Rattle.definitions.specs.Network.{joins}
use Rattle.definitions.specs.Over.{OverHolds}
use Rattle.definitions.specs.DisjointRoutes.{InService, RouteHolds}
use Rattle.definitions.specs.SheetTest.{Walk, walk, walk_route}
use Rattle.lists.specs.Searches.{clash}
use Rattle.lists.specs.Cases.{has_there, has-cases}
use Rattle.theory.specs.Accepted.{ProperTable}
use Rattle.theory.specs.Links.{joins-ends}
use Rattle.theory.specs.RouteLinks.{along-serves}
use Rattle.theory.specs.SheetWalk.{Walked, passes, walk_steps, walk-met, walk-holds}

-- Relay r is one of the two ends or was not met before.
abbrev pub NewTo : (from to : ℕ) (met : ℕ → Bool) (r : ℕ) → Type 0
NewTo from to met r = (r ≡ from) ⊎ ((r ≡ to) ⊎ (met r ≡ false))

-- A route with its links is good after the relays met before: it holds, its links are the right ones, and each of its relays is one
-- of the two ends or was not met.
pub record GoodRoute (n : ℕ) (lows highs states : List ℕ) (from to : ℕ) (met : ℕ → Bool) (route over : List ℕ) : Type 0 where
  pub holds : RouteHolds n lows highs states (InService lows highs states) from to route
  pub links : OverHolds lows highs route over
  pub fresh : (r : ℕ) → has route r ≡ true → NewTo from to met r

-- A relay that a link joins is below n.
joined-below : (n : ℕ) (lows highs : List ℕ) → ProperTable n lows highs → (a b l : ℕ) → l < length lows
    → joins lows highs a b l ≡ true → a < n
joined-below n lows highs proper a b l h e = go (joins-ends lows highs a b l e)
  where
    go : ((get_or lows l 0 ≡ a) × (get_or highs l 0 ≡ b)) ⊎ ((get_or lows l 0 ≡ b) × (get_or highs l 0 ≡ a)) → a < n
    go (inl p) = omega (arith, p.0, proper.ordered l h, proper.below l h)
    go (inr p) = omega (arith, p.1, proper.below l h)

module _ (n : ℕ) (lows highs states : List ℕ) (from to : ℕ) (met : ℕ → Bool) where
  -- The walk from the first relay on holds where the route is good.
  good-walked : (a : ℕ) (rest over : List ℕ) → GoodRoute n lows highs states from to met (a ∷ rest) over
      → Walked n lows highs states to met a rest over
  good-walked a rest over good =
      let last : length (a ∷ rest) - 1 ≡ length rest = omega arith in
      record {
        links = good.links;
        along = good.holds.runs.along;
        below = λ r h. (good.holds.runs.through r (has_there a rest r h)).0;
        fresh = λ r h. go r h (good.fresh r (has_there a rest r h));
        no_repeat = good.holds.no_repeat;
        ends = ap (λ (i : ℕ). get_or (a ∷ rest) i 0) (sym last) ∙ good.holds.runs.ends;
      }
    where
      go : (r : ℕ) → has rest r ≡ true → NewTo from to met r → (r ≡ to) ⊎ (met r ≡ false)
      go r h (inl e) = absurd (clash h (ap (has rest) (e ∙ sym good.holds.runs.starts) ∙ good.holds.no_repeat.0))
      go r h (inr e) = e

  -- A good route has one relay more than its walk has steps,
  pub route-steps : (route over : List ℕ) → GoodRoute n lows highs states from to met route over
      → length route ≡ (walk_route n lows highs states from to met route over).steps + 1
  unfolding walk_route
  route-steps [] over good = absurd good.links
  route-steps (a ∷ rest) over good =
      rw (eq-eqb a from good.holds.runs.starts)
      (omega (arith, walk_steps n lows highs states to met 0 a rest over (good-walked a rest over good)))

  module _ (started : met from ≡ true) where
    -- and its relays but for the end are met after it.
    pub route-met : (route over : List ℕ) → GoodRoute n lows highs states from to met route over → (r : ℕ)
        → (walk_route n lows highs states from to met route over).met r ≡ (met r || passes to route r)
    unfolding walk_route passes has
    route-met [] over good r = absurd good.links
    route-met (a ∷ rest) over good r =
        rw (eq-eqb a from good.holds.runs.starts)
        (walk-met n lows highs states to met 0 a rest over (good-walked a rest over good) r ∙ go (eqb a r) refl)
      where
        go : (c : Bool) → eqb a r ≡ c → (met r || (has rest r && not (eqb r to))) ≡ (met r || ((c || has rest r) && not (eqb r to)))
        go true e =
            let known : met r ≡ true = ap met (sym (eqb-true a r e) ∙ good.holds.runs.starts) ∙ started in
            rw known refl
        go false e = refl

    module _ (proper : ProperTable n lows highs) where
      -- A route whose walk holds from `from` on, for one step at least, is good.
      walked-good : (a : ℕ) (rest over : List ℕ) → a ≡ from → 0 < length rest → Walked n lows highs states to met a rest over
          → GoodRoute n lows highs states from to met (a ∷ rest) over
      walked-good a [] over first some w = absurd (omega arith)
      walked-good a (b ∷ rest) [] first some w = absurd w.links
      walked-good a (b ∷ rest) (l ∷ over) first some w =
          let last : length (a ∷ b ∷ rest) - 1 ≡ length (b ∷ rest) = omega arith in
          record {
            holds =
                record {
                  runs =
                      record {
                        long = omega arith;
                        starts = first;
                        ends = ap (λ (i : ℕ). get_or (a ∷ b ∷ rest) i 0) last ∙ w.ends;
                        along = w.along;
                        through = λ r h. (
                          below r (has-cases a (b ∷ rest) r h),
                          along-serves lows highs states (a ∷ b ∷ rest) (omega arith) w.along r h,
                        );
                      };
                  no_repeat = w.no_repeat;
                };
            links = w.links;
            fresh = λ r h. fresh r (has-cases a (b ∷ rest) r h);
          }
        where
          below : (r : ℕ) → (a ≡ r) ⊎ (has (b ∷ rest) r ≡ true) → r < n
          below r (inl e) =
              subst (λ (x : ℕ). x < n) e (joined-below n lows highs proper a b l w.links.0.0 w.links.0.1)
          below r (inr h) = w.below r h

          fresh : (r : ℕ) → (a ≡ r) ⊎ (has (b ∷ rest) r ≡ true) → NewTo from to met r
          fresh r (inl e) = inl (sym e ∙ first)
          fresh r (inr h) = inr (w.fresh r h)

      -- The route is good if the walk along it does not fail.
      pub route-good : (route over : List ℕ) → 0 < (walk_route n lows highs states from to met route over).steps
          → GoodRoute n lows highs states from to met route over
      unfolding walk_route
      route-good [] over some = absurd (omega arith)
      route-good (a ∷ rest) over some = go (eqb a from) refl some
        where
          onward : Walk
          onward = walk n lows highs states to met 0 a rest over

          go : (c : Bool) → eqb a from ≡ c → 0 < (pick c onward (record { steps = 0; met = met })).steps
              → GoodRoute n lows highs states from to met (a ∷ rest) over
          go true e some =
              let first : a ≡ from = eqb-true a from e in
              let w = walk-holds n lows highs states to proper met 0 a rest over (inr (ap met first ∙ started)) some in
              walked-good a rest over first (omega (arith, walk_steps n lows highs states to met 0 a rest over w)) w
          go false e some = absurd (omega arith)
