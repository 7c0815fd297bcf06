-- A walk along a route, as the test of a sheet takes it: it does not fail exactly where the rest of the route holds after the relays
-- met before, and what is met after it.
use Rattle.std.specs.Prelude.{ℕ, suc, ◌+◌, ◌<◌, Bool, ◌&&◌, ◌||◌, ◌⊎◌, ◌≢◌, ◌≡◌, ltb, length, get_or}
use Rattle.std.proofs.Math.Bool.{true, false, not, and-or_distrib_right}
use mathlib.Core.List.{List, [], ◌∷◌}
use Rattle.std.proofs.Math.Logic.{inl, inr}
use Rattle.std.proofs.Math.Path.{refl, sym, ap}
use Rattle.std.proofs.Common.{◌∙◌, subst, arith}
use borrow.Author.Tests.{ltb-true, lt-ltb, eqb-true, eqb-false, eq-eqb, ne_eqb, not-true}
use Rattle.std.proofs.Math.Dec.{eqb}
use Rattle.definitions.specs.Outcome.{pick}
use Rattle.definitions.specs.Lists.{has, NoRepeat}
use Rattle.definitions.specs.Network.{joins, link_serves}
use Rattle.definitions.specs.Over.{OverFrom}
use Rattle.definitions.specs.DisjointRoutes.{LinkOf, InService, AlongFrom}
use Rattle.definitions.specs.SheetTest.{also_met, step_holds, met_at, Walk, walk}
use Rattle.lists.specs.Tests.{or_left, or_right, or-false, or-neither, or-either, or-none, or_assoc, and_both, and-all, eqb-sym}
use Rattle.lists.specs.Searches.{clash}
use Rattle.lists.specs.Members.{has-at}
use Rattle.lists.specs.Cases.{has_here, has_there, has-nil, has-cases, has-not}
use Rattle.theory.specs.Accepted.{ProperTable}
use Rattle.theory.specs.Links.{one_link}

-- The step from relay a to relay b over link l holds after the relays met so far.
record GoodStep (n : ℕ) (lows highs states : List ℕ) (to : ℕ) (met : ℕ → Bool) (a b l : ℕ) : Type 0 where
  within : l < length lows
  joined : joins lows highs a b l ≡ true
  serves : link_serves lows highs states l ≡ true
  before : a ≢ to
  below : b < n
  fresh : (b ≡ to) ⊎ (met b ≡ false)

-- The rest of a route from relay a on, over its links, holds after the relays met so far: each step has its one link, with both
-- ends in service, every relay from here on is below n, is the end or was not met, none stands twice, and the last is the end.
pub record Walked (n : ℕ) (lows highs states : List ℕ) (to : ℕ) (met : ℕ → Bool) (a : ℕ) (rest over : List ℕ) : Type 0 where
  pub links : OverFrom lows highs a rest over
  pub along : AlongFrom (LinkOf lows highs (InService lows highs states)) a rest
  pub below : (r : ℕ) → has rest r ≡ true → r < n
  pub fresh : (r : ℕ) → has rest r ≡ true → (r ≡ to) ⊎ (met r ≡ false)
  pub no_repeat : NoRepeat (a ∷ rest)
  pub ends : get_or (a ∷ rest) (length rest) 0 ≡ to

-- Relay r stands on the route and is not its end.
unfoldable pub passes : (to : ℕ) (route : List ℕ) (r : ℕ) → Bool
passes to route r = has route r && not (eqb r to)

-- What is met after a step to b.
met-step : (to : ℕ) (met : ℕ → Bool) (b r : ℕ) → met_at to met b r ≡ (met r || (eqb b r && not (eqb r to)))
unfolding met_at also_met
met-step to met b r = go (eqb b to) refl (eqb b r) refl
  where
    go : (c : Bool) → eqb b to ≡ c → (d : Bool) → eqb b r ≡ d
        → pick c met (also_met met b) r ≡ (met r || (d && not (eqb r to)))
    go true e true f =
        let end : eqb r to ≡ true = ap (λ (x : ℕ). eqb x to) (sym (eqb-true b r f)) ∙ e in
        rw end (sym (or-none (met r)))
    go true e false f = sym (or-none (met r))
    go false e true f =
        let inside : eqb r to ≡ false = ap (λ (x : ℕ). eqb x to) (sym (eqb-true b r f)) ∙ e in
        rw (inside, eqb-sym r b, f) refl
    go false e false f = rw (eqb-sym r b, f) refl

-- The relay that a step led to is met, or is the end.
met-here : (to : ℕ) (met : ℕ → Bool) (b : ℕ) → (b ≡ to) ⊎ (met_at to met b b ≡ true)
unfolding met_at also_met
met-here to met b = go (eqb b to) refl
  where
    go : (c : Bool) → eqb b to ≡ c → (b ≡ to) ⊎ (pick c met (also_met met b) b ≡ true)
    go true e = inl (eqb-true b to e)
    go false e = inr (or_right (met b) (eqb b b) (eq-eqb b b refl))

module _ (n : ℕ) (lows highs states : List ℕ) (to : ℕ) where
  -- What the test of a step says, both ways.
  step-good : (met : ℕ → Bool) (a b l : ℕ) → step_holds n lows highs states to met a b l ≡ true → GoodStep n lows highs states to met a b l
  unfolding step_holds
  step-good met a b l e =
      let halves =
      and_both (ltb l (length lows) && (joins lows highs a b l && link_serves lows highs states l))
      (not (eqb a to) && (ltb b n && (eqb b to || not (met b)))) e in
      let link = and_both (ltb l (length lows)) (joins lows highs a b l && link_serves lows highs states l) halves.0 in
      let joined = and_both (joins lows highs a b l) (link_serves lows highs states l) link.1 in
      let relays = and_both (not (eqb a to)) (ltb b n && (eqb b to || not (met b))) halves.1 in
      let onward = and_both (ltb b n) (eqb b to || not (met b)) relays.1 in
      record {
        within = ltb-true l (length lows) link.0;
        joined = joined.0;
        serves = joined.1;
        before = eqb-false a to (not-true (eqb a to) relays.0);
        below = ltb-true b n onward.0;
        fresh = go (or-either (eqb b to) (not (met b)) onward.1);
      }
    where
      go : (eqb b to ≡ true) ⊎ (not (met b) ≡ true) → (b ≡ to) ⊎ (met b ≡ false)
      go (inl e) = inl (eqb-true b to e)
      go (inr e) = inr (not-true (met b) e)

  good-step : (met : ℕ → Bool) (a b l : ℕ) → GoodStep n lows highs states to met a b l → step_holds n lows highs states to met a b l ≡ true
  unfolding step_holds
  good-step met a b l good =
      and-all (ltb l (length lows) && (joins lows highs a b l && link_serves lows highs states l))
      (not (eqb a to) && (ltb b n && (eqb b to || not (met b))))
      (and-all (ltb l (length lows)) (joins lows highs a b l && link_serves lows highs states l) (lt-ltb l (length lows) good.within)
      (and-all (joins lows highs a b l) (link_serves lows highs states l) good.joined good.serves))
      (and-all (not (eqb a to)) (ltb b n && (eqb b to || not (met b))) (ap not (ne_eqb a to good.before))
      (and-all (ltb b n) (eqb b to || not (met b)) (lt-ltb b n good.below) (go good.fresh)))
    where
      go : (b ≡ to) ⊎ (met b ≡ false) → (eqb b to || not (met b)) ≡ true
      go (inl e) = or_left (eqb b to) (not (met b)) (eq-eqb b to e)
      go (inr e) = or_right (eqb b to) (not (met b)) (ap not e)

  -- A walk that holds: its first step, and the walk from there.
  walked_step : (met : ℕ → Bool) (a b l : ℕ) (rest over : List ℕ) → Walked n lows highs states to met a (b ∷ rest) (l ∷ over)
      → GoodStep n lows highs states to met a b l
  walked_step met a b l rest over w =
      record {
        within = w.links.0.0;
        joined = w.links.0.1;
        serves =
            let one = w.along.0 in
            subst (λ (i : ℕ). link_serves lows highs states i ≡ true) (w.links.0.2 one.0 one.1 one.2) one.3;
        before = λ e.
            clash (has-at (b ∷ rest) (length rest) (omega arith))
            (ap (has (b ∷ rest)) (w.ends ∙ sym e) ∙ w.no_repeat.0);
        below = w.below b (has_here b rest);
        fresh = w.fresh b (has_here b rest);
      }

  walked-rest : (met : ℕ → Bool) (a b l : ℕ) (rest over : List ℕ) → Walked n lows highs states to met a (b ∷ rest) (l ∷ over)
      → Walked n lows highs states to (met_at to met b) b rest over
  walked-rest met a b l rest over w =
      record {
        links = w.links.1;
        along = w.along.1;
        below = λ r h. w.below r (has_there b rest r h);
        fresh = λ r h. go r h (w.fresh r (has_there b rest r h));
        no_repeat = w.no_repeat.1;
        ends = w.ends;
      }
    where
      go : (r : ℕ) → has rest r ≡ true → (r ≡ to) ⊎ (met r ≡ false) → (r ≡ to) ⊎ (met_at to met b r ≡ false)
      go r h (inl e) = inl e
      go r h (inr e) =
          let apart : eqb b r ≡ false = ne_eqb b r (λ same. clash h (ap (has rest) (sym same) ∙ w.no_repeat.1.0)) in
          inr (met-step to met b r ∙ or-neither (met r) (eqb b r && not (eqb r to)) e (ap (λ (t : Bool). t && not (eqb r to)) apart))

  -- A walk whose rest holds takes a step for each relay that is left,
  pub walk_steps : (met : ℕ → Bool) (steps a : ℕ) (rest over : List ℕ) → Walked n lows highs states to met a rest over
      → (walk n lows highs states to met steps a rest over).steps ≡ steps + length rest
  unfolding walk
  walk_steps met steps a [] [] w = rw (eq-eqb a to w.ends) (omega arith)
  walk_steps met steps a [] (l ∷ over) w = absurd w.links
  walk_steps met steps a (b ∷ rest) [] w = absurd w.links
  walk_steps met steps a (b ∷ rest) (l ∷ over) w =
      rw (good-step met a b l (walked_step met a b l rest over w))
      (omega (arith, walk_steps (met_at to met b) (suc steps) b rest over (walked-rest met a b l rest over w)))

  -- and meets these relays but for the end.
  pub walk-met : (met : ℕ → Bool) (steps a : ℕ) (rest over : List ℕ) → Walked n lows highs states to met a rest over
      → (r : ℕ) → (walk n lows highs states to met steps a rest over).met r ≡ (met r || passes to rest r)
  unfolding walk passes has
  walk-met met steps a [] [] w r = sym (or-none (met r))
  walk-met met steps a [] (l ∷ over) w r = absurd w.links
  walk-met met steps a (b ∷ rest) [] w r = absurd w.links
  walk-met met steps a (b ∷ rest) (l ∷ over) w r =
      rw (good-step met a b l (walked_step met a b l rest over w))
      (walk-met (met_at to met b) (suc steps) b rest over (walked-rest met a b l rest over w) r
      ∙ ap (λ (t : Bool). t || passes to rest r) (met-step to met b r)
      ∙ sym (or_assoc (met r) (eqb b r && not (eqb r to)) (has rest r && not (eqb r to)))
      ∙ ap (λ (t : Bool). met r || t) (sym (and-or_distrib_right (eqb b r) (has rest r) (not (eqb r to)))))

  module _ (proper : ProperTable n lows highs) where
    -- A step that holds, and a walk that holds from there on after it.
    step-walked : (met : ℕ → Bool) (a b l : ℕ) (rest over : List ℕ) → (a ≡ to) ⊎ (met a ≡ true) → GoodStep n lows highs states to met a b l
        → Walked n lows highs states to (met_at to met b) b rest over → Walked n lows highs states to met a (b ∷ rest) (l ∷ over)
    step-walked met a b l rest over known good w =
        record {
          links = (
            (good.within, good.joined, λ i h e. one_link n lows highs proper a b i l h good.within e good.joined),
            w.links,
          );
          along = ((l, good.within, good.joined, good.serves), w.along);
          below = λ r h. below r (has-cases b rest r h);
          fresh = fresh;
          no_repeat = (has-not (b ∷ rest) a (λ h. again known (fresh a h)), w.no_repeat);
          ends = w.ends;
        }
      where
        below : (r : ℕ) → (b ≡ r) ⊎ (has rest r ≡ true) → r < n
        below r (inl e) = subst (λ (x : ℕ). x < n) e good.below
        below r (inr h) = w.below r h

        later : (r : ℕ) → (r ≡ to) ⊎ (met_at to met b r ≡ false) → (r ≡ to) ⊎ (met r ≡ false)
        later r (inl e) = inl e
        later r (inr e) = inr (or-false (met r) (eqb b r && not (eqb r to)) (sym (met-step to met b r) ∙ e)).0

        either : (r : ℕ) → (b ≡ r) ⊎ (has rest r ≡ true) → (r ≡ to) ⊎ (met r ≡ false)
        either r (inl e) = subst (λ (x : ℕ). (x ≡ to) ⊎ (met x ≡ false)) e good.fresh
        either r (inr h) = later r (w.fresh r h)

        fresh : (r : ℕ) → has (b ∷ rest) r ≡ true → (r ≡ to) ⊎ (met r ≡ false)
        fresh r h = either r (has-cases b rest r h)

        again : (a ≡ to) ⊎ (met a ≡ true) → (a ≡ to) ⊎ (met a ≡ false) → ⊥
        again (inl e) f = good.before e
        again (inr e) (inl f) = good.before f
        again (inr e) (inr f) = clash e f

    -- What is left of a route holds if the walk does not fail from a relay that is met or the end.
    pub walk-holds : (met : ℕ → Bool) (steps a : ℕ) (rest over : List ℕ) → (a ≡ to) ⊎ (met a ≡ true)
        → 0 < (walk n lows highs states to met steps a rest over).steps → Walked n lows highs states to met a rest over
    unfolding walk
    walk-holds met steps a [] [] known some =
        record {
          links = tt;
          along = tt;
          below = λ r h. absurd (clash h (has-nil r));
          fresh = λ r h. absurd (clash h (has-nil r));
          no_repeat = (has-nil a, tt);
          ends = go (eqb a to) refl some;
        }
      where
        go : (c : Bool) → eqb a to ≡ c → 0 < pick c steps 0 → a ≡ to
        go true e some = eqb-true a to e
        go false e some = absurd (omega arith)
    walk-holds met steps a [] (l ∷ over) known some = absurd (omega arith)
    walk-holds met steps a (b ∷ rest) [] known some = absurd (omega arith)
    walk-holds met steps a (b ∷ rest) (l ∷ over) known some =
        go (step_holds n lows highs states to met a b l) refl some (walk-holds (met_at to met b) (suc steps) b rest over (met-here to met b))
      where
        onward : Walk
        onward = walk n lows highs states to (met_at to met b) (suc steps) b rest over

        go : (c : Bool) → step_holds n lows highs states to met a b l ≡ c → 0 < (pick c onward (record { steps = 0; met = met })).steps
            → (0 < onward.steps → Walked n lows highs states to (met_at to met b) b rest over)
            → Walked n lows highs states to met a (b ∷ rest) (l ∷ over)
        go true e some deeper = step-walked met a b l rest over known (step-good met a b l e) (deeper some)
        go false e some deeper = absurd (omega arith)
