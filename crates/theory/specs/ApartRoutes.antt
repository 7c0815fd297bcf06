-- When two routes with the same two ends are apart: if they share no relay but the ends, and not both are of two relays.
use Rattle.std.specs.Prelude.{ℕ, ◌<◌, true, List, [], ◌∷◌, ◌⊎◌, ◌≡◌, length}
use Rattle.std.proofs.Math.Bool.{false}
use Rattle.std.proofs.Math.Logic.{by_cases}
use Rattle.std.proofs.Common.{◌∙◌, ap₂, subst, arith}
use Rattle.std.proofs.Math.Path.{ap}
use Rattle.std.proofs.Math.Decide.{dec_lt}
use Rattle.definitions.specs.Lists.{has}
use Rattle.definitions.specs.Network.{joins}
use Rattle.definitions.specs.DisjointRoutes.{LinkOf, Along, uses_from, uses, RouteHolds, Apart}
use Rattle.lists.specs.Tests.{or_left}
use Rattle.lists.specs.Ends.{two-entries}
use Rattle.theory.specs.SharedLinks.{shared-link}

module _ (lows highs : List ℕ) {n : ℕ} {states : List ℕ} {picked : ℕ → Type 0} {from to : ℕ} where
  -- Two routes that share no relay but the ends are apart if not both are of two relays.
  pub relays-apart : (one other : List ℕ) → RouteHolds n lows highs states picked from to one
      → RouteHolds n lows highs states picked from to other
      → ((r : ℕ) → has one r ≡ true → has other r ≡ true → (r ≡ from) ⊎ (r ≡ to)) → (length one ≡ 2 → 2 < length other)
      → Apart lows highs from to one other
  relays-apart one other first second shared longer =
      record {
        relays = shared;
        links = λ i h p q.
            let two = shared-link lows highs first other shared i p q in
            let also = shared-link lows highs second one (λ r x y. shared r y x) i q p in
            omega (arith, longer two, also);
      }

  -- A route of two relays is its two ends,
  direct-ends : (route : List ℕ) → RouteHolds n lows highs states picked from to route → length route ≡ 2 → route ≡ from ∷ to ∷ []
  direct-ends route holds two = two-entries route two ∙ ap₂ (λ (a b : ℕ). a ∷ b ∷ []) holds.runs.starts holds.runs.ends

  -- so a link joins them,
  direct-link : (route : List ℕ) → RouteHolds n lows highs states picked from to route → length route ≡ 2 → LinkOf lows highs picked from to
  direct-link route holds two = (subst (Along (LinkOf lows highs picked)) (direct-ends route holds two) holds.runs.along).0

  -- and the route goes over every link that does.
  direct-uses : (route : List ℕ) → RouteHolds n lows highs states picked from to route → length route ≡ 2
      → (l : ℕ) → joins lows highs from to l ≡ true → uses lows highs l route ≡ true
  unfolding uses uses_from
  direct-uses route holds two l e =
      ap (uses lows highs l) (direct-ends route holds two) ∙ or_left (joins lows highs from to l) false e

  -- Of two routes that are apart not both are of two relays.
  pub apart-longer : (one other : List ℕ) → RouteHolds n lows highs states picked from to one
      → RouteHolds n lows highs states picked from to other
      → Apart lows highs from to one other → length one ≡ 2 → 2 < length other
  apart-longer one other first second apart two =
      by_cases (dec_lt 2 (length other)) (λ more. more)
      (λ less.
      let also : length other ≡ 2 = omega (arith, second.runs.long) in
      let link = direct-link one first two in
      let one-uses = direct-uses one first two link.0 link.2 in
      let other-uses = direct-uses other second also link.0 link.2 in
      absurd (apart.links link.0 link.1 one-uses other-uses))

-- What is apart is so either way round.
pub apart-turned : {lows highs : List ℕ} {from to : ℕ} {one other : List ℕ} → Apart lows highs from to one other
    → Apart lows highs from to other one
apart-turned apart = record { relays = λ r p q. apart.relays r q p; links = λ i h p q. apart.links i h q p }
