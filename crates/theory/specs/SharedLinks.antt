-- Routes that share a link: both have its two ends next to each other.
use Rattle.std.specs.Prelude.{ℕ, zero, suc, ◌<◌, ◌⊎◌, ◌≡◌, length, get_or}
use Rattle.std.proofs.Math.Bool.{true}
use Rattle.std.proofs.lemmas.Bool.{false≢true}
use mathlib.Core.List.{List, [], ◌∷◌}
use Rattle.std.proofs.Common.{inl, inr, sym, ◌∙◌, ap}
use native.Mathlib.Omega.{arith}
use Rattle.definitions.specs.Lists.{has}
use Rattle.definitions.specs.Network.{joins}
use Rattle.definitions.specs.DisjointRoutes.{uses_from, uses, RouteHolds}
use Rattle.lists.specs.Tests.{or-either}
use Rattle.lists.specs.Members.{has-at}
use Rattle.lists.specs.Ends.{ends-meet}
use Rattle.theory.specs.Links.{joins-ends}

module _ (lows highs : List ℕ) where
  -- Entry j of a route and the next one are the ends of link i.
  abbrev pub StepOver : ℕ → List ℕ → ℕ → Type 0
  StepOver i route j = (suc j < length route) × (joins lows highs (get_or route j 0) (get_or route (suc j) 0) i ≡ true)

  step_from : (i a : ℕ) (rest : List ℕ) → uses_from lows highs i a rest ≡ true → (j : ℕ) × StepOver i (a ∷ rest) j
  unfolding uses_from
  step_from i a [] e = absurd (false≢true e)
  step_from i a (b ∷ rest) e = go (or-either (joins lows highs a b i) (uses_from lows highs i b rest) e) (step_from i b rest)
    where
      go : (joins lows highs a b i ≡ true) ⊎ (uses_from lows highs i b rest ≡ true)
          → (uses_from lows highs i b rest ≡ true → (j : ℕ) × StepOver i (b ∷ rest) j) → (j : ℕ) × StepOver i (a ∷ b ∷ rest) j
      go (inl here) later = (zero, (omega arith, here))
      go (inr there) later =
          let r = later there in
          (suc r.0, (omega (arith, r.1.0), r.1.1))

  pub step-over : (i : ℕ) (route : List ℕ) → uses lows highs i route ≡ true → (j : ℕ) × StepOver i route j
  unfolding uses
  step-over i [] e = absurd (false≢true e)
  step-over i (a ∷ rest) e = step_from i a rest e

  -- A route that goes over link i has both its ends.
  pub has-ends : (i : ℕ) (route : List ℕ) → uses lows highs i route ≡ true
      → (has route (get_or lows i 0) ≡ true) × (has route (get_or highs i 0) ≡ true)
  has-ends i route e = go (joins-ends lows highs (get_or route r.0 0) (get_or route (suc r.0) 0) i r.1.1)
    where
      r : (j : ℕ) × StepOver i route j
      r = step-over i route e

      here : has route (get_or route r.0 0) ≡ true
      here = has-at route r.0 (omega (arith, r.1.0))

      next : has route (get_or route (suc r.0) 0) ≡ true
      next = has-at route (suc r.0) r.1.0

      go : ((get_or lows i 0 ≡ get_or route r.0 0) × (get_or highs i 0 ≡ get_or route (suc r.0) 0))
          ⊎ ((get_or lows i 0 ≡ get_or route (suc r.0) 0) × (get_or highs i 0 ≡ get_or route r.0 0))
          → (has route (get_or lows i 0) ≡ true) × (has route (get_or highs i 0) ≡ true)
      go (inl e) = (ap (has route) e.0 ∙ here, ap (has route) e.1 ∙ next)
      go (inr e) = (ap (has route) e.0 ∙ next, ap (has route) e.1 ∙ here)

  -- What has both ends of link i has both relays that the link joins.
  has-joined : (i a b : ℕ) (route : List ℕ) → joins lows highs a b i ≡ true
      → has route (get_or lows i 0) ≡ true → has route (get_or highs i 0) ≡ true → (has route a ≡ true) × (has route b ≡ true)
  has-joined i a b route e low high = go (joins-ends lows highs a b i e)
    where
      go : ((get_or lows i 0 ≡ a) × (get_or highs i 0 ≡ b)) ⊎ ((get_or lows i 0 ≡ b) × (get_or highs i 0 ≡ a))
          → (has route a ≡ true) × (has route b ≡ true)
      go (inl p) = (ap (has route) (sym p.0) ∙ low, ap (has route) (sym p.1) ∙ high)
      go (inr p) = (ap (has route) (sym p.1) ∙ high, ap (has route) (sym p.0) ∙ low)

  -- Of two routes that share no relay but the ends and yet go over one link, each is the two ends alone.
  pub shared-link : {n : ℕ} {states : List ℕ} {picked : ℕ → Type 0} {from to : ℕ} {one : List ℕ}
      → RouteHolds n lows highs states picked from to one
      → (other : List ℕ) → ((r : ℕ) → has one r ≡ true → has other r ≡ true → (r ≡ from) ⊎ (r ≡ to))
      → (i : ℕ) → uses lows highs i one ≡ true → uses lows highs i other ≡ true → length one ≡ 2
  shared-link {from = from} {to = to} {one = one} holds other shared i p q =
      let r = step-over i one p in
      let both = has-ends i other q in
      let in-other = has-joined i (get_or one r.0 0) (get_or one (suc r.0) 0) other r.1.1 both.0 both.1 in
      ends-meet one holds.no_repeat from to holds.runs.starts holds.runs.ends r.0 r.1.0
      (shared (get_or one r.0 0) (has-at one r.0 (omega (arith, r.1.0))) in-other.0)
      (shared (get_or one (suc r.0) 0) (has-at one (suc r.0) r.1.0) in-other.1)
