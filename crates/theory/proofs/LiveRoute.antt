-- While fewer than k relays are dead, of k routes between two live relays that share only their ends one is live throughout.
-- Over any order, whose relays are the ones in service, and for any k from 1 on.
use Rattle.std.specs.Prelude.{ℕ, ◌≤◌, ◌<◌, Bool, true, false, List, [], ◌⊎◌, ◌≡◌, length, get_or}
use Rattle.std.proofs.Common.{true≢false, inl, inr, sym, ◌∙◌, ap, subst, subst₂, arith}
use Rattle.definitions.specs.Lists.{has, count}
use Rattle.definitions.specs.Network.{Serving}
use Rattle.definitions.specs.DisjointRoutes.{LinkOf}
use Rattle.definitions.specs.Demand.{Joined, Kept}
use Rattle.lists.specs.Pigeonhole.{pigeonhole, first_passing, free-list}
use Rattle.theory.specs.JoinedRelays.{route-joined}
use Rattle.theory.specs.Arranged.{Arranged}
use Rattle.theory.proofs.Columns.{MarkedIn}
use Rattle.theory.proofs.RelayRoutes.{RoutesIn}

-- A relay of the order that is not dead.
abbrev pub LiveIn : List ℕ → (ℕ → Bool) → ℕ → Type 0
LiveIn order dead r = (has order r ≡ true) × (dead r ≡ false)

module _ (order lows highs : List ℕ) (arranged : Arranged order lows highs) (n : ℕ) (states : List ℕ)
    (serving : (r : ℕ) → has order r ≡ true → Serving n states r) (k : ℕ) (one : 1 ≤ k) (marks : List ℕ)
    (marked : MarkedIn order lows highs k marks) (dead : ℕ → Bool) (few : count dead order < k) where
  -- Of k routes between two live relays one is live throughout: each dead relay is on at most one of them.
  pub live-route : (a b : ℕ) → LiveIn order dead a → LiveIn order dead b → (routes : List (List ℕ))
      → RoutesIn order n lows highs states marks k a b routes → Joined (LiveIn order dead) (LinkOf lows highs (Kept marks)) a b
  live-route a b la lb routes holds = go (free-list dead (λ i. get_or routes i []) k)
    where
      ends-live : (x : ℕ) → dead x ≡ true → (x ≡ a) ⊎ (x ≡ b) → ⊥
      ends-live x d (inl e) = true≢false (sym d ∙ ap dead e ∙ la.1)
      ends-live x d (inr e) = true≢false (sym d ∙ ap dead e ∙ lb.1)

      found : ℕ → ℕ
      found i = first_passing dead (get_or routes i [])

      within : (i : ℕ) → i < k → i < length routes
      within i h = omega (arith, holds.among.number)

      go : ((i : ℕ) × (i < k) × ((x : ℕ) → has (get_or routes i []) x ≡ true → dead x ≡ false))
          ⊎ ((i : ℕ) → i < k → (has (get_or routes i []) (found i) ≡ true) × (dead (found i) ≡ true))
          → Joined (LiveIn order dead) (LinkOf lows highs (Kept marks)) a b
      go (inl free) =
          let route : List ℕ = get_or routes free.0 [] in
          let route-holds = holds.among.disjoint.each free.0 (within free.0 free.1) in
          subst₂ (Joined (LiveIn order dead) (LinkOf lows highs (Kept marks))) route-holds.runs.starts route-holds.runs.ends
          (route-joined route (omega (arith, route-holds.runs.long))
          (λ x h. (holds.within free.0 (within free.0 free.1) x h, free.2 x h)) route-holds.runs.along)
      go (inr blocked) =
          let all : k ≤ count dead order =
          pigeonhole dead order k found (λ i h. (holds.within i (within i h) (found i) (blocked i h).0, (blocked i h).1))
          (λ i j less h e.
          ends-live (found i) (blocked i (omega arith)).1
          ((holds.among.disjoint.apart i j (within i (omega arith)) (within j h) (omega arith)).relays (found i) (blocked i (omega arith)).0
          (subst (λ (x : ℕ). has (get_or routes j []) x ≡ true) (sym e) (blocked j h).0))) in
          absurd (omega arith)
