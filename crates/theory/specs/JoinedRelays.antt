-- Chains of links (`Joined`): put together, turned round where the links can be, taken over by a function, with each link replaced
-- by a chain, and from a list of relays.
use Rattle.std.specs.Prelude.{ℕ, zero, suc, ◌-◌, ◌≤◌, true, List, [], ◌∷◌, map, ◌≡◌, length, get_or}
use Rattle.std.proofs.Common.{sym, subst, arith}
use Rattle.definitions.specs.Lists.{has}
use Rattle.definitions.specs.DisjointRoutes.{Along, AlongFrom}
use Rattle.definitions.specs.Demand.{Joined, alone, onward}
use Rattle.lists.specs.Members.{has-at}

module _ {live : ℕ → Type 0} {link : ℕ → ℕ → Type 0} where
  pub joined-start : {a b : ℕ} → Joined live link a b → live a
  joined-start (alone l) = l
  joined-start (onward l k r) = l

  pub joined-trans : {a b c : ℕ} → Joined live link a b → Joined live link b c → Joined live link a c
  joined-trans (alone l) q = q
  joined-trans (onward l k r) q = onward l k (joined-trans r q)

  pub joined-sym : ((a b : ℕ) → link a b → link b a) → {a b : ℕ} → Joined live link a b → Joined live link b a
  joined-sym turn (alone l) = alone l
  joined-sym turn (onward {a = a} {b = b} l k r) = joined-trans (joined-sym turn r) (onward (joined-start r) (turn a b k) (alone l))

-- A function that takes live places to live ones and links to links takes chains to chains.
pub joined-map : {live alive : ℕ → Type 0} {link tie : ℕ → ℕ → Type 0} (f : ℕ → ℕ)
    → ((a : ℕ) → live a → alive (f a)) → ((a b : ℕ) → link a b → tie (f a) (f b))
    → {a b : ℕ} → Joined live link a b → Joined alive tie (f a) (f b)
joined-map f lives ties (alone {a = a} l) = alone (lives a l)
joined-map f lives ties (onward {a = a} {b = b} l k r) = onward (lives a l) (ties a b k) (joined-map f lives ties r)

-- A chain whose every link between live ends can be replaced by a chain.
pub joined-replace : {live : ℕ → Type 0} {link tie : ℕ → ℕ → Type 0}
    → ((a b : ℕ) → live a → live b → link a b → Joined live tie a b)
    → {a b : ℕ} → Joined live link a b → Joined live tie a b
joined-replace detour (alone l) = alone l
joined-replace detour (onward {a = a} {b = b} l k r) =
    joined-trans (detour a b l (joined-start r) k) (joined-replace detour r)

along-joined : {live : ℕ → Type 0} {link : ℕ → ℕ → Type 0} (a : ℕ) (rest : List ℕ)
    → ((i : ℕ) → i ≤ length rest → live (get_or (a ∷ rest) i 0)) → AlongFrom link a rest
    → Joined live link a (get_or (a ∷ rest) (length rest) 0)
along-joined a [] lives links = alone (lives zero (omega arith))
along-joined a (b ∷ rest) lives links =
    onward (lives zero (omega arith)) links.0
    (along-joined b rest (λ i h. lives (suc i) (omega arith)) links.1)

-- A list of live relays, each linked to the next, is a chain from its first to its last.
pub route-joined : {live : ℕ → Type 0} {link : ℕ → ℕ → Type 0} (route : List ℕ)
    → 1 ≤ length route → ((x : ℕ) → has route x ≡ true → live x) → Along link route
    → Joined live link (get_or route 0 0) (get_or route (length route - 1) 0)
route-joined [] long lives links = absurd (omega arith)
route-joined {live} {link} (a ∷ rest) long lives links =
    let e : suc (length rest) - 1 ≡ length rest = omega arith in
    subst (λ (i : ℕ). Joined live link a (get_or (a ∷ rest) i 0)) (sym e)
    (along-joined a rest (λ i h. lives (get_or (a ∷ rest) i 0) (has-at (a ∷ rest) i (omega arith))) links)

along-from-map : (link tie : ℕ → ℕ → Type 0) (f : ℕ → ℕ) → ((a b : ℕ) → link a b → tie (f a) (f b))
    → (a : ℕ) (rest : List ℕ) → AlongFrom link a rest → AlongFrom tie (f a) (map f rest)
along-from-map link tie f ties a [] links = tt
along-from-map link tie f ties a (b ∷ rest) links = (ties a b links.0, along-from-map link tie f ties b rest links.1)

-- A function that takes links to links takes a list along the ones to a list along the others.
pub along-map : (link tie : ℕ → ℕ → Type 0) (f : ℕ → ℕ) → ((a b : ℕ) → link a b → tie (f a) (f b))
    → (route : List ℕ) → Along link route → Along tie (map f route)
along-map link tie f ties [] links = tt
along-map link tie f ties (a ∷ rest) links = along-from-map link tie f ties a rest links
