-- Every relay of a route is an end of a link that the route goes over; so between two relays there are at most as many routes without a
-- common link as either has links to relays in service, whichever way each of them runs and whether or not they repeat relays.
use Rattle.std.specs.Prelude.{ℕ, ◌-◌, ◌≤◌, ◌<◌, Bool, ◌&&◌, ◌⊎◌, ◌≡◌, get_or}
use Rattle.std.proofs.Math.Bool.{true}
use mathlib.Core.List.{List, [], ◌∷◌}
use Rattle.std.proofs.Common.{inl, inr, sym, ◌∙◌}
use Rattle.std.proofs.Math.Path.{subst}
use native.Mathlib.Omega.{arith}
use Rattle.std.proofs.Math.ListN.{length}
use Rattle.definitions.specs.Lists.{table, first_from, has}
use Rattle.definitions.specs.Network.{joins, touches, serves, link_serves}
use Rattle.definitions.specs.Order.{links_at}
use Rattle.definitions.specs.DisjointRoutes.{LinkOf, InService, AlongFrom, Along, uses_from, uses, RouteRuns, NoCommonLink, RoutesBetween}
use Rattle.lists.specs.Tests.{or_left, or_right, and_both, and-all}
use Rattle.lists.specs.Cases.{has-nil, has-cases}
use Rattle.lists.specs.Counting.{count-length}
use Rattle.lists.specs.Members.{has-at, range-has}
use Rattle.lists.specs.Searches.{clash, first_holds}
use Rattle.lists.specs.Pigeonhole.{pigeonhole}
use Rattle.lists.specs.Tables.{length-table}
use Rattle.theory.specs.Links.{joins-sym, joins-touch, touch-ends}
use Rattle.theory.specs.SharedLinks.{has-ends}

-- An end of a link with both ends in service is in service.
end-serves : (lows highs states : List ℕ) (r i : ℕ) → touches lows highs r i ≡ true → InService lows highs states i → serves states r ≡ true
unfolding link_serves
end-serves lows highs states r i touch e =
    let both = and_both (serves states (get_or lows i 0)) (serves states (get_or highs i 0)) e in
    go both (touch-ends lows highs r i touch)
  where
    go : (serves states (get_or lows i 0) ≡ true) × (serves states (get_or highs i 0) ≡ true) → (get_or lows i 0 ≡ r) ⊎ (get_or highs i 0 ≡ r)
        → serves states r ≡ true
    go both (inl at) = subst (λ (x : ℕ). serves states x ≡ true) at both.0
    go both (inr at) = subst (λ (x : ℕ). serves states x ≡ true) at both.1

module _ (lows highs : List ℕ) (picked : ℕ → Type 0) where
  -- The route, from a on, goes over a picked link that has r as an end.
  abbrev OverFrom : (r a : ℕ) (rest : List ℕ) → Type 0
  OverFrom r a rest =
      (i : ℕ) × (i < length lows) × (uses_from lows highs i a rest ≡ true) × (touches lows highs r i ≡ true) × picked i

  -- A link that joins a and b is at both.
  at-step : (r a b : ℕ) (rest : List ℕ) → LinkOf lows highs picked a b → (a ≡ r) ⊎ (b ≡ r) → OverFrom r a (b ∷ rest)
  unfolding uses_from
  at-step r a b rest l end =
      (l.0, l.1, or_left (joins lows highs a b l.0) (uses_from lows highs l.0 b rest) l.2, go end, l.3)
    where
      go : (a ≡ r) ⊎ (b ≡ r) → touches lows highs r l.0 ≡ true
      go (inl e) = subst (λ (x : ℕ). touches lows highs x l.0 ≡ true) e (joins-touch lows highs a b l.0 l.2)
      go (inr e) =
          subst (λ (x : ℕ). touches lows highs x l.0 ≡ true) e
          (joins-touch lows highs b a l.0 (joins-sym lows highs a b l.0 l.2))

  further : (r a b : ℕ) (rest : List ℕ) → OverFrom r b rest → OverFrom r a (b ∷ rest)
  unfolding uses_from
  further r a b rest o =
      (o.0, o.1, or_right (joins lows highs a b o.0) (uses_from lows highs o.0 b rest) o.2, o.3, o.4)

  over-from : (r a b : ℕ) (rest : List ℕ) → AlongFrom (LinkOf lows highs picked) a (b ∷ rest) → has (a ∷ b ∷ rest) r ≡ true
      → OverFrom r a (b ∷ rest)
  over-from r a b [] along h = go (has-cases a (b ∷ []) r h)
    where
      second : (b ≡ r) ⊎ (has [] r ≡ true) → OverFrom r a (b ∷ [])
      second (inl e) = at-step r a b [] along.0 (inr e)
      second (inr never) = absurd (clash never (has-nil r))

      go : (a ≡ r) ⊎ (has (b ∷ []) r ≡ true) → OverFrom r a (b ∷ [])
      go (inl e) = at-step r a b [] along.0 (inl e)
      go (inr there) = second (has-cases b [] r there)
  over-from r a b (c ∷ rest) along h = go (has-cases a (b ∷ c ∷ rest) r h) (over-from r b c rest along.1)
    where
      go : (a ≡ r) ⊎ (has (b ∷ c ∷ rest) r ≡ true) → (has (b ∷ c ∷ rest) r ≡ true → OverFrom r b (c ∷ rest))
          → OverFrom r a (b ∷ c ∷ rest)
      go (inl e) later = at-step r a b (c ∷ rest) along.0 (inl e)
      go (inr there) later = further r a b (c ∷ rest) (later there)

  pub link-over : (route : List ℕ) → 2 ≤ length route → Along (LinkOf lows highs picked) route → (r : ℕ) → has route r ≡ true
      → (i : ℕ) × (i < length lows) × (uses lows highs i route ≡ true) × (touches lows highs r i ≡ true) × picked i
  unfolding uses
  link-over [] long along r h = absurd (omega arith)
  link-over (a ∷ []) long along r h = absurd (omega arith)
  link-over (a ∷ b ∷ rest) long along r h = over-from r a b rest along h

-- The relays of a route along links with both ends in service are in service.
pub along-serves : (lows highs states route : List ℕ) → 2 ≤ length route → Along (LinkOf lows highs (InService lows highs states)) route
    → (r : ℕ) → has route r ≡ true → serves states r ≡ true
along-serves lows highs states route long along r h =
    let over = link-over lows highs (InService lows highs states) route long along r h in
    end-serves lows highs states r over.0 over.3 over.4

-- The links at r with both ends in service, those of them that a route goes over, and the first of these.
abbrev pub at_end : (lows highs states : List ℕ) (r i : ℕ) → Bool
at_end lows highs states r i = touches lows highs r i && link_serves lows highs states i

abbrev over_end : (lows highs states : List ℕ) (r : ℕ) (route : List ℕ) (i : ℕ) → Bool
over_end lows highs states r route i = uses lows highs i route && at_end lows highs states r i

abbrev first_over : (lows highs states : List ℕ) (r : ℕ) (route : List ℕ) → ℕ
first_over lows highs states r route = first_from (over_end lows highs states r route) 0 (length lows)

-- No relay has more links than there are.
pub links-few : (lows highs states : List ℕ) (r : ℕ) → links_at lows highs states r ≤ length lows
unfolding links_at
links-few lows highs states r =
    omega (
      arith,
      count-length (at_end lows highs states r) (table (λ i. i) 0 (length lows)),
      length-table (λ (i : ℕ). i) 0 (length lows),
    )

module _ (n : ℕ) (lows highs states : List ℕ) (picked : ℕ → Type 0) where
  -- A route from one relay to another.
  abbrev Runs : (from to : ℕ) (route : List ℕ) → Type 0
  Runs from to route = RouteRuns n lows highs states picked from to route

  -- A link that a route goes over has both ends in service.
  over-serves : (from to : ℕ) (route : List ℕ) → Runs from to route → (i : ℕ) → uses lows highs i route ≡ true
      → link_serves lows highs states i ≡ true
  unfolding link_serves
  over-serves from to route runs i e =
      let both = has-ends lows highs i route e in
      and-all (serves states (get_or lows i 0)) (serves states (get_or highs i 0))
      (runs.through (get_or lows i 0) both.0).1 (runs.through (get_or highs i 0) both.1).1

  -- A route has its two ends,
  has_end : (from to : ℕ) (route : List ℕ) → Runs from to route → (r : ℕ) → (r ≡ from) ⊎ (r ≡ to) → has route r ≡ true
  has_end from to route runs r (inl e) =
      subst (λ (x : ℕ). has route x ≡ true) (runs.starts ∙ sym e) (has-at route 0 (omega (arith, runs.long)))
  has_end from to route runs r (inr e) =
      subst (λ (x : ℕ). has route x ≡ true) (runs.ends ∙ sym e) (has-at route (length route - 1) (omega (arith, runs.long)))

  -- so it goes over a link at each of them.
  abbrev OverAtEnd : (r : ℕ) (route : List ℕ) → Type 0
  OverAtEnd r route =
      (first_over lows highs states r route < length lows)
      × (uses lows highs (first_over lows highs states r route) route ≡ true)
      × (at_end lows highs states r (first_over lows highs states r route) ≡ true)

  first-over : (from to : ℕ) (route : List ℕ) → Runs from to route → (r : ℕ) → (r ≡ from) ⊎ (r ≡ to) → OverAtEnd r route
  first-over from to route runs r end =
      let l = link-over lows highs picked route runs.long runs.along r (has_end from to route runs r end) in
      let at : at_end lows highs states r l.0 ≡ true =
      and-all (touches lows highs r l.0) (link_serves lows highs states l.0) l.3 (over-serves from to route runs l.0 l.2) in
      let passes : over_end lows highs states r route l.0 ≡ true =
      and-all (uses lows highs l.0 route) (at_end lows highs states r l.0) l.2 at in
      let w = first_holds (over_end lows highs states r route) (length lows) 0 l.0 (omega arith) (omega (arith, l.1)) passes in
      let first = first_over lows highs states r route in
      let both = and_both (uses lows highs first route) (at_end lows highs states r first) w.passes in
      (omega (arith, w.upto, l.1), both.0, both.1)

  -- In either direction: both relays are ends.
  over-either : (from to : ℕ) (route : List ℕ) → Runs from to route ⊎ Runs to from route → (r : ℕ) → (r ≡ from) ⊎ (r ≡ to)
      → OverAtEnd r route
  over-either from to route (inl runs) r end = first-over from to route runs r end
  over-either from to route (inr runs) r (inl e) = first-over to from route runs r (inr e)
  over-either from to route (inr runs) r (inr e) = first-over to from route runs r (inl e)

  -- Routes without a common link go over different links at r.
  pub routes-at-most : (from to r : ℕ) → (r ≡ from) ⊎ (r ≡ to) → (routes : List (List ℕ))
      → RoutesBetween (RouteRuns n lows highs states picked) (NoCommonLink lows highs) from to routes
      → length routes ≤ links_at lows highs states r
  unfolding links_at
  routes-at-most from to r end routes between =
      pigeonhole (at_end lows highs states r) (table (λ i. i) 0 (length lows)) (length routes)
      (λ i. first_over lows highs states r (get_or routes i []))
      (λ i h.
      let w = over-either from to (get_or routes i []) (between.each i h) r end in
      (range-has 0 (length lows) (first_over lows highs states r (get_or routes i [])) (omega arith) (omega (arith, w.0)), w.2))
      (λ i j less h same.
      let low : i < length routes = omega arith in
      let one = over-either from to (get_or routes i []) (between.each i low) r end in
      let other = over-either from to (get_or routes j []) (between.each j h) r end in
      between.parted i j low h (omega arith) (first_over lows highs states r (get_or routes j [])) other.0
      (subst (λ (l : ℕ). uses lows highs l (get_or routes i []) ≡ true) same one.1) other.1)
