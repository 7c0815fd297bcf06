-- Document 01, 'What demand 3 speaks of', and demand 3 as one statement about the results of Order, Split, Cut and Route.
-- The statement is a type; the crate `theory` proves it. Assumes nothing.
use Rattle.std.specs.Prelude.{ℕ, ◌+◌, ◌-◌, ◌*◌, ◌≤◌, ◌<◌, Bool, true, false, List, [], ◌∷◌, ◌↔◌, ◌≢◌, ◌≡◌, eqb, length, get_or, take, drop}
use Rattle.definitions.specs.Outcome.{Answer, refused, done}
use Rattle.definitions.specs.Lists.{table, count, total}
use Rattle.definitions.specs.Network.{linked, serves, link_serves, Serving, Accepted}
use Rattle.definitions.specs.Order.{serving_relays, links_at, relays_after, places_after}
use Rattle.definitions.specs.Forests.{forests_after, marks_after}
use Rattle.definitions.specs.DisjointRoutes.{LinkOf, InService, DisjointRoutes}
use Rattle.definitions.specs.Route.{too_short, route_answer, counts_after, route_relays_after}

-- "Two relays are joined through live relays over some links if a chain of live relays, both of them included, leads from
-- one to the other, each joined to the next by one of those links."
pub data Joined (live : ℕ → Type 0) (link : ℕ → ℕ → Type 0) : ℕ → ℕ → Type 0 where
  alone : {a : ℕ} → live a → Joined live link a a
  onward : {a b c : ℕ} → live a → link a b → Joined live link b c → Joined live link a c

-- "A link is kept if Cut marks it 1."
abbrev pub Kept : (marks : List ℕ) (i : ℕ) → Type 0
Kept marks i = get_or marks i 0 ≡ 1

-- "forest i holds the links that Split gives the number i"
abbrev pub InForest : (forests : List ℕ) (f i : ℕ) → Type 0
InForest forests f i = get_or forests i 0 ≡ f

-- "Any of its relays may be found dead, none or all of them"; "Live relays now means those in service and not found dead" (document
-- 02, #105).
abbrev pub Live : (n : ℕ) (states : List ℕ) (dead : ℕ → Bool) (r : ℕ) → Type 0
Live n states dead r = Serving n states r × (dead r ≡ false)

-- How many of the relays in service are dead. Fewer than k of these is what is asked below; where fewer than k of all the relays
-- are dead, fewer than k of these are.
abbrev pub dead_count : (n : ℕ) (states : List ℕ) (dead : ℕ → Bool) → ℕ
dead_count n states dead = count dead (serving_relays n states)

-- "Two relays are in one tree of forest i if they are equal or joined by links of forest i alone."
abbrev pub OneTree : (lows highs forests : List ℕ) (f a b : ℕ) → Type 0
OneTree lows highs forests f a b = Joined (λ _. Unit {0}) (LinkOf lows highs (InForest forests f)) a b

-- "A route is as Route's two lists give it": the relay list cut up by the counts.
unfoldable pub cut_up : (counts relays : List ℕ) → List (List ℕ)
cut_up [] relays = []
cut_up (size ∷ counts) relays = take size relays ∷ cut_up counts (drop size relays)

-- The routes that Route's two lists give: k of them. "Each runs along kept links and repeats no relay, and no two have a common link or a
-- common relay but the ends. At most n − 2 + 2k relays are written in all." These are "the sum of the k counts, which is also Route's
-- answer". Two different relays make n at least 2, so n − 2 is not cut off at 0.
pub record RoutesHold (n : ℕ) (lows highs states marks : List ℕ) (k from to : ℕ) (counts relays : List ℕ) : Type 0 where
  pub number : length (cut_up (take k counts) relays) ≡ k
  pub disjoint : DisjointRoutes n lows highs states (Kept marks) from to (cut_up (take k counts) relays)
  pub written : total (take k counts) ≤ n - 2 + 2 * k

-- Route is not refused and gives its routes.
pub record Delivered (n : ℕ) (lows highs states marks : List ℕ) (k from to : ℕ) (answer : Answer) (counts relays : List ℕ) : Type 0 where
  pub answered : answer ≡ done (total (take k counts) ∷ [])
  pub routes : RoutesHold n lows highs states marks k from to counts relays

-- What demand 3 says of two different relays and of lists that are long enough ("Lists are long enough if Route has no cause
-- for 12"), about Route's answer and its two lists afterwards: the k routes if the two are in one tree of forest k, and 13
-- exactly if they are not.
pub record RouteDelivers
    (n : ℕ) (lows highs states forests marks : List ℕ) (k from to : ℕ) (answer : Answer) (counts relays : List ℕ) : Type 0 where
  pub in_one_tree : OneTree lows highs forests k from to → Delivered n lows highs states marks k from to answer counts relays
  pub thirteen : (answer ≡ refused 13 0) ↔ (OneTree lows highs forests k from to → ⊥)

-- How many relays are in service.
abbrev pub in_service_count : (n : ℕ) (states : List ℕ) → ℕ
in_service_count n states = length (serving_relays n states)

-- What Order's two lists say: an order of the relays in service, its list of relays and its list of places each undoing the other, where
-- "a withdrawn relay has place 0" (document 02, #105). It is maximal: "for every two vertices v < w, v has at least as many neighbors in ..
-- as w has", between the dots those before v (document 002, section 2). And "the first relay is the one with the most links, of equals
-- the lowest number" (document 02, #104).
pub record MaximalOrder (n : ℕ) (lows highs states relays places : List ℕ) : Type 0 where
  pub placed : (r : ℕ) → r < n → serves states r ≡ true
      → (1 ≤ get_or places r 0) × (get_or places r 0 ≤ in_service_count n states) × (get_or relays (get_or places r 0 - 1) 0 ≡ r)
  pub unplaced : (r : ℕ) → r < n → serves states r ≡ false → get_or places r 0 ≡ 0
  pub named : (v : ℕ) → v < in_service_count n states
      → (get_or relays v 0 < n) × (serves states (get_or relays v 0) ≡ true) × (get_or places (get_or relays v 0) 0 ≡ v + 1)
  pub maximal : (v w : ℕ) → v < w → w < in_service_count n states
      → count (λ p. linked lows highs p (get_or relays w 0)) (take v relays)
      ≤ count (λ p. linked lows highs p (get_or relays v 0)) (take v relays)
  pub busiest : (r : ℕ) → r < n → serves states r ≡ true
      → links_at lows highs states r ≤ links_at lows highs states (get_or relays 0 0)
  pub lowest : (r : ℕ) → r < n → serves states r ≡ true
      → links_at lows highs states r ≡ links_at lows highs states (get_or relays 0 0) → get_or relays 0 0 ≤ r

-- The results of the four together, for one network, one k, and lists that were lent to Order, Split and Cut.
pub record Holds (n : ℕ) (lows highs states : List ℕ) (k : ℕ) (relays places forests marks : List ℕ) : Type 0 where
  pub order : MaximalOrder n lows highs states relays places
  -- "Whichever relays are found dead afterwards, if they are fewer than k, any two different live ones are joined through live relays
  -- over the kept links exactly when they are joined through live relays over all the links."
  pub survives : (dead : ℕ → Bool) → dead_count n states dead < k → (a b : ℕ) → Live n states dead a → Live n states dead b
      → Joined (Live n states dead) (LinkOf lows highs (Kept marks)) a b
      ↔ Joined (Live n states dead) (LinkOf lows highs (InService lows highs states)) a b
  -- "Forest i holds at most n − i links, for every i from 1 to n", where "n in the bound on forests, also where it ends the range of i,
  -- counts relays in service" (document 02, #105). Each link with both ends in service is in one of these forests;
  pub bound : (i : ℕ) → 1 ≤ i → i ≤ in_service_count n states → count (eqb i) (take (length lows) forests) ≤ in_service_count n states - i
  pub in_one : (i : ℕ) → i < length lows → InService lows highs states i
      → (1 ≤ get_or forests i 0) × (get_or forests i 0 < in_service_count n states)
  -- of a withdrawn relay "its links belong to no forest and carry mark 0". So "The counts of the forests add up to the links with both
  -- ends in service".
  pub in_none : (i : ℕ) → i < length lows → link_serves lows highs states i ≡ false → (get_or forests i 0 ≡ 0) × (get_or marks i 0 ≡ 0)
  pub add_up : total (table (λ i. count (eqb i) (take (length lows) forests)) 1 (in_service_count n states))
      ≡ count (link_serves lows highs states) (table (λ i. i) 0 (length lows))
  -- "Whichever two different relays of one tree of forest k are named as ends, in either order, Route, with lists long enough, gives k
  -- routes from the first to the second."
  pub routes : (from to : ℕ) → Serving n states from → Serving n states to → from ≢ to
      → (counts route_relays scratch : List ℕ)
      → too_short n k counts route_relays scratch ≡ false
      → RouteDelivers n lows highs states forests marks k from to
      (route_answer n lows highs states k from to counts route_relays scratch)
      (counts_after n lows highs states k from to counts route_relays scratch)
      (route_relays_after n lows highs states k from to counts route_relays scratch)

-- Demand 3: "This holds for every accepted network of n relays and every k from 1 to 32, once Order, Split and Cut to k have done their
-- work on it", with any lists long enough.
abbrev pub DemandThree : Type 0
DemandThree =
    (n : ℕ) (lows highs states : List ℕ) → Accepted n lows highs states → (k : ℕ) → 1 ≤ k → k ≤ 32
    → (relays places forests marks : List ℕ)
    → n ≤ length relays → n ≤ length places → length lows ≤ length forests → length lows ≤ length marks
    → Holds n lows highs states k
    (relays_after n lows highs states relays places)
    (places_after n lows highs states relays places)
    (forests_after n lows highs states forests)
    (marks_after n lows highs states k marks)
