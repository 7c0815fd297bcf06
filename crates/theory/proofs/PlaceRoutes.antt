-- k routes between two places over links of the forests 1 to k that share only their ends: what that means, that such
-- routes can be turned round, and how many places they have together. Over any `left`.
use Rattle.std.specs.Prelude.{ℕ, ◌+◌, ◌-◌, ◌*◌, ◌≤◌, ◌<◌, true, not, List, [], ◌∷◌, map, reverse, ◌⊎◌, ◌≢◌, ◌≡◌, refl, eqb, length, get_or}
use Rattle.std.proofs.Common.{arith, inl, inr, sym, ◌∙◌, ap, subst, eq-eqb}
use Rattle.std.proofs.lemmas.List.{reverse-reverse, length-map, length-reverse}
use Rattle.std.proofs.Math.Logic.{⊎_swap}
use Rattle.std.proofs.Math.ListN.{get_or-map}
use Rattle.definitions.specs.Lists.{has, keep, table, join_all, NoRepeat}
use Rattle.definitions.specs.DisjointRoutes.{Along}
use Rattle.lists.specs.Tests.{and_both, or_left, or_right}
use Rattle.lists.specs.Searches.{clash}
use Rattle.lists.specs.Tables.{length-table}
use Rattle.lists.specs.Members.{has-keep, range-has}
use Rattle.lists.specs.Cases.{has-cases, has-not, has-reverse, no_repeat-reverse}
use Rattle.lists.specs.Distinct.{no-repeat-keep}
use Rattle.lists.specs.Counting.{no_longer}
use Rattle.lists.specs.Reversed.{first-reverse, last-reverse, along-reverse}
use Rattle.lists.specs.Concat.{has-join_all, no_repeat-join_all, length-join_all-less, is_either, inner, length-inner}
use Rattle.theory.proofs.Trees.{TreeLink, tree_link-sym}

-- A link of one of the forests 1 to k, either way round.
abbrev pub LeftLink : (left : ℕ → ℕ → ℕ) (k a b : ℕ) → Type 0
LeftLink left k a b = (h : ℕ) × (1 ≤ h) × (h ≤ k) × TreeLink left h a b

pub left_link-sym : (left : ℕ → ℕ → ℕ) (k a b : ℕ) → LeftLink left k a b → LeftLink left k b a
left_link-sym left k a b link = (link.0, link.1, link.2, tree_link-sym left link.0 a b link.3)

-- One route from place p to place q, through the places 1 to `top`.
pub record RouteWithin (left : ℕ → ℕ → ℕ) (k top p q : ℕ) (route : List ℕ) : Type 0 where
  pub long : 2 ≤ length route
  pub starts : get_or route 0 0 ≡ p
  pub ends : get_or route (length route - 1) 0 ≡ q
  pub within : (x : ℕ) → has route x ≡ true → (1 ≤ x) × (x ≤ top)
  pub along : Along (LeftLink left k) route
  pub no_repeat : NoRepeat route

-- k routes from p to q: they share only p and q, and at most one of them is the link between these alone.
pub record RoutesWithin (left : ℕ → ℕ → ℕ) (k top p q : ℕ) (routes : List (List ℕ)) : Type 0 where
  pub number : length routes ≡ k
  pub each : (i : ℕ) → i < k → RouteWithin left k top p q (get_or routes i [])
  pub apart : (i j : ℕ) → i < k → j < k → i ≢ j → (x : ℕ) → has (get_or routes i []) x ≡ true → has (get_or routes j []) x ≡ true
      → (x ≡ p) ⊎ (x ≡ q)
  pub direct : (i j : ℕ) → i < k → j < k → i ≢ j → get_or routes i [] ≡ p ∷ q ∷ [] → get_or routes j [] ≡ p ∷ q ∷ [] → ⊥
  pub written : length (join_all routes) ≤ top - 2 + 2 * k

-- From the later place s to the earlier place t.
abbrev pub PlaceRoute : (left : ℕ → ℕ → ℕ) (k s t : ℕ) (route : List ℕ) → Type 0
PlaceRoute left k s t route = RouteWithin left k s s t route

abbrev pub PlaceRoutes : (ℕ → ℕ → ℕ) → ℕ → ℕ → ℕ → List (List ℕ) → Type 0
PlaceRoutes left k s t routes = RoutesWithin left k s s t routes

-- The routes together have no place but their ends more than once.
pub written-within : (left : ℕ → ℕ → ℕ) (k top p q : ℕ) (routes : List (List ℕ)) → 1 ≤ p → p ≤ top → 1 ≤ q → q ≤ top → p ≢ q
    → length routes ≡ k
    → ((i : ℕ) → i < k → RouteWithin left k top p q (get_or routes i []))
    → ((i j : ℕ) → i < k → j < k → i ≢ j → (x : ℕ) → has (get_or routes i []) x ≡ true → has (get_or routes j []) x ≡ true → (x ≡ p) ⊎ (x ≡ q))
    → length (join_all routes) ≤ top - 2 + 2 * k
unfolding keep
written-within left k top p q routes one upto one' upto' other number each apart =
    omega (
      arith,
      number,
      length-table (λ (r : ℕ). r) 1 top,
      no_longer (table (λ r. r) 1 top) (p ∷ q ∷ all) distinct (λ x h. range-has 1 top x (bounds x h).0 (omega (arith, (bounds x h).1))),
      length-join_all-less (inner p q) routes (λ i less. length-inner p q (get_or routes i []) (each i (omega arith)).no_repeat),
    )
  where
    all : List ℕ
    all = join_all (map (inner p q) routes)

    size : length (map (inner p q) routes) ≡ k
    size = length-map routes (inner p q) ∙ number

    same : (i : ℕ) → get_or (map (inner p q) routes) i [] ≡ inner p q (get_or routes i [])
    same i = get_or-map (inner p q) routes i []

    member : (list : List ℕ) (w : ℕ) → has (inner p q list) w ≡ true → (has list w ≡ true) × (not (is_either p q w) ≡ true)
    member list w h = and_both (has list w) (not (is_either p q w)) (sym (has-keep (λ x. not (is_either p q x)) list w) ∙ h)

    excluded : (w : ℕ) → not (is_either p q w) ≡ true → (w ≡ p) ⊎ (w ≡ q) → ⊥
    excluded w no' (inl e) = clash no' (ap not (or_left (eqb p w) (eqb q w) (eq-eqb p w (sym e))))
    excluded w no' (inr e) = clash no' (ap not (or_right (eqb p w) (eqb q w) (eq-eqb q w (sym e))))

    found : (w : ℕ) → has all w ≡ true → (i : ℕ) × (i < k) × (has (get_or routes i []) w ≡ true) × (not (is_either p q w) ≡ true)
    found w h =
        let at : (i : ℕ) × (i < length (map (inner p q) routes)) × (has (get_or (map (inner p q) routes) i []) w ≡ true) =
        has-join_all (map (inner p q) routes) w h in
        let m : (has (get_or routes at.0 []) w ≡ true) × (not (is_either p q w) ≡ true) =
        member (get_or routes at.0 []) w (subst (λ (l : List ℕ). has l w ≡ true) (same at.0) at.2) in
        (at.0, omega (arith, at.1, size), m.0, m.1)

    once : NoRepeat all
    once =
        no_repeat-join_all (map (inner p q) routes)
        (λ i less.
        subst (λ (l : List ℕ). NoRepeat l) (sym (same i))
        (no-repeat-keep (λ x. not (is_either p q x)) (get_or routes i []) (each i (omega (arith, size))).no_repeat))
        (λ i j less less' differ w h g.
        let m : (has (get_or routes i []) w ≡ true) × (not (is_either p q w) ≡ true) =
        member (get_or routes i []) w (subst (λ (l : List ℕ). has l w ≡ true) (same i) h) in
        let n : (has (get_or routes j []) w ≡ true) × (not (is_either p q w) ≡ true) =
        member (get_or routes j []) w (subst (λ (l : List ℕ). has l w ≡ true) (same j) g) in
        excluded w m.1 (apart i j (omega (arith, size)) (omega (arith, size)) differ w m.0 n.0))

    distinct : NoRepeat (p ∷ q ∷ all)
    distinct =
        (has-not (q ∷ all) p (λ h. first (has-cases q all p h)), (has-not all q (λ h. excluded q (found q h).3 (inr refl)), once))
      where
        first : (q ≡ p) ⊎ (has all p ≡ true) → ⊥
        first (inl e) = other (sym e)
        first (inr h) = excluded p (found p h).3 (inl refl)

    bounds : (x : ℕ) → has (p ∷ q ∷ all) x ≡ true → (1 ≤ x) × (x ≤ top)
    bounds x h = go (has-cases p (q ∷ all) x h)
      where
        later : (q ≡ x) ⊎ (has all x ≡ true) → (1 ≤ x) × (x ≤ top)
        later (inl e) = omega arith
        later (inr h) = (each (found x h).0 (found x h).1).within x (found x h).2

        go : (p ≡ x) ⊎ (has (q ∷ all) x ≡ true) → (1 ≤ x) × (x ≤ top)
        go (inl e) = omega arith
        go (inr h) = later (has-cases q all x h)

-- A route turned round.
pub route-reverse : {left : ℕ → ℕ → ℕ} {k top p q : ℕ} (route : List ℕ) → RouteWithin left k top p q route → RouteWithin left k top q p (reverse route)
route-reverse {left} {k} route r =
    record {
      long = omega (arith, r.long, length-reverse route);
      starts = first-reverse route ∙ r.ends;
      ends = last-reverse route ∙ r.starts;
      within = λ x h. r.within x (has-reverse route x h);
      along = along-reverse (left_link-sym left k) route r.along;
      no_repeat = no_repeat-reverse route r.no_repeat;
    }

-- All of them turned round.
pub routes-reverse : {left : ℕ → ℕ → ℕ} {k top p q : ℕ} (routes : List (List ℕ)) → 1 ≤ p → p ≤ top → 1 ≤ q → q ≤ top → p ≢ q
    → RoutesWithin left k top p q routes → RoutesWithin left k top q p (map reverse routes)
routes-reverse {left} {k} {top} {p} {q} routes one upto one' upto' other r =
    record {
      number = size;
      each = each;
      apart = apart;
      direct = λ i j less less' differ e f. r.direct i j less less' differ (back i e) (back j f);
      written = written-within left k top q p (map reverse routes) one' upto' one upto (λ e. other (sym e)) size each apart;
    }
  where
    size : length (map reverse routes) ≡ k
    size = length-map routes reverse ∙ r.number

    same : (i : ℕ) → get_or (map reverse routes) i [] ≡ reverse (get_or routes i [])
    same i = get_or-map reverse routes i []

    each : (i : ℕ) → i < k → RouteWithin left k top q p (get_or (map reverse routes) i [])
    each i less =
        subst (λ (l : List ℕ). RouteWithin left k top q p l) (sym (same i)) (route-reverse (get_or routes i []) (r.each i less))

    member : (i x : ℕ) → has (get_or (map reverse routes) i []) x ≡ true → has (get_or routes i []) x ≡ true
    member i x h = has-reverse (get_or routes i []) x (subst (λ (l : List ℕ). has l x ≡ true) (same i) h)

    apart : (i j : ℕ) → i < k → j < k → i ≢ j → (x : ℕ) → has (get_or (map reverse routes) i []) x ≡ true
        → has (get_or (map reverse routes) j []) x ≡ true → (x ≡ q) ⊎ (x ≡ p)
    apart i j less less' differ x h g = ⊎_swap (r.apart i j less less' differ x (member i x h) (member j x g))

    back : (i : ℕ) → get_or (map reverse routes) i [] ≡ q ∷ p ∷ [] → get_or routes i [] ≡ p ∷ q ∷ []
    back i e = sym (reverse-reverse (get_or routes i [])) ∙ ap reverse (sym (same i) ∙ e)
