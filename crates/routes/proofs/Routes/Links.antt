-- `swept_in` and `links_from` on the two sides' lists write the links between each relay of the definition's routes and the next. Over
-- any `left` with the laws, where the two places are in one tree of forest k, and a look-up that gives with the place of each left
-- entry the link `between` the two, which is the same both ways.
use Prim.Native.Nat.{ℕ, zero, suc, ◌+◌, ◌≤◌, ◌<◌}
use mathlib.Core.List.{List, [], ◌∷◌, map, reverse, reverse_aux}
use mathlib.Core.Path.{◌≡◌, refl, sym, ◌∙◌, ap, subst}
use native.Mathlib.Nat.{add-zero}
use native.Mathlib.Omega.{arith}
use native.Mathlib.Numerals.{add-one}
use lib.ListN.{length, set, get_or, length-map, length-reverse_aux}
use lib.Seq.{sets, set_comm}
use Rattle.definitions.specs.Lists.{join_all}
use Rattle.definitions.specs.Forests.{Entry}
use Rattle.definitions.specs.Sweep.{sweep_routes}
use Rattle.lists.specs.Maps.{get_or-map}
use Rattle.lists.specs.Stores.{sets-append}
use Rattle.lists.specs.Steps.{steps_of, length-steps_of, steps_of-reverse_aux}
use Rattle.theory.specs.LeftLaws.{LeftLaws}
use Rattle.theory.proofs.Trees.{Alive}
use Rattle.sweep.specs.Side.{second_in, link_in, prior_in, prior_link_in, NoPaths}
use Rattle.sweep.specs.Sides.{Sides, swept_in}
use Rattle.sweep.proofs.Paths.Side.{Chain}
use Rattle.sweep.proofs.Paths.Links.{Joins, LinksHeld, BothLinked, swept-links}
use Rattle.routes.specs.Writing.{count_in}
use Rattle.routes.specs.WrittenLinks.{links_down, links_up, route_links, links_from}
use Rattle.routes.proofs.Routes.Write.{HoldsRoute, count_down, count_up}
use Rattle.routes.proofs.Routes.Between.{falling, turned, routes-length}

module _ (between : ℕ → ℕ → ℕ) (side : List ℕ) (priors : (x : ℕ) → Joins between x (prior_in side x) (prior_link_in side x)) where
  -- The links of a path that ends at m, with x before it and `link` between the two.
  up-links : (at m x link : ℕ) (path links : List ℕ) → 0 < m → Joins between m x link → Chain side x path
      → links_up side at (length path) link x links ≡ sets links at (steps_of between (m ∷ path))
  unfolding links_up steps_of
  up-links at m x link [] links some joins chain = refl
  up-links at m x link (y ∷ path) links some joins chain =
      ap (λ (z : ℕ). links_up side (at + 1) (length path) (prior_link_in side x) (prior_in side x) (set links at z))
      (joins some (omega (arith, chain.0, chain.1)))
      ∙ ap (λ (z : ℕ). links_up side (at + 1) (length path) (prior_link_in side z) (prior_in side z) (set links at (between m z))) chain.0
      ∙ up-links (at + 1) y (prior_in side y) (prior_link_in side y) path (set links at (between m y)) chain.1 (priors y) chain.2
      ∙ ap (λ (z : ℕ). sets (set links at (between m y)) z (steps_of between (y ∷ path))) (add-one at)

  -- A store behind what is written stays.
  down-set : (from count link x j z : ℕ) (links : List ℕ) → from + count ≤ j
      → links_down side from count link x (set links j z) ≡ set (links_down side from count link x links) j z
  unfolding links_down
  down-set from zero link x j z links le = refl
  down-set from (suc count) link x j z links le =
      ap (links_down side from count (prior_link_in side x) (prior_in side x)) (set_comm links j (from + count) z link (λ e. omega arith))
      ∙ down-set from count (prior_link_in side x) (prior_in side x) j z (set links (from + count) link) (omega arith)

  -- Downwards from there, then `onto` from there on.
  down-links : (from m x link : ℕ) (path onto links : List ℕ) → 0 < m → Joins between m x link → Chain side x path
      → sets (links_down side from (length path) link x links) (from + length path) onto
      ≡ sets links from (reverse_aux (steps_of between (m ∷ path)) onto)
  unfolding links_down steps_of
  down-links from m x link [] onto links some joins chain = ap (λ (z : ℕ). sets links z onto) (add-zero from)
  down-links from m x link (y ∷ path) onto links some joins chain =
      let at : ℕ = from + length path in
      let low : List ℕ = links_down side from (length path) (prior_link_in side y) (prior_in side y) links in
      let next : from + suc (length path) ≡ suc at = omega arith in
      ap (λ (z : ℕ). sets (links_down side from (length path) (prior_link_in side x) (prior_in side x) (set links at z)) (from + suc (length path)) onto)
      (joins some (omega (arith, chain.0, chain.1)))
      ∙ ap (λ (z : ℕ). sets (links_down side from (length path) (prior_link_in side z) (prior_in side z) (set links at (between m z))) (from + suc (length path)) onto) chain.0
      ∙ ap (λ (l : List ℕ). sets l (from + suc (length path)) onto) (down-set from (length path) (prior_link_in side y) (prior_in side y) at (between m y) links (omega arith))
      ∙ ap (λ (z : ℕ). sets (set low at (between m y)) z onto) next
      ∙ down-links from y (prior_in side y) (prior_link_in side y) path (between m y ∷ onto) links chain.1 (priors y) chain.2

module _ (between : ℕ → ℕ → ℕ) (turn : (x y : ℕ) → between x y ≡ between y x) (k reach : ℕ) (front back : List ℕ)
    (front_links : LinksHeld between k reach front) (back_links : LinksHeld between k reach back) where
  module _ (i : ℕ) (one : 1 ≤ i) (upto : i ≤ k) (route : List ℕ) (h : HoldsRoute front back i route) where
    steps-shape : steps_of between route ≡ reverse_aux (steps_of between (h.meet ∷ h.down)) (steps_of between (h.meet ∷ h.up))
    steps-shape = ap (steps_of between) h.shape ∙ steps_of-reverse_aux between turn h.meet h.down h.up

    link-counts : count_in front i + count_in back i ≡ length (steps_of between route)
    link-counts =
        omega (
          arith,
          count_down front back i route h,
          count_up front back i route h,
          ap length steps-shape,
          length-reverse_aux (steps_of between (h.meet ∷ h.down)) (steps_of between (h.meet ∷ h.up)),
          length-steps_of between h.meet h.down,
          length-steps_of between h.meet h.up,
        )

    route-links : (from : ℕ) (links : List ℕ) → route_links front back i from links ≡ sets links from (steps_of between route)
    unfolding route_links
    route-links from links =
        let low : List ℕ = links_down front from (length h.down) (link_in front i) (second_in front i) links in
        rw (count_down front back i route h, count_up front back i route h)
        (up-links between back back_links.priors (from + length h.down) h.meet (second_in back i) (link_in back i) h.up low h.some
        (subst (λ (x : ℕ). Joins between x (second_in back i) (link_in back i)) h.held_up.0 (back_links.ends i one upto)) h.held_up.1
        ∙ down-links between front front_links.priors from h.meet (second_in front i) (link_in front i) h.down (steps_of between (h.meet ∷ h.up)) links h.some
        (subst (λ (x : ℕ). Joins between x (second_in front i) (link_in front i)) h.held_down.0 (front_links.ends i one upto)) h.held_down.1
        ∙ ap (sets links from) (sym steps-shape))

  -- The links of the routes of the indices after i, written from `from` on.
  routes-links : (routes : List (List ℕ)) (i from : ℕ) (links : List ℕ) → i + length routes ≤ k
      → ((h : ℕ) → h < length routes → HoldsRoute front back (i + 1 + h) (get_or routes h []))
      → links_from front back (length routes) i from links ≡ sets links from (join_all (map (steps_of between) routes))
  unfolding links_from join_all
  routes-links [] i from links within held = refl
  routes-links (route ∷ routes) i from links within held =
      let here : HoldsRoute front back (i + 1) route = subst (λ (z : ℕ). HoldsRoute front back z route) (add-zero (i + 1)) (held 0 (omega arith)) in
      let steps : List ℕ = steps_of between route in
      ap (λ (z : ℕ). links_from front back (length routes) (i + 1) (from + z) (route_links front back (i + 1) from links)) (link-counts (i + 1) (omega arith) (omega arith) route here)
      ∙ ap (links_from front back (length routes) (i + 1) (from + length steps)) (route-links (i + 1) (omega arith) (omega arith) route here from links)
      ∙ routes-links routes (i + 1) (from + length steps) (sets links from steps) (omega arith)
      (λ h less. subst (λ (z : ℕ). HoldsRoute front back z (get_or routes h [])) (omega arith) (held (suc h) (omega arith)))
      ∙ sym (sets-append steps (join_all (map (steps_of between) routes)) links from)

  -- All routes, as the two sides in this order give them.
  whole-links : (routes : List (List ℕ)) (links : List ℕ) → length routes ≡ k
      → ((h : ℕ) → h < k → HoldsRoute front back (suc h) (get_or routes h []))
      → links_from front back k 0 0 links ≡ sets links 0 (join_all (map (steps_of between) routes))
  whole-links routes links number held =
      ap (λ (x : ℕ). links_from front back x 0 0 links) (sym number)
      ∙ routes-links routes 0 0 links (omega (arith, number))
      (λ h under. subst (λ (x : ℕ). HoldsRoute front back x (get_or routes h [])) (omega arith) (held h (omega arith)))

module _ (left : ℕ → ℕ → ℕ) (look : ℕ → ℕ → Entry) (laws : LeftLaws left) (k s t : ℕ) (less : t < s) (alive : Alive left k t s) (positive : 1 ≤ t)
    (small : k ≤ 32) (agree : (i x : ℕ) → 1 ≤ i → i ≤ k → (look i x).place ≡ left i x)
    (between : ℕ → ℕ → ℕ) (turn : (x y : ℕ) → between x y ≡ between y x)
    (given : (i x : ℕ) → 1 ≤ i → i ≤ k → 0 < (look i x).place → (look i x).link ≡ between (look i x).place x)
    (n : ℕ) (few : n ≤ 1000) (high : s ≤ n) (a b : List ℕ) (no_a : NoPaths n a) (no_b : NoPaths n b) (links : List ℕ) where
  abbrev out : Sides
  out = swept_in look k s t a b

  linked : BothLinked between k n out
  linked = swept-links between k n small look given s t high a b no_a no_b

  number : length (sweep_routes left k s t) ≡ k
  number = routes-length left look laws k s t less alive positive small agree n few high a b no_a no_b

  -- From s to t.
  pub linked-down : links_from (swept_in look k s t a b).side_a (swept_in look k s t a b).side_b k 0 0 links
      ≡ sets links 0 (join_all (map (steps_of between) (sweep_routes left k s t)))
  linked-down =
      whole-links between turn k n out.side_a out.side_b linked.0 linked.1 (sweep_routes left k s t) links number
      (falling left look laws k s t less alive positive small agree n few high a b no_a no_b)

  -- From t to s.
  pub linked_up : links_from (swept_in look k s t a b).side_b (swept_in look k s t a b).side_a k 0 0 links
      ≡ sets links 0 (join_all (map (steps_of between) (map reverse (sweep_routes left k s t))))
  linked_up =
      whole-links between turn k n out.side_b out.side_a linked.1 linked.0 (map reverse (sweep_routes left k s t)) links
      (length-map (sweep_routes left k s t) reverse ∙ number)
      (λ h within.
      subst (λ (r : List ℕ). HoldsRoute out.side_b out.side_a (suc h) r)
      (sym (get_or-map reverse (sweep_routes left k s t) h [] [] (omega (arith, number))))
      (turned left look laws k s t less alive positive small agree n few high a b no_a no_b h within))
