-- `write_from` on two sides' lists that hold routes writes these routes, as relay numbers, and how many relays each has.
use Prim.Native.Nat.{ℕ, zero, suc, ◌+◌, ◌≤◌, ◌<◌}
use mathlib.Core.List.{List, [], ◌∷◌, ◌++◌, map, reverse_aux}
use mathlib.Core.Path.{◌≡◌, refl, sym, ◌∙◌, ap, subst}
use native.Mathlib.Nat.{add-zero}
use native.Mathlib.Omega.{arith}
use native.Mathlib.Numerals.{add-one}
use borrow.Author.Tests.{eq-eqb, ne_eqb}
use lib.ListN.{length, set, get_or, length-append, length-map, length-reverse_aux}
use lib.Seq.{sets, set_comm}
use Rattle.definitions.specs.Lists.{join_all}
use Rattle.definitions.specs.Order.{relay_at}
use Rattle.lists.specs.Reversed.{map_reverse_aux}
use Rattle.lists.specs.Stores.{sets-append}
use Rattle.sweep.specs.Side.{second_in, prior_in}
use Rattle.sweep.proofs.Paths.Side.{Chain, HoldsPath}
use Rattle.routes.specs.Writing.{chain_length, count_in, write_down, write_up, route_length, write_route, written, write_from}

chain-count : (side : List ℕ) (fuel x : ℕ) (path : List ℕ) → length path ≤ fuel → Chain side x path → chain_length side fuel x ≡ length path
unfolding chain_length
chain-count side zero x [] le chain = refl
chain-count side zero x (y ∷ path) le chain = absurd (omega arith)
chain-count side (suc fuel) x [] le chain = rw (eq-eqb x 0 chain)
chain-count side (suc fuel) x (y ∷ path) le chain =
    rw (ne_eqb x 0 (λ e. omega (arith, chain.0, chain.1)), chain.0, chain-count side fuel (prior_in side y) path (omega arith) chain.2)

module _ (side order : List ℕ) where
  up-writes : (at x : ℕ) (path relays : List ℕ) → Chain side x path → write_up side order at (length path) x relays ≡ sets relays at (map (relay_at order) path)
  unfolding write_up
  up-writes at x [] relays chain = refl
  up-writes at x (y ∷ path) relays chain =
      ap (λ (z : ℕ). write_up side order (at + 1) (length path) (prior_in side z) (set relays at (relay_at order z))) chain.0
      ∙ up-writes (at + 1) (prior_in side y) path (set relays at (relay_at order y)) chain.2
      ∙ ap (λ (z : ℕ). sets (set relays at (relay_at order y)) z (map (relay_at order) path)) (add-one at)

  -- A store behind what is written stays.
  down-set : (from count x j z : ℕ) (relays : List ℕ) → from + count ≤ j
      → write_down side order from count x (set relays j z) ≡ set (write_down side order from count x relays) j z
  unfolding write_down
  down-set from zero x j z relays le = refl
  down-set from (suc count) x j z relays le =
      ap (write_down side order from count (prior_in side x)) (set_comm relays j (from + count) z (relay_at order x) (λ e. omega arith))
      ∙ down-set from count (prior_in side x) j z (set relays (from + count) (relay_at order x)) (omega arith)

  -- Downwards from there, then `onto` from there on.
  down-writes : (from x : ℕ) (path onto relays : List ℕ) → Chain side x path
      → sets (write_down side order from (length path) x relays) (from + length path) onto
      ≡ sets relays from (reverse_aux (map (relay_at order) path) onto)
  unfolding write_down
  down-writes from x [] onto relays chain = ap (λ (z : ℕ). sets relays z onto) (add-zero from)
  down-writes from x (y ∷ path) onto relays chain =
      let at : ℕ = from + length path in
      let low : List ℕ = write_down side order from (length path) (prior_in side y) relays in
      let next : from + suc (length path) ≡ suc at = omega arith in
      ap (λ (z : ℕ). sets (write_down side order from (length path) (prior_in side z) (set relays at (relay_at order z))) (from + suc (length path)) onto) chain.0
      ∙ ap (λ (l : List ℕ). sets l (from + suc (length path)) onto) (down-set from (length path) (prior_in side y) at (relay_at order y) relays (omega arith))
      ∙ ap (λ (z : ℕ). sets (set low at (relay_at order y)) z onto) next
      ∙ down-writes from (prior_in side y) path (relay_at order y ∷ onto) relays chain.2

-- Index i of the two sides has this route, from the front side's start to the back side's.
pub record HoldsRoute (front back : List ℕ) (i : ℕ) (route : List ℕ) : Type 0 where
  pub meet : ℕ
  pub down : List ℕ
  pub up : List ℕ
  pub some : 0 < meet
  pub shape : route ≡ reverse_aux down (meet ∷ up)
  pub held_down : HoldsPath front i (meet ∷ down)
  pub held_up : HoldsPath back i (meet ∷ up)
  pub short_down : length down ≤ 1000
  pub short_up : length up ≤ 1000

module _ (front back : List ℕ) (i : ℕ) (route : List ℕ) (h : HoldsRoute front back i route) where
  pub count_down : count_in front i ≡ length h.down
  unfolding count_in
  count_down = chain-count front 1000 (second_in front i) h.down h.short_down h.held_down.1

  pub count_up : count_in back i ≡ length h.up
  unfolding count_in
  count_up = chain-count back 1000 (second_in back i) h.up h.short_up h.held_up.1

  route-counts : route_length front back i ≡ length route
  unfolding route_length
  route-counts =
      omega (arith, count_down, count_up, ap length h.shape, length-reverse_aux h.down (h.meet ∷ h.up))

module _ (front back order : List ℕ) where
  module _ (i : ℕ) (route : List ℕ) (h : HoldsRoute front back i route) where
    route-writes : (from : ℕ) (relays : List ℕ) → write_route front back order i from relays ≡ sets relays from (map (relay_at order) route)
    unfolding write_route
    route-writes from relays =
        let f : ℕ → ℕ = relay_at order in
        let low : List ℕ = write_down front order from (length h.down) (second_in front i) relays in
        let at : ℕ = from + length h.down in
        rw (count_down front back i route h, count_up front back i route h, h.held_down.0)
        (up-writes back order (at + 1) (second_in back i) h.up (set low at (f h.meet)) h.held_up.1
        ∙ ap (λ (z : ℕ). sets (set low at (f h.meet)) z (map f h.up)) (add-one at)
        ∙ down-writes front order from (second_in front i) h.down (f h.meet ∷ map f h.up) relays h.held_down.1
        ∙ ap (sets relays from) (sym (map_reverse_aux f h.down (h.meet ∷ h.up)))
        ∙ ap (λ (l : List ℕ). sets relays from (map f l)) (sym h.shape))

  -- The routes of the indices after i, written from `from` on.
  pub routes-write : (routes : List (List ℕ)) (i from : ℕ) (counts relays : List ℕ)
      → ((h : ℕ) → h < length routes → HoldsRoute front back (i + 1 + h) (get_or routes h []))
      → write_from front back order (length routes) i from counts relays
      ≡ written (sets counts i (map length routes)) (sets relays from (join_all (map (map (relay_at order)) routes))) (from + length (join_all routes))
  unfolding write_from join_all
  routes-write [] i from counts relays held = ap (λ (z : ℕ). written counts relays z) (sym (add-zero from))
  routes-write (route ∷ routes) i from counts relays held =
      let here : HoldsRoute front back (i + 1) route = subst (λ (z : ℕ). HoldsRoute front back z route) (add-zero (i + 1)) (held 0 (omega arith)) in
      let f : ℕ → ℕ = relay_at order in
      let size : ℕ = length route in
      let total : from + size + length (join_all routes) ≡ from + length (route ++ join_all routes) = omega (arith, length-append route (join_all routes)) in
      ap (λ (z : ℕ). write_from front back order (length routes) (i + 1) (from + z) (set counts i z) (write_route front back order (i + 1) from relays)) (route-counts front back (i + 1) route here)
      ∙ ap (write_from front back order (length routes) (i + 1) (from + size) (set counts i size)) (route-writes (i + 1) route here from relays)
      ∙ routes-write routes (i + 1) (from + size) (set counts i size) (sets relays from (map f route))
      (λ h less. subst (λ (z : ℕ). HoldsRoute front back z (get_or routes h [])) (omega arith) (held (suc h) (omega arith)))
      ∙ ap (λ (z : ℕ). written (sets (set counts i size) z (map length routes)) (sets (sets relays from (map f route)) (from + size) (join_all (map (map f) routes))) (from + size + length (join_all routes))) (add-one i)
      ∙ ap (λ (z : ℕ). written (sets counts i (map length (route ∷ routes))) (sets (sets relays from (map f route)) (from + z) (join_all (map (map f) routes))) (from + size + length (join_all routes))) (sym (length-map route f))
      ∙ ap (λ (l : List ℕ). written (sets counts i (map length (route ∷ routes))) l (from + size + length (join_all routes))) (sym (sets-append (map f route) (join_all (map (map f) routes)) relays from))
      ∙ ap (λ (z : ℕ). written (sets counts i (map length (route ∷ routes))) (sets relays from (map f route ++ join_all (map (map f) routes))) z) total
