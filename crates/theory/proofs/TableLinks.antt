-- A link between places, as `left` has it, and a link of the table between relays of the order are the same thing. Over any order.
use Rattle.std.specs.Prelude.{ℕ, ◌≤◌, ◌<◌, min, max, true, List, ◌⊎◌, ◌≡◌, length, get_or}
use Rattle.std.proofs.Common.{inl, inr, sym, ◌∙◌, ap, subst, subst₂, arith}
use Rattle.std.proofs.Math.Logic.{by_cases}
use Rattle.std.proofs.Math.Decide.{dec_lt}
use Rattle.definitions.specs.Network.{joins}
use Rattle.definitions.specs.Order.{place_of, relay_at}
use Rattle.definitions.specs.DisjointRoutes.{LinkOf}
use Rattle.definitions.specs.Demand.{InForest, Kept}
use Rattle.theory.proofs.Trees.{TreeLink, tree_link-sym}
use Rattle.theory.specs.Links.{joins-ends, joins-sym}
use Rattle.theory.specs.ForestNumbers.{forest_in, Placed, AllPlaced, places-placed, left-is-link}
use Rattle.theory.specs.Arranged.{left_in, Arranged, arranged-forest}
use Rattle.theory.proofs.Columns.{NumberedIn, MarkedIn, kept-forest}

module _ (order lows highs : List ℕ) (arranged : Arranged order lows highs) where
  -- A link of forest f between two places is a link of the table between their relays.
  pub table-link : (f u v : ℕ) → TreeLink (left_in order lows highs) f u v
      → LinkOf lows highs (λ i. Placed order lows highs i × (forest_in order lows highs i ≡ f)) (relay_at order u) (relay_at order v)
  table-link f u v (inl p) =
      let r = left-is-link order lows highs arranged.unique f u (omega arith) in (
        r.0,
        r.1,
        subst (λ (w : ℕ). joins lows highs (relay_at order u) (relay_at order w) r.0 ≡ true) p.1
            (joins-sym lows highs (relay_at order (left_in order lows highs f u)) (relay_at order u) r.0 r.2),
        (places-placed order lows highs r.0 (omega (arith, r.3)), r.5),
      )
  table-link f u v (inr p) =
      let r = left-is-link order lows highs arranged.unique f v (omega arith) in (
        r.0,
        r.1,
        subst (λ (w : ℕ). joins lows highs (relay_at order w) (relay_at order v) r.0 ≡ true) p.1 r.2,
        (places-placed order lows highs r.0 (omega (arith, r.3)), r.5),
      )

  -- The two relays of link i of the table, in the order of the table.
  own-link : (i : ℕ) → i < length lows → Placed order lows highs i
      → TreeLink (left_in order lows highs) (forest_in order lows highs i) (place_of order (get_or lows i 0)) (place_of order (get_or highs i 0))
  own-link i h placed =
      let p : ℕ = place_of order (get_or lows i 0) in
      let q : ℕ = place_of order (get_or highs i 0) in
      let left : ℕ → ℕ = left_in order lows highs (forest_in order lows highs i) in
      let r = arranged-forest order lows highs arranged i h placed in
      by_cases (dec_lt p q)
      (λ less.
      let low : min p q ≡ p = omega arith in
      let high : max p q ≡ q = omega arith in
      inr (omega (arith, r.some), ap left (sym high) ∙ r.is_left ∙ low))
      (λ more.
      let low : min p q ≡ q = omega arith in
      let high : max p q ≡ p = omega arith in
      inl (omega (arith, r.some), ap left (sym high) ∙ r.is_left ∙ low))

  -- A link of the table is a link between its relays' places, in the forest of its number.
  pub place-link : (i a b : ℕ) → i < length lows → Placed order lows highs i → joins lows highs a b i ≡ true
      → TreeLink (left_in order lows highs) (forest_in order lows highs i) (place_of order a) (place_of order b)
  place-link i a b h placed e = go (joins-ends lows highs a b i e)
    where
      Link : ℕ → ℕ → Type 0
      Link x y = TreeLink (left_in order lows highs) (forest_in order lows highs i) (place_of order x) (place_of order y)

      go : ((get_or lows i 0 ≡ a) × (get_or highs i 0 ≡ b)) ⊎ ((get_or lows i 0 ≡ b) × (get_or highs i 0 ≡ a)) → Link a b
      go (inl p) = subst₂ Link p.0 p.1 (own-link i h placed)
      go (inr p) =
          tree_link-sym (left_in order lows highs) (forest_in order lows highs i) (place_of order b) (place_of order a)
          (subst₂ Link p.0 p.1 (own-link i h placed))

  -- With lists of forest numbers and marks: links of forest f, and kept links.
  pub forest-link : (forests : List ℕ) → NumberedIn order lows highs forests → (f u v : ℕ) → TreeLink (left_in order lows highs) f u v
      → LinkOf lows highs (InForest forests f) (relay_at order u) (relay_at order v)
  forest-link forests numbered f u v l =
      let r = table-link f u v l in
      (r.0, r.1, r.2, numbered r.0 r.1 ∙ r.3.1)

  pub forest-places : (forests : List ℕ) → NumberedIn order lows highs forests → (f : ℕ) → AllPlaced order lows highs f
      → (a b : ℕ) → LinkOf lows highs (InForest forests f) a b → TreeLink (left_in order lows highs) f (place_of order a) (place_of order b)
  forest-places forests numbered f all a b l =
      let number : forest_in order lows highs l.0 ≡ f = sym (numbered l.0 l.1) ∙ l.3 in
      subst (λ (g : ℕ). TreeLink (left_in order lows highs) g (place_of order a) (place_of order b)) number
      (place-link l.0 a b l.1 (all l.0 l.1 number) l.2)

  pub kept-link : (k : ℕ) (marks : List ℕ) → MarkedIn order lows highs k marks → (f u v : ℕ) → f ≤ k
      → TreeLink (left_in order lows highs) f u v → LinkOf lows highs (Kept marks) (relay_at order u) (relay_at order v)
  kept-link k marks marked f u v few l =
      let r = table-link f u v l in
      let some = (arranged-forest order lows highs arranged r.0 r.1 r.3.0).forest in
      (r.0, r.1, r.2, kept-forest order lows highs k marks marked r.0 r.1 some (omega (arith, r.3.1)))
