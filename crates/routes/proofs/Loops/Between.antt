-- The turns of the test of one tree, and the calls that give the routes between two places, in the code's terms. Assumes
-- nothing.
use Prim.Native.Nat.{ℕ, suc, ◌+◌, ◌-◌, ◌≤◌, ◌<◌}
use mathlib.Core.Bool.{true, false}
use mathlib.Core.List.{List}
use mathlib.Core.Path.{◌≡◌, sym, ◌∙◌, ap}
use native.Mathlib.Omega.{arith}
use borrow.Author.Tests.{eq-eqb, ne_eqb, lt-ltb, le-ltb}
use Rattle.definitions.specs.Forests.{Entry}
use Rattle.sweep.specs.Sides.{Sides, sides, swept_in}
use Rattle.routes.specs.Writing.{written, write_from}
use Rattle.routes.specs.WrittenLinks.{links_from}
use Rattle.routes.specs.Between.{alive_in, between_in, links_between}

alive-at : (look : ℕ → ℕ → Entry) (k t v gap : ℕ) → t + suc gap ≡ v → ((look k v).place ≡ 0 → ⊥) → alive_in look k t (suc gap) ≡ alive_in look k t gap
unfolding alive_in
alive-at look k t v gap e some = rw (e, ne_eqb (look k v).place 0 some)

dead-at : (look : ℕ → ℕ → Entry) (k t v gap : ℕ) → t + suc gap ≡ v → (look k v).place ≡ 0 → alive_in look k t (suc gap) ≡ false
unfolding alive_in
dead-at look k t v gap e none = rw (e, eq-eqb (look k v).place 0 none)

pub alive-turn : (look : ℕ → ℕ → Entry) (k t v : ℕ) (entry : Entry) → t < v → entry ≡ look k v → (entry.place ≡ 0 → ⊥)
    → alive_in look k t (v - t) ≡ alive_in look k t (v - 1 - t)
alive-turn look k t v entry less e some =
    let gap : v - t ≡ suc (v - 1 - t) = omega arith in
    ap (alive_in look k t) gap ∙ alive-at look k t v (v - 1 - t) (omega arith) (λ z. some (ap (λ (x : Entry). x.place) e ∙ z))

pub alive-stop : (look : ℕ → ℕ → Entry) (k t v : ℕ) (entry : Entry) → t < v → entry ≡ look k v → entry.place ≡ 0
    → alive_in look k t (v - t) ≡ false
alive-stop look k t v entry less e none =
    let gap : v - t ≡ suc (v - 1 - t) = omega arith in
    ap (alive_in look k t) gap ∙ dead-at look k t v (v - 1 - t) (omega arith) (sym (ap (λ (x : Entry). x.place) e) ∙ none)

pub alive-end : (look : ℕ → ℕ → Entry) (k t v : ℕ) → v ≤ t → alive_in look k t (v - t) ≡ true
unfolding alive_in
alive-end look k t v le = let none : v - t ≡ 0 = omega arith in rw none

-- The routes between two places where the first is the later, and where it is the earlier.
module _ (look : ℕ → ℕ → Entry) (k p q : ℕ) (order counts relays counts' relays' a b a₁ b₁ : List ℕ) (upto : ℕ) where
  pub between-falls : q < p → sides a₁ b₁ ≡ swept_in look k p q a b
      → written counts' relays' upto ≡ write_from a₁ b₁ order k 0 0 counts relays
      → written counts' relays' upto ≡ between_in a b look k p q order counts relays
  unfolding between_in
  between-falls less swept wrote =
      rw (lt-ltb q p less) (wrote ∙ ap (λ (x : Sides). write_from x.side_a x.side_b order k 0 0 counts relays) swept)

  pub between-rises : p ≤ q → sides a₁ b₁ ≡ swept_in look k q p a b
      → written counts' relays' upto ≡ write_from b₁ a₁ order k 0 0 counts relays
      → written counts' relays' upto ≡ between_in a b look k p q order counts relays
  unfolding between_in
  between-rises more swept wrote =
      rw (le-ltb q p more) (wrote ∙ ap (λ (x : Sides). write_from x.side_b x.side_a order k 0 0 counts relays) swept)

-- Their links.
module _ (look : ℕ → ℕ → Entry) (k p q : ℕ) (links links' a b a₁ b₁ : List ℕ) where
  pub links-fall : q < p → sides a₁ b₁ ≡ swept_in look k p q a b → links' ≡ links_from a₁ b₁ k 0 0 links
      → links' ≡ links_between a b look k p q links
  unfolding links_between
  links-fall less swept wrote =
      rw (lt-ltb q p less) (wrote ∙ ap (λ (x : Sides). links_from x.side_a x.side_b k 0 0 links) swept)

  pub links-rise : p ≤ q → sides a₁ b₁ ≡ swept_in look k q p a b → links' ≡ links_from b₁ a₁ k 0 0 links
      → links' ≡ links_between a b look k p q links
  unfolding links_between
  links-rise more swept wrote =
      rw (le-ltb q p more) (wrote ∙ ap (λ (x : Sides). links_from x.side_b x.side_a k 0 0 links) swept)
