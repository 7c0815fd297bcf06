-- The three laws of `left` from which everything on forests and the sweep follows, over an arbitrary `left`, and the first thing
-- that follows: an index is below its place. Places are 1 to n and 0 means none.
use Rattle.std.specs.Prelude.{ℕ, zero, suc, ◌≤◌, ◌<◌}
use Rattle.std.proofs.Common.{arith}

pub record LeftLaws (left : ℕ → ℕ → ℕ) : Type 0 where
  -- An earlier neighbour stands at a lower place.
  pub below : (i v : ℕ) → 0 < left i v → left i v < v
  -- Earlier neighbours stand in rising place, without gaps in their numbers.
  pub rises : (h i v : ℕ) → 1 ≤ h → h < i → 0 < left i v → (0 < left h v) × (left h v < left i v)
  -- The defining property of a maximal adjacency ordering (document 002, section 2), per index: when v was chosen, w had at
  -- least i placed neighbours, so v had at least i too.
  pub maximal : (i v w : ℕ) → v < w → 0 < left i w → left i w < v → 0 < left i v

module _ (left : ℕ → ℕ → ℕ) (laws : LeftLaws left) where
  -- The i-th earlier neighbour has i − 1 others before it.
  pub left-at-least : (i v : ℕ) → 1 ≤ i → 0 < left i v → i ≤ left i v
  left-at-least zero v one some = absurd (omega arith)
  left-at-least (suc zero) v one some = omega arith
  left-at-least (suc (suc i)) v one some =
      let up = laws.rises (suc i) (suc (suc i)) v (omega arith) (omega arith) some in
      omega (arith, left-at-least (suc i) v (omega arith) up.0, up.1)

  pub index_below : (i v : ℕ) → 1 ≤ i → 0 < left i v → i < v
  index_below i v one some = omega (arith, left-at-least i v one some, laws.below i v some)
