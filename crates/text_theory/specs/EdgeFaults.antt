-- A line `e U V` of a DIMACS text and the link that it draws: one has no fault exactly if the other has none.
-- Assumes nothing.
use Rattle.std.specs.Prelude.{ℕ, ◌+◌, ◌≤◌, ◌<◌, min, max, Bool, true, false, ◌||◌, List, ◌≡◌, refl, eqb, ltb, leb, length}
use Rattle.std.proofs.Common.{inl, inr, sym, ◌∙◌, arith, eq-eqb, eqb-true, ltb-true, ltb-false, le-leb, leb-true}
use Rattle.std.proofs.lemmas.Bool.{lt-leb}
use Rattle.definitions.specs.Outcome.{pick}
use Rattle.definitions.specs.Lists.{outside, some_below}
use Rattle.definitions.specs.Network.{is_pair, link_fault}
use Rattle.definitions.specs.Dimacs.{low_end, high_end, edge_fault}
use Rattle.definitions.specs.DimacsText.{DrawsLink}
use Rattle.lists.specs.Ranges.{inside, inside-range}
use Rattle.lists.specs.Tests.{or-false, or-neither, tests_same}
use Rattle.theory.specs.Accepted.{fault-none}

-- Both ends within range: the fault of a line is that of the link that it draws.
pub edge-link-fault : (n : ℕ) (lows highs : List ℕ) (u v : ℕ) → (outside 1 n u || outside 1 n v) ≡ false
    → edge_fault n lows highs u v ≡ link_fault n lows highs (length lows) (low_end u v) (high_end u v)
unfolding edge_fault link_fault low_end high_end
edge-link-fault n lows highs u v e =
    let (first, second) = or-false (outside 1 n u) (outside 1 n v) e in
    let (one, few) = inside-range 1 n u first in
    let (two, less) = inside-range 1 n v second in
    let same : leb (high_end u v) (low_end u v) ≡ eqb u v =
    tests_same (leb (high_end u v) (low_end u v)) (eqb u v)
    (λ t. eq-eqb u v (omega (arith, leb-true (high_end u v) (low_end u v) t)))
    (λ t. le-leb (high_end u v) (low_end u v) (omega (arith, eqb-true u v t))) in
    rw (e, lt-leb n (low_end u v) (omega arith), lt-leb n (high_end u v) (omega arith), same)

-- A line without fault has both ends within range.
edge-range : (n : ℕ) (lows highs : List ℕ) (u v : ℕ) → edge_fault n lows highs u v ≡ 0 → (outside 1 n u || outside 1 n v) ≡ false
unfolding edge_fault
edge-range n lows highs u v none =
    go (outside 1 n u || outside 1 n v) (pick (eqb u v) 6 (pick (some_below (is_pair lows highs (low_end u v) (high_end u v)) (length lows)) 7 0))
    none
  where
    go : (s : Bool) (rest : ℕ) → ◌≡◌ {A = ℕ} (pick s 5 rest) 0 → s ≡ false
    go true rest z = absurd (omega arith)
    go false rest z = refl

-- The link of a line without fault has none, and the line draws it.
pub edge-link : (n : ℕ) (lows highs : List ℕ) (u v : ℕ) → edge_fault n lows highs u v ≡ 0
    → (link_fault n lows highs (length lows) (low_end u v) (high_end u v) ≡ 0) × DrawsLink u v (low_end u v) (high_end u v)
unfolding low_end high_end
edge-link n lows highs u v none =
    let range = edge-range n lows highs u v none in
    let (first, second) = or-false (outside 1 n u) (outside 1 n v) range in (
      sym (edge-link-fault n lows highs u v range) ∙ none,
      go (ltb u v) refl (inside-range 1 n u first).0 (inside-range 1 n v second).0,
    )
  where
    go : (b : Bool) → ltb u v ≡ b → 1 ≤ u → 1 ≤ v → DrawsLink u v (low_end u v) (high_end u v)
    go true test some_u some_v =
        let less = ltb-true u v test in
        inl (omega arith, omega arith)
    go false test some_u some_v =
        let less = ltb-false u v test in
        inr (omega arith, omega arith)

-- The lower and the higher end of a line that draws a link.
ends : (u v a b : ℕ) → a < b → DrawsLink u v a b → (min u v ≡ a + 1) × (max u v ≡ b + 1)
ends u v a b ordered (inl (one, two)) = (omega arith, omega arith)
ends u v a b ordered (inr (one, two)) = (omega arith, omega arith)

-- A line that draws a link without fault has none, and gives that link.
pub link-edge : (n : ℕ) (lows highs : List ℕ) (u v a b : ℕ) → link_fault n lows highs (length lows) a b ≡ 0 → DrawsLink u v a b
    → (edge_fault n lows highs u v ≡ 0) × (low_end u v ≡ a) × (high_end u v ≡ b)
unfolding low_end high_end
link-edge n lows highs u v a b none draws =
    let link = fault-none n lows highs (length lows) a b none in
    let ordered = link.ordered in
    let below = link.below in
    let (lower, higher) = ends u v a b ordered draws in
    let low : low_end u v ≡ a = omega arith in
    let high : high_end u v ≡ b = omega arith in
    let range : (outside 1 n u || outside 1 n v) ≡ false =
    or-neither (outside 1 n u) (outside 1 n v) (inside 1 n u (omega arith) (omega arith)) (inside 1 n v (omega arith) (omega arith)) in
    (edge-link-fault n lows highs u v range ∙ rw (low, high) none, low, high)

-- The faults of a line are 5, 6 and 7.
pub fault-not-eighteen : (n : ℕ) (lows highs : List ℕ) (u v : ℕ) → edge_fault n lows highs u v ≡ 18 → ⊥
unfolding edge_fault
fault-not-eighteen n lows highs u v e =
    go (outside 1 n u || outside 1 n v) (eqb u v) (some_below (is_pair lows highs (low_end u v) (high_end u v)) (length lows)) e
  where
    go : (s t d : Bool) → ◌≡◌ {A = ℕ} (pick s 5 (pick t 6 (pick d 7 0))) 18 → ⊥
    go true t d e = omega arith
    go false true d e = omega arith
    go false false true e = omega arith
    go false false false e = omega arith
