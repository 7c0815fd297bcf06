-- The test that numbers rise, each at least some number, tells just the rising lists of such numbers. Assumes nothing.
use Rattle.std.specs.Prelude.{ℕ, suc, ◌≤◌, true, List, [], ◌∷◌, ◌⊎◌, ◌≡◌, refl, leb}
use Rattle.std.proofs.Common.{inl, inr, arith, leb-true, le-leb}
use Rattle.definitions.specs.Lists.{has}
use Rattle.definitions.specs.Reports.{rises_from}
use Rattle.lists.specs.Tests.{and_both, and-all}
use Rattle.lists.specs.Cases.{has_here, has-nil, has-cases}
use Rattle.lists.specs.Searches.{clash}
use Rattle.lists.specs.Ascending.{Ascending}

pub rises-least : (least : ℕ) (list : List ℕ) → rises_from least list ≡ true → (x : ℕ) → has list x ≡ true → least ≤ x
unfolding rises_from
rises-least least [] e x h = absurd (clash h (has-nil x))
rises-least least (y ∷ list) e x h =
    let both = and_both (leb least y) (rises_from (suc y) list) e in
    go (leb-true least y both.0) (has-cases y list x h) (rises-least (suc y) list both.1 x)
  where
    go : least ≤ y → (y ≡ x) ⊎ (has list x ≡ true) → (has list x ≡ true → suc y ≤ x) → least ≤ x
    go low (inl same) later = omega arith
    go low (inr g) later = omega (arith, later g)

pub rises-ascends : (least : ℕ) (list : List ℕ) → rises_from least list ≡ true → Ascending list
unfolding rises_from
rises-ascends least [] e = tt
rises-ascends least (y ∷ list) e =
    let both = and_both (leb least y) (rises_from (suc y) list) e in
    (λ x h. rises-least (suc y) list both.1 x h, rises-ascends (suc y) list both.1)

pub ascends-rises : (least : ℕ) (list : List ℕ) → Ascending list → ((x : ℕ) → has list x ≡ true → least ≤ x) → rises_from least list ≡ true
unfolding rises_from
ascends-rises least [] a each = refl
ascends-rises least (y ∷ list) a each =
    and-all (leb least y) (rises_from (suc y) list) (le-leb least y (each y (has_here y list)))
    (ascends-rises (suc y) list a.1 (λ x h. a.0 x h))
