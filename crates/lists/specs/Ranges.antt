-- What the test `outside` tells of a number, and its value from what is known of the number.
-- Assumes nothing.
use Rattle.std.specs.Prelude.{ℕ, ◌≤◌, ◌<◌, true, false, ◌≡◌, ltb}
use Rattle.std.proofs.Common.{lt-ltb, le-ltb, ltb-false}
use Rattle.definitions.specs.Lists.{outside}
use Rattle.lists.specs.Tests.{or-false}

pub inside : (low high x : ℕ) → low ≤ x → x ≤ high → outside low high x ≡ false
unfolding outside
inside low high x a b = rw (le-ltb x low a, le-ltb high x b)

pub below : (low high x : ℕ) → x < low → outside low high x ≡ true
unfolding outside
below low high x a = rw (lt-ltb x low a)

pub above : (low high x : ℕ) → low ≤ x → high < x → outside low high x ≡ true
unfolding outside
above low high x a b = rw (le-ltb x low a, lt-ltb high x b)

pub inside-range : (low high x : ℕ) → outside low high x ≡ false → (low ≤ x) × (x ≤ high)
unfolding outside
inside-range low high x e =
    let both = or-false (ltb x low) (ltb high x) e in
    (ltb-false x low both.0, ltb-false high x both.1)
