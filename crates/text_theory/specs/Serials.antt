-- Serials that wrap at 32 bits: of two at most one is ahead of the other, and neither is exactly where they are equal or half the range
-- apart. Assumes nothing.
use Rattle.std.specs.Prelude.{ℕ, ◌+◌, ◌-◌, ◌≤◌, ◌<◌, true, false, not, ◌⊎◌, ◌≡◌, ltb}
use Rattle.std.proofs.Common.{inl, inr, ap, arith, ltb-true}
use Rattle.std.proofs.Math.Decide.{dec_lt}
use Rattle.std.proofs.lemmas.Bool.{not-true, not-false}
use Rattle.definitions.specs.Lists.{outside}
use Rattle.definitions.specs.Stands.{wrapped, ahead}
use Rattle.definitions.specs.StandsPromise.{After, HalfApart}
use Rattle.lists.specs.Tests.{or-either}
use Rattle.lists.specs.Ranges.{inside, below, above, inside-range}

-- The difference without the wrap.
wrapped-down : (a b : ℕ) → a ≤ 4294967295 → b ≤ a → wrapped a b ≡ a - b
unfolding wrapped
wrapped-down a b h k = omega arith

wrapped-up : (a b : ℕ) → b ≤ 4294967295 → a < b → wrapped a b ≡ a + 4294967296 - b
unfolding wrapped
wrapped-up a b h k = omega arith

-- What it is to be ahead, and not to be.
ahead-range : (a b : ℕ) → ahead a b ≡ true → (1 ≤ wrapped a b) × (wrapped a b ≤ 2147483647)
unfolding ahead
ahead-range a b e = inside-range 1 2147483647 (wrapped a b) (not-true (outside 1 2147483647 (wrapped a b)) e)

ahead-not : (a b : ℕ) → ahead a b ≡ false → (wrapped a b ≡ 0) ⊎ (2147483648 ≤ wrapped a b)
unfolding ahead outside
ahead-not a b e = go (or-either (ltb (wrapped a b) 1) (ltb 2147483647 (wrapped a b)) (not-false (outside 1 2147483647 (wrapped a b)) e))
  where
    go : (ltb (wrapped a b) 1 ≡ true) ⊎ (ltb 2147483647 (wrapped a b) ≡ true) → (wrapped a b ≡ 0) ⊎ (2147483648 ≤ wrapped a b)
    go (inl l) = inl (omega (arith, ltb-true (wrapped a b) 1 l))
    go (inr l) = inr (omega (arith, ltb-true 2147483647 (wrapped a b) l))

near-ahead : (a b : ℕ) → 1 ≤ wrapped a b → wrapped a b ≤ 2147483647 → ahead a b ≡ true
unfolding ahead
near-ahead a b low high = ap not (inside 1 2147483647 (wrapped a b) low high)

none_ahead : (a b : ℕ) → wrapped a b ≡ 0 → ahead a b ≡ false
unfolding ahead
none_ahead a b e = ap not (below 1 2147483647 (wrapped a b) (omega arith))

far-ahead : (a b : ℕ) → 2147483648 ≤ wrapped a b → ahead a b ≡ false
unfolding ahead
far-ahead a b e = ap not (above 1 2147483647 (wrapped a b) (omega arith) (omega arith))

pub ahead-once : (a b : ℕ) → a ≤ 4294967295 → b ≤ 4294967295 → ahead a b ≡ true → ahead b a ≡ true → ⊥
ahead-once a b h k e f = go (dec_lt a b) (dec_lt b a)
  where
    go : Dec (a < b) → Dec (b < a) → ⊥
    go (yes l) other = omega (arith, ahead-range a b e, ahead-range b a f, wrapped-up a b k l, wrapped-down b a k (omega arith))
    go (no l) (yes m) = omega (arith, ahead-range a b e, ahead-range b a f, wrapped-down a b h (omega arith), wrapped-up b a h m)
    go (no l) (no m) = omega (arith, ahead-range a b e, wrapped-down a b h (omega arith))

pub ahead-self : (a b : ℕ) → a ≤ 4294967295 → a ≡ b → ahead a b ≡ false
ahead-self a b h same = none_ahead a b (omega (arith, wrapped-down a b h (omega arith)))

pub neither-half : (a b : ℕ) → a ≤ 4294967295 → b ≤ 4294967295 → ahead a b ≡ false → ahead b a ≡ false → (a ≡ b → ⊥) → HalfApart a b
neither-half a b h k e f apart = go (dec_lt a b) (ahead-not a b e) (ahead-not b a f)
  where
    go : Dec (a < b) → (wrapped a b ≡ 0) ⊎ (2147483648 ≤ wrapped a b) → (wrapped b a ≡ 0) ⊎ (2147483648 ≤ wrapped b a) → HalfApart a b
    go (yes l) (inl z) other = absurd (omega (arith, wrapped-up a b k l))
    go (yes l) (inr p) (inl z) = absurd (omega (arith, wrapped-down b a k (omega arith)))
    go (yes l) (inr p) (inr q) = inl (omega (arith, wrapped-up a b k l, wrapped-down b a k (omega arith)))
    go (no l) (inl z) other = absurd (apart (omega (arith, wrapped-down a b h (omega arith))))
    go (no l) (inr p) (inl z) = absurd (omega (arith, wrapped-down a b h (omega arith), wrapped-up b a h (omega (arith, wrapped-down a b h (omega arith)))))
    go (no l) (inr p) (inr q) =
        let down : wrapped a b ≡ a - b = wrapped-down a b h (omega arith) in
        inr (omega (arith, wrapped-up b a h (omega arith)))

pub half-neither : (a b : ℕ) → a ≤ 4294967295 → b ≤ 4294967295 → HalfApart a b → (ahead a b ≡ false) × (ahead b a ≡ false)
half-neither a b h k (inl e) = (
  far-ahead a b (omega (arith, wrapped-up a b k (omega arith))),
  far-ahead b a (omega (arith, wrapped-down b a k (omega arith))),
)
half-neither a b h k (inr e) = (
  far-ahead a b (omega (arith, wrapped-down a b h (omega arith))),
  far-ahead b a (omega (arith, wrapped-up b a h (omega arith))),
)

-- To be ahead is to come after.
pub ahead_after : (a b : ℕ) → a ≤ 4294967295 → b ≤ 4294967295 → ahead b a ≡ true → After a b
ahead_after a b h k e =
    let range = ahead-range b a e in
    (wrapped b a, range.0, range.1, go (dec_lt b a))
  where
    go : Dec (b < a) → (a + wrapped b a ≡ b) ⊎ (a + wrapped b a ≡ b + 4294967296)
    go (yes l) = inr (omega (arith, wrapped-up b a h l))
    go (no l) = inl (omega (arith, wrapped-down b a k (omega arith)))

pub after-ahead : (a b : ℕ) → a ≤ 4294967295 → b ≤ 4294967295 → After a b → ahead b a ≡ true
after-ahead a b h k (steps, some, few, inl e) =
    let d = wrapped-down b a k (omega arith) in
    near-ahead b a (omega arith) (omega arith)
after-ahead a b h k (steps, some, few, inr e) =
    let d = wrapped-up b a h (omega arith) in
    near-ahead b a (omega arith) (omega arith)
