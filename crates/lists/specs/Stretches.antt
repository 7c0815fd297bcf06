-- Tests that fail over a stretch of numbers. Assumes nothing.
use Rattle.std.specs.Prelude.{ℕ, zero, suc, ◌≤◌, ◌<◌, Bool, false, ◌||◌, ◌&&◌, ◌≡◌, ltb}
use Rattle.std.proofs.Common.{sym, ap, arith, lt-ltb, le-ltb}
use Rattle.std.proofs.Math.Decide.{dec_le, dec_lt}
use Rattle.definitions.specs.Lists.{some_below}
use Rattle.lists.specs.Tests.{and-false}

-- A bound moved over numbers that fail changes nothing.
pub some-skip : (test : ℕ → Bool) (i k : ℕ) → i ≤ k → ((j : ℕ) → i ≤ j → j < k → test j ≡ false)
    → some_below test k ≡ some_below test i
unfolding some_below
some-skip test i zero h none =
    let e : i ≡ 0 = omega arith in
    rw e
some-skip test i (suc k) h none = go (dec_le i k) (some-skip test i k)
  where
    go : Dec (i ≤ k)
        → (i ≤ k → ((j : ℕ) → i ≤ j → j < k → test j ≡ false) → some_below test k ≡ some_below test i)
        → (test k || some_below test k) ≡ some_below test i
    go (yes p) rest = rw (none k p (omega arith)) (rest p (λ j a b. none j a (omega arith)))
    go (no p) rest =
        let e : i ≡ suc k = omega arith in
        sym (ap (some_below test) e)

pub and-skip : (test : ℕ → Bool) (i k j : ℕ) → i ≤ k → ((j : ℕ) → i ≤ j → j < k → test j ≡ false)
    → (ltb j k && test j) ≡ (ltb j i && test j)
and-skip test i k j h none = go (dec_lt j i) (dec_lt j k)
  where
    go : Dec (j < i) → Dec (j < k) → (ltb j k && test j) ≡ (ltb j i && test j)
    go (yes p) b = rw (lt-ltb j i p, lt-ltb j k (omega arith))
    go (no p) (yes q) = rw (none j (omega arith) q, and-false (ltb j k), and-false (ltb j i))
    go (no p) (no q) = rw (le-ltb j i (omega arith), le-ltb j k (omega arith))
