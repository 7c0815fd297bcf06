-- What the searches `largest` and `first_from` find. Assumes nothing.
use Rattle.std.specs.Prelude.{ℕ, zero, suc, ◌+◌, ◌≤◌, ◌<◌, Bool, true, false, ◌≡◌, refl}
use Rattle.std.proofs.Math.Decide.{dec_lt}
use Rattle.std.proofs.Common.{arith, true≢false, sym, ◌∙◌, subst}
use Rattle.std.proofs.Math.Logic.{by_cases}
use Rattle.definitions.specs.Outcome.{pick}
use Rattle.definitions.specs.Lists.{largest, first_from}

-- A test does not come out both ways.
pub clash : {b : Bool} → b ≡ true → b ≡ false → ⊥
clash p q = true≢false (sym p ∙ q)

pub largest-bound : (test : ℕ → Bool) (k : ℕ) → largest test k ≤ k
unfolding largest
largest-bound test zero = omega arith
largest-bound test (suc k) = go (largest-bound test k) (test (suc k))
  where
    go : largest test k ≤ k → (b : Bool) → pick b (suc k) (largest test k) ≤ suc k
    go less true = omega arith
    go less false = omega arith

pub largest-passes : (test : ℕ → Bool) (k : ℕ) → 0 < largest test k → test (largest test k) ≡ true
unfolding largest
largest-passes test zero some = absurd (omega arith)
largest-passes test (suc k) some = go (largest-passes test k) (test (suc k)) refl some
  where
    go : (0 < largest test k → test (largest test k) ≡ true) → (b : Bool) → test (suc k) ≡ b
        → 0 < pick b (suc k) (largest test k) → test (pick b (suc k) (largest test k)) ≡ true
    go deeper true e some = e
    go deeper false e some = deeper some

pub largest-above : (test : ℕ → Bool) (k i : ℕ) → 1 ≤ i → i ≤ k → test i ≡ true → i ≤ largest test k
unfolding largest
largest-above test zero i one le passes = absurd (omega arith)
largest-above test (suc k) i one le passes = go (largest-above test k i one) (test (suc k)) refl
  where
    go : (i ≤ k → test i ≡ true → i ≤ largest test k) → (b : Bool) → test (suc k) ≡ b → i ≤ pick b (suc k) (largest test k)
    go deeper true e = le
    go deeper false e =
        by_cases (dec_lt i (suc k))
        (λ less. deeper (omega arith) passes)
        (λ more. let same : i ≡ suc k = omega arith in absurd (clash (subst (λ (x : ℕ). test x ≡ true) same passes) e))

pub largest-none : (test : ℕ → Bool) (k : ℕ) → largest test k ≡ 0 → (i : ℕ) → 1 ≤ i → i ≤ k → test i ≡ false
largest-none test k none i one le = go (test i) refl
  where
    go : (b : Bool) → test i ≡ b → b ≡ false
    go true e = absurd (omega (arith, largest-above test k i one le e))
    go false e = refl

-- f is the first number from i on that passes the test, and is at most x.
pub record First (test : ℕ → Bool) (i x f : ℕ) : Type 0 where
  pub from : i ≤ f
  pub upto : f ≤ x
  pub passes : test f ≡ true
  pub least : (y : ℕ) → i ≤ y → y < f → test y ≡ false

-- The search finds it if some x of its range passes.
pub first_holds : (test : ℕ → Bool) (count i x : ℕ) → i ≤ x → x < i + count → test x ≡ true → First test i x (first_from test i count)
unfolding first_from
first_holds test zero i x le less passes = absurd (omega arith)
first_holds test (suc count) i x le less passes = go (first_holds test count (suc i) x) (test i) refl
  where
    go : (suc i ≤ x → x < suc i + count → test x ≡ true → First test (suc i) x (first_from test (suc i) count))
        → (b : Bool) → test i ≡ b → First test i x (pick b i (first_from test (suc i) count))
    go further true e = record { from = omega arith; upto = le; passes = e; least = λ y above below. absurd (omega arith) }
    go further false e =
        let more : i < x =
        by_cases (dec_lt i x) (λ less. less) (λ same. let z : x ≡ i = omega arith in absurd (clash (subst (λ (y : ℕ). test y ≡ true) z passes) e)) in
        let rest : First test (suc i) x (first_from test (suc i) count) = further more (omega arith) passes in
        record {
          from = omega arith;
          upto = rest.upto;
          passes = rest.passes;
          least = λ y above below.
              by_cases (dec_lt i y) (λ over. rest.least y over below) (λ at. let z : i ≡ y = omega arith in subst (λ (x : ℕ). test x ≡ false) z e);
        }

-- Two searches of which neither passes over the other's find have found the same.
pub first-same : {test : ℕ → Bool} {i h x y n m : ℕ} → First test i x n → First test h y m → i ≤ m → h ≤ n → n ≡ m
first-same {n = n} {m = m} one other le le' =
    by_cases (dec_lt n m)
    (λ less. absurd (clash one.passes (other.least n le' less)))
    (λ more. by_cases (dec_lt m n) (λ less. absurd (clash other.passes (one.least m le less))) (λ same. omega arith))

-- Tests that agree up to k have the same largest.
pub largest-same : (f g : ℕ → Bool) (k : ℕ) → ((i : ℕ) → 1 ≤ i → i ≤ k → f i ≡ g i) → largest f k ≡ largest g k
unfolding largest
largest-same f g zero same = refl
largest-same f g (suc k) same =
    rw (same (suc k) (omega arith) (omega arith), largest-same f g k (λ i one le. same i one (omega arith)))

-- What it finds is not beyond its range.
pub first-within : (test : ℕ → Bool) (i count : ℕ) → first_from test i count ≤ i + count
unfolding first_from
first-within test i zero = omega arith
first-within test i (suc count) = go (test i) (first-within test (suc i) count)
  where
    go : (b : Bool) → first_from test (suc i) count ≤ suc i + count → pick b i (first_from test (suc i) count) ≤ i + suc count
    go true less = omega arith
    go false less = omega arith
