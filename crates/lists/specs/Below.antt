-- Some number below a bound passes a test, and when none does; one number more, and tests that agree below the bound.
-- Assumes nothing.
use Rattle.std.specs.Prelude.{ℕ, zero, suc, ◌+◌, ◌<◌, Bool, true, false, ◌||◌, ◌≢◌, ◌≡◌, refl, eqb}
use Rattle.std.proofs.Common.{true≢false, sym, ◌∙◌, ap, ap₂, add-one, arith, eqb-true}
use Rattle.std.proofs.lemmas.Bool.{false≢true, eqb-false}
use Rattle.definitions.specs.Lists.{some_below}
use Rattle.lists.specs.Tests.{or_left, or_right}

pub below-some : (test : ℕ → Bool) (n i : ℕ) → i < n → test i ≡ true → some_below test n ≡ true
unfolding some_below
below-some test zero i h e = absurd (omega arith)
below-some test (suc n) i h e = go (eqb i n) refl (λ k. below-some test n i k e)
  where
    go : (b : Bool) → eqb i n ≡ b → (i < n → some_below test n ≡ true) → (test n || some_below test n) ≡ true
    go true p rest = or_left (test n) (some_below test n) (ap test (sym (eqb-true i n p)) ∙ e)
    go false p rest =
        let apart : i ≢ n = eqb-false i n p in
        or_right (test n) (some_below test n) (rest (omega arith))

pub below-which : (test : ℕ → Bool) (n : ℕ) → some_below test n ≡ true → (i : ℕ) × (i < n) × (test i ≡ true)
unfolding some_below
below-which test zero h = absurd (false≢true h)
below-which test (suc n) h = go (test n) refl h (below-which test n)
  where
    go : (b : Bool) → test n ≡ b → (b || some_below test n) ≡ true
        → (some_below test n ≡ true → (i : ℕ) × (i < n) × (test i ≡ true))
        → (i : ℕ) × (i < suc n) × (test i ≡ true)
    go true e t rest = (n, omega arith, e)
    go false e t rest = ((rest t).0, omega (arith, (rest t).1), (rest t).2)

pub below_none : (test : ℕ → Bool) (n : ℕ) → some_below test n ≡ false → (i : ℕ) → i < n → test i ≡ false
below_none test n h i k = go (test i) refl
  where
    go : (b : Bool) → test i ≡ b → b ≡ false
    go true e = absurd (true≢false (sym (below-some test n i k e) ∙ h))
    go false e = refl

pub none_below : (test : ℕ → Bool) (n : ℕ) → ((i : ℕ) → i < n → test i ≡ false) → some_below test n ≡ false
none_below test n h = go (some_below test n) refl
  where
    go : (b : Bool) → some_below test n ≡ b → b ≡ false
    go true e =
        let which = below-which test n e in
        absurd (true≢false (sym which.2 ∙ h which.0 which.1))
    go false e = refl

pub some_next : (test : ℕ → Bool) (i : ℕ) → some_below test (i + 1) ≡ (test i || some_below test i)
unfolding some_below
some_next test i = rw (add-one i) refl

pub some_same : (f g : ℕ → Bool) (i : ℕ) → ((j : ℕ) → j < i → f j ≡ g j) → some_below f i ≡ some_below g i
unfolding some_below
some_same f g zero same = refl
some_same f g (suc i) same = ap₂ ◌||◌ (same i (omega arith)) (some_same f g i (λ j h. same j (omega arith)))
