-- The refusals 3, 4 and 8 behind the line that tells n and m: what was passed where they were not given. Assumes nothing.
use Rattle.std.specs.Prelude.{ℕ, ◌≤◌, Bool, true, false, ◌||◌, ◌⊎◌, ◌≢◌, ◌≡◌, ltb}
use Rattle.std.proofs.Common.{inl, inr, ◌∙◌, arith, ltb-false, le-ltb}
use Rattle.definitions.specs.Outcome.{Outcome, refused, done, refuse_if}
use Rattle.definitions.specs.Lists.{outside}
use Rattle.definitions.specs.Text.{Network, sized}
use Rattle.lists.specs.Outcomes.{not-refused, refused-later, refused-also, refuse-not}
use Rattle.lists.specs.Ranges.{inside-range}
use Rattle.lists.specs.RefusedWithin.{RefusedAs, refuse-as}
use Rattle.lists.specs.Tests.{or-neither}

-- None of the three is given.
pub record SizesPass (n m room_lows room_highs room_states : ℕ) : Type 0 where
  pub size : outside 1 1000 n ≡ false
  pub few : m ≤ 3000
  pub room : (ltb room_lows m || (ltb room_highs m || ltb room_states n)) ≡ false

pub sized-passed : (n m room_lows room_highs room_states : ℕ) (rest : Outcome Network) → SizesPass n m room_lows room_highs room_states
    → sized n m room_lows room_highs room_states rest ≡ rest
sized-passed n m room_lows room_highs room_states rest pass =
    let full = ltb room_lows m || (ltb room_highs m || ltb room_states n) in
    refuse-not (outside 1 1000 n) 3 0 (refuse_if (ltb 3000 m) 4 0 (refuse_if full 8 0 rest)) pass.size
    ∙ refuse-not (ltb 3000 m) 4 0 (refuse_if full 8 0 rest) (le-ltb 3000 m pass.few)
    ∙ refuse-not full 8 0 rest pass.room

pub sized-done : (n m room_lows room_highs room_states : ℕ) (rest : Outcome Network) (network : Network)
    → sized n m room_lows room_highs room_states rest ≡ done network
    → SizesPass n m room_lows room_highs room_states × (rest ≡ done network)
sized-done n m room_lows room_highs room_states rest network e =
    let full = ltb room_lows m || (ltb room_highs m || ltb room_states n) in
    let three = not-refused (outside 1 1000 n) 3 0 (refuse_if (ltb 3000 m) 4 0 (refuse_if full 8 0 rest)) network e in
    let four = not-refused (ltb 3000 m) 4 0 (refuse_if full 8 0 rest) network three.1 in
    let eight = not-refused full 8 0 rest network four.1 in
    (record { size = three.0; few = ltb-false 3000 m four.0; room = eight.0 }, eight.1)

-- A refusal that comes from what follows only if it comes from something else too.
pub sized-also : (n m room_lows room_highs room_states : ℕ) (one other : Outcome Network) (r q : ℕ)
    → sized n m room_lows room_highs room_states one ≡ refused r q → (one ≡ refused r q → other ≡ refused r q)
    → sized n m room_lows room_highs room_states other ≡ refused r q
sized-also n m room_lows room_highs room_states one other r q e after =
    let full = ltb room_lows m || (ltb room_highs m || ltb room_states n) in
    refused-also (outside 1 1000 n) 3 0 (refuse_if (ltb 3000 m) 4 0 (refuse_if full 8 0 one)) _ r q e
    (λ four. refused-also (ltb 3000 m) 4 0 (refuse_if full 8 0 one) _ r q four
    (λ eight. refused-also full 8 0 one other r q eight after))

-- A refusal comes from the three, whatever follows, or from what follows.
pub sized-split : (n m room_lows room_highs room_states : ℕ) (rest : Outcome Network) (r q : ℕ)
    → sized n m room_lows room_highs room_states rest ≡ refused r q
    → ((other : Outcome Network) → sized n m room_lows room_highs room_states other ≡ refused r q) ⊎ (rest ≡ refused r q)
unfolding refuse_if
sized-split n m room_lows room_highs room_states rest r q =
    go (outside 1 1000 n) (ltb 3000 m) (ltb room_lows m || (ltb room_highs m || ltb room_states n))
  where
    go : (a b c : Bool) → refuse_if a 3 0 (refuse_if b 4 0 (refuse_if c 8 0 rest)) ≡ refused r q
        → ((other : Outcome Network) → refuse_if a 3 0 (refuse_if b 4 0 (refuse_if c 8 0 other)) ≡ refused r q) ⊎ (rest ≡ refused r q)
    go true b c e = inl (λ other. e)
    go false true c e = inl (λ other. e)
    go false false true e = inl (λ other. e)
    go false false false e = inr e

-- Another refusal comes from what follows.
pub sized-refused : (n m room_lows room_highs room_states : ℕ) (rest : Outcome Network) (r q : ℕ)
    → sized n m room_lows room_highs room_states rest ≡ refused r q → 3 ≢ r → 4 ≢ r → 8 ≢ r
    → SizesPass n m room_lows room_highs room_states × (rest ≡ refused r q)
sized-refused n m room_lows room_highs room_states rest r q e not_three not_four not_eight =
    let full = ltb room_lows m || (ltb room_highs m || ltb room_states n) in
    let three = refused-later (outside 1 1000 n) 3 0 (refuse_if (ltb 3000 m) 4 0 (refuse_if full 8 0 rest)) r q e not_three in
    let four = refused-later (ltb 3000 m) 4 0 (refuse_if full 8 0 rest) r q three.1 not_four in
    let eight = refused-later full 8 0 rest r q four.1 not_eight in
    (record { size = three.0; few = ltb-false 3000 m four.0; room = eight.0 }, eight.1)

-- With room for every network 8 is not given.
pub sized-as : (P : ℕ → ℕ → Type 0) (n m room_lows room_highs room_states : ℕ) (rest : Outcome Network) → 3000 ≤ room_lows → 3000 ≤ room_highs
    → 1000 ≤ room_states → P 3 0 → P 4 0 → (n ≤ 1000 → m ≤ 3000 → RefusedAs P rest) → RefusedAs P (sized n m room_lows room_highs room_states rest)
sized-as P n m room_lows room_highs room_states rest in_lows in_highs in_states three four after =
    refuse-as P (outside 1 1000 n) 3 0 _ (λ _. three)
    (λ size. refuse-as P (ltb 3000 m) 4 0 _ (λ _. four)
    (λ many.
    let most = ltb-false 3000 m many in
    let few = (inside-range 1 1000 n size).1 in
    let full = ltb room_lows m || (ltb room_highs m || ltb room_states n) in
    let roomy : full ≡ false =
    or-neither (ltb room_lows m) _ (le-ltb room_lows m (omega arith))
    (or-neither (ltb room_highs m) _ (le-ltb room_highs m (omega arith)) (le-ltb room_states n (omega arith))) in
    rw (refuse-not full 8 0 rest roomy) (after few most)))
