-- Outcomes that go on the same way, and what stands before an outcome that is done or refused: two ways to go on that give the
-- same wherever they are taken give the same altogether.
-- Assumes nothing.
use Rattle.std.specs.Prelude.{ℕ, Bool, true, false, ◌⊎◌, ◌≡◌, refl}
use Rattle.std.proofs.Common.{inl, inr, arith}
use Rattle.definitions.specs.Outcome.{Outcome, refused, done, refuse_if, and_then}

pub refuse-same : {A : Type 0} (b : Bool) (number place : ℕ) (one other : Outcome A) → (b ≡ false → one ≡ other)
    → refuse_if b number place one ≡ refuse_if b number place other
unfolding refuse_if
refuse-same true number place one other same = refl
refuse-same false number place one other same = same refl

-- Two ways to go on that give the same after a success.
pub then_same : {A B : Type 0} (outcome : Outcome A) (one other : A → Outcome B) → ((value : A) → outcome ≡ done value → one value ≡ other value)
    → and_then outcome one ≡ and_then outcome other
unfolding and_then
then_same (refused number place) one other same = refl
then_same (done value) one other same = same value refl

pub done-same : {A : Type 0} (a b : A) → done a ≡ done b → a ≡ b
done-same a b e = cc

pub done-then : {A B : Type 0} (outcome : Outcome A) (next : A → Outcome B) (value : B) → and_then outcome next ≡ done value
    → (first : A) × (outcome ≡ done first) × (next first ≡ done value)
unfolding and_then
done-then (refused number place) next value e = let z : ◌≡◌ {A = ℕ} 0 1 = cc in absurd (omega arith)
done-then (done first) next value e = (first, refl, e)

pub refused-then : {A B : Type 0} (outcome : Outcome A) (next : A → Outcome B) (number place : ℕ) → and_then outcome next ≡ refused number place
    → (outcome ≡ refused number place) ⊎ ((first : A) × (outcome ≡ done first) × (next first ≡ refused number place))
unfolding and_then
refused-then (refused n p) next number place e =
    let numbers : n ≡ number = cc in
    let places : p ≡ place = cc in
    inl (rw (numbers, places))
refused-then (done first) next number place e = inr (first, refl, e)
