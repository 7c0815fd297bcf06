-- Outcomes step by step: which refusals were passed, and what stands after them.
use Rattle.std.specs.Prelude.{ℕ, Bool, true, false, ◌≢◌, ◌≡◌, refl}
use Rattle.std.proofs.Common.{arith}
use Rattle.definitions.specs.Outcome.{Outcome, refused, done, refuse_if, and_then, if_done}

-- A step that refuses is passed only where its test fails.
pub not-refused : {A : Type 0} (b : Bool) (number place : ℕ) (rest : Outcome A) (value : A)
    → refuse_if b number place rest ≡ done value → (b ≡ false) × (rest ≡ done value)
unfolding refuse_if
not-refused true number place rest value h =
    let z : ◌≡◌ {A = ℕ} 0 1 = cc in
    absurd (omega arith)
not-refused false number place rest value h = (refl, h)

-- A refusal with another number than the test's comes from what follows the test.
pub refused-later : {A : Type 0} (b : Bool) (number place : ℕ) (rest : Outcome A) (r q : ℕ)
    → refuse_if b number place rest ≡ refused r q → (number ≡ r → ⊥) → (b ≡ false) × (rest ≡ refused r q)
unfolding refuse_if
refused-later true number place rest r q e other = absurd (other (cc))
refused-later false number place rest r q e other = (refl, e)

pub refuse-not : {A : Type 0} (b : Bool) (number place : ℕ) (rest : Outcome A) → b ≡ false → refuse_if b number place rest ≡ rest
unfolding refuse_if
refuse-not b number place rest e = rw e refl

-- Where a refusal comes from what follows only if it comes from something else too, it comes from that.
pub refused-also : {A : Type 0} (b : Bool) (number place : ℕ) (one other : Outcome A) (r q : ℕ)
    → refuse_if b number place one ≡ refused r q → (one ≡ refused r q → other ≡ refused r q) → refuse_if b number place other ≡ refused r q
unfolding refuse_if
refused-also true number place one other r q e after = e
refused-also false number place one other r q e after = after e

-- A step that might have refused and did not.
pub refuse-passed : {A : Type 0} (b : Bool) (number place : ℕ) (rest : Outcome A) → refuse_if b number place rest ≢ refused number place
    → refuse_if b number place rest ≡ rest
unfolding refuse_if
refuse-passed true number place rest h = absurd (h refl)
refuse-passed false number place rest h = refl

pub then-done : {A B : Type 0} (outcome : Outcome A) (next : A → Outcome B) (value : A)
    → outcome ≡ done value → and_then outcome next ≡ next value
unfolding and_then
then-done outcome next value e = rw e refl

pub if-done : {A B : Type 0} (outcome : Outcome A) (value : A) (new old : B) → outcome ≡ done value → if_done outcome new old ≡ new
unfolding if_done
if-done outcome value new old e = rw e refl
