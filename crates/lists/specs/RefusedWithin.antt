-- What holds of the number and the place of a refusal, step by step. Assumes nothing.
use Rattle.std.specs.Prelude.{ℕ, ◌≤◌, Bool, true, false, ◌≡◌, refl}
use Rattle.definitions.specs.Outcome.{pick, Outcome, refused, done, refuse_if, and_then}

abbrev pub RefusedAs : {A : Type 0} → (ℕ → ℕ → Type 0) → Outcome A → Type 0
RefusedAs P (refused number place) = P number place
RefusedAs P (done value) = Unit {0}

pub as-more : {A : Type 0} (P Q : ℕ → ℕ → Type 0) (outcome : Outcome A) → ((number place : ℕ) → P number place → Q number place)
    → RefusedAs P outcome → RefusedAs Q outcome
as-more P Q (refused number place) more holds = more number place holds
as-more P Q (done value) more holds = tt

pub refused_as : {A : Type 0} (P : ℕ → ℕ → Type 0) (outcome : Outcome A)
    → ((number place : ℕ) → outcome ≡ refused number place → P number place) → RefusedAs P outcome
refused_as P (refused number place) told = told number place refl
refused_as P (done value) told = tt

pub refuse-as : {A : Type 0} (P : ℕ → ℕ → Type 0) (b : Bool) (number place : ℕ) (rest : Outcome A)
    → (b ≡ true → P number place) → (b ≡ false → RefusedAs P rest) → RefusedAs P (refuse_if b number place rest)
unfolding refuse_if
refuse-as P true number place rest here after = here refl
refuse-as P false number place rest here after = after refl

pub then-as : {A B : Type 0} (P : ℕ → ℕ → Type 0) (outcome : Outcome A) (next : A → Outcome B) → RefusedAs P outcome
    → ((value : A) → outcome ≡ done value → RefusedAs P (next value)) → RefusedAs P (and_then outcome next)
unfolding and_then
then-as P (refused number place) next holds after = holds
then-as P (done value) next holds after = after value refl

pub pick-within : (limit : ℕ) (b : Bool) (one other : ℕ) → one ≤ limit → other ≤ limit → pick b one other ≤ limit
pick-within limit true one other h l = h
pick-within limit false one other h l = l
