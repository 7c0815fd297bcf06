-- A refusal stands, and changes no list. Assumes nothing.
use Rattle.std.specs.Prelude.{◌≡◌, refl}
use Rattle.definitions.specs.Outcome.{Outcome, and_then, if_done}
use Rattle.network.specs.Answers.{refusal_of}
use Rattle.network.specs.declared.refusal.Refusal.{Refusal}

pub refusal-then : {A B : Type 0} (refusal : Refusal) (next : A → Outcome B) → and_then (refusal_of refusal) next ≡ refusal_of refusal
unfolding and_then
refusal-then refusal next = refl

pub refusal-keeps : (A : Type 0) {B : Type 0} (refusal : Refusal) (new old : B) → if_done (refusal_of {A = A} refusal) new old ≡ old
unfolding if_done
refusal-keeps A refusal new old = refl
