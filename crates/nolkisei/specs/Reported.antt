-- How the C interface reports the outcome of an operation: a code, and the answer's two entries.
-- Assumes nothing.
use Rattle.std.specs.Prelude.{ℕ, List, [], ◌∷◌, ◌≡◌}
use Rattle.definitions.specs.Outcome.{refused, done, Answer}
use Rattle.definitions.specs.Lists.{overwrite}
use Rattle.network.specs.Answers.{refusal_number, refusal_place, refusal_of}
use Rattle.network.specs.declared.refusal.Refusal.{Refusal}

-- A refusal gives its number and, as the first entry, its place. Success gives 0 and the values. Entries that are not
-- named are zeros.
unfoldable pub reported : Answer → ℕ × List ℕ
reported (refused number place) = (number, place ∷ 0 ∷ [])
reported (done values) = (0, overwrite values (0 ∷ 0 ∷ []))

-- What is reported of a refusal.
pub reported-refusal :
    (refusal : Refusal) (number place : ℕ) →
    number ≡ refusal_number refusal →
    place ≡ refusal_place refusal →
    reported (refusal_of refusal) ≡ (number, place ∷ 0 ∷ [])
unfolding reported
reported-refusal refusal number place same_number same_place =
    rw (same_number, same_place)

-- Success alone, and success with one value: the entries that are not named are zeros.
pub reported-none : (outcome : Answer) → outcome ≡ done [] → reported outcome ≡ reported (done (0 ∷ 0 ∷ []))
unfolding reported overwrite
reported-none outcome same = rw same

pub reported-one :
    (outcome : Answer) (value : ℕ) →
    outcome ≡ done (value ∷ []) →
    reported outcome ≡ reported (done (value ∷ 0 ∷ []))
unfolding reported overwrite
reported-one outcome value same = rw same
