-- What each answer of Read and Write stands for in document 01: the number and place of a refusal, or the values.
-- Assumes nothing.
use Rattle.std.specs.Prelude.{ℕ, [], ◌∷◌, Result, Ok, Err}
use Rattle.definitions.specs.Outcome.{done, Answer}
use Rattle.network.specs.Answers.{refusal_of}
use Rattle.network.specs.declared.refusal.Refusal.{Refusal}
use Rattle.text.specs.declared.TableSize.{TableSize}

-- The number of relays and of links.
abbrev pub read_outcome : Result TableSize Refusal → Answer
read_outcome (Ok size) = done (size.relays ∷ size.links ∷ [])
read_outcome (Err refusal) = refusal_of refusal

-- The text's length in bytes.
abbrev pub write_outcome : Result ℕ Refusal → Answer
write_outcome (Ok size) = done (size ∷ [])
write_outcome (Err refusal) = refusal_of refusal
