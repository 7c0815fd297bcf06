-- What each answer of Order, Split and Cut stands for in document 01: the values, or the number and place of a refusal.
-- Assumes nothing.
use Rattle.std.specs.Prelude.{ℕ, ⊤, [], ◌∷◌, Result, Ok, Err}
use Rattle.definitions.specs.Outcome.{done, Answer}
use Rattle.network.specs.Answers.{refusal_of}
use Rattle.network.specs.declared.refusal.Refusal.{Refusal}

-- "Where no answer is named below, success alone is reported."
abbrev pub order_outcome : Result ⊤ Refusal → Answer
order_outcome (Ok _) = done []
order_outcome (Err refusal) = refusal_of refusal

-- "The answer is the highest forest used, 0 without links."
abbrev pub split_outcome : Result ℕ Refusal → Answer
split_outcome (Ok highest) = done (highest ∷ [])
split_outcome (Err refusal) = refusal_of refusal

-- "The answer is the count of ones."
abbrev pub cut_outcome : Result ℕ Refusal → Answer
cut_outcome (Ok kept) = done (kept ∷ [])
cut_outcome (Err refusal) = refusal_of refusal
