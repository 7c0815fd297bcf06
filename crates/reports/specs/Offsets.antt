-- What is kept of a set: where those that each relay sees begin, and where those above it do; nothing of a relay that has not reported.
-- Assumes nothing.
use Rattle.std.specs.Prelude.{ℕ, zero, suc, Bool, List, [], ◌≡◌, ltb, length, get_or}
use Rattle.definitions.specs.Outcome.{pick}
use Rattle.lists.specs.Cursors.{drop_below}
use Rattle.text_theory.specs.SpacedNumbers.{numbers_at}
use Rattle.reports.specs.declared.places.Places.{Places}

-- The numbers that stand in a text from an offset on.
abbrev pub numbers_from : (text : List ℕ) (p : ℕ) → List ℕ
numbers_from text p = numbers_at text p (length text)

-- An offset that may be missing, as one number: 0, or one more than the offset; and what stands there.
abbrev pub marked : (text : List ℕ) (mark : ℕ) → List ℕ
marked text zero = []
marked text (suc p) = numbers_from text p

-- What stands for a relay that has not reported; and whether it has: those that a relay sees never begin at offset 0.
abbrev pub no_places : Places
no_places = record { seen = 0; above = 0 }

abbrev pub is_kept : Places → Bool
is_kept kept = ltb 0 kept.seen

-- The two offsets of a relay, as such numbers.
abbrev pub seen_mark : Places → ℕ
seen_mark kept = pick (is_kept kept) (suc kept.seen) 0

abbrev pub above_mark : Places → ℕ
above_mark kept = pick (is_kept kept) (suc kept.above) 0

-- Of relay r: whether places are kept, and where.
abbrev pub reports_by : (places : List Places) (r : ℕ) → Bool
reports_by places r = is_kept (get_or places r no_places)

abbrev pub seen_of : (places : List Places) (r : ℕ) → ℕ
seen_of places r = seen_mark (get_or places r no_places)

abbrev pub above_of : (places : List Places) (r : ℕ) → ℕ
above_of places r = above_mark (get_or places r no_places)

-- What stands from the places kept for a relay on.
abbrev pub seen_from : (text : List ℕ) (places : List Places) (b : ℕ) → List ℕ
seen_from text places b = marked text (seen_of places b)

abbrev pub above_from : (text : List ℕ) (places : List Places) (b : ℕ) → List ℕ
above_from text places b = marked text (above_of places b)

-- From the second place that is kept for a relay on stands what it sees from its own number on.
abbrev pub Started : (text : List ℕ) (places : List Places) → Type 0
Started text places = (r : ℕ) → above_from text places r ≡ drop_below r (seen_from text places r)
