-- What Cut passed before it answered. Assumes nothing.
use Rattle.std.specs.Prelude.{ℕ, ◌+◌, ◌≤◌, Bool, true, false, List, [], ◌∷◌, map, ◌≡◌, refl, eqb, ltb, length}
use Rattle.std.proofs.Common.{sym, ◌∙◌, ap, arith}
use Rattle.definitions.specs.Outcome.{pick, done, refuse_if}
use Rattle.definitions.specs.Lists.{outside, count, total}
use Rattle.definitions.specs.Network.{table_check}
use Rattle.definitions.specs.Forests.{forests_of, mark_of, marks_of, cut_answer}
use Rattle.lists.specs.Outcomes.{not-refused}
use Rattle.lists.specs.Ranges.{inside-range}
use Rattle.lists.specs.SameOutcomes.{done-same, done-then}

-- Cut's answer is the count of ones.
marks-ones : (k : ℕ) (forests : List ℕ) → total (map (mark_of k) forests) ≡ count (eqb 1) (map (mark_of k) forests)
unfolding total count mark_of
marks-ones k [] = refl
marks-ones k (f ∷ forests) = go (outside 1 k f) (marks-ones k forests)
  where
    go : (b : Bool) → total (map (mark_of k) forests) ≡ count (eqb 1) (map (mark_of k) forests)
        → pick b 0 1 + total (map (mark_of k) forests) ≡ pick (eqb 1 (pick b 0 1)) 1 0 + count (eqb 1) (map (mark_of k) forests)
    go true same = omega arith
    go false same = omega arith

-- Cut answers with its count, for a k in range.
pub cut-total : (n : ℕ) (lows highs states : List ℕ) (k : ℕ) (marks values : List ℕ) → cut_answer n lows highs states k marks ≡ done values
    → (outside 1 32 k ≡ false) × (values ≡ total (marks_of n lows highs states k) ∷ [])
unfolding cut_answer
cut-total n lows highs states k marks values e =
    let last = done (total (marks_of n lows highs states k) ∷ []) in
    let fitting = refuse_if (ltb (length marks) (length lows)) 12 0 last in
    let checked = done-then (table_check n lows highs states) (λ _. refuse_if (outside 1 32 k) 9 0 fitting) values e in
    let nine = not-refused (outside 1 32 k) 9 0 fitting values checked.2 in
    let twelve = not-refused (ltb (length marks) (length lows)) 12 0 last values nine.1 in
    (nine.0, sym (done-same _ values twelve.1))

-- How many links Cut keeps of a network, as a sum of marks and as a count of ones.
pub kept-total : (n : ℕ) (lows highs states : List ℕ) (k : ℕ) → total (marks_of n lows highs states k) ≡ count (eqb 1) (marks_of n lows highs states k)
unfolding marks_of
kept-total n lows highs states k = marks-ones k (forests_of n lows highs states)

-- What Cut passed, and its answer.
pub record CutPassed (n : ℕ) (lows highs states : List ℕ) (k : ℕ) (values : List ℕ) : Type 0 where
  pub some : 1 ≤ k
  pub few : k ≤ 32
  pub counted : values ≡ count (eqb 1) (marks_of n lows highs states k) ∷ []

pub cut-passed : (n : ℕ) (lows highs states : List ℕ) (k : ℕ) (marks values : List ℕ)
    → cut_answer n lows highs states k marks ≡ done values → CutPassed n lows highs states k values
cut-passed n lows highs states k marks values e =
    let found = cut-total n lows highs states k marks values e in
    let range = inside-range 1 32 k found.0 in
    record { some = range.0; few = range.1; counted = found.1 ∙ ap (λ (x : ℕ). x ∷ []) (kept-total n lows highs states k) }
