-- The rule of a table of row starts, and the test that shows it of a whole table. Assumes nothing.
use Rattle.std.specs.Prelude.{ℕ, zero, suc, ◌+◌, ◌≤◌, ◌<◌, Bool, true, false, ◌&&◌, List, [], ◌∷◌, ◌≢◌, ◌≡◌, refl, eqb, length, get_or, set}
use Rattle.std.proofs.Common.{sym, ◌∙◌, ap, zero-add, arith, eqb-true, length-set, get_or-set_same, get_or-set_other}
use Rattle.std.proofs.lemmas.Bool.{eqb-false}
use Rattle.std.proofs.Props.{props}
use Rattle.definitions.specs.Network.{row_start}
use Rattle.lists.specs.Tests.{and_both}

-- The rule, for n relays: document 01, "entry B is B × (B − 1) / 2".
unfoldable pub RowsFor : ℕ → List ℕ → Type 0
RowsFor n rows = (n ≤ length rows) × ((b : ℕ) → b < n → get_or rows b 0 ≡ row_start b)

-- It has one proof at most.
pub RowsFor-prop : (n : ℕ) (rows : List ℕ) → IsProp (RowsFor n rows)
unfolding RowsFor
RowsFor-prop n rows = Prim.hlevel props

-- Rows for more relays will do.
pub rows-fewer : (n k : ℕ) (rows : List ℕ) → n ≤ k → RowsFor k rows → RowsFor n rows
unfolding RowsFor
rows-fewer n k rows h r = (omega (arith, r.0), λ b l. r.1 b (omega arith))

pub rows_none : (rows : List ℕ) → RowsFor 0 rows
unfolding RowsFor
rows_none rows = (omega arith, λ b h. absurd (omega arith))

-- An entry more, taken from a table that has it.
pub rows_next : (b : ℕ) (rows front : List ℕ) → RowsFor (b + 1) rows → RowsFor b front → b < length front
    → RowsFor (b + 1) (set front b (get_or rows b 0))
unfolding RowsFor
rows_next b rows front r f l = (omega (arith, length-set front b (get_or rows b 0)), λ i h. go i h (eqb i b) refl)
  where
    go : (i : ℕ) → i < b + 1 → (same : Bool) → eqb i b ≡ same → get_or (set front b (get_or rows b 0)) i 0 ≡ row_start i
    go i h true e =
        let at : i ≡ b = eqb-true i b e in
        ap (λ (j : ℕ). get_or (set front b (get_or rows b 0)) j 0) at ∙ get_or-set_same front b (get_or rows b 0) 0 l ∙ r.1 b (omega arith)
        ∙ ap row_start (sym at)
    go i h false e =
        let apart : i ≢ b = eqb-false i b e in
        get_or-set_other front b i (get_or rows b 0) 0 apart ∙ f.1 i (omega arith)

-- The test: each entry is the row start of its index, and the first has index b.
unfoldable pub starts_from : ℕ → List ℕ → Bool
starts_from b [] = true
starts_from b (start ∷ rows) = eqb start (row_start b) && starts_from (suc b) rows

starts_from-row : (b : ℕ) (rows : List ℕ) → starts_from b rows ≡ true → (i : ℕ) → i < length rows → get_or rows i 0 ≡ row_start (b + i)
unfolding starts_from
starts_from-row b [] h i k = absurd (omega arith)
starts_from-row b (start ∷ rows) h zero k =
    let first : b ≡ b + 0 = omega arith in
    eqb-true start (row_start b) (and_both (eqb start (row_start b)) (starts_from (suc b) rows) h).0 ∙ ap row_start first
starts_from-row b (start ∷ rows) h (suc i) k =
    let next : suc b + i ≡ b + suc i = omega arith in
    starts_from-row (suc b) rows (and_both (eqb start (row_start b)) (starts_from (suc b) rows) h).1 i (omega arith) ∙ ap row_start next

-- "Tested once over the whole table and carried to each entry".
pub rows-tested : (n : ℕ) (rows : List ℕ) → n ≡ length rows → starts_from 0 rows ≡ true → RowsFor n rows
unfolding RowsFor
rows-tested n rows e h = (omega (arith, e), λ b k. starts_from-row 0 rows h b (omega (arith, e)) ∙ ap row_start (zero-add b))
