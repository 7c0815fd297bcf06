-- How many bytes the out lines of a network take: at most 9,890, and just as many where all of 1,000 relays are withdrawn.
-- Assumes nothing.
use Rattle.std.specs.Prelude.{ℕ, zero, suc, ◌+◌, ◌-◌, ◌≤◌, Bool, true, false, List, [], ◌∷◌, ◌≡◌, refl, eqb, length, get_or, replicate}
use Rattle.std.proofs.Common.{sym, ◌∙◌, ap, zero-add, add-zero, add-one, arith, length-append}
use Rattle.definitions.specs.Outcome.{pick}
use Rattle.definitions.specs.Form.{decimal_within, decimal, write_form}
use Rattle.definitions.specs.Text.{out_form, out_line, out_lines}
use Rattle.lists.specs.Tables.{get_or-zeros}
use Rattle.text_theory.specs.Lengths.{length-out}

-- The bytes of the lines of the relays below r, all withdrawn.
unfoldable pub out_width : (r : ℕ) → ℕ
out_width zero = 0
out_width (suc r) = out_width r + (7 + length (decimal r))

pub width-next : (r : ℕ) → out_width (r + 1) ≡ out_width r + (7 + length (decimal r))
unfolding out_width
width-next r = rw (add-one r)

width-more : (r more : ℕ) → out_width r ≤ out_width (r + more)
width-more r zero = rw (add-zero r) (omega arith)
width-more r (suc more) =
    let next : r + suc more ≡ r + more + 1 = omega arith in
    rw next (omega (arith, width-next (r + more), width-more r more))

pub width-grows : (r s : ℕ) → r ≤ s → out_width r ≤ out_width s
width-grows r s h =
    let there : r + (s - r) ≡ s = omega arith in
    rw there at (width-more r (s - r))

width-thousand : out_width 1000 ≡ 9890
unfolding out_width decimal decimal_within
width-thousand = refl

pub width-most : (n : ℕ) → n ≤ 1000 → out_width n ≤ 9890
width-most n few = omega (arith, width-grows n 1000 few, width-thousand)

-- The lines of `count` relays from r on, whatever their states, and where all are withdrawn.
line-at-most : (state r : ℕ) → length (out_line state r) ≤ 7 + length (decimal r)
unfolding out_line
line-at-most state r = go (eqb state 0)
  where
    go : (b : Bool) → length (pick b (write_form out_form (r ∷ [])) []) ≤ 7 + length (decimal r)
    go true = omega (arith, length-out r)
    go false = omega arith

outs-at-most : (states : List ℕ) (r count : ℕ) → out_width r + length (out_lines states r count) ≤ out_width (r + count)
unfolding out_lines
outs-at-most states r zero = rw (add-zero r) (omega arith)
outs-at-most states r (suc count) =
    let next : r + suc count ≡ r + 1 + count = omega arith in
    rw next
    (omega (
      arith,
      length-append (out_line (get_or states r 0) r) (out_lines states (r + 1) count),
      line-at-most (get_or states r 0) r,
      width-next r,
      outs-at-most states (r + 1) count,
    ))

outs-exactly : (n r count : ℕ) → out_width r + length (out_lines (replicate n 0) r count) ≡ out_width (r + count)
unfolding out_lines out_line
outs-exactly n r zero = rw (add-zero r) (omega arith)
outs-exactly n r (suc count) =
    let next : r + suc count ≡ r + 1 + count = omega arith in
    rw (next, get_or-zeros n r)
    (omega (
      arith,
      length-append (write_form out_form (r ∷ [])) (out_lines (replicate n 0) (r + 1) count),
      length-out r,
      width-next r,
      outs-exactly n (r + 1) count,
    ))

-- The lines of a network's states.
pub outs-short : (states : List ℕ) → length states ≤ 1000 → length (out_lines states 0 (length states)) ≤ 9890
unfolding out_width
outs-short states few =
    omega (arith, outs-at-most states 0 (length states), width-most (0 + length states) (omega arith))

outs-withdrawn : (n : ℕ) → length (out_lines (replicate n 0) 0 n) ≡ out_width n
unfolding out_width
outs-withdrawn n = sym (zero-add (length (out_lines (replicate n 0) 0 n))) ∙ outs-exactly n 0 n ∙ ap out_width (zero-add n)

pub outs-thousand : length (out_lines (replicate 1000 0) 0 1000) ≡ 9890
outs-thousand = outs-withdrawn 1000 ∙ width-thousand
