-- How long the lines of a network's text are, and the whole text.
-- Assumes nothing.
use Rattle.std.specs.Prelude.{ℕ, ◌+◌, List, [], ◌∷◌, ◌≡◌, refl, length}
use Rattle.std.proofs.Common.{arith, length-append}
use Rattle.definitions.specs.Form.{decimal, write_form}
use Rattle.definitions.specs.Text.{header_form, link_form, out_form, end_form, link_lines, out_lines, text_of}

pub length-header : (n m : ℕ) → length (write_form header_form (n ∷ m ∷ [])) ≡ 25 + length (decimal n) + length (decimal m)
unfolding header_form write_form
length-header n m = simp length-append (omega arith)

pub length-link : (a b : ℕ) → length (write_form link_form (a ∷ b ∷ [])) ≡ 9 + length (decimal a) + length (decimal b)
unfolding link_form write_form
length-link a b = simp length-append (omega arith)

pub length-out : (r : ℕ) → length (write_form out_form (r ∷ [])) ≡ 7 + length (decimal r)
unfolding out_form write_form
length-out r = simp length-append (omega arith)

pub length-end : length (write_form end_form []) ≡ 6
unfolding end_form write_form
length-end = refl

pub length-text : (n : ℕ) (lows highs states : List ℕ)
    → length (text_of n lows highs states)
    ≡ 31 + length (decimal n) + length (decimal (length lows)) + length (link_lines lows highs 0 (length lows))
    + length (out_lines states 0 (length states))
unfolding text_of
length-text n lows highs states =
    simp length-append (omega (arith, length-header n (length lows), length-end))
