-- A line of one number and a line of three by their parts. Assumes nothing.
use Rattle.std.specs.Prelude.{ℕ, ◌+◌, List, [], ◌∷◌, ◌++◌, ◌≡◌, length}
use Rattle.std.proofs.Common.{append_assoc, append-nil, ◌∙◌, ap, length-append}
use Rattle.definitions.specs.Form.{Item, word, numeral, write_form}
use Rattle.text.specs.Scans.{pair_form}

-- The form of a line of one number.
abbrev pub single_form : (front back : List ℕ) → List Item
single_form front back = word front ∷ numeral ∷ word back ∷ []

-- Its parts, and its length.
pub single-written : (front back : List ℕ) (x : ℕ)
    → write_form (single_form front back) (x ∷ []) ≡ write_form (word front ∷ numeral ∷ []) (x ∷ []) ++ back
unfolding write_form
single-written front back x = simp (append-nil, append_assoc)

pub single-length : (front back : List ℕ) (x : ℕ)
    → length (write_form (single_form front back) (x ∷ [])) ≡ length (write_form (word front ∷ numeral ∷ []) (x ∷ [])) + length back
single-length front back x = ap length (single-written front back x) ∙ simp length-append

-- The same for three numbers.
abbrev pub triple_form : (front second third back : List ℕ) → List Item
triple_form front second third back = word front ∷ numeral ∷ pair_form second third back

module _ (front second third back : List ℕ) (x y z : ℕ) where
  pub triple-written : write_form (triple_form front second third back) (x ∷ y ∷ z ∷ [])
      ≡ write_form (word front ∷ numeral ∷ []) (x ∷ []) ++ write_form (pair_form second third back) (y ∷ z ∷ [])
  unfolding write_form
  triple-written = simp (append-nil, append_assoc)

  pub triple-length : length (write_form (triple_form front second third back) (x ∷ y ∷ z ∷ []))
      ≡ length (write_form (word front ∷ numeral ∷ []) (x ∷ [])) + length (write_form (pair_form second third back) (y ∷ z ∷ []))
  triple-length = ap length triple-written ∙ simp length-append
