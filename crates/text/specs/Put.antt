-- What a writing function leaves: the bytes stored from an offset on, and the offset behind them. How two writings join.
-- Assumes nothing.
use Rattle.std.specs.Prelude.{ℕ, suc, ◌+◌, ◌/◌, ◌%◌, ◌≤◌, ◌<◌, List, [], ◌∷◌, ◌++◌, ◌≡◌, length, get_or, drop, set}
use Rattle.std.proofs.Common.{append_assoc, append-nil, sym, ◌∙◌, ap, add-one, arith, length-append, drop_of_length-le, drop-cons}
use Rattle.std.proofs.lemmas.List.Edits.{sets}
use Rattle.definitions.specs.Form.{word, numeral, decimal, write_form}
use Rattle.lists.specs.Stores.{sets-append, sets_last}
use Rattle.text_theory.specs.Decimal.{decimal_digit, decimal-tens}
use Rattle.text.specs.Scans.{pair_form, number_form}

-- The buffer before and after: `written` stands at `at`, the rest is as it was; `next` is the offset behind it.
pub record Put (before : List ℕ) (at : ℕ) (written after : List ℕ) (next : ℕ) : Type 0 where
  pub bytes : after ≡ sets before at written
  pub ends : next ≡ at + length written
  pub same : length after ≡ length before

-- The first byte that is left of a word.
pub word-store : (l w : List ℕ) (at i : ℕ) → i < length w
    → sets l (at + i) (drop i w) ≡ sets (set l (at + i) (get_or w i 0)) (at + (i + 1)) (drop (i + 1) w)
word-store l w at i h =
    let e : at + suc i ≡ suc (at + i) = omega arith in
    rw (drop-cons w i 0 h, add-one i, e)

pub word-stored : (l w : List ℕ) (at i : ℕ) → length w ≤ i → sets l at (drop i w) ≡ l
word-stored l w at i h = rw (drop_of_length-le w h)

-- The last digit of a number, and then those of its tens.
pub number-store : (l : List ℕ) (at x : ℕ) → 10 ≤ x
    → sets l at (decimal x) ≡ sets (set l (at + length (decimal (x / 10))) (48 + x % 10)) at (decimal (x / 10))
number-store l at x h = rw (decimal-tens x h) (sets_last (decimal (x / 10)) l at (48 + x % 10))

pub digit-store : (l : List ℕ) (at x : ℕ) → x < 10 → sets l at (decimal x) ≡ set l at (48 + x)
digit-store l at x h = rw (decimal_digit x h)

-- Two writings, one behind the other.
pub put-append : (before mid after s t : List ℕ) (at p q : ℕ) → Put before at s mid p → Put mid p t after q
    → Put before at (s ++ t) after q
put-append before mid after s t at p q one two =
    record {
      bytes = two.bytes ∙ rw (one.bytes, one.ends) (sym (sets-append s t before at));
      ends = omega (arith, one.ends, two.ends, length-append s t);
      same = two.same ∙ one.same;
    }

-- After a writing, the rest behind it.
pub put_rest : (before written after rest : List ℕ) (at next : ℕ) → Put before at written after next
    → sets before at (written ++ rest) ≡ sets after next rest
put_rest before written after rest at next put = rw (put.bytes, put.ends) (sets-append written rest before at)

-- A word with a number, and lines of one and of two numbers, as they are written.
pub word-number-written : (w : List ℕ) (x : ℕ) → write_form (word w ∷ numeral ∷ []) (x ∷ []) ≡ w ++ decimal x
unfolding write_form
word-number-written w x = rw (append-nil (decimal x))

pub word-written : (w : List ℕ) → write_form (word w ∷ []) [] ≡ w
unfolding write_form
word-written w = append-nil w

pub pair-written : (front middle back : List ℕ) (a b : ℕ)
    → write_form (pair_form front middle back) (a ∷ b ∷ [])
    ≡ write_form (word front ∷ numeral ∷ []) (a ∷ []) ++ (write_form (word middle ∷ numeral ∷ []) (b ∷ []) ++ back)
unfolding write_form
pair-written front middle back a b = simp (append-nil, append_assoc)

pub number-written : (front back : List ℕ) (x : ℕ)
    → write_form (number_form front back) (x ∷ []) ≡ write_form (word front ∷ numeral ∷ []) (x ∷ []) ++ back
unfolding write_form
number-written front back x = simp (append-nil, append_assoc)

pub length-word-number : (w : List ℕ) (x : ℕ)
    → length (write_form (word w ∷ numeral ∷ []) (x ∷ [])) ≡ length w + length (decimal x)
length-word-number w x = ap length (word-number-written w x) ∙ length-append w (decimal x)

pub length-pair : (front middle back : List ℕ) (a b : ℕ)
    → length (write_form (pair_form front middle back) (a ∷ b ∷ []))
    ≡ length (write_form (word front ∷ numeral ∷ []) (a ∷ []))
    + (length (write_form (word middle ∷ numeral ∷ []) (b ∷ [])) + length back)
length-pair front middle back a b = ap length (pair-written front middle back a b) ∙ simp length-append

pub length-number : (front back : List ℕ) (x : ℕ)
    → length (write_form (number_form front back) (x ∷ []))
    ≡ length (write_form (word front ∷ numeral ∷ []) (x ∷ [])) + length back
length-number front back x = ap length (number-written front back x) ∙ simp length-append
