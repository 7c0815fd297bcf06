-- How a word is read letter by letter: a step, a departure, the end. Byte 0 stands for the end of the text.
-- Assumes nothing.
use Rattle.std.specs.Prelude.{ℕ, zero, suc, ◌+◌, ◌≤◌, ◌<◌, true, List, [], ◌∷◌, ◌≡◌, ltb, length, get_or, drop}
use Rattle.std.proofs.Math.Bool.{and-eq-true_iff}
use Rattle.std.proofs.Common.{add-one, arith, drop_of_length-le, drop-cons, ltb-true, eq-eqb, ne_eqb}
use Rattle.definitions.specs.Form.{departs, reads, byte_at, scan_word}
use Rattle.text_theory.specs.Forms.{no_zero}

pub no-zero-at : (w : List ℕ) (i : ℕ) → no_zero w ≡ true → i < length w → 0 < get_or w i 0
unfolding no_zero
no-zero-at [] i e h = absurd (omega arith)
no-zero-at (b ∷ w) zero e h = ltb-true 0 b ((and-eq-true_iff (ltb 0 b) (no_zero w)).0 e).0
no-zero-at (b ∷ w) (suc i) e h = no-zero-at w i ((and-eq-true_iff (ltb 0 b) (no_zero w)).0 e).1 (omega arith)

pub word-step : (text w : List ℕ) (i p : ℕ) → i < length w → byte_at text p ≡ get_or w i 0
    → scan_word text (drop i w) p ≡ scan_word text (drop (i + 1) w) (p + 1)
unfolding scan_word
word-step text w i p h e = rw (drop-cons w i 0 h, eq-eqb _ _ e, add-one i)

pub word-departs : (text w : List ℕ) (i p : ℕ) → i < length w → (byte_at text p ≡ get_or w i 0 → ⊥)
    → scan_word text (drop i w) p ≡ departs p
unfolding scan_word
word-departs text w i p h e = rw (drop-cons w i 0 h, ne_eqb _ _ e)

pub word-ends : (text w : List ℕ) (i p : ℕ) → length w ≤ i → scan_word text (drop i w) p ≡ reads [] p
unfolding scan_word
word-ends text w i p h = rw (drop_of_length-le w h)
