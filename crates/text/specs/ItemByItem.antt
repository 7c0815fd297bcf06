-- How a form is read item by item: a form of one item, and a word with a number in front of the rest. Assumes nothing.
use Rattle.std.specs.Prelude.{ℕ, List, [], ◌∷◌, ◌++◌, ◌≡◌, refl}
use Rattle.std.proofs.Common.{append_assoc, append-nil, ◌∙◌}
use Rattle.std.proofs.Math.Path.{sym, ap, fun_ext}
use Rattle.definitions.specs.Form.{
  Item,
  word,
  numeral,
  Scan,
  departs,
  reads,
  scan_word,
  scan_number,
  scan_item,
  with_front,
  following,
  scan_form,
}
use Rattle.text_theory.specs.Forms.{front-none}

-- What follows a departure, and what follows where no number was read.
pub following-departs : (s : Scan) (next : ℕ → Scan) (q : ℕ) → s ≡ departs q → following s next ≡ departs q
unfolding following
following-departs s next q e = rw e

pub following-plain : (s : Scan) (next : ℕ → Scan) (q : ℕ) → s ≡ reads [] q → following s next ≡ next q
unfolding following
following-plain s next q e = rw e (front-none (next q))

-- Nothing follows.
following-end : (text : List ℕ) (s : Scan) → following s (scan_form text []) ≡ s
unfolding following with_front scan_form
following-end text (departs q) = refl
following-end text (reads values q) = ap (λ (l : List ℕ). reads l q) (append-nil values)

-- Numbers in front of numbers in front.
front-front : (u v : List ℕ) (s : Scan) → with_front u (with_front v s) ≡ with_front (u ++ v) s
unfolding with_front
front-front u v (departs q) = refl
front-front u v (reads values q) = ap (λ (l : List ℕ). reads l q) (sym (append_assoc u v values))

following-twice : (s : Scan) (f g : ℕ → Scan) → following s (λ p. following (f p) g) ≡ following (following s f) g
unfolding following with_front
following-twice (departs q) f g = refl
following-twice (reads values q) f g = go (f q)
  where
    go : (t : Scan) → with_front values (following t g) ≡ following (with_front values t) g
    go (departs r) = refl
    go (reads more r) = front-front values more (g r)

pub form-word : (text w : List ℕ) (p : ℕ) → scan_form text (word w ∷ []) p ≡ scan_word text w p
unfolding scan_form scan_item
form-word text w p = following-end text (scan_word text w p)

-- A word with a number.
pub word-number-departs : (text w : List ℕ) (p q : ℕ) → scan_word text w p ≡ departs q
    → scan_form text (word w ∷ numeral ∷ []) p ≡ departs q
unfolding scan_form scan_item following
word-number-departs text w p q e = rw e

pub word-number-reads : (text w : List ℕ) (p q : ℕ) → scan_word text w p ≡ reads [] q
    → scan_form text (word w ∷ numeral ∷ []) p ≡ scan_number text q
unfolding scan_form scan_item following
word-number-reads text w p q e = rw e (front-none (following (scan_number text q) (scan_form text [])) ∙ following-end text (scan_number text q))

-- A word with a number, in front of the rest of a form.
module _ (text w : List ℕ) (rest : List Item) (p : ℕ) where
  word-number-first : scan_form text (word w ∷ numeral ∷ rest) p
      ≡ following (scan_form text (word w ∷ numeral ∷ []) p) (scan_form text rest)
  unfolding scan_form scan_item
  word-number-first =
      following-twice (scan_word text w p) (scan_number text) (scan_form text rest)
      ∙ ap (λ (s : Scan). following s (scan_form text rest)) (ap (following (scan_word text w p)) ends)
    where
      ends : scan_number text ≡ (λ q. following (scan_number text q) (scan_form text []))
      ends = fun_ext (λ q. sym (following-end text (scan_number text q)))

  pub first-departs : (q : ℕ) → scan_form text (word w ∷ numeral ∷ []) p ≡ departs q
      → scan_form text (word w ∷ numeral ∷ rest) p ≡ departs q
  unfolding following
  first-departs q e = word-number-first ∙ rw e

  pub first_reads : (values : List ℕ) (q : ℕ) → scan_form text (word w ∷ numeral ∷ []) p ≡ reads values q
      → scan_form text (word w ∷ numeral ∷ rest) p ≡ with_front values (scan_form text rest q)
  unfolding following
  first_reads values q e = word-number-first ∙ rw e
