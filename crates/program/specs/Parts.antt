-- How a form is read part by part. Assumes nothing.
use Rattle.std.specs.Prelude.{ℕ, List, [], ◌∷◌, ◌++◌, ◌≡◌, refl}
use Rattle.std.proofs.Common.{append_assoc, sym, ◌∙◌, ap}
use Rattle.definitions.specs.Form.{Item, word, numeral, Scan, departs, reads, scan_word, scan_number, scan_item, with_front, following, scan_form}
use Rattle.text_theory.specs.Forms.{front-none}
use Rattle.text.specs.ItemByItem.{form-word}

front-following : (front : List ℕ) (scan : Scan) (next : ℕ → Scan)
    → with_front front (following scan next) ≡ following (with_front front scan) next
unfolding with_front following
front-following front (departs p) next = refl
front-following front (reads values p) next = go (next p)
  where
    go : (scan : Scan) → with_front front (with_front values scan) ≡ with_front (front ++ values) scan
    go (departs q) = refl
    go (reads more q) = ap (λ (l : List ℕ). reads l q) (sym (append_assoc front values more))

-- Two forms, one behind the other.
pub form-append : (text : List ℕ) (one other : List Item) (p : ℕ)
    → scan_form text (one ++ other) p ≡ following (scan_form text one p) (scan_form text other)
unfolding scan_form following
form-append text [] other p = sym (front-none (scan_form text other p))
form-append text (item ∷ one) other p = go (scan_item text item p) (form-append text one other)
  where
    go : (scan : Scan) → ((q : ℕ) → scan_form text (one ++ other) q ≡ following (scan_form text one q) (scan_form text other))
        → following scan (scan_form text (one ++ other)) ≡ following (following scan (scan_form text one)) (scan_form text other)
    go (departs q) hyp = refl
    go (reads values q) hyp = ap (with_front values) (hyp q) ∙ front-following values (scan_form text one q) (scan_form text other)

-- A number and the word behind it.
pub number-word-departs : (text w : List ℕ) (p q : ℕ) → scan_number text p ≡ departs q
    → scan_form text (numeral ∷ word w ∷ []) p ≡ departs q
unfolding scan_form scan_item following
number-word-departs text w p q e = rw e

pub number-word-reads : (text w : List ℕ) (p : ℕ) (values : List ℕ) (q : ℕ) → scan_number text p ≡ reads values q
    → scan_form text (numeral ∷ word w ∷ []) p ≡ with_front values (scan_word text w q)
unfolding scan_form scan_item following
number-word-reads text w p values q e = rw e (ap (with_front values) (form-word text w q))
