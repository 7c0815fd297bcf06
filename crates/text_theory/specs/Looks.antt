-- A reading looks at no byte behind the offset that it gives: two texts alike up to there are read alike.
-- Assumes nothing.
use Rattle.std.specs.Prelude.{ℕ, zero, suc, ◌+◌, ◌-◌, ◌*◌, ◌≤◌, Bool, true, false, List, [], ◌∷◌, ◌≡◌, refl, eqb}
use Rattle.std.proofs.Common.{arith}
use Rattle.definitions.specs.Outcome.{pick}
use Rattle.definitions.specs.Lists.{outside}
use Rattle.definitions.specs.Form.{
  Item,
  word,
  numeral,
  Scan,
  departs,
  reads,
  byte_at,
  scan_word,
  scan_digits,
  scan_number,
  scan_item,
  with_front,
  following,
  scan_form,
}

-- The offset that a reading gives.
abbrev pub offset : Scan → ℕ
offset (departs q) = q
offset (reads values q) = q

-- The two texts are alike up to and with the byte at q.
abbrev pub Alike : List ℕ → List ℕ → ℕ → Type 0
Alike text other q = (i : ℕ) → i ≤ q → byte_at other i ≡ byte_at text i

-- From p on a reading of the text gives `scan`, at p or behind it, and so it does of every text that is alike up to there.
abbrev pub Looks : (text : List ℕ) (p : ℕ) (reading : List ℕ → Scan) (scan : Scan) → Type 0
Looks text p reading scan =
    (p ≤ offset scan) × ((other : List ℕ) → Alike text other (offset scan) → reading other ≡ scan)

word-looks : (text w : List ℕ) (p : ℕ) → Looks text p (λ t. scan_word t w p) (scan_word text w p)
unfolding scan_word
word-looks text [] p = (omega arith, λ other alike. refl)
word-looks text (b ∷ w) p = go (eqb (byte_at text p) b) refl (word-looks text w (p + 1))
  where
    go : (t : Bool) → eqb (byte_at text p) b ≡ t → Looks text (p + 1) (λ t. scan_word t w (p + 1)) (scan_word text w (p + 1))
        → Looks text p (λ t. pick (eqb (byte_at t p) b) (scan_word t w (p + 1)) (departs p))
        (pick t (scan_word text w (p + 1)) (departs p))
    go true test after =
        (omega arith, λ other alike. rw (alike p (omega arith), test) (after.1 other alike))
    go false test after = (omega arith, λ other alike. rw (alike p (omega arith), test))

digits-looks : (text : List ℕ) (x p more : ℕ) → Looks text p (λ t. scan_digits t x p more) (scan_digits text x p more)
unfolding scan_digits
digits-looks text x p zero = (omega arith, λ other alike. refl)
digits-looks text x p (suc more) =
    go (outside 48 57 (byte_at text p)) refl (digits-looks text (x * 10 + (byte_at text p - 48)) (p + 1) more)
  where
    go : (b : Bool) → outside 48 57 (byte_at text p) ≡ b
        → Looks text (p + 1) (λ t. scan_digits t (x * 10 + (byte_at text p - 48)) (p + 1) more)
        (scan_digits text (x * 10 + (byte_at text p - 48)) (p + 1) more)
        → Looks text p
        (λ t. pick (outside 48 57 (byte_at t p)) (reads (x ∷ []) p) (scan_digits t (x * 10 + (byte_at t p - 48)) (p + 1) more))
        (pick b (reads (x ∷ []) p) (scan_digits text (x * 10 + (byte_at text p - 48)) (p + 1) more))
    go true test after = (omega arith, λ other alike. rw (alike p (omega arith), test))
    go false test after =
        (omega arith, λ other alike. rw (alike p (omega arith), test) (after.1 other alike))

-- A number looks at no byte behind the offset that it gives.
pub number-looks : (text : List ℕ) (p : ℕ) → Looks text p (λ t. scan_number t p) (scan_number text p)
unfolding scan_number
number-looks text p =
    go (eqb (byte_at text p) 48) refl (outside 49 57 (byte_at text p)) refl (digits-looks text (byte_at text p - 48) (p + 1) 3)
  where
    go : (z : Bool) → eqb (byte_at text p) 48 ≡ z → (b : Bool) → outside 49 57 (byte_at text p) ≡ b
        → Looks text (p + 1) (λ t. scan_digits t (byte_at text p - 48) (p + 1) 3) (scan_digits text (byte_at text p - 48) (p + 1) 3)
        → Looks text p
        (λ t. pick (eqb (byte_at t p) 48) (reads (0 ∷ []) (p + 1))
        (pick (outside 49 57 (byte_at t p)) (departs p) (scan_digits t (byte_at t p - 48) (p + 1) 3)))
        (pick z (reads (0 ∷ []) (p + 1)) (pick b (departs p) (scan_digits text (byte_at text p - 48) (p + 1) 3)))
    go true zero_test b test after = (omega arith, λ other alike. rw (alike p (omega arith), zero_test))
    go false zero_test true test after = (omega arith, λ other alike. rw (alike p (omega arith), zero_test, test))
    go false zero_test false test after =
        (omega arith, λ other alike. rw (alike p (omega arith), zero_test, test) (after.1 other alike))

item-looks : (text : List ℕ) (item : Item) (p : ℕ) → Looks text p (λ t. scan_item t item p) (scan_item text item p)
unfolding scan_item
item-looks text (word w) p = word-looks text w p
item-looks text numeral p = number-looks text p

-- Numbers before a reading do not change its offset.
pub offset-front : (front : List ℕ) (scan : Scan) → offset (with_front front scan) ≡ offset scan
unfolding with_front
offset-front front (departs q) = refl
offset-front front (reads values q) = refl

pub form-looks : (items : List Item) (text : List ℕ) (p : ℕ)
    → (p ≤ offset (scan_form text items p))
    × ((other : List ℕ) → Alike text other (offset (scan_form text items p)) → scan_form other items p ≡ scan_form text items p)
unfolding scan_form following
form-looks [] text p = (omega arith, λ other alike. refl)
form-looks (item ∷ items) text p = go (scan_item text item p) (item-looks text item p) (form-looks items text)
  where
    go : (scan : Scan) → Looks text p (λ t. scan_item t item p) scan
        → ((q : ℕ) → Looks text q (λ t. scan_form t items q) (scan_form text items q))
        → Looks text p (λ t. following (scan_item t item p) (scan_form t items)) (following scan (scan_form text items))
    go (departs q) here after = (here.0, λ other alike. rw (here.1 other alike))
    go (reads values q) here after =
        let same = offset-front values (scan_form text items q) in
        let rest = after q in (
          omega arith,
          λ other alike.
              rw (here.1 other (λ i h. alike i (omega arith)), rest.1 other (λ i h. alike i (omega arith))),
        )
