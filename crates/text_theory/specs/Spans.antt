-- How many bytes a form takes at most: written with numbers of at most so many digits, and read.
-- Assumes nothing.
use Rattle.std.specs.Prelude.{ℕ, zero, suc, ◌+◌, ◌-◌, ◌*◌, ◌^◌, ◌≤◌, ◌<◌, Bool, true, false, List, [], ◌∷◌, ◌≡◌, eqb, length}
use Rattle.std.proofs.Common.{arith, length-append}
use Rattle.definitions.specs.Outcome.{pick}
use Rattle.definitions.specs.Lists.{outside, AllBelow}
use Rattle.definitions.specs.Form.{
  Item,
  word,
  numeral,
  Scan,
  departs,
  reads,
  byte_at,
  scan_word,
  scan_digits,
  scan_number,
  scan_item,
  with_front,
  following,
  scan_form,
  decimal,
  write_form,
}
use Rattle.text_theory.specs.Decimal.{length-decimal-at-most}

-- The length of a form whose numbers all have this many digits.
unfoldable pub span : ℕ → List Item → ℕ
span digits [] = 0
span digits (word w ∷ items) = length w + span digits items
span digits (numeral ∷ items) = digits + span digits items

-- Numbers of at most `more` + 1 digits.
pub written-span : (more : ℕ) (items : List Item) (values : List ℕ) → AllBelow (10 ^ suc more) values
    → length (write_form items values) ≤ span (suc more) items
unfolding span write_form
written-span more [] values small = omega arith
written-span more (word w ∷ items) values small =
    omega (arith, length-append w (write_form items values), written-span more items values small)
written-span more (numeral ∷ items) [] small = omega arith
written-span more (numeral ∷ items) (x ∷ values) small =
    omega (
      arith,
      length-append (decimal x) (write_form items values),
      length-decimal-at-most more x small.0,
      written-span more items values small.1,
    )

-- The byte that departs is before this offset, or what was read ends there at most.
abbrev pub Within : ℕ → Scan → Type 0
Within limit (departs q) = q < limit
Within limit (reads values q) = q ≤ limit

within_wider : (low high : ℕ) (scan : Scan) → low ≤ high → Within low scan → Within high scan
within_wider low high (departs q) h within = omega arith
within_wider low high (reads values q) h within = omega arith

-- One of two readings.
within-pick : (limit : ℕ) (b : Bool) (one other : Scan) → Within limit one → Within limit other
    → Within limit (pick b one other)
within-pick limit true one other first second = first
within-pick limit false one other first second = second

word-within : (text w : List ℕ) (p : ℕ) → Within (p + length w) (scan_word text w p)
unfolding scan_word
word-within text [] p = omega arith
word-within text (b ∷ w) p =
    within-pick (p + suc (length w)) (eqb (byte_at text p) b) (scan_word text w (p + 1)) (departs p)
    (within_wider (p + 1 + length w) (p + suc (length w)) (scan_word text w (p + 1)) (omega arith) (word-within text w (p + 1)))
    (omega arith)

digits-within : (text : List ℕ) (x p more : ℕ) → Within (p + more) (scan_digits text x p more)
unfolding scan_digits
digits-within text x p zero = omega arith
digits-within text x p (suc more) =
    let next = x * 10 + (byte_at text p - 48) in
    within-pick (p + suc more) (outside 48 57 (byte_at text p)) (reads (x ∷ []) p) (scan_digits text next (p + 1) more)
    (omega arith)
    (within_wider (p + 1 + more) (p + suc more) (scan_digits text next (p + 1) more) (omega arith)
    (digits-within text next (p + 1) more))

number-within : (text : List ℕ) (p : ℕ) → Within (p + 4) (scan_number text p)
unfolding scan_number
number-within text p =
    let digits = scan_digits text (byte_at text p - 48) (p + 1) 3 in
    within-pick (p + 4) (eqb (byte_at text p) 48) (reads (0 ∷ []) (p + 1))
    (pick (outside 49 57 (byte_at text p)) (departs p) digits)
    (omega arith)
    (within-pick (p + 4) (outside 49 57 (byte_at text p)) (departs p) digits
    (omega arith)
    (within_wider (p + 1 + 3) (p + 4) digits (omega arith) (digits-within text (byte_at text p - 48) (p + 1) 3)))

pub item-within : (text : List ℕ) (item : Item) (p : ℕ) → Within (p + span 4 (item ∷ [])) (scan_item text item p)
unfolding scan_item span
item-within text (word w) p = within_wider (p + length w) _ (scan_word text w p) (omega arith) (word-within text w p)
item-within text numeral p = within_wider (p + 4) _ (scan_number text p) (omega arith) (number-within text p)

pub span-first : (digits : ℕ) (item : Item) (items : List Item)
    → span digits (item ∷ items) ≡ span digits (item ∷ []) + span digits items
unfolding span
span-first digits (word w) items = omega arith
span-first digits numeral items = omega arith

within-front : (limit : ℕ) (front : List ℕ) (scan : Scan) → Within limit scan → Within limit (with_front front scan)
unfolding with_front
within-front limit front (departs q) within = within
within-front limit front (reads values q) within = within

-- A reading never goes further than the form with numbers of four digits.
pub form-within : (items : List Item) (text : List ℕ) (p : ℕ) → Within (p + span 4 items) (scan_form text items p)
unfolding scan_form following span
form-within [] text p = omega arith
form-within (item ∷ items) text p = go (scan_item text item p) (item-within text item p) (form-within items text)
  where
    go : (scan : Scan) → Within (p + span 4 (item ∷ [])) scan → ((q : ℕ) → Within (q + span 4 items) (scan_form text items q))
        → Within (p + span 4 (item ∷ items)) (following scan (scan_form text items))
    go (departs q) here after = omega (arith, span-first 4 item items)
    go (reads values q) here after =
        within-front (p + span 4 (item ∷ items)) values (scan_form text items q)
        (within_wider (q + span 4 items) (p + span 4 (item ∷ items)) (scan_form text items q)
        (omega (arith, span-first 4 item items)) (after q))
