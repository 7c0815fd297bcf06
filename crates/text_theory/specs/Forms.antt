-- Reading a form and writing it are each other's inverse, for every form in which it can be seen where a number ends.
-- Assumes nothing.
use Rattle.std.specs.Prelude.{ℕ, ◌+◌, ◌≤◌, ◌<◌, Bool, true, false, ◌&&◌, ◌||◌, not, List, [], ◌∷◌, ◌++◌, ◌≡◌, refl, eqb, ltb, length, get_or}
use Rattle.std.proofs.lemmas.Bool.{false≢true}
use Rattle.std.proofs.Math.Bool.{and-eq-true_iff}
use Rattle.std.proofs.Common.{◌∙◌, ap, arith, eq-eqb, eqb-true, ltb-true}
use Rattle.definitions.specs.Outcome.{pick}
use Rattle.definitions.specs.Lists.{outside}
use Rattle.definitions.specs.Form.{
  Item,
  word,
  numeral,
  Scan,
  departs,
  reads,
  byte_at,
  scan_word,
  scan_number,
  scan_item,
  with_front,
  following,
  scan_form,
  decimal,
  write_form,
  Fits,
}
use Rattle.definitions.specs.Text.{header_form, link_form, out_form, end_form}
use Rattle.definitions.specs.Plan.{wish_form}
use Rattle.lists.specs.Parts.{Part, part-empty, part-cons, part-head, part-tail, part-append, part-first, part-second}
use Rattle.text_theory.specs.Numbers.{number_read, read_number, byte-within}

-- No byte is 0: that is what the reader sees past the end of a text.
unfoldable pub no_zero : List ℕ → Bool
no_zero [] = true
no_zero (b ∷ rest) = ltb 0 b && no_zero rest

-- A word is not empty, holds no byte 0, and begins with no digit where it stands behind a number.
unfoldable pub good_word : Bool → List ℕ → Bool
good_word behind_number [] = false
good_word behind_number (b ∷ rest) = no_zero (b ∷ rest) && (not behind_number || outside 48 57 b)

-- Its words are good, and no number stands behind a number.
unfoldable pub well_formed_behind : Bool → List Item → Bool
well_formed_behind behind_number [] = true
well_formed_behind behind_number (word w ∷ items) = good_word behind_number w && well_formed_behind false items
well_formed_behind behind_number (numeral ∷ items) = not behind_number && well_formed_behind true items

unfoldable pub well_formed : List Item → Bool
well_formed items = well_formed_behind false items

-- The form ends in a number, so that what comes behind it may not begin with a digit.
unfoldable pub ends_in_number : Bool → List Item → Bool
ends_in_number behind_number [] = behind_number
ends_in_number behind_number (word w ∷ items) = ends_in_number false items
ends_in_number behind_number (numeral ∷ items) = ends_in_number true items

-- A line: well formed, and it ends in a word, so that anything may come behind it.
abbrev pub Line : List Item → Type 0
Line items = (well_formed items ≡ true) × (ends_in_number false items ≡ false)

pub header-line : Line header_form
unfolding well_formed well_formed_behind good_word no_zero outside ends_in_number header_form
header-line = (refl, refl)

pub link-line : Line link_form
unfolding well_formed well_formed_behind good_word no_zero outside ends_in_number link_form
link-line = (refl, refl)

pub out-line : Line out_form
unfolding well_formed well_formed_behind good_word no_zero outside ends_in_number out_form
out-line = (refl, refl)

pub end-line : Line end_form
unfolding well_formed well_formed_behind good_word no_zero outside ends_in_number end_form
end-line = (refl, refl)

pub wish-line : Line wish_form
unfolding well_formed well_formed_behind good_word no_zero outside ends_in_number wish_form
wish-line = (refl, refl)

pub good-no-zero : (behind : Bool) (w : List ℕ) → good_word behind w ≡ true → no_zero w ≡ true
unfolding good_word
good-no-zero behind [] e = absurd (false≢true e)
good-no-zero behind (b ∷ w) e = ((and-eq-true_iff (no_zero (b ∷ w)) (not behind || outside 48 57 b)).0 e).0

-- A word that stands in the text is read, and a word that was read stands there.
pub word_read : (text w : List ℕ) (p q : ℕ) → Part text p w q → scan_word text w p ≡ reads [] q
unfolding scan_word byte_at
word_read text [] p q part =
    let e : p ≡ q = omega (arith, part.reaches) in
    rw e
word_read text (b ∷ w) p q part =
    rw (eq-eqb (get_or text p 0) b (part-head text w b p q part)) (word_read text w (p + 1) q (part-tail text w b p q part))

pub read_word : (text w : List ℕ) (p : ℕ) (values : List ℕ) (q : ℕ) → no_zero w ≡ true → p ≤ length text
    → scan_word text w p ≡ reads values q → (values ≡ []) × Part text p w q
unfolding scan_word byte_at no_zero
read_word text [] p values q good within e =
    let same : p ≡ q = cc in
    (cc, rw (← same) (part-empty text p within))
read_word text (b ∷ w) p values q good within e =
    go (eqb (byte_at text p) b) refl e (read_word text w (p + 1) values q ((and-eq-true_iff (ltb 0 b) (no_zero w)).0 good).1)
  where
    go : (t : Bool) → eqb (byte_at text p) b ≡ t → pick t (scan_word text w (p + 1)) (departs p) ≡ reads values q
        → (p + 1 ≤ length text → scan_word text w (p + 1) ≡ reads values q → (values ≡ []) × Part text (p + 1) w q)
        → (values ≡ []) × Part text p (b ∷ w) q
    go true test e hyp =
        let same : byte_at text p ≡ b = eqb-true (byte_at text p) b test in
        let positive : 0 < b = ltb-true 0 b ((and-eq-true_iff (ltb 0 b) (no_zero w)).0 good).0 in
        let before : p < length text = byte-within text p (omega arith) in
        let rest = hyp (omega arith) e in
        (rest.0, rw (← same) (part-cons text w p q before rest.1))
    go false test e hyp = let z : ◌≡◌ {A = ℕ} 0 1 = cc in absurd (omega arith)

-- Behind a number of a well-formed form comes no digit.
clear_behind : (items : List Item) (values text : List ℕ) (p q : ℕ) → well_formed_behind true items ≡ true
    → (ends_in_number true items ≡ true → outside 48 57 (byte_at text q) ≡ true)
    → Part text p (write_form items values) q → outside 48 57 (byte_at text p) ≡ true
unfolding well_formed_behind good_word ends_in_number write_form byte_at
clear_behind [] values text p q good clear part =
    let same : p ≡ q = omega (arith, part.reaches) in
    rw same (clear refl)
clear_behind (word [] ∷ items) values text p q good clear part = absurd (false≢true good)
clear_behind (word (b ∷ w) ∷ items) values text p q good clear part =
    let good_here = ((and-eq-true_iff (good_word true (b ∷ w)) (well_formed_behind false items)).0 good).0 in
    rw (part-head text (w ++ write_form items values) b p q part) ((and-eq-true_iff (no_zero (b ∷ w)) (outside 48 57 b)).0 good_here).1
clear_behind (numeral ∷ items) values text p q good clear part = absurd (false≢true good)

form-read : (items : List Item) (behind : Bool) (values text : List ℕ) (p q : ℕ) → well_formed_behind behind items ≡ true
    → Fits items values → (ends_in_number behind items ≡ true → outside 48 57 (byte_at text q) ≡ true)
    → Part text p (write_form items values) q → scan_form text items p ≡ reads values q
unfolding well_formed_behind ends_in_number write_form scan_form scan_item following with_front
form-read [] behind [] text p q good fits clear part =
    let same : p ≡ q = omega (arith, part.reaches) in
    rw same
form-read [] behind (x ∷ values) text p q good fits clear part = absurd fits
form-read (word w ∷ items) behind values text p q good fits clear part =
    let rest = write_form items values in
    rw (
      word_read text w p (p + length w) (part-first text w rest p q part),
      form-read items false values text (p + length w) q
          ((and-eq-true_iff (good_word behind w) (well_formed_behind false items)).0 good).1 fits clear (part-second text w rest p q part),
    )
form-read (numeral ∷ items) behind [] text p q good fits clear part = absurd fits
form-read (numeral ∷ items) behind (x ∷ values) text p q good fits clear part =
    let rest = write_form items values in
    let good_rest = ((and-eq-true_iff (not behind) (well_formed_behind true items)).0 good).1 in
    let part_rest = part-second text (decimal x) rest p q part in
    let stops = clear_behind items values text (p + length (decimal x)) q good_rest clear part_rest in
    rw (
      number_read text x p (p + length (decimal x)) fits.0 (part-first text (decimal x) rest p q part) stops,
      form-read items true values text (p + length (decimal x)) q good_rest fits.1 clear part_rest,
    )

-- No number in front changes nothing.
pub front-none : (scan : Scan) → with_front [] scan ≡ scan
unfolding with_front
front-none (departs q) = refl
front-none (reads values q) = refl

-- What two readings, one behind the other, gave.
pub record Followed (scan : Scan) (next : ℕ → Scan) (values : List ℕ) (q : ℕ) : Type 0 where
  pub front : List ℕ
  pub behind : ℕ
  pub rest : List ℕ
  pub first : scan ≡ reads front behind
  pub second : next behind ≡ reads rest q
  pub joined : values ≡ front ++ rest

pub with-front-reads : (front : List ℕ) (scan : Scan) (values : List ℕ) (q : ℕ) → with_front front scan ≡ reads values q
    → (rest : List ℕ) × (scan ≡ reads rest q) × (values ≡ front ++ rest)
unfolding with_front
with-front-reads front (departs p) values q e = let z : ◌≡◌ {A = ℕ} 0 1 = cc in absurd (omega arith)
with-front-reads front (reads rest p) values q e = (rest, cc, cc)

-- Two readings, one behind the other, that read to the end both did so.
pub following-reads : (scan : Scan) (next : ℕ → Scan) (values : List ℕ) (q : ℕ) → following scan next ≡ reads values q
    → Followed scan next values q
unfolding following
following-reads (departs p) next values q e = let z : ◌≡◌ {A = ℕ} 0 1 = cc in absurd (omega arith)
following-reads (reads front p) next values q e =
    let after = with-front-reads front (next p) values q e in
    record { front = front; behind = p; rest = after.0; first = refl; second = after.1; joined = after.2 }

read-form : (items : List Item) (behind : Bool) (text : List ℕ) (p : ℕ) (values : List ℕ) (q : ℕ)
    → well_formed_behind behind items ≡ true → p ≤ length text → scan_form text items p ≡ reads values q
    → Fits items values × Part text p (write_form items values) q
unfolding well_formed_behind write_form scan_form scan_item
read-form [] behind text p values q good within e =
    let none : values ≡ [] = cc in
    let same : p ≡ q = cc in
    (rw none tt, rw (← same) (part-empty text p within))
read-form (word w ∷ items) behind text p values q good within e =
    let both = following-reads (scan_word text w p) (scan_form text items) values q e in
    let goods = (and-eq-true_iff (good_word behind w) (well_formed_behind false items)).0 good in
    let here = read_word text w p both.front both.behind (good-no-zero behind w goods.0) within both.first in
    let after = read-form items false text both.behind both.rest q goods.1 here.1.within both.second in
    let same : values ≡ both.rest = both.joined ∙ rw here.0 in
    rw same
    (after.0, part-append text w (write_form items both.rest) p both.behind q here.1 after.1)
read-form (numeral ∷ items) behind text p values q good within e =
    let both = following-reads (scan_number text p) (scan_form text items) values q e in
    let goods = (and-eq-true_iff (not behind) (well_formed_behind true items)).0 good in
    let here = read_number text p both.front both.behind both.first in
    let after = read-form items true text both.behind both.rest q goods.1 here.part.within both.second in
    let same : values ≡ here.number ∷ both.rest = both.joined ∙ ap (λ (l : List ℕ). l ++ both.rest) here.value in
    rw same (
      (here.small, after.0),
      part-append text (decimal here.number) (write_form items both.rest) p both.behind q here.part after.1,
    )

-- A form that stands in the text with its numbers is read, and what is read of a form is the form as it is written with
-- those numbers.
pub scans-written : (items : List Item) (values text : List ℕ) (p q : ℕ) → well_formed items ≡ true → Fits items values
    → (ends_in_number false items ≡ true → outside 48 57 (byte_at text q) ≡ true)
    → Part text p (write_form items values) q → scan_form text items p ≡ reads values q
unfolding well_formed
scans-written items values text p q good fits clear part = form-read items false values text p q good fits clear part

pub written-scanned : (items : List Item) (text : List ℕ) (p : ℕ) (values : List ℕ) (q : ℕ)
    → well_formed items ≡ true → p ≤ length text → scan_form text items p ≡ reads values q
    → Fits items values × Part text p (write_form items values) q
unfolding well_formed
written-scanned items text p values q good within e = read-form items false text p values q good within e
