-- What it means that a text departs from a form at a byte: up to it the text is the begin of the form, and with it, not.
-- For well-formed forms.
use Rattle.std.specs.Prelude.{ℕ, zero, suc, ◌+◌, ◌-◌, ◌*◌, ◌≤◌, ◌<◌, Bool, true, false, not, List, [], ◌∷◌, ◌++◌, ◌≡◌, refl, eqb, ltb, length, take, drop}
use Rattle.std.proofs.Math.Bool.{and-eq-true_iff}
use Rattle.std.proofs.Common.{append_assoc, sym, ◌∙◌, ap, arith, length-append, length-take-le, get_or-take, take-add, eqb-true, ltb-true}
use Rattle.std.proofs.Math.ListN.{get_or-append, get_or-eq_default}
use Rattle.definitions.specs.Outcome.{pick}
use Rattle.definitions.specs.Lists.{outside}
use Rattle.definitions.specs.Form.{Item, word, numeral, Scan, departs, reads, byte_at, scan_word, scan_digits, scan_number, scan_item, with_front, following, scan_form, decimal, write_form, Fits}
use Rattle.definitions.specs.Departs.{DepartsAt}
use Rattle.lists.specs.Parts.{Part, part-empty, part-cons, part-append, part-taken, part_end}
use Rattle.text_theory.specs.Decimal.{decimal-not-empty}
use Rattle.text_theory.specs.Numbers.{read_number, byte-within}
use Rattle.text_theory.specs.Forms.{no_zero, good_word, well_formed_behind, well_formed, good-no-zero, read_word, scans-written}
use Rattle.text_theory.specs.Looks.{Alike, form-looks}

-- Something that was begun in the text: its part from p up to q, and what is missing.
record Begun (text : List ℕ) (p q : ℕ) (whole : List ℕ) : Type 0 where
  part : List ℕ
  rest : List ℕ
  stands : Part text p part q
  missing : 0 < length rest
  joined : part ++ rest ≡ whole

word-begun : (text w : List ℕ) (p q : ℕ) → no_zero w ≡ true → p ≤ length text → scan_word text w p ≡ departs q → Begun text p q w
unfolding scan_word no_zero byte_at
word-begun text [] p q good within e = let z : ◌≡◌ {A = ℕ} 0 1 = cc in absurd (omega arith)
word-begun text (b ∷ w) p q good within e =
    go (eqb (byte_at text p) b) refl e (word-begun text w (p + 1) q ((and-eq-true_iff (ltb 0 b) (no_zero w)).0 good).1)
  where
    go : (t : Bool) → eqb (byte_at text p) b ≡ t → pick t (scan_word text w (p + 1)) (departs p) ≡ departs q
        → (p + 1 ≤ length text → scan_word text w (p + 1) ≡ departs q → Begun text (p + 1) q w)
        → Begun text p q (b ∷ w)
    go true test e hyp =
        let same : byte_at text p ≡ b = eqb-true (byte_at text p) b test in
        let positive : 0 < b = ltb-true 0 b ((and-eq-true_iff (ltb 0 b) (no_zero w)).0 good).0 in
        let before : p < length text = byte-within text p (omega arith) in
        let after = hyp (omega arith) e in
        record {
          part = byte_at text p ∷ after.part;
          rest = after.rest;
          stands = part-cons text after.part p q before after.stands;
          missing = after.missing;
          joined =
              ap (λ (c : ℕ). c ∷ (after.part ++ after.rest)) same ∙ ap (λ (l : List ℕ). b ∷ l) after.joined;
        }
    go false test e hyp =
        let same : p ≡ q = cc in
        record { part = []; rest = b ∷ w; stands = rw (← same) (part-empty text p within); missing = omega arith; joined = refl }

digits-never-depart : (text : List ℕ) (x p more q : ℕ) → scan_digits text x p more ≡ departs q → ⊥
unfolding scan_digits
digits-never-depart text x p zero q e = let z : ◌≡◌ {A = ℕ} 0 1 = cc in omega arith
digits-never-depart text x p (suc more) q e =
    go (outside 48 57 (byte_at text p)) e (digits-never-depart text (x * 10 + (byte_at text p - 48)) (p + 1) more q)
  where
    go : (b : Bool) → pick b (reads (x ∷ []) p) (scan_digits text (x * 10 + (byte_at text p - 48)) (p + 1) more) ≡ departs q
        → (scan_digits text (x * 10 + (byte_at text p - 48)) (p + 1) more ≡ departs q → ⊥) → ⊥
    go true e hyp = let z : ◌≡◌ {A = ℕ} 0 1 = cc in omega arith
    go false e hyp = hyp e

-- A number departs at its first byte or not at all.
pub number-departs-first : (text : List ℕ) (p q : ℕ) → scan_number text p ≡ departs q → p ≡ q
unfolding scan_number
number-departs-first text p q e = go (eqb (byte_at text p) 48) (outside 49 57 (byte_at text p)) e
  where
    go : (z b : Bool) → pick z (reads (0 ∷ []) (p + 1)) (pick b (departs p) (scan_digits text (byte_at text p - 48) (p + 1) 3)) ≡ departs q
        → p ≡ q
    go true b e = let z : ◌≡◌ {A = ℕ} 0 1 = cc in absurd (omega arith)
    go false true e = cc
    go false false e = absurd (digits-never-depart text (byte_at text p - 48) (p + 1) 3 q e)

-- Zeros for the numbers that are still due.
unfoldable zeros : List Item → List ℕ
zeros [] = []
zeros (word w ∷ items) = zeros items
zeros (numeral ∷ items) = 0 ∷ zeros items

zeros-fit : (items : List Item) → Fits items (zeros items)
unfolding zeros
zeros-fit [] = tt
zeros-fit (word w ∷ items) = zeros-fit items
zeros-fit (numeral ∷ items) = (omega arith, zeros-fit items)

-- A form that was begun, with its numbers.
record FormBegun (text : List ℕ) (items : List Item) (p q : ℕ) : Type 0 where
  values : List ℕ
  fits : Fits items values
  begun : Begun text p q (write_form items values)

-- A form of which the first item was begun, or the first item stands and the rest was begun.
begun_first : (text : List ℕ) (p q : ℕ) (whole more : List ℕ) → Begun text p q whole → Begun text p q (whole ++ more)
begun_first text p q whole more begun =
    record {
      part = begun.part;
      rest = begun.rest ++ more;
      stands = begun.stands;
      missing = omega (arith, begun.missing, length-append begun.rest more);
      joined = sym (append_assoc begun.part begun.rest more) ∙ ap (λ (l : List ℕ). l ++ more) begun.joined;
    }

begun-later : (text : List ℕ) (p at q : ℕ) (first whole : List ℕ) → Part text p first at → Begun text at q whole
    → Begun text p q (first ++ whole)
begun-later text p at q first whole stands begun =
    record {
      part = first ++ begun.part;
      rest = begun.rest;
      stands = part-append text first begun.part p at q stands begun.stands;
      missing = begun.missing;
      joined = append_assoc first begun.part begun.rest ∙ ap (λ (l : List ℕ). first ++ l) begun.joined;
    }

-- Numbers before a reading do not change where it departs.
pub with-front-departs : (front : List ℕ) (scan : Scan) (q : ℕ) → with_front front scan ≡ departs q → scan ≡ departs q
unfolding with_front
with-front-departs front (departs p) q e = e
with-front-departs front (reads values p) q e = let z : ◌≡◌ {A = ℕ} 0 1 = cc in absurd (omega arith)

form-begun : (items : List Item) (behind : Bool) (text : List ℕ) (p q : ℕ) → well_formed_behind behind items ≡ true → p ≤ length text
    → scan_form text items p ≡ departs q → FormBegun text items p q
unfolding well_formed_behind scan_form scan_item following write_form zeros
form-begun [] behind text p q good within e = let z : ◌≡◌ {A = ℕ} 0 1 = cc in absurd (omega arith)
form-begun (word w ∷ items) behind text p q good within e = go (scan_word text w p) refl e (form-begun items false text)
  where
    goods : (good_word behind w ≡ true) × (well_formed_behind false items ≡ true)
    goods = (and-eq-true_iff (good_word behind w) (well_formed_behind false items)).0 good

    go : (scan : Scan) → scan_word text w p ≡ scan → following scan (scan_form text items) ≡ departs q
        → ((at q : ℕ) → well_formed_behind false items ≡ true → at ≤ length text → scan_form text items at ≡ departs q
        → FormBegun text items at q)
        → FormBegun text (word w ∷ items) p q
    go (departs at) first e hyp =
        record {
          values = zeros items;
          fits = zeros-fit items;
          begun = begun_first text p q w (write_form items (zeros items))
              (word-begun text w p q (good-no-zero behind w goods.0) within (first ∙ e));
        }
    go (reads front at) first e hyp =
        let here = read_word text w p front at (good-no-zero behind w goods.0) within first in
        let after = hyp at q goods.1 here.1.within (with-front-departs front (scan_form text items at) q e) in
        record {
          values = after.values;
          fits = after.fits;
          begun = begun-later text p at q w (write_form items after.values) here.1 after.begun;
        }
form-begun (numeral ∷ items) behind text p q good within e = go (scan_number text p) refl e (form-begun items true text)
  where
    go : (scan : Scan) → scan_number text p ≡ scan → following scan (scan_form text items) ≡ departs q
        → ((at q : ℕ) → well_formed_behind true items ≡ true → at ≤ length text → scan_form text items at ≡ departs q
        → FormBegun text items at q)
        → FormBegun text (numeral ∷ items) p q
    go (departs at) first e hyp =
        let same : p ≡ q = number-departs-first text p q (first ∙ e) in
        record {
          values = 0 ∷ zeros items;
          fits = (omega arith, zeros-fit items);
          begun = record {
            part = [];
            rest = decimal 0 ++ write_form items (zeros items);
            stands = rw (← same) (part-empty text p within);
            missing = omega (arith, decimal-not-empty 0, length-append (decimal 0) (write_form items (zeros items)));
            joined = refl;
          };
        }
    go (reads front at) first e hyp =
        let here = read_number text p front at first in
        let good_rest = ((and-eq-true_iff (not behind) (well_formed_behind true items)).0 good).1 in
        let after = hyp at q good_rest here.part.within (with-front-departs front (scan_form text items at) q e) in
        record {
          values = here.number ∷ after.values;
          fits = (here.small, after.fits);
          begun = begun-later text p at q (decimal here.number) (write_form items after.values) here.part after.begun;
        }

-- A form that stands at the end of a text is read.
read-at-end : (items : List Item) (front values : List ℕ) → well_formed items ≡ true → Fits items values
    → scan_form (front ++ write_form items values) items (length front) ≡ reads values (length (front ++ write_form items values))
unfolding byte_at outside
read-at-end items front values good fits =
    let text = front ++ write_form items values in
    scans-written items values text (length front) (length text) good fits
    (λ _. ap (outside 48 57) (get_or-eq_default text 0 (omega arith)))
    (part_end front (write_form items values))

-- Were the form there up to and with byte q, a text that is alike up to q would hold it whole, and be read.
breaks-there : (items : List Item) (text : List ℕ) (p q : ℕ) → well_formed items ≡ true → p ≤ q → q < length text
    → scan_form text items p ≡ departs q → (values rest : List ℕ) → Fits items values
    → take (q + 1 - p) (drop p text) ++ rest ≡ write_form items values → ⊥
unfolding byte_at
breaks-there items text p q good behind within e values rest fits joined =
    let other = take (q + 1) text ++ rest in
    let front = take p text in
    let start : length front ≡ p = length-take-le p text (omega arith) in
    let alike : Alike text other q = λ i h.
    get_or-append (take (q + 1) text) rest 0 i (omega (arith, length-take-le (q + 1) text (omega arith)))
    ∙ get_or-take (q + 1) text i 0 (omega arith) in
    let looks : scan_form other items p ≡ scan_form text items p = (form-looks items text p).1 other (rw e alike) in
    let ends : q + 1 ≡ p + (q + 1 - p) = omega arith in
    let whole : other ≡ front ++ write_form items values =
    ap (λ (i : ℕ). take i text ++ rest) ends
    ∙ ap (λ (l : List ℕ). l ++ rest) (take-add p (q + 1 - p) text)
    ∙ append_assoc front (take (q + 1 - p) (drop p text)) rest
    ∙ ap (λ (l : List ℕ). front ++ l) joined in
    let read : scan_form (front ++ write_form items values) items p ≡ reads values (length (front ++ write_form items values)) =
    rw start at (read-at-end items front values good fits) in
    let clash : departs q ≡ reads values (length (front ++ write_form items values)) =
    sym e ∙ sym looks ∙ ap (λ (t : List ℕ). scan_form t items p) whole ∙ read in
    let z : ◌≡◌ {A = ℕ} 0 1 = cc in
    omega arith

pub departs-at : (items : List Item) (text : List ℕ) (p q : ℕ) → well_formed items ≡ true → p ≤ length text
    → scan_form text items p ≡ departs q → DepartsAt text items p q
unfolding well_formed
departs-at items text p q good within e =
    let form = form-begun items false text p q good within e in
    let begun = form.begun in
    let behind : p ≤ q = omega (arith, begun.stands.reaches) in
    record {
      behind = behind;
      within = begun.stands.within;
      begins = (form.values, begun.rest, form.fits, begun.missing, rw (part-taken text begun.part p q begun.stands) begun.joined);
      breaks = λ inside. breaks-there items text p q good behind inside e;
    }
