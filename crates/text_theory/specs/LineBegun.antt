-- A form or a line of numbers that a text departs from at a byte: the bytes before it begin such a line with some numbers.
-- Assumes nothing.
use Rattle.std.specs.Prelude.{ℕ, zero, suc, ◌+◌, ◌-◌, ◌≤◌, ◌<◌, Bool, true, false, List, [], ◌∷◌, ◌++◌, ◌≡◌, refl, eqb, length, take, drop}
use Rattle.std.proofs.Common.{append_assoc, sym, ◌∙◌, ap, arith, length-drop, take-append-drop, drop-drop, length-take-le, eqb-true}
use Rattle.definitions.specs.Outcome.{pick}
use Rattle.definitions.specs.Form.{bytes, Item, Scan, departs, reads, byte_at, scan_number, following, scan_form, decimal, write_form, Fits, spaced, scan_more}
use Rattle.definitions.specs.Plan.{numbers_line}
use Rattle.definitions.specs.SheetForm.{route_front, over_front, line_end, scan_numbers}
use Rattle.definitions.specs.Lists.{AllBelow}
use Rattle.lists.specs.Parts.{Part, part-empty, part-cons, part-append}
use Rattle.text_theory.specs.Numbers.{read_number, byte-within}
use Rattle.text_theory.specs.Forms.{well_formed, written-scanned}
use Rattle.text_theory.specs.DepartsFromForm.{departs-at, with-front-departs, number-departs-first}
use Rattle.text_theory.specs.NumberLines.{
  read_more,
  line_from,
  end-of-line,
  end-of-line-numbers,
  route-from,
  over-from,
  route-front-good,
  over-front-good,
}

-- The bytes of the text from p up to q begin `whole`.
abbrev pub BeginsAt : (text : List ℕ) (p q : ℕ) (whole : List ℕ) → Type 0
BeginsAt text p q whole = (part rest : List ℕ) × Part text p part q × (part ++ rest ≡ whole)

-- What begins something begins it with more behind it too.
pub begins-first : (text : List ℕ) (p q : ℕ) (whole more : List ℕ) → BeginsAt text p q whole → BeginsAt text p q (whole ++ more)
begins-first text p q whole more (part, rest, stands, joined) =
    (part, rest ++ more, stands, sym (append_assoc part rest more) ∙ ap (λ (l : List ℕ). l ++ more) joined)

-- What begins something begins it with a part that stands before it too.
pub begins-later : (text : List ℕ) (p at q : ℕ) (first whole : List ℕ) → Part text p first at → BeginsAt text at q whole
    → BeginsAt text p q (first ++ whole)
begins-later text p at q first whole before (part, rest, stands, joined) = (
  first ++ part,
  rest,
  part-append text first part p at q before stands,
  append_assoc first part rest ∙ ap (λ (l : List ℕ). first ++ l) joined,
)

part_cut : (list : List ℕ) (p q : ℕ) → p ≤ q → q ≤ length list → Part list p (take (q - p) (drop p list)) q
part_cut list p q behind within =
    let ends : p + (q - p) ≡ q = omega arith in
    record {
      follows = sym (take-append-drop (q - p) (drop p list))
          ∙ ap (λ (l : List ℕ). take (q - p) (drop p list) ++ l) (drop-drop (q - p) p list ∙ ap (λ (i : ℕ). drop i list) ends);
      reaches = omega (arith, length-take-le (q - p) (drop p list) (omega (arith, length-drop p list)));
      within = within;
    }

-- A form that departs is begun, with some numbers.
pub form-begins : (items : List Item) (text : List ℕ) (p q : ℕ) → well_formed items ≡ true → p ≤ length text
    → scan_form text items p ≡ departs q → (values : List ℕ) × Fits items values × BeginsAt text p q (write_form items values)
form-begins items text p q good within e =
    let here = departs-at items text p q good within e in
    let (values, rest, fits, missing, joined) = here.begins in
    (values, fits, (take (q - p) (drop p text), rest, part_cut text p q here.behind here.within, joined))

more-begins : (most : ℕ) (text : List ℕ) (p q : ℕ) → p ≤ length text → scan_more text p most ≡ departs q
    → (numbers : List ℕ) × AllBelow 10000 numbers × BeginsAt text p q (spaced numbers)
unfolding scan_more spaced following byte_at
more-begins zero text p q within e = let z : ◌≡◌ {A = ℕ} 0 1 = cc in absurd (omega arith)
more-begins (suc most) text p q within e =
    go (eqb (byte_at text p) 32) refl (scan_number text (p + 1)) refl e (λ s. more-begins most text s q)
  where
    go : (t : Bool) → eqb (byte_at text p) 32 ≡ t → (scan : Scan) → scan_number text (p + 1) ≡ scan
        → pick t (following scan λ s. scan_more text s most) (reads [] p) ≡ departs q
        → ((s : ℕ) → s ≤ length text → scan_more text s most ≡ departs q
        → (numbers : List ℕ) × AllBelow 10000 numbers × BeginsAt text s q (spaced numbers))
        → (numbers : List ℕ) × AllBelow 10000 numbers × BeginsAt text p q (spaced numbers)
    go false test scan first e hyp = let z : ◌≡◌ {A = ℕ} 0 1 = cc in absurd (omega arith)
    go true test (departs at) first e hyp =
        let space : byte_at text p ≡ 32 = eqb-true (byte_at text p) 32 test in
        let before : p < length text = byte-within text p (omega arith) in
        let same : p + 1 ≡ q = number-departs-first text (p + 1) q (first ∙ e) in
        let here : Part text p (32 ∷ []) q =
        rw (← same, ← space) (part-cons text [] p (p + 1) before (part-empty text (p + 1) (omega arith))) in
        (0 ∷ [], (omega arith, tt), (32 ∷ [], decimal 0 ++ [], here, refl))
    go true test (reads values s) first e hyp =
        let space : byte_at text p ≡ 32 = eqb-true (byte_at text p) 32 test in
        let before : p < length text = byte-within text p (omega arith) in
        let number = read_number text (p + 1) values s first in
        let (numbers, small, begun) =
        hyp s number.part.within (with-front-departs values (scan_more text s most) q e) in
        let here : Part text p (32 ∷ decimal number.number) s =
        rw (← space) (part-cons text (decimal number.number) p s before number.part) in (
          number.number ∷ numbers,
          (number.small, small),
          begins-later text p s q (32 ∷ decimal number.number) (spaced numbers) here begun,
        )

-- A line of numbers that was begun, with the numbers of its front and those behind them.
abbrev LineBegun : (text : List ℕ) (front : List Item) (p q : ℕ) → Type 0
LineBegun text front p q =
    (values rest : List ℕ) × Fits front values × AllBelow 10000 rest × BeginsAt text p q (line_from front values rest)

line-begins : (front : List Item) (text : List ℕ) (p q : ℕ) → well_formed front ≡ true → p ≤ length text
    → scan_numbers text front p ≡ departs q → LineBegun text front p q
unfolding line_from scan_numbers following
line-begins front text p q good within e = go (scan_form text front p) refl e
  where
    behind : (values : List ℕ) (s : ℕ) → Fits front values → Part text p (write_form front values) s
        → (scan : Scan) → scan_more text s (length text) ≡ scan → following scan (scan_form text line_end) ≡ departs q
        → LineBegun text front p q
    behind values s fits stands (departs at) first e =
        let (numbers, small, begun) = more-begins (length text) text s q stands.within (first ∙ e) in (
          values,
          numbers,
          fits,
          small,
          begins-later text p s q (write_form front values) (spaced numbers ++ write_form line_end []) stands
              (begins-first text s q (spaced numbers) (write_form line_end []) begun),
        )
    behind values s fits stands (reads numbers r) first e =
        let more = read_more (length text) text s numbers r stands.within first in
        let (none, none_fits, begun) =
        form-begins line_end text r q end-of-line.0 more.1.within (with-front-departs numbers (scan_form text line_end r) q e) in
        let end : BeginsAt text r q (write_form line_end []) = rw (end-of-line-numbers none none_fits) at begun in (
          values,
          numbers,
          fits,
          more.0,
          begins-later text p s q (write_form front values) (spaced numbers ++ write_form line_end []) stands
              (begins-later text s r q (spaced numbers) (write_form line_end []) more.1 end),
        )

    go : (scan : Scan) → scan_form text front p ≡ scan
        → following scan (λ s. following (scan_more text s (length text)) (scan_form text line_end)) ≡ departs q
        → LineBegun text front p q
    go (departs at) first e =
        let (values, fits, begun) = form-begins front text p q good within (first ∙ e) in
        (values, [], fits, tt, begins-first text p q (write_form front values) (spaced [] ++ write_form line_end []) begun)
    go (reads values s) first e =
        let start = written-scanned front text p values s good within first in
        behind values s start.0 start.1 (scan_more text s (length text)) refl
        (with-front-departs values (following (scan_more text s (length text)) (scan_form text line_end)) q e)

-- Where a `(route ..)` line departs, the bytes before begin one of two numbers or more.
pub route-begins : (text : List ℕ) (p q : ℕ) → p ≤ length text → scan_numbers text route_front p ≡ departs q
    → (route : List ℕ) × (2 ≤ length route) × AllBelow 10000 route × BeginsAt text p q (numbers_line (bytes "(route") route)
unfolding route_front
route-begins text p q within e =
    let (values, rest, fits, small, begun) = line-begins route_front text p q route-front-good within e in
    go values rest fits small begun
  where
    go : (values rest : List ℕ) → Fits route_front values → AllBelow 10000 rest
        → BeginsAt text p q (line_from route_front values rest)
        → (route : List ℕ) × (2 ≤ length route) × AllBelow 10000 route × BeginsAt text p q (numbers_line (bytes "(route") route)
    go [] rest fits small begun = absurd fits
    go (a ∷ []) rest fits small begun = absurd fits.1
    go (a ∷ b ∷ []) rest fits small begun =
        (a ∷ b ∷ rest, omega arith, (fits.0, (fits.1.0, small)), rw (route-from a b rest) begun)
    go (a ∷ b ∷ c ∷ values) rest fits small begun = absurd fits.1.1

-- Where an `(over ..)` line departs, the bytes before begin one of one number or more.
pub over-begins : (text : List ℕ) (p q : ℕ) → p ≤ length text → scan_numbers text over_front p ≡ departs q
    → (over : List ℕ) × (1 ≤ length over) × AllBelow 10000 over × BeginsAt text p q (numbers_line (bytes "(over") over)
unfolding over_front
over-begins text p q within e =
    let (values, rest, fits, small, begun) = line-begins over_front text p q over-front-good within e in
    go values rest fits small begun
  where
    go : (values rest : List ℕ) → Fits over_front values → AllBelow 10000 rest
        → BeginsAt text p q (line_from over_front values rest)
        → (over : List ℕ) × (1 ≤ length over) × AllBelow 10000 over × BeginsAt text p q (numbers_line (bytes "(over") over)
    go [] rest fits small begun = absurd fits
    go (a ∷ []) rest fits small begun = (a ∷ rest, omega arith, (fits.0, small), rw (over-from a rest) begun)
    go (a ∷ b ∷ values) rest fits small begun = absurd fits.1
