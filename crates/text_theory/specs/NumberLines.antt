-- Lines of numbers, as a sheet has them: what stands in the text is read, and what was read stands there.
-- Assumes nothing.
use Rattle.std.specs.Prelude.{ℕ, zero, suc, ◌+◌, ◌≤◌, ◌<◌, Bool, true, false, List, [], ◌∷◌, ◌++◌, ◌≡◌, refl, eqb, length}
use Rattle.std.proofs.Common.{append_assoc, append-nil, ◌∙◌, ap, arith, length-append, eqb-true}
use Rattle.definitions.specs.Outcome.{pick}
use Rattle.definitions.specs.Lists.{outside, AllBelow}
use Rattle.definitions.specs.Form.{bytes, Item, reads, byte_at, scan_number, with_front, following, scan_form, decimal, write_form, Fits, spaced, scan_more}
use Rattle.definitions.specs.Plan.{numbers_line}
use Rattle.definitions.specs.SheetForm.{route_front, over_front, line_end, scan_numbers}
use Rattle.lists.specs.Parts.{Part, part-empty, part-cons, part-head, part-tail, part-append, part-first, part-second}
use Rattle.text_theory.specs.Numbers.{number_read, read_number, byte-within}
use Rattle.text_theory.specs.Forms.{well_formed, well_formed_behind, good_word, no_zero, ends_in_number, Line, following-reads, scans-written, written-scanned}
use Rattle.text_theory.specs.NetworkLines.{line_read, read-line}

-- Where numbers behind spaces begin, and a bracket ends them, stands no digit.
pub spaced-clear : (numbers text : List ℕ) (p q : ℕ) → byte_at text q ≡ 41 → Part text p (spaced numbers) q
    → outside 48 57 (byte_at text p) ≡ true
unfolding spaced byte_at outside
spaced-clear [] text p q stops part =
    let same : p ≡ q = omega (arith, part.reaches) in
    rw (same, stops)
spaced-clear (x ∷ numbers) text p q stops part =
    rw (part-head text (decimal x ++ spaced numbers) 32 p q part)

-- There are no more numbers than bytes.
pub spaced-length : (numbers : List ℕ) → length numbers ≤ length (spaced numbers)
unfolding spaced
spaced-length [] = omega arith
spaced-length (x ∷ numbers) = omega (arith, length-append (decimal x) (spaced numbers), spaced-length numbers)

-- Numbers behind spaces that a bracket ends are read, all of them.
pub more-read : (numbers text : List ℕ) (p q most : ℕ) → AllBelow 10000 numbers → length numbers ≤ most → byte_at text q ≡ 41
    → Part text p (spaced numbers) q → scan_more text p most ≡ reads numbers q
unfolding scan_more spaced following with_front byte_at
more-read [] text p q zero small few stops part =
    let same : p ≡ q = omega (arith, part.reaches) in
    rw same
more-read [] text p q (suc most) small few stops part =
    let same : p ≡ q = omega (arith, part.reaches) in
    rw (same, stops)
more-read (x ∷ numbers) text p q zero small few stops part = absurd (omega arith)
more-read (x ∷ numbers) text p q (suc most) small few stops part =
    let rest = spaced numbers in
    let digits = part-tail text (decimal x ++ rest) 32 p q part in
    let s = p + 1 + length (decimal x) in
    let after = part-second text (decimal x) rest (p + 1) q digits in
    rw (
      part-head text (decimal x ++ rest) 32 p q part,
      number_read text x (p + 1) s small.0 (part-first text (decimal x) rest (p + 1) q digits)
          (spaced-clear numbers text s q stops after),
      more-read numbers text s q most small.1 (omega arith) stops after,
    )

-- Numbers that were read behind spaces stand there so.
pub read_more : (most : ℕ) (text : List ℕ) (p : ℕ) (values : List ℕ) (q : ℕ) → p ≤ length text
    → scan_more text p most ≡ reads values q → AllBelow 10000 values × Part text p (spaced values) q
unfolding scan_more spaced byte_at
read_more zero text p values q within e =
    let none : values ≡ [] = cc in
    let same : p ≡ q = cc in
    rw none (tt, rw (← same) (part-empty text p within))
read_more (suc most) text p values q within e =
    go (eqb (byte_at text p) 32) refl e (λ s rest. read_more most text s rest q)
  where
    go : (t : Bool) → eqb (byte_at text p) 32 ≡ t
        → pick t (following (scan_number text (p + 1)) λ s. scan_more text s most) (reads [] p) ≡ reads values q
        → ((s : ℕ) (rest : List ℕ) → s ≤ length text → scan_more text s most ≡ reads rest q
        → AllBelow 10000 rest × Part text s (spaced rest) q)
        → AllBelow 10000 values × Part text p (spaced values) q
    go true test e hyp =
        let space : byte_at text p ≡ 32 = eqb-true (byte_at text p) 32 test in
        let before : p < length text = byte-within text p (omega arith) in
        let both = following-reads (scan_number text (p + 1)) (λ s. scan_more text s most) values q e in
        let here = read_number text (p + 1) both.front both.behind both.first in
        let after = hyp both.behind both.rest here.part.within both.second in
        let same : values ≡ here.number ∷ both.rest = both.joined ∙ ap (λ (l : List ℕ). l ++ both.rest) here.value in
        let digits = part-append text (decimal here.number) (spaced both.rest) (p + 1) both.behind q here.part after.1 in
        rw same ((here.small, after.0), rw (← space) (part-cons text (decimal here.number ++ spaced both.rest) p q before digits))
    go false test e hyp =
        let none : values ≡ [] = cc in
        let same : p ≡ q = cc in
        rw none (tt, rw (← same) (part-empty text p within))

-- A front with its numbers, more numbers behind it, and the end of the line.
unfoldable pub line_from : (front : List Item) (values rest : List ℕ) → List ℕ
line_from front values rest = write_form front values ++ (spaced rest ++ write_form line_end [])

-- The end of a line is a line with no numbers.
pub end-of-line : Line line_end
unfolding well_formed well_formed_behind good_word no_zero outside ends_in_number line_end
end-of-line = (refl, refl)

end-of-line-fits : Fits line_end []
unfolding line_end
end-of-line-fits = tt

-- Numbers that fit the end of a line are none.
pub end-of-line-numbers : (values : List ℕ) → Fits line_end values → values ≡ []
unfolding line_end
end-of-line-numbers [] fits = refl
end-of-line-numbers (x ∷ values) fits = absurd fits

end-of-line-bracket : (text : List ℕ) (p q : ℕ) → Part text p (write_form line_end []) q → byte_at text p ≡ 41
unfolding line_end write_form byte_at
end-of-line-bracket text p q part = part-head text (10 ∷ []) 41 p q part

line-from-read : (front : List Item) (values rest text : List ℕ) (p q : ℕ) → well_formed front ≡ true → Fits front values
    → AllBelow 10000 rest → Part text p (line_from front values rest) q → scan_numbers text front p ≡ reads (values ++ rest) q
unfolding line_from scan_numbers following with_front
line-from-read front values rest text p q good fits small part =
    let end = write_form line_end [] in
    let s = p + length (write_form front values) in
    let r = s + length (spaced rest) in
    let behind = part-second text (write_form front values) (spaced rest ++ end) p q part in
    let numbers = part-first text (spaced rest) end s q behind in
    let last = part-second text (spaced rest) end s q behind in
    let stops = end-of-line-bracket text r q last in
    let few : length rest ≤ length text = omega (arith, spaced-length rest, numbers.reaches, numbers.within) in
    rw (
      scans-written front values text p s good fits (λ _. spaced-clear rest text s r stops numbers)
          (part-first text (write_form front values) (spaced rest ++ end) p q part),
      more-read rest text s r (length text) small few stops numbers,
      line_read line_end [] text r q end-of-line end-of-line-fits last,
      append-nil rest,
    )

-- What a line of numbers held: the numbers of its front and those behind them.
record LineFrom (text : List ℕ) (front : List Item) (p : ℕ) (numbers : List ℕ) (q : ℕ) : Type 0 where
  values : List ℕ
  rest : List ℕ
  joined : numbers ≡ values ++ rest
  fits : Fits front values
  small : AllBelow 10000 rest
  part : Part text p (line_from front values rest) q

read-line-from : (front : List Item) (text : List ℕ) (p : ℕ) (numbers : List ℕ) (q : ℕ) → well_formed front ≡ true
    → p ≤ length text → scan_numbers text front p ≡ reads numbers q → LineFrom text front p numbers q
unfolding line_from scan_numbers
read-line-from front text p numbers q good within e =
    let one = following-reads (scan_form text front p)
    (λ s. following (scan_more text s (length text)) (scan_form text line_end)) numbers q e in
    let two = following-reads (scan_more text one.behind (length text)) (scan_form text line_end) one.rest q one.second in
    let start = written-scanned front text p one.front one.behind good within one.first in
    let more = read_more (length text) text one.behind two.front two.behind start.1.within two.first in
    let last = read-line line_end text two.behind two.rest q end-of-line more.1.within two.second in
    let none = end-of-line-numbers two.rest last.0 in
    let end : Part text two.behind (write_form line_end []) q = rw none at last.1 in
    record {
      values = one.front;
      rest = two.front;
      joined = one.joined
          ∙ ap (λ (l : List ℕ). one.front ++ l) (two.joined ∙ ap (λ (l : List ℕ). two.front ++ l) none ∙ append-nil two.front);
      fits = start.0;
      small = more.0;
      part =
          part-append text (write_form front one.front) (spaced two.front ++ write_form line_end []) p one.behind q start.1
          (part-append text (spaced two.front) (write_form line_end []) one.behind two.behind q more.1 end);
    }

-- A `(route ..)` line from its front.
pub route-from : (a b : ℕ) (rest : List ℕ) → numbers_line (bytes "(route") (a ∷ b ∷ rest) ≡ line_from route_front (a ∷ b ∷ []) rest
unfolding numbers_line spaced line_from route_front line_end write_form
route-from a b rest = simp (append_assoc, append-nil)

-- An `(over ..)` line from its front.
pub over-from : (a : ℕ) (rest : List ℕ) → numbers_line (bytes "(over") (a ∷ rest) ≡ line_from over_front (a ∷ []) rest
unfolding numbers_line spaced line_from over_front line_end write_form
over-from a rest = simp (append_assoc, append-nil)

-- The front of a `(route ..)` line is well formed.
pub route-front-good : well_formed route_front ≡ true
unfolding well_formed well_formed_behind good_word no_zero outside route_front
route-front-good = refl

-- The front of an `(over ..)` line is well formed.
pub over-front-good : well_formed over_front ≡ true
unfolding well_formed well_formed_behind good_word no_zero outside over_front
over-front-good = refl

-- A `(route ..)` line of two numbers or more that stands in the text is read.
pub route-read : (route text : List ℕ) (p q : ℕ) → 2 ≤ length route → AllBelow 10000 route
    → Part text p (numbers_line (bytes "(route") route) q → scan_numbers text route_front p ≡ reads route q
unfolding route_front
route-read [] text p q two small part = absurd (omega arith)
route-read (a ∷ []) text p q two small part = absurd (omega arith)
route-read (a ∷ b ∷ rest) text p q two small part =
    line-from-read route_front (a ∷ b ∷ []) rest text p q route-front-good (small.0, (small.1.0, tt)) small.1.1
    (rw (route-from a b rest) at part)

-- An `(over ..)` line of one number or more that stands in the text is read.
pub over-read : (over text : List ℕ) (p q : ℕ) → 1 ≤ length over → AllBelow 10000 over
    → Part text p (numbers_line (bytes "(over") over) q → scan_numbers text over_front p ≡ reads over q
unfolding over_front
over-read [] text p q one small part = absurd (omega arith)
over-read (a ∷ rest) text p q one small part =
    line-from-read over_front (a ∷ []) rest text p q over-front-good (small.0, tt) small.1 (rw (over-from a rest) at part)

-- A `(route ..)` line that was read has two numbers or more, each of at most four digits, and stands there.
pub read-route : (text : List ℕ) (p : ℕ) (route : List ℕ) (q : ℕ) → p ≤ length text
    → scan_numbers text route_front p ≡ reads route q
    → (2 ≤ length route) × AllBelow 10000 route × Part text p (numbers_line (bytes "(route") route) q
unfolding route_front
read-route text p route q within e =
    let line = read-line-from route_front text p route q route-front-good within e in
    rw line.joined (go line.values line.rest line.fits line.small line.part)
  where
    go : (values rest : List ℕ) → Fits route_front values → AllBelow 10000 rest → Part text p (line_from route_front values rest) q
        → (2 ≤ length (values ++ rest)) × AllBelow 10000 (values ++ rest)
        × Part text p (numbers_line (bytes "(route") (values ++ rest)) q
    go [] rest fits small part = absurd fits
    go (a ∷ []) rest fits small part = absurd fits.1
    go (a ∷ b ∷ []) rest fits small part =
        (omega arith, (fits.0, (fits.1.0, small)), rw (route-from a b rest) part)
    go (a ∷ b ∷ c ∷ values) rest fits small part = absurd fits.1.1

-- An `(over ..)` line that was read has one number or more, each of at most four digits, and stands there.
pub read-over : (text : List ℕ) (p : ℕ) (over : List ℕ) (q : ℕ) → p ≤ length text
    → scan_numbers text over_front p ≡ reads over q
    → (1 ≤ length over) × AllBelow 10000 over × Part text p (numbers_line (bytes "(over") over) q
unfolding over_front
read-over text p over q within e =
    let line = read-line-from over_front text p over q over-front-good within e in
    rw line.joined (go line.values line.rest line.fits line.small line.part)
  where
    go : (values rest : List ℕ) → Fits over_front values → AllBelow 10000 rest → Part text p (line_from over_front values rest) q
        → (1 ≤ length (values ++ rest)) × AllBelow 10000 (values ++ rest)
        × Part text p (numbers_line (bytes "(over") (values ++ rest)) q
    go [] rest fits small part = absurd fits
    go (a ∷ []) rest fits small part = (omega arith, (fits.0, small), rw (over-from a rest) part)
    go (a ∷ b ∷ values) rest fits small part = absurd fits.1
