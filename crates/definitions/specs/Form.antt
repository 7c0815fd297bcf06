-- Forms: words with numbers between them, as bytes. Every line that has a fixed number of numbers is of such a form; comment lines and
-- lines of any number of numbers are put together from the same pieces, where they are due.
-- Reading goes from left to right and tells the first byte that departs. Assumes nothing.
use Rattle.std.specs.Prelude.{ℕ, zero, suc, ◌+◌, ◌-◌, ◌*◌, ◌/◌, ◌%◌, ◌<◌, List, [], ◌∷◌, ◌++◌, eqb, ltb, get_or}
use Prim.Native.Char.{code}
use Prim.Native.String.{String, [] as no_chars, ◌∷◌ as ◌then◌}
use Rattle.definitions.specs.Outcome.{pick, Outcome, refused}
use Rattle.definitions.specs.Lists.{outside}

-- The bytes of a text of plain characters.
abbrev pub bytes : String → List ℕ
bytes no_chars = []
bytes (◌then◌ c rest) = code c ∷ bytes rest

-- A form is a list of items: a word to the letter, or a number.
pub data Item : Type 0 where
  word : List ℕ → Item
  numeral : Item

-- What reading an item or a form gives: the offset of the first byte that departs from it, or the numbers that were
-- read and the offset after them.
pub data Scan : Type 0 where
  departs : ℕ → Scan
  reads : List ℕ → ℕ → Scan

-- The byte at an offset; past the end 0, which is no digit and in no word of a form, so that a form that is not whole departs there: "the
-- length, if it ends early".
unfoldable pub byte_at : (text : List ℕ) (p : ℕ) → ℕ
byte_at text p = get_or text p 0

unfoldable pub scan_word : (text letters : List ℕ) (p : ℕ) → Scan
scan_word text [] p = reads [] p
scan_word text (b ∷ rest) p = pick (eqb (byte_at text p) b) (scan_word text rest (p + 1)) (departs p)

-- Later digits, 0 to 9, at most `more` of them, behind the number x.
unfoldable pub scan_digits : (text : List ℕ) (x p more : ℕ) → Scan
scan_digits text x p zero = reads (x ∷ []) p
scan_digits text x p (suc more) =
    pick (outside 48 57 (byte_at text p)) (reads (x ∷ []) p)
    (scan_digits text (x * 10 + (byte_at text p - 48)) (p + 1) more)

-- A number of at most `more` + 1 digits, with no zero in front except in `0` itself.
abbrev pub scan_decimal : (text : List ℕ) (more p : ℕ) → Scan
scan_decimal text more p =
    pick (eqb (byte_at text p) 48) (reads (0 ∷ []) (p + 1))
    (pick (outside 49 57 (byte_at text p)) (departs p)
    (scan_digits text (byte_at text p - 48) (p + 1) more))

-- "A number is one to four digits, with no zero in front except in `0` itself."
unfoldable pub scan_number : (text : List ℕ) (p : ℕ) → Scan
scan_number text p = scan_decimal text 3 p

unfoldable pub scan_item : (text : List ℕ) (item : Item) (p : ℕ) → Scan
scan_item text (word w) p = scan_word text w p
scan_item text numeral p = scan_number text p

-- The numbers of both, where the second reads on from the first.
unfoldable pub with_front : (front : List ℕ) (second : Scan) → Scan
with_front front (departs p) = departs p
with_front front (reads values p) = reads (front ++ values) p

unfoldable pub following : (first : Scan) (next : ℕ → Scan) → Scan
following (departs p) next = departs p
following (reads values p) next = with_front values (next p)

-- More numbers, each behind a space (byte 32), up to a byte that is no space; at most `most` of them.
unfoldable pub scan_more : (text : List ℕ) (p most : ℕ) → Scan
scan_more text p zero = reads [] p
scan_more text p (suc most) =
    pick (eqb (byte_at text p) 32)
    (following (scan_number text (p + 1)) λ q. scan_more text q most)
    (reads [] p)

-- A form, from an offset on.
unfoldable pub scan_form : (text : List ℕ) (form : List Item) (p : ℕ) → Scan
scan_form text [] p = reads [] p
scan_form text (item ∷ items) p = following (scan_item text item p) (scan_form text items)

-- The refusal `number` at the byte that departs; else the next step, with what was read and the offset behind it.
unfoldable pub on_scan : {A : Type 0} (number : ℕ) (scan : Scan) (next : List ℕ → ℕ → Outcome A) → Outcome A
on_scan number (departs p) next = refused number p
on_scan number (reads values p) next = next values p

-- A number in base ten, at most `fuel` + 1 digits of it.
unfoldable pub decimal_within : (fuel x : ℕ) → List ℕ
decimal_within zero x = (48 + x % 10) ∷ []
decimal_within (suc fuel) x =
    let tens = decimal_within fuel (x / 10) in
    pick (ltb x 10) ((48 + x) ∷ []) (tens ++ ((48 + x % 10) ∷ []))

-- A number in base ten, "with as many digits as it takes". x steps are enough: each takes a digit off, and x has at most
-- x + 1 digits.
unfoldable pub decimal : (x : ℕ) → List ℕ
decimal x = decimal_within x x

-- Numbers, each behind a space.
unfoldable pub spaced : (numbers : List ℕ) → List ℕ
spaced [] = []
spaced (x ∷ numbers) = bytes " " ++ (decimal x ++ spaced numbers)

-- A form written with its numbers.
unfoldable pub write_form : (form : List Item) (values : List ℕ) → List ℕ
write_form [] values = []
write_form (word w ∷ items) values = w ++ write_form items values
write_form (numeral ∷ items) [] = []
write_form (numeral ∷ items) (x ∷ values) = decimal x ++ write_form items values

-- As many numbers as the form has, each of at most four digits.
abbrev pub Fits : List Item → List ℕ → Type 0
Fits [] [] = Unit {0}
Fits [] (x ∷ values) = ⊥
Fits (word w ∷ items) values = Fits items values
Fits (numeral ∷ items) [] = ⊥
Fits (numeral ∷ items) (x ∷ values) = (x < 10000) × Fits items values
