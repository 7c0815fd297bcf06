-- The waiting relays by their count, as bits: relays have columns of words, one word for each count, and a relay's bit is set in
-- the word of its count alone. The search for the greatest count begins one above the last. Assumes nothing.
use Rattle.std.specs.Prelude.{ℕ, ◌+◌, ◌-◌, ◌*◌, ◌/◌, ◌%◌, ◌^◌, ◌≤◌, ◌<◌, min, true, false, List, Option, Some, None, ◌≡◌, eqb, ltb, length, get_or, set}
use Rattle.definitions.specs.Outcome.{pick}
use Rattle.lists.specs.Bitmap.{bit_of, marked}

-- A word has a bit for each relay of its column.
abbrev pub word_bits : ℕ
word_bits = 64

-- A column has a word for each count.
abbrev pub column_words : ℕ
column_words = 80

-- Columns for 1,000 relays, and for 128.
abbrev pub most_columns : ℕ
most_columns = 16

abbrev pub few_columns : ℕ
few_columns = 2

-- The greatest count: no relay waits with more than 76 links to placed ones (proofs/WeightLaws.antt).
abbrev pub most_count : ℕ
most_count = 77

-- The column of a relay, and the word of a count in a column.
abbrev pub column_of : (r : ℕ) → ℕ
column_of r = r / word_bits

abbrev pub word_in : (g count : ℕ) → ℕ
word_in g count = g * column_words + count

-- One for a relay that waits; none for one whose count is 0.
abbrev pub waits_for : (count : ℕ) → ℕ
waits_for count = pick (eqb count 0) 0 1

-- The bit of a relay in a word; none of a placed relay, whose count is 0.
abbrev pub bit_for : (count r : ℕ) → ℕ
bit_for count r = pick (eqb count 0) 0 (2 ^ (r % word_bits))

-- The word of count 1 in a column, by how many relays there are from its first on: a bit for each of its relays.
abbrev pub full_word : (left : ℕ) → ℕ
full_word left = 2 ^ min left word_bits - 1

-- How many columns n relays have.
abbrev pub columns_for : (n : ℕ) → ℕ
columns_for n = (n + word_bits - 1) / word_bits

-- The word of a count in the column of relay r, and the bit of r in it among all bits.
unfoldable pub word_of : (count r : ℕ) → ℕ
word_of count r = word_in (column_of r) count

unfoldable pub slot_of : (count r : ℕ) → ℕ
slot_of count r = word_of count r * word_bits + r % word_bits

-- All words of the column of relay r are there.
abbrev pub HasColumn : (bits : List ℕ) (r : ℕ) → Type 0
HasColumn bits r = word_in (column_of r + 1) 0 ≤ length bits

-- A relay's bit is set in the word of its count alone.
pub record Buckets (counts bits : List ℕ) : Type 0 where
  pub room : (r : ℕ) → r < length counts → HasColumn bits r
  pub few : (r : ℕ) → get_or counts r 0 ≤ most_count
  pub bit : (count r : ℕ) → 0 < count → count < column_words → HasColumn bits r
      → marked bits (slot_of count r) ≡ eqb (get_or counts r 0) count

-- No bit is set, and each of so many relays has its column.
pub record NoBits (size : ℕ) (bits : List ℕ) : Type 0 where
  pub room : (r : ℕ) → r < size → HasColumn bits r
  pub none : (count r : ℕ) → 0 < count → count < column_words → HasColumn bits r → marked bits (slot_of count r) ≡ false

-- The first n relays have their bits in the words of count 1, and no other bit is set.
abbrev pub Filled : (n : ℕ) (bits : List ℕ) → Type 0
Filled n bits =
    (count r : ℕ) → 0 < count → count < column_words → HasColumn bits r
    → marked bits (slot_of count r) ≡ eqb (pick (ltb r n) 1 0) count

-- What a change of one relay's count does.
pub record Moved (r count : ℕ) (counts counts' bits' : List ℕ) : Type 0 where
  pub stored : counts' ≡ set counts r count
  pub sorted : Buckets counts' bits'

-- None of the columns below g has a bit in the word of this count.
abbrev pub NoneBelow : (g count : ℕ) (bits : List ℕ) → Type 0
NoneBelow g count bits = (h : ℕ) → h < g → get_or bits (word_in h count) 0 ≡ 0

-- Column g is the first of so many with a bit in that word.
pub record FirstBit (columns count : ℕ) (bits : List ℕ) (g : ℕ) : Type 0 where
  pub within : g < columns
  pub none : NoneBelow g count bits
  pub some : 0 < get_or bits (word_in g count) 0

-- Of so many columns the first with a bit in the word of this count, if there is one.
abbrev pub FirstColumn : (columns count : ℕ) (bits : List ℕ) (found : Option ℕ) → Type 0
FirstColumn columns count bits (Some g) = FirstBit columns count bits g
FirstColumn columns count bits None = NoneBelow columns count bits

-- Relay r of column g has the lowest bit of this word.
pub record LowestBit (g word r : ℕ) : Type 0 where
  pub column : column_of r ≡ g
  pub given : bit_of word (r % word_bits) ≡ true
  pub lowest : (s : ℕ) → s < r % word_bits → bit_of word s ≡ false

-- Of all bits of so many columns, in the words of counts up to `most`, relay x has one with the greatest count, and of
-- those with this count it is the lowest relay. Nothing is said of x where no bit is set.
pub record Leads (columns most : ℕ) (bits : List ℕ) (x : ℕ) : Type 0 where
  pub leads : (count r : ℕ) → 0 < count → count ≤ most → column_of r < columns → marked bits (slot_of count r) ≡ true
      → (top : ℕ)
      × (count ≤ top)
      × (top ≤ most)
      × (column_of x < columns)
      × (marked bits (slot_of top x) ≡ true)
      × (top ≡ count → x ≤ r)
