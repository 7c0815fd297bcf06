-- The forms of lines of two numbers and of one, and the answers of the reading functions as the definitions' `Scan`, case by case.
-- Assumes nothing.
use Rattle.std.specs.Prelude.{ℕ, List, [], ◌∷◌, ◌≡◌, Result, Ok, Err}
use Rattle.definitions.specs.Form.{Item, word, numeral, Scan, departs, reads}
use Rattle.network.specs.declared.refusal.Refusal.{Refusal}
use Rattle.network.specs.declared.refusal.Refusal.TheVariants.{Form}
use Rattle.text.specs.declared.scan.Departure.{Departure}

-- The form of a line of two numbers.
abbrev pub pair_form : List ℕ → List ℕ → List ℕ → List Item
pair_form front middle back = word front ∷ numeral ∷ word middle ∷ numeral ∷ word back ∷ []

-- The form of a line of one number.
abbrev pub number_form : List ℕ → List ℕ → List Item
number_form front back = word front ∷ numeral ∷ word back ∷ []

-- A word gives no number.
abbrev pub word_gives : Result ℕ Departure → Scan
word_gives (Ok p) = reads [] p
word_gives (Err departure) = departs departure.0

-- A number and the offset behind it.
abbrev pub digits_give : ℕ × ℕ → Scan
digits_give read = reads (read.0 ∷ []) read.1

abbrev pub number_gives : Result (ℕ × ℕ) Departure → Scan
number_gives (Ok read) = digits_give read
number_gives (Err departure) = departs departure.0

abbrev pub pair_gives : Result (ℕ × ℕ × ℕ) Departure → Scan
pair_gives (Ok read) = reads (read.0 ∷ read.1 ∷ []) read.2
pair_gives (Err departure) = departs departure.0

-- A form that departs is refused, with number 2 and the offset as its place.
abbrev pub FormRead : Scan → Result (ℕ × ℕ × ℕ) Refusal → Type 0
FormRead scan (Ok read) = reads (read.0 ∷ read.1 ∷ []) read.2 ≡ scan
FormRead scan (Err refusal) = (p : ℕ) × (departs p ≡ scan) × (refusal ≡ Form p)
