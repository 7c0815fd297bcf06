-- Two texts in one input, one right after the other, whatever stands in either: the line in front tells where the border is. Assumes
-- nothing.
use Rattle.std.specs.Prelude.{ℕ, ◌+◌, ◌*◌, ◌/◌, ◌%◌, List, [], ◌∷◌, ◌++◌, length, get_or}
use Rattle.definitions.specs.Form.{bytes, Item, word, numeral, write_form}

-- The line in front has a word and two numbers A and B.
abbrev pub border_form : (name : List ℕ) → List Item
border_form name = word name ∷ numeral ∷ word (bytes " ") ∷ numeral ∷ word (bytes ")\n") ∷ []

-- How many bytes after the line are the first text's. A number of our texts has at most four digits, so the last four digits of that
-- count are a number of their own.
unfoldable pub border_of : (line : List ℕ) → ℕ
border_of line = 10000 * get_or line 0 0 + get_or line 1 0

-- The input for two texts.
unfoldable pub bordered : (form : List Item) (one other : List ℕ) → List ℕ
bordered form one other = write_form form (length one / 10000 ∷ length one % 10000 ∷ []) ++ (one ++ other)
