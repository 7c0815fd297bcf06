-- Document 02, #108: which of two reports of a relay stands, and the same as a program: two reports come in, the one that stands goes
-- out. Assumes nothing.
use Rattle.std.specs.Prelude.{ℕ, ◌+◌, ◌-◌, ◌%◌, Bool, true, false, ◌&&◌, not, List, [], ◌∷◌, eqb, length, take, drop}
use Rattle.definitions.specs.Outcome.{pick, Outcome, refused, done, Answer, refuse_if, and_then}
use Rattle.definitions.specs.Lists.{outside}
use Rattle.definitions.specs.Form.{bytes, Item}
use Rattle.definitions.specs.Program.{Program, outcome_of, printed}
use Rattle.definitions.specs.Border.{border_form, border_of, bordered}
use Rattle.definitions.specs.Reports.{Report, read_report}

-- "its serial minus the first's, wrapped at 32 bits"
unfoldable pub wrapped : (a b : ℕ) → ℕ
wrapped a b = (a + 4294967296 - b) % 4294967296

-- "is from 1 to 2,147,483,647"
unfoldable pub ahead : (a b : ℕ) → Bool
ahead a b = not (outside 1 2147483647 (wrapped a b))

unfoldable pub same_list : (one other : List ℕ) → Bool
same_list [] [] = true
same_list [] (y ∷ other) = false
same_list (x ∷ one) [] = false
same_list (x ∷ one) (y ∷ other) = eqb x y && same_list one other

-- Which of two texts.
pub data Which : Type 0 where
  first : Which
  second : Which

-- "Of two reports of one relay the second stands if its serial minus the first's [..] is from 1 to 2,147,483,647, and the first stands
-- if that holds the other way. With equal serials and equal bytes the first stands." Else 21: "serials that differ by 2,147,483,648 or
-- equal serials on different bytes".
unfoldable pub of_one_relay : (one other : List ℕ) (a b : Report) → Outcome Which
of_one_relay one other a b =
    pick (ahead b.serial a.serial) (done second)
    (pick (ahead a.serial b.serial) (done first)
    (pick (eqb a.serial b.serial && same_list one other) (done first)
    (refused 21 0)))

-- "It refuses with 19 [..], then with 20 two reports of different relays where one is to stand [..] and last with 21".
unfoldable pub standing : (one other : List ℕ) → Outcome Which
standing one other =
    and_then (read_report one) λ a.
    and_then (read_report other) λ b.
    refuse_if (not (eqb a.relay b.relay)) 20 0
    (of_one_relay one other a b)

unfoldable pub text_of_which : (one other : List ℕ) (chosen : Which) → List ℕ
text_of_which one other first = one
text_of_which one other second = other

-- "The answer is the report that stands, as the bytes in its own text, line end included; refused, it is empty".
unfoldable pub bytes_of : (one other : List ℕ) (outcome : Outcome Which) → List ℕ
bytes_of one other (refused number place) = []
bytes_of one other (done chosen) = text_of_which one other chosen

unfoldable pub standing_bytes : (one other : List ℕ) → List ℕ
standing_bytes one other = bytes_of one other (standing one other)

-- "and a check beside it gives the number".
unfoldable pub standing_check : (one other : List ℕ) → Answer
standing_check one other = and_then (standing one other) λ _. done []

-- For C, which is handed no reference: which text (0 the first, 1 the second), and its length.
unfoldable pub which_number : (chosen : Which) → ℕ
which_number first = 0
which_number second = 1

unfoldable pub stands_answer : (one other : List ℕ) → Answer
stands_answer one other =
    and_then (standing one other) λ chosen. done (which_number chosen ∷ length (text_of_which one other chosen) ∷ [])

-- The program's line in front, `(stands A B)`: how many bytes after it are the first report's.
unfoldable pub stands_form : List Item
stands_form = border_form (bytes "(stands ")

-- The input for two texts, whatever stands in either.
unfoldable pub stands_input : (one other : List ℕ) → List ℕ
stands_input = bordered stands_form

pub record Two : Type 0 where
  pub one : List ℕ
  pub other : List ℕ

-- The two texts, on either side of the border.
unfoldable pub two_texts : (line text : List ℕ) → Two
two_texts line text = record { one = take (border_of line) text; other = drop (border_of line) text }

abbrev pub stander : Program Two
stander =
    record {
      form = stands_form;
      read = λ line text. done (two_texts line text);
      answers = λ _ two. standing_check two.one two.other ∷ [];
    }

unfoldable pub stood : (input : List ℕ) → Outcome (List ℕ)
stood = outcome_of stander (λ _ two. standing_bytes two.one two.other)

-- What the program writes for what it reads: the report that stands, or the refusal.
unfoldable pub stands_text : (input : List ℕ) → List ℕ
stands_text input = printed (λ text. text) (stood input)

-- What is to be written for two texts.
unfoldable pub stands_of : (one other : List ℕ) → List ℕ
stands_of one other = printed (text_of_which one other) (standing one other)
