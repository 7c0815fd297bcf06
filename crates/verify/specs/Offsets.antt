-- A sheet's form as the first pass over the text has it: offsets and counts without the numbers of the routes.
-- Assumes nothing.
use Rattle.std.specs.Prelude.{ℕ, zero, suc, ◌+◌, List, [], ◌∷◌, eqb, ltb, length}
use Rattle.definitions.specs.Outcome.{pick}
use Rattle.definitions.specs.Form.{Scan, departs, reads, byte_at, following, scan_form, scan_more}
use Rattle.definitions.specs.Text.{end_form}
use Rattle.definitions.specs.Plan.{kept_form}
use Rattle.definitions.specs.SheetForm.{route_front, over_front, line_end, scan_numbers}

-- The second reading, from the offset behind the first, without the first one's numbers.
unfoldable pub after : (first : Scan) (next : ℕ → Scan) → Scan
after (departs p) next = departs p
after (reads values p) next = next p

-- A reading without its numbers.
unfoldable pub behind : (scan : Scan) → Scan
behind scan = after scan (reads [])

-- The offset behind what was read, or another where the text departed.
unfoldable pub behind_or : (scan : Scan) (other : ℕ) → ℕ
behind_or (departs p) other = other
behind_or (reads values p) other = p

-- What is left of a line of numbers behind its front.
unfoldable pub rest_of_line : (text : List ℕ) (p : ℕ) → Scan
rest_of_line text p = after (scan_more text p (length text)) (scan_form text line_end)

-- The two lines of a route: the offset of the second, and the offset behind both.
unfoldable pub two_lines : (text : List ℕ) (p : ℕ) → Scan
two_lines text p =
    after (scan_numbers text route_front p) λ q.
    after (scan_numbers text over_front q) λ s.
    reads (q ∷ []) s

-- How many routes have their lines from offset p on, behind `count` others, and the offset behind them.
unfoldable pub count_lines : (text : List ℕ) (count p most : ℕ) → Scan
count_lines text count p zero = reads (count ∷ []) p
count_lines text count p (suc most) =
    pick (eqb (byte_at text (p + 1)) 114)
    (after (two_lines text p) λ q. count_lines text (suc count) q most)
    (reads (count ∷ []) p)

-- The two lines behind the routes, and nothing after them: the count of kept links.
unfoldable pub kept_end : (text : List ℕ) (p : ℕ) → Scan
kept_end text p =
    following (scan_form text kept_form p) λ q.
    after (scan_form text end_form q) λ s.
    pick (ltb s (length text)) (departs s) (reads [] s)
