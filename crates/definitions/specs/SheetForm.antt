-- Document 02, #103: a sheet's text, read from left to right on the pieces of the other texts. Assumes nothing.
use Rattle.std.specs.Prelude.{ℕ, zero, suc, ◌+◌, List, [], ◌∷◌, ◌++◌, eqb, ltb, length, get_or}
use Rattle.definitions.specs.Outcome.{pick, Outcome, done, refuse_if}
use Rattle.definitions.specs.Form.{bytes, Item, word, numeral, Scan, byte_at, following, scan_more, scan_form, on_scan}
use Rattle.definitions.specs.Text.{end_form}
use Rattle.definitions.specs.Plan.{sheet_form, kept_form, Sheet}

-- A `(route ..)` line has "two or more relays": up to the second of them.
unfoldable pub route_front : List Item
route_front = word (bytes "(route ") ∷ numeral ∷ word (bytes " ") ∷ numeral ∷ []

-- An `(over ..)` line has "one or more indices": up to the first of them.
unfoldable pub over_front : List Item
over_front = word (bytes "(over ") ∷ numeral ∷ []

unfoldable pub line_end : List Item
line_end = word (bytes ")\n") ∷ []

-- A line of numbers: its front, then more numbers, then its end. Each number takes two bytes or more with its space, so there is no need
-- to read more of them than the text has bytes.
unfoldable pub scan_numbers : (text : List ℕ) (front : List Item) (p : ℕ) → Scan
scan_numbers text front p =
    following (scan_form text front p) λ q.
    following (scan_more text q (length text)) (scan_form text line_end)

-- `(kept N)`, `(end)`, and nothing after it, behind these routes with their links.
unfoldable pub read_kept : (text : List ℕ) (from to k : ℕ) (routes overs : List (List ℕ)) (p : ℕ) → Outcome Sheet
read_kept text from to k routes overs p =
    on_scan 14 (scan_form text kept_form p) λ kept q.
    on_scan 14 (scan_form text end_form q) λ _ s.
    refuse_if (ltb s (length text)) 14 s
    (done (record { from = from; to = to; k = k; routes = routes; overs = overs; kept = get_or kept 0 0 }))

-- "any number of `(route ..)` lines [..] each with its `(over ..)` line", and then the rest of the sheet. `(route` and `(kept` part
-- at the second byte: it is r (byte 114) where a route is due. At most `most` routes are read; no text has more of them than bytes.
unfoldable pub read_routes : (text : List ℕ) (from to k : ℕ) (routes overs : List (List ℕ)) (p most : ℕ) → Outcome Sheet
read_routes text from to k routes overs p zero = read_kept text from to k routes overs p
read_routes text from to k routes overs p (suc most) =
    pick (eqb (byte_at text (p + 1)) 114)
    (on_scan 14 (scan_numbers text route_front p) λ route q.
    on_scan 14 (scan_numbers text over_front q) λ over s.
    read_routes text from to k (routes ++ (route ∷ [])) (overs ++ (over ∷ [])) s most)
    (read_kept text from to k routes overs p)

-- "It refuses [..] with 14 a text that departs from the sheet's form, at that byte": the sheet of a text.
unfoldable pub read_sheet : (text : List ℕ) → Outcome Sheet
read_sheet text =
    on_scan 14 (scan_form text sheet_form 0) λ wish p.
    read_routes text (get_or wish 0 0) (get_or wish 1 0) (get_or wish 2 0) [] [] p (length text)
