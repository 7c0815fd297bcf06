-- Document 02, #106: the public DIMACS edge format, read from left to right on the pieces of the other texts, and the import's answer
-- and lists. Assumes nothing.
use Rattle.std.specs.Prelude.{ℕ, zero, suc, ◌+◌, ◌-◌, max, min, ◌||◌, List, [], ◌∷◌, ◌++◌, eqb, ltb, length, get_or, replicate}
use Rattle.definitions.specs.Outcome.{pick, Outcome, done, Answer, refuse_if}
use Rattle.definitions.specs.Lists.{outside, some_below}
use Rattle.definitions.specs.Network.{is_pair}
use Rattle.definitions.specs.Form.{bytes, Item, word, numeral, Scan, reads, byte_at, scan_word, following, scan_form, on_scan}
use Rattle.definitions.specs.Text.{Network, sized, counts_of, filled}

-- "one `p edge N M`"
unfoldable pub problem_form : List Item
problem_form = word (bytes "p edge ") ∷ numeral ∷ word (bytes " ") ∷ numeral ∷ word (bytes "\n") ∷ []

-- "lines `e U V`"
unfoldable pub edge_form : List Item
edge_form = word (bytes "e ") ∷ numeral ∷ word (bytes " ") ∷ numeral ∷ word (bytes "\n") ∷ []

-- "any or no bytes other than 10": the offset behind those from p on, where `most` bytes of the text are left.
unfoldable pub behind_words : (text : List ℕ) (p most : ℕ) → ℕ
behind_words text p zero = p
behind_words text p (suc most) = pick (eqb (byte_at text p) 10) p (behind_words text (p + 1) most)

-- "A comment line is `c` alone, or `c`, a space and any or no bytes other than 10", and "each line ended by byte 10". Byte 32 is the
-- space.
unfoldable pub scan_comment : (text : List ℕ) (p : ℕ) → Scan
scan_comment text p =
    following (scan_word text (bytes "c") p) λ q.
    scan_word text (bytes "\n") (pick (eqb (byte_at text q) 32) (behind_words text (q + 1) (length text - (q + 1))) q)

-- "`c` comment lines anywhere": all those from offset p on. Every other line begins with another byte than c (byte 99). At most `most`
-- are read; no text has more of them than bytes.
unfoldable pub scan_comments : (text : List ℕ) (p most : ℕ) → Scan
scan_comments text p zero = reads [] p
scan_comments text p (suc most) =
    pick (eqb (byte_at text p) 99)
    (following (scan_comment text p) λ q. scan_comments text q most)
    (reads [] p)

-- A line of this form, with the comment lines in front of it.
unfoldable pub scan_line : (text : List ℕ) (form : List Item) (p : ℕ) → Scan
scan_line text form p = following (scan_comments text p (length text)) (scan_form text form)

-- "the table with numbers one lower, ends put in order"
unfoldable pub low_end : (u v : ℕ) → ℕ
low_end u v = min u v - 1

unfoldable pub high_end : (u v : ℕ) → ℕ
high_end u v = max u v - 1

-- What is wrong with a line `e U V` behind the links read so far, or 0: "5 for U or V outside 1 to N, 6 for U equal to V, and 7", the
-- pair of an earlier line, whichever of its ends that has first.
unfoldable pub edge_fault : (n : ℕ) (lows highs : List ℕ) (u v : ℕ) → ℕ
edge_fault n lows highs u v =
    pick (outside 1 n u || outside 1 n v) 5
    (pick (eqb u v) 6
    (pick (some_below (is_pair lows highs (low_end u v) (high_end u v)) (length lows)) 7
    0))

-- `count` more lines `e U V` from offset p on, behind the links read so far, and then comment lines alone; "all in service".
unfoldable pub read_edges : (text : List ℕ) (n : ℕ) (lows highs : List ℕ) (p count : ℕ) → Outcome Network
read_edges text n lows highs p zero =
    on_scan 18 (scan_comments text p (length text)) λ _ q.
    refuse_if (ltb q (length text)) 18 q
    (done (record { relays = n; lows = lows; highs = highs; states = replicate n 1 }))
read_edges text n lows highs p (suc count) =
    on_scan 18 (scan_line text edge_form p) λ ends q.
    let u = get_or ends 0 0 in
    let v = get_or ends 1 0 in
    let fault = edge_fault n lows highs u v in
    refuse_if (ltb 0 fault) fault (length lows)
    (read_edges text n (lows ++ (low_end u v ∷ [])) (highs ++ (high_end u v ∷ [])) q count)

-- A text imported into three lists with this much room each. "It refuses with 18 a text that departs from this form, at the byte; then
-- 3, 4 and 8 after the `p` line".
unfoldable pub import_network : (text : List ℕ) (room_lows room_highs room_states : ℕ) → Outcome Network
import_network text room_lows room_highs room_states =
    on_scan 18 (scan_line text problem_form 0) λ counts p.
    let n = get_or counts 0 0 in
    let m = get_or counts 1 0 in
    sized n m room_lows room_highs room_states (read_edges text n [] [] p m)

-- "Answer and lists are as in Read."
unfoldable pub import_answer : (text lows highs states : List ℕ) → Answer
import_answer text lows highs states = counts_of (import_network text (length lows) (length highs) (length states))

unfoldable pub import_lows : (text lows highs states : List ℕ) → List ℕ
import_lows text lows highs states =
    filled (λ network. network.lows) (import_network text (length lows) (length highs) (length states)) lows

unfoldable pub import_highs : (text lows highs states : List ℕ) → List ℕ
import_highs text lows highs states =
    filled (λ network. network.highs) (import_network text (length lows) (length highs) (length states)) highs

unfoldable pub import_states : (text lows highs states : List ℕ) → List ℕ
import_states text lows highs states =
    filled (λ network. network.states) (import_network text (length lows) (length highs) (length states)) states
