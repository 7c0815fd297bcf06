-- Document 01, 'The network and its text': the reader from left to right, the writer, and their lists afterwards.
-- Assumes nothing.
use Rattle.std.specs.Prelude.{ℕ, zero, suc, ◌+◌, ◌-◌, ◌||◌, List, [], ◌∷◌, ◌++◌, eqb, ltb, leb, length, get_or, drop, replicate}
use Rattle.definitions.specs.Outcome.{pick, Outcome, refused, done, Answer, refuse_if, and_then, if_done}
use Rattle.definitions.specs.Lists.{overwrite, zeroed, outside}
use Rattle.definitions.specs.Network.{link_fault, table_check}
use Rattle.definitions.specs.Form.{bytes, Item, word, numeral, byte_at, scan_form, on_scan, write_form}

-- "The text has one form a line, single spaces, each line ended by byte 10."
unfoldable pub header_form : List Item
header_form =
    word (bytes "(net (relays ") ∷ numeral ∷ word (bytes ") (links ") ∷ numeral ∷ word (bytes "))\n") ∷ []

unfoldable pub link_form : List Item
link_form = word (bytes "(link ") ∷ numeral ∷ word (bytes " ") ∷ numeral ∷ word (bytes ")\n") ∷ []

-- "lines `(out R)` in rising order between the links and `(end)`" (document 02, #105)
unfoldable pub out_form : List Item
out_form = word (bytes "(out ") ∷ numeral ∷ word (bytes ")\n") ∷ []

unfoldable pub end_form : List Item
end_form = word (bytes "(end)\n") ∷ []

-- A network as it was read: the number of relays, the table, and the state of every relay.
pub record Network : Type 0 where
  pub relays : ℕ
  pub lows : List ℕ
  pub highs : List ℕ
  pub states : List ℕ

-- The states told so far, and after them those up to relay r: r is withdrawn, the relays between are in service.
unfoldable pub withdrawn : (states : List ℕ) (r : ℕ) → List ℕ
withdrawn states r = states ++ (replicate (r - length states) 1 ++ (0 ∷ []))

-- The states of n relays: after those told all are in service. "A text without such lines has all in service."
unfoldable pub all_states : (n : ℕ) (states : List ℕ) → List ℕ
all_states n states = states ++ replicate (n - length states) 1

-- "`(end)`, and nothing after it"
unfoldable pub read_end : (text : List ℕ) (n : ℕ) (lows highs states : List ℕ) (p : ℕ) → Outcome Network
read_end text n lows highs states p =
    on_scan 2 (scan_form text end_form p) λ _ q.
    refuse_if (ltb q (length text)) 2 q
    (done (record { relays = n; lows = lows; highs = highs; states = all_states n states }))

-- The `(out R)` lines from offset p on, behind the states told so far, and then the end. `(out` and `(end` part at the second byte: it
-- is o (byte 111) where a relay is withdrawn. "with 16 an `out` line whose relay is not below n or not above the one before, after
-- its form". At most `most` lines are read: of n relays at most n lines can be good, so n + 1 are enough.
unfoldable pub read_outs : (text : List ℕ) (n : ℕ) (lows highs states : List ℕ) (p most : ℕ) → Outcome Network
read_outs text n lows highs states p zero = read_end text n lows highs states p
read_outs text n lows highs states p (suc most) =
    pick (eqb (byte_at text (p + 1)) 111)
    (on_scan 2 (scan_form text out_form p) λ line q.
    let r = get_or line 0 0 in
    refuse_if (leb n r || ltb r (length states)) 16 0
    (read_outs text n lows highs (withdrawn states r) q most))
    (read_end text n lows highs states p)

-- `count` more link lines from offset p on, behind the links read so far, and then the rest.
-- "After each link line: 5, A or B not below n; 6, A not below B; 7, a pair that an earlier line has."
unfoldable pub read_links : (text : List ℕ) (n : ℕ) (lows highs : List ℕ) (p count : ℕ) → Outcome Network
read_links text n lows highs p zero = read_outs text n lows highs [] p (suc n)
read_links text n lows highs p (suc count) =
    on_scan 2 (scan_form text link_form p) λ ends q.
    let a = get_or ends 0 0 in
    let b = get_or ends 1 0 in
    let fault = link_fault n lows highs (length lows) a b in
    refuse_if (ltb 0 fault) fault (length lows)
    (read_links text n (lows ++ (a ∷ [])) (highs ++ (b ∷ [])) q count)

-- After the line that tells n and m: "3, n outside 1 to 1,000; 4, m over 3,000; 8, a table list shorter than m", "also given for a
-- state list shorter than n"; then the rest.
abbrev pub sized : (n m room_lows room_highs room_states : ℕ) (rest : Outcome Network) → Outcome Network
sized n m room_lows room_highs room_states rest =
    refuse_if (outside 1 1000 n) 3 0
    (refuse_if (ltb 3000 m) 4 0
    (refuse_if (ltb room_lows m || (ltb room_highs m || ltb room_states n)) 8 0
    rest))

-- A text read into three lists with this much room each.
unfoldable pub read_network : (text : List ℕ) (room_lows room_highs room_states : ℕ) → Outcome Network
read_network text room_lows room_highs room_states =
    on_scan 2 (scan_form text header_form 0) λ counts p.
    let n = get_or counts 0 0 in
    let m = get_or counts 1 0 in
    sized n m room_lows room_highs room_states (read_links text n [] [] p m)

-- "The answer is n and m."
abbrev pub counts_of : (outcome : Outcome Network) → Answer
counts_of outcome = and_then outcome λ network. done (network.relays ∷ length network.lows ∷ [])

unfoldable pub read_answer : (text lows highs states : List ℕ) → Answer
read_answer text lows highs states = counts_of (read_network text (length lows) (length highs) (length states))

-- "Refused, both lists are all zeros; accepted, entries after the first m are zeros"; "its state entries are all 0 after a refusal
-- and 0 past n".
unfoldable pub filled : (column : Network → List ℕ) (outcome : Outcome Network) (old : List ℕ) → List ℕ
filled column (refused number place) old = zeroed old
filled column (done network) old = column network ++ zeroed (drop (length (column network)) old)

unfoldable pub lows_after : (text lows highs states : List ℕ) → List ℕ
lows_after text lows highs states =
    filled (λ network. network.lows) (read_network text (length lows) (length highs) (length states)) lows

unfoldable pub highs_after : (text lows highs states : List ℕ) → List ℕ
highs_after text lows highs states =
    filled (λ network. network.highs) (read_network text (length lows) (length highs) (length states)) highs

unfoldable pub states_after : (text lows highs states : List ℕ) → List ℕ
states_after text lows highs states =
    filled (λ network. network.states) (read_network text (length lows) (length highs) (length states)) states

-- `count` link lines, from link i on.
unfoldable pub link_lines : (lows highs : List ℕ) (i count : ℕ) → List ℕ
link_lines lows highs i zero = []
link_lines lows highs i (suc count) =
    write_form link_form (get_or lows i 0 ∷ get_or highs i 0 ∷ []) ++ link_lines lows highs (i + 1) count

-- The line of relay r by its state: none where it is in service.
unfoldable pub out_line : (state r : ℕ) → List ℕ
out_line state r = pick (eqb state 0) (write_form out_form (r ∷ [])) []

-- The lines of the withdrawn among `count` relays, from relay r on.
unfoldable pub out_lines : (states : List ℕ) (r count : ℕ) → List ℕ
out_lines states r zero = []
out_lines states r (suc count) = out_line (get_or states r 0) r ++ out_lines states (r + 1) count

-- The text of a network: "each table has one text", with its states.
unfoldable pub text_of : (n : ℕ) (lows highs states : List ℕ) → List ℕ
text_of n lows highs states =
    write_form header_form (n ∷ length lows ∷ []) ++
    (link_lines lows highs 0 (length lows) ++ (out_lines states 0 (length states) ++ write_form end_form []))

-- "Write the text. Table check, then 12, the buffer shorter than the text. The answer is the text's length in bytes."
unfoldable pub write_answer : (n : ℕ) (lows highs states buffer : List ℕ) → Answer
write_answer n lows highs states buffer =
    and_then (table_check n lows highs states) λ _.
    refuse_if (ltb (length buffer) (length (text_of n lows highs states))) 12 0
    (done (length (text_of n lows highs states) ∷ []))

-- The buffer afterwards.
unfoldable pub buffer_after : (n : ℕ) (lows highs states buffer : List ℕ) → List ℕ
buffer_after n lows highs states buffer =
    if_done (write_answer n lows highs states buffer) (overwrite (text_of n lows highs states) buffer) buffer
