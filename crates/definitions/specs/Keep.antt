-- The desk's list of the links worth keeping under lease, and of those that may go: from the bytes of the input to the bytes of
-- the output. A line `(keep K)` and a network text come in; the text is read and cut to K. Assumes nothing.
use Rattle.std.specs.Prelude.{ℕ, zero, suc, ◌+◌, Bool, ◌&&◌, not, List, [], ◌∷◌, ◌++◌, eqb, length, get_or}
use Rattle.definitions.specs.Outcome.{pick, Outcome, Answer}
use Rattle.definitions.specs.Lists.{table, count}
use Rattle.definitions.specs.Network.{link_serves}
use Rattle.definitions.specs.Forests.{marks_of, cut_answer}
use Rattle.definitions.specs.Form.{bytes, Item, word, numeral, write_form}
use Rattle.definitions.specs.Text.{Network, end_form}
use Rattle.definitions.specs.Program.{Program, outcome_of, printed, room, on, own_read}
use Rattle.definitions.specs.Plan.{kept_form}

-- The line in front of the network text.
unfoldable pub keep_form : List Item
keep_form = word (bytes "(keep ") ∷ numeral ∷ word (bytes ")\n") ∷ []

-- The first line of the list.
unfoldable pub lease_form : List Item
lease_form = word (bytes "(lease (k ") ∷ numeral ∷ word (bytes "))\n") ∷ []

-- The line of a link, with its index and its two relays: of one that is kept, of one that is dropped, and of one that has a
-- withdrawn end, which is no advice to give up a lease.
unfoldable pub kept_link_form : List Item
kept_link_form =
    word (bytes "(keep ") ∷ numeral ∷ word (bytes " ") ∷ numeral ∷ word (bytes " ") ∷ numeral ∷ word (bytes ")\n") ∷ []

unfoldable pub dropped_link_form : List Item
dropped_link_form =
    word (bytes "(drop ") ∷ numeral ∷ word (bytes " ") ∷ numeral ∷ word (bytes " ") ∷ numeral ∷ word (bytes ")\n") ∷ []

unfoldable pub idle_link_form : List Item
idle_link_form =
    word (bytes "(idle ") ∷ numeral ∷ word (bytes " ") ∷ numeral ∷ word (bytes " ") ∷ numeral ∷ word (bytes ")\n") ∷ []

-- How many links are dropped, and how many have a withdrawn end; how many are kept stands in a line of the sheet's form.
unfoldable pub dropped_form : List Item
dropped_form = word (bytes "(dropped ") ∷ numeral ∷ word (bytes ")\n") ∷ []

unfoldable pub withdrawn_form : List Item
withdrawn_form = word (bytes "(withdrawn ") ∷ numeral ∷ word (bytes ")\n") ∷ []

-- A list: k, the table, the states, and Cut's mark of each link, 1 kept, 0 dropped or with a withdrawn end.
pub record Lease : Type 0 where
  pub k : ℕ
  pub lows : List ℕ
  pub highs : List ℕ
  pub states : List ℕ
  pub marks : List ℕ

-- The bytes that the program has for its output, enough for every list: 17 + 3,000 × 22 + 12 + 15 + 17 + 6. These are the first line, the
-- lines of 3,000 links, and the four last lines.
unfoldable pub lease_room : ℕ
lease_room = 66067

-- The list of a network cut to k.
unfoldable pub lease_for : (k : ℕ) (network : Network) → Lease
lease_for k network =
    record { k = k; lows = network.lows; highs = network.highs; states = network.states; marks = on network marks_of k }

-- The answer of Cut, with the program's own list.
unfoldable pub lease_answers : (line : List ℕ) (network : Network) → List Answer
lease_answers line network = on network cut_answer (get_or line 0 0) (room 3000) ∷ []

abbrev pub keeper : Program Network
keeper = record { form = keep_form; read = own_read; answers = lease_answers }

unfoldable pub leased : (input : List ℕ) → Outcome Lease
leased = outcome_of keeper (λ line. lease_for (get_or line 0 0))

-- The line of link i, which joins a and b, by its mark and by whether both are in service.
unfoldable pub lease_line : (mark : ℕ) (serving : Bool) (i a b : ℕ) → List ℕ
lease_line mark serving i a b =
    write_form (pick (eqb mark 1) kept_link_form (pick serving dropped_link_form idle_link_form)) (i ∷ a ∷ b ∷ [])

-- `count` such lines, from link i on.
unfoldable pub lease_lines : (lows highs states marks : List ℕ) (i count : ℕ) → List ℕ
lease_lines lows highs states marks i zero = []
lease_lines lows highs states marks i (suc count) =
    lease_line (get_or marks i 0) (link_serves lows highs states i) i (get_or lows i 0) (get_or highs i 0)
    ++ lease_lines lows highs states marks (i + 1) count

-- How many links with both ends in service have mark 0, and how many links have a withdrawn end.
unfoldable pub dropped_count : (lows highs states marks : List ℕ) → ℕ
dropped_count lows highs states marks =
    count (λ i. link_serves lows highs states i && eqb (get_or marks i 0) 0) (table (λ i. i) 0 (length lows))

unfoldable pub idle_count : (lows highs states : List ℕ) → ℕ
idle_count lows highs states = count (λ i. not (link_serves lows highs states i)) (table (λ i. i) 0 (length lows))

-- k, every link in the order of the table, and the counts of the kept, of the dropped and of those with a withdrawn end.
unfoldable pub lease_text : (lease : Lease) → List ℕ
lease_text lease =
    write_form lease_form (lease.k ∷ []) ++
    (lease_lines lease.lows lease.highs lease.states lease.marks 0 (length lease.lows) ++
    (write_form kept_form (count (eqb 1) lease.marks ∷ []) ++
    (write_form dropped_form (dropped_count lease.lows lease.highs lease.states lease.marks ∷ []) ++
    (write_form withdrawn_form (idle_count lease.lows lease.highs lease.states ∷ []) ++ write_form end_form []))))

-- What the program writes for what it reads.
unfoldable pub keep_text : (input : List ℕ) → List ℕ
keep_text input = printed lease_text (leased input)
