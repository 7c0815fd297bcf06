-- What the stages of every program share: what is printed of equal outcomes, a refusal that stands, the line in front, and the network
-- that a reading leaves in the front of three lists. Assumes nothing.
use Rattle.std.specs.Prelude.{ℕ, Result, Ok, Err, ◌-◌, ◌≤◌, List, [], ◌∷◌, ◌≡◌, refl, length, replicate}
use Rattle.std.proofs.Common.{sym, ◌∙◌, ap, subst, arith, length-append}
use Rattle.std.proofs.Math.ListN.{take, drop, length-drop}
use Rattle.std.proofs.lemmas.List.{length-replicate}
use Rattle.std.proofs.Math.Seq.{take_all, take-append_seam}
use Rattle.definitions.specs.Outcome.{Outcome, refused, done, Answer, and_then}
use Rattle.definitions.specs.Lists.{overwrite, zeroed}
use Rattle.definitions.specs.Forests.{cut_answer}
use Rattle.definitions.specs.Network.{Accepted}
use Rattle.definitions.specs.Text.{Network, read_network, counts_of, read_answer, filled, lows_after, highs_after, states_after}
use Rattle.definitions.specs.Form.{Item, departs, reads, scan_form, on_scan}
use Rattle.definitions.specs.Program.{Program, passing, outcome_of, room, own_read, printed}
use Rattle.definitions.specs.Promised.{Asked}
use Rattle.lists.specs.Outcomes.{then-done}
use Rattle.lists.specs.SameOutcomes.{done-then}
use Rattle.theory.specs.Accepted.{accepted, accepted-states}
use Rattle.text_theory.specs.Forms.{Line}
use Rattle.text_theory.specs.NetworkLines.{read-line}
use Rattle.text_theory.specs.RoundTrip.{written_read}
use Rattle.text.specs.Put.{Put}
use Rattle.lists.specs.Stores.{sets-overwrite}
use Rattle.network.specs.Answers.{refusal_of, refusal_number, refusal_place}
use Rattle.network.specs.Refusals.{refusal-then}
use Rattle.network.specs.declared.refusal.Refusal.{Refusal}
use Rattle.network.specs.declared.refusal.Refusal.TheVariants.{Wish}
use Rattle.network.specs.Tables.{of_table}
use Rattle.network.specs.declared.Network.{Network as Lent}
use Rattle.text.specs.Answers.{read_outcome}
use Rattle.text.specs.declared.TableSize.{TableSize}

-- Two outcomes that are the same are printed alike.
pub fits-as : {A : Type 0} (text_of : A → List ℕ) (one other : Outcome A) (size : ℕ) → one ≡ other
    → length (printed text_of one) ≤ size → length (printed text_of other) ≤ size
fits-as text_of one other size same h = subst (λ (outcome : Outcome _). length (printed text_of outcome) ≤ size) same h

pub put_as : {A : Type 0} (text_of : A → List ℕ) (one other : Outcome A) (before after : List ℕ) (next : ℕ) → one ≡ other
    → Put before 0 (printed text_of other) after next → Put before 0 (printed text_of one) after next
put_as text_of one other before after next same put =
    subst (λ (outcome : Outcome _). Put before 0 (printed text_of outcome) after next) (sym same) put

-- A text written from the first byte on is the whole output, under whichever name it was written.
pub whole-put : (text named before after : List ℕ) (next : ℕ) → text ≡ named → length text ≤ length before → Put before 0 named after next
    → (next ≡ length text) × (after ≡ overwrite text before)
whole-put text named before after next same fits put =
    rw same (omega (arith, put.ends), put.bytes ∙ sets-overwrite named before (omega (arith, ap length same)))

-- A network by its parts.
abbrev pub network_of : (n : ℕ) (lows highs states : List ℕ) → Network
network_of n lows highs states = record { relays = n; lows = lows; highs = highs; states = states }

-- A refusal of one stage is the refusal of all that follows.
pub stage-refused : {A B : Type 0} (outcome : Outcome A) (next : A → Outcome B) (refusal : Refusal)
    → outcome ≡ refusal_of refusal → and_then outcome next ≡ refusal_of refusal
stage-refused outcome next refusal e = ap (λ (o : Outcome _). and_then o next) e ∙ refusal-then refusal next

-- Cut with the program's own list.
pub cut-rooms : (n : ℕ) (lows highs states : List ℕ) (k : ℕ) (marks : List ℕ) → marks ≡ room 3000 → (outcome : Outcome (List ℕ))
    → cut_answer n lows highs states k marks ≡ outcome → cut_answer n lows highs states k (room 3000) ≡ outcome
cut-rooms n lows highs states k marks marks_are outcome e = rw (← marks_are) e

-- Where what is made of an outcome's value is refused, the outcome is.
pub answer-refused : {A B : Type 0} (outcome : Outcome A) (f : A → B) (refusal : Refusal)
    → and_then outcome (λ x. done (f x)) ≡ refusal_of refusal → outcome ≡ refusal_of refusal
unfolding and_then
answer-refused {A} {B} (refused number place) f refusal e =
    let same : ◌≡◌ {A = Outcome B} (refused number place) (refused (refusal_number refusal) (refusal_place refusal)) = e in
    let numbers : number ≡ refusal_number refusal = cc in
    let places : place ≡ refusal_place refusal = cc in
    rw (numbers, places)
answer-refused {A} {B} (done x) f refusal e =
    let same : ◌≡◌ {A = Outcome B} (done (f x)) (refused (refusal_number refusal) (refusal_place refusal)) = e in
    let z : ◌≡◌ {A = ℕ} 0 1 = cc in
    absurd (omega arith)

-- A list of zeros is a program's own list.
pub zeros-room : (size : ℕ) → replicate size 0 ≡ room size
unfolding room
zeros-room size = refl

pub length-room : (size : ℕ) → length (room size) ≡ size
unfolding room
length-room size = length-replicate size 0

-- Three lists as long as it takes for every network.
pub record Rooms (lows highs states : List ℕ) : Type 0 where
  pub in_lows : length lows ≡ 3000
  pub in_highs : length highs ≡ 3000
  pub in_states : length states ≡ 1000

-- A reading with the room of these lists is a reading with the room of every network.
same-rooms : (reading : ℕ → ℕ → ℕ → Outcome Network) (lows highs states : List ℕ) → Rooms lows highs states
    → reading 3000 3000 1000 ≡ reading (length lows) (length highs) (length states)
same-rooms reading lows highs states rooms =
    rw (rooms.in_lows, rooms.in_highs, rooms.in_states)

pub reading-refused : (reading : ℕ → ℕ → ℕ → Outcome Network) (lows highs states : List ℕ) (refusal : Refusal) → Rooms lows highs states
    → counts_of (reading (length lows) (length highs) (length states)) ≡ refusal_of refusal → reading 3000 3000 1000 ≡ refusal_of refusal
reading-refused reading lows highs states refusal rooms e =
    same-rooms reading lows highs states rooms ∙ answer-refused _ _ refusal e

-- The network that a reading leaves in the front of its three lists.
pub record FrontTable (outcome : Outcome Network) (n m : ℕ) (lows highs states : List ℕ) : Type 0 where
  pub in_lows : m ≤ length lows
  pub in_highs : m ≤ length highs
  pub in_states : n ≤ length states
  pub accepted : Accepted n (take m lows) (take m highs) (take n states)
  pub read : outcome ≡ done (network_of n (take m lows) (take m highs) (take n states))

front-filled : (column : Network → List ℕ) (outcome : Outcome Network) (network : Network) (old : List ℕ) (m : ℕ)
    → outcome ≡ done network → length (column network) ≡ m
    → (m ≤ length (filled column outcome old)) × (take m (filled column outcome old) ≡ column network)
unfolding filled
front-filled column outcome network old m e size =
    let rest = zeroed (drop (length (column network)) old) in
    rw (e, ← size) (omega (arith, length-append (column network) rest), take-append_seam (column network) rest)

same-network : (network : Network) (n : ℕ) (lows highs states : List ℕ) → network.relays ≡ n → lows ≡ network.lows
    → highs ≡ network.highs → states ≡ network.states → network ≡ network_of n lows highs states
same-network network n lows highs states relays low high state = rw (← relays, low, high, state)

-- A reading whose networks are accepted ones.
pub reading-done : (reading : ℕ → ℕ → ℕ → Outcome Network) (lows highs states : List ℕ) (n m : ℕ) → Rooms lows highs states
    → let whole = reading (length lows) (length highs) (length states) in
    ((network : Network) → whole ≡ done network → Accepted network.relays network.lows network.highs network.states)
    → counts_of whole ≡ done (n ∷ m ∷ [])
    → FrontTable (reading 3000 3000 1000) n m (filled (λ network. network.lows) whole lows)
    (filled (λ network. network.highs) whole highs) (filled (λ network. network.states) whole states)
reading-done reading lows highs states n m rooms accepts e =
    let whole = reading (length lows) (length highs) (length states) in
    let (network, read, last) = done-then whole _ (n ∷ m ∷ []) e in
    let relays : network.relays ≡ n = cc in
    let size : length network.lows ≡ m = cc in
    let passes = accepts network read in
    let table = accepted network.relays network.lows network.highs network.states passes in
    let known = accepted-states network.relays network.lows network.highs network.states passes in
    let first = front-filled (λ network. network.lows) whole network lows m read size in
    let second = front-filled (λ network. network.highs) whole network highs m read (sym table.even ∙ size) in
    let third = front-filled (λ network. network.states) whole network states n read (known.long ∙ relays) in
    let same = same-network network n _ _ _ relays first.1 second.1 third.1 in
    record {
      in_lows = first.0;
      in_highs = second.0;
      in_states = third.0;
      accepted = subst (λ (network : Network). Accepted network.relays network.lows network.highs network.states) same passes;
      read = same-rooms reading lows highs states rooms ∙ read ∙ ap done same;
    }

-- What a reading into a program's own lists answers: the network in their front, or the refusal.
abbrev pub network_in : Lent → Network
network_in network = of_table network_of network.table

abbrev pub network_outcome : Result Lent Refusal → Outcome Network
network_outcome (Ok network) = done (network_in network)
network_outcome (Err refusal) = refusal_of refusal

-- An accepted network stands in the front of the lists.
pub record Front (n m : ℕ) (lows highs states : List ℕ) : Type 0 where
  pub in_lows : m ≤ length lows
  pub in_highs : m ≤ length highs
  pub in_states : n ≤ length states
  pub accepted : Accepted n (take m lows) (take m highs) (take n states)

abbrev pub front_network : (n m : ℕ) (lows highs states : List ℕ) → Network
front_network n m lows highs states = network_of n (take m lows) (take m highs) (take n states)

pub table-front : (outcome : Outcome Network) (n m : ℕ) (lows highs states : List ℕ) → FrontTable outcome n m lows highs states
    → Front n m lows highs states
table-front outcome n m lows highs states table =
    record { in_lows = table.in_lows; in_highs = table.in_highs; in_states = table.in_states; accepted = table.accepted }

-- What a program has once its lists are read into, by what the reading answered: its refusal, or the table in their front.
abbrev pub Loads : (outcome : Outcome Network) → Result TableSize Refusal → (lows highs states : List ℕ) → Type 0
Loads outcome (Ok size) lows highs states = FrontTable outcome size.relays size.links lows highs states
Loads outcome (Err refusal) lows highs states = outcome ≡ refusal_of refusal

-- What follows a reading: its refusal, or the work with the network.
pub loaded-refused : {A : Type 0} (work : Network → Outcome A) (outcome : Outcome Network) (refusal : Refusal)
    → refusal_of refusal ≡ outcome → and_then outcome work ≡ refusal_of refusal
loaded-refused work outcome refusal e = stage-refused outcome work refusal (sym e)

pub loaded-network : {A : Type 0} (work : Network → Outcome A) (outcome : Outcome Network) (network : Network)
    → done network ≡ outcome → and_then outcome work ≡ work network
loaded-network work outcome network e = then-done outcome work network (sym e)

-- Read's own.
pub read-refused : (text lows highs states : List ℕ) (refusal : Refusal) → Rooms lows highs states
    → refusal_of refusal ≡ read_answer text lows highs states → refusal_of refusal ≡ read_network text 3000 3000 1000
unfolding read_answer
read-refused text lows highs states refusal rooms told =
    sym (reading-refused (read_network text) lows highs states refusal rooms (sym told))

pub read-table : (text lows highs states : List ℕ) (n m : ℕ) (lows_now highs_now states_now : List ℕ) → Rooms lows highs states
    → done (n ∷ m ∷ []) ≡ read_answer text lows highs states → lows_now ≡ lows_after text lows highs states
    → highs_now ≡ highs_after text lows highs states → states_now ≡ states_after text lows highs states
    → FrontTable (read_network text 3000 3000 1000) n m lows_now highs_now states_now
unfolding read_answer lows_after highs_after states_after
read-table text lows highs states n m lows_now highs_now states_now rooms told low high state =
    rw (low, high, state)
    (reading-done (read_network text) lows highs states n m rooms
    (λ network e. (written_read text (length lows) (length highs) (length states) network e).1) (sym told))

pub read-loads : (text lows highs states : List ℕ) (answer : Result TableSize Refusal) (lows_now highs_now states_now : List ℕ)
    → Rooms lows highs states → read_outcome answer ≡ read_answer text lows highs states → lows_now ≡ lows_after text lows highs states
    → highs_now ≡ highs_after text lows highs states → states_now ≡ states_after text lows highs states
    → Loads (read_network text 3000 3000 1000) answer lows_now highs_now states_now
read-loads text lows highs states (Ok size) lows_now highs_now states_now rooms told low high state =
    read-table text lows highs states size.relays size.links lows_now highs_now states_now rooms told low high state
read-loads text lows highs states (Err refusal) lows_now highs_now states_now rooms told low high state =
    sym (read-refused text lows highs states refusal rooms told)

-- The network that was asked about is an accepted one.
pub asked-accepted : (form : List Item) (answers : List ℕ → Network → List Answer) (input numbers : List ℕ) (network : Network)
    → Asked (record { form = form; read = own_read; answers = answers }) input numbers network
    → Accepted network.relays network.lows network.highs network.states
asked-accepted form answers input numbers network asked = (written_read (drop asked.behind input) 3000 3000 1000 network asked.read).1

-- The line in front departs, or it is taken and the rest is read.
module _ {A B : Type 0} (program : Program A) (value : List ℕ → A → B) (input : List ℕ) where
  pub line-departed : (p : ℕ) → scan_form input program.form 0 ≡ departs p → outcome_of program value input ≡ refusal_of (Wish p)
  unfolding outcome_of on_scan
  line-departed p e = rw e

  pub line_taken : (numbers : List ℕ) (p : ℕ) → Line program.form → scan_form input program.form 0 ≡ reads numbers p
      → (p ≤ length input)
      × (outcome_of program value input
      ≡ and_then (program.read numbers (take (length input - p) (drop p input))) (λ thing. passing (program.answers numbers thing) (value numbers thing)))
  unfolding outcome_of on_scan
  line_taken numbers p good e =
      let all : take (length input - p) (drop p input) ≡ drop p input =
      take_all (length input - p) (drop p input) (omega (arith, length-drop p input)) in
      ((read-line program.form input 0 numbers p good (omega arith) e).1.within, rw (e, all))
