-- Demand 2 of the text proved: the reader accepts exactly the texts that the writer can write, and each gives back the other's work.
-- Assumes nothing.
use Rattle.std.specs.Prelude.{ℕ, ◌≤◌, Bool, true, false, ◌||◌, List, [], ◌∷◌, ◌≢◌, ◌≡◌, refl, ltb, length, take}
use Rattle.std.proofs.Common.{sym, ◌∙◌, ap, arith, ltb-true, ltb-false}
use Rattle.std.proofs.Math.Seq.{take-length, take-append_seam}
use Rattle.definitions.specs.Outcome.{refused, done, and_then}
use Rattle.definitions.specs.Network.{Accepted}
use Rattle.definitions.specs.Text.{
  Network,
  read_network,
  read_answer,
  filled,
  lows_after,
  highs_after,
  states_after,
  text_of,
  write_answer,
  buffer_after,
}
use Rattle.definitions.specs.DemandTwo.{TableBack, TextBack, CanBeWritten, DemandTwo}
use Rattle.lists.specs.Outcomes.{refuse-passed}
use Rattle.lists.specs.Overwritten.{take-overwrite}
use Rattle.lists.specs.SameOutcomes.{done-then}
use Rattle.theory.specs.Accepted.{accepted, accepted-states}
use Rattle.text_theory.specs.RoundTrip.{read-written, written_read}
use Rattle.text_theory.specs.Writes.{write-short, write_done}

-- What Read answers and leaves, from the network that was read.
module _ (text to_lows to_highs to_states : List ℕ) where
  answer-done : (network : Network) → read_network text (length to_lows) (length to_highs) (length to_states) ≡ done network
      → read_answer text to_lows to_highs to_states ≡ done (network.relays ∷ length network.lows ∷ [])
  unfolding read_answer and_then
  answer-done network e = rw e

  answer-room : read_answer text to_lows to_highs to_states ≢ refused 8 0
      → read_network text (length to_lows) (length to_highs) (length to_states) ≢ refused 8 0
  unfolding read_answer and_then
  answer-room h e = h (rw e)

  lows-front : (network : Network) → read_network text (length to_lows) (length to_highs) (length to_states) ≡ done network
      → take (length network.lows) (lows_after text to_lows to_highs to_states) ≡ network.lows
  unfolding lows_after filled
  lows-front network e = rw e (take-append_seam network.lows _)

  highs-front : (network : Network) → read_network text (length to_lows) (length to_highs) (length to_states) ≡ done network
      → take (length network.highs) (highs_after text to_lows to_highs to_states) ≡ network.highs
  unfolding highs_after filled
  highs-front network e = rw e (take-append_seam network.highs _)

  states-front : (network : Network) → read_network text (length to_lows) (length to_highs) (length to_states) ≡ done network
      → take (length network.states) (states_after text to_lows to_highs to_states) ≡ network.states
  unfolding states_after filled
  states-front network e = rw e (take-append_seam network.states _)

-- Lists long enough for the text of an accepted network give the network back.
room-read : (n : ℕ) (lows highs states : List ℕ) → Accepted n lows highs states → (to_lows to_highs to_states : List ℕ)
    → read_answer (text_of n lows highs states) to_lows to_highs to_states ≢ refused 8 0
    → read_network (text_of n lows highs states) (length to_lows) (length to_highs) (length to_states)
    ≡ done (record { relays = n; lows = lows; highs = highs; states = states })
room-read n lows highs states check to_lows to_highs to_states h =
    let e = read-written n lows highs states check (length to_lows) (length to_highs) (length to_states) in
    e ∙ refuse-passed (ltb (length to_lows) (length lows) || (ltb (length to_highs) (length lows) || ltb (length to_states) n)) 8 0 _
    (λ z. answer-room (text_of n lows highs states) to_lows to_highs to_states h (e ∙ z))

table-back : (n : ℕ) (lows highs states : List ℕ) → Accepted n lows highs states → (to_lows to_highs to_states : List ℕ)
    → read_answer (text_of n lows highs states) to_lows to_highs to_states ≢ refused 8 0
    → TableBack n lows highs states (text_of n lows highs states) to_lows to_highs to_states
table-back n lows highs states check to_lows to_highs to_states h =
    let text = text_of n lows highs states in
    let network : Network = record { relays = n; lows = lows; highs = highs; states = states } in
    let e = room-read n lows highs states check to_lows to_highs to_states h in
    record {
      answered = answer-done text to_lows to_highs to_states network e;
      lows_back = lows-front text to_lows to_highs to_states network e;
      highs_back = rw (accepted n lows highs states check).even (highs-front text to_lows to_highs to_states network e);
      states_back =
          ap (λ (i : ℕ). take i (states_after text to_lows to_highs to_states)) (sym (accepted-states n lows highs states check).long)
          ∙ states-front text to_lows to_highs to_states network e;
    }

-- A buffer is long enough, since Write does not answer 12.
module _ (n : ℕ) (lows highs states buffer : List ℕ) (check : Accepted n lows highs states) where
  room-written : write_answer n lows highs states buffer ≢ refused 12 0 → length (text_of n lows highs states) ≤ length buffer
  room-written h = go (ltb (length buffer) (length (text_of n lows highs states))) refl
    where
      go : (b : Bool) → ltb (length buffer) (length (text_of n lows highs states)) ≡ b
          → length (text_of n lows highs states) ≤ length buffer
      go true e = absurd (h (write-short n lows highs states buffer check (ltb-true _ _ e)).0)
      go false e = ltb-false _ _ e

  front-written : length (text_of n lows highs states) ≤ length buffer
      → take (length (text_of n lows highs states)) (buffer_after n lows highs states buffer) ≡ text_of n lows highs states
  front-written h =
      let text = text_of n lows highs states in
      ap (take (length text)) (write_done n lows highs states buffer check h).1
      ∙ take-overwrite text buffer (length text) (omega arith)
      ∙ take-length text

  -- An answer of a length is that of the text.
  size-written : (size : ℕ) → write_answer n lows highs states buffer ≡ done (size ∷ [])
      → (length (text_of n lows highs states) ≤ length buffer) × (size ≡ length (text_of n lows highs states))
  size-written size e =
      let room = room-written (λ z. let clash : ◌≡◌ {A = ℕ} 0 1 = cc in omega arith) in
      let answer = (write_done n lows highs states buffer check room).0 in
      (room, cc)

-- The table and the states that Read leaves are those of an accepted network, and the text is this network's.
abbrev TableRead : (text lows highs states : List ℕ) (n m : ℕ) → Type 0
TableRead text lows highs states n m =
    let ls = take m (lows_after text lows highs states) in
    let hs = take m (highs_after text lows highs states) in
    let ss = take n (states_after text lows highs states) in
    (text_of n ls hs ss ≡ text) × Accepted n ls hs ss × (length ls ≡ m)

table-read : (text lows highs states : List ℕ) (n m : ℕ) → read_answer text lows highs states ≡ done (n ∷ m ∷ [])
    → TableRead text lows highs states n m
unfolding read_answer
table-read text lows highs states n m e =
    let (network, read, same) =
    done-then (read_network text (length lows) (length highs) (length states))
    (λ network. done (network.relays ∷ length network.lows ∷ [])) (n ∷ m ∷ []) e in
    go network read (cc) (cc)
  where
    go : (network : Network) → read_network text (length lows) (length highs) (length states) ≡ done network
        → network.relays ≡ n → length network.lows ≡ m → TableRead text lows highs states n m
    go network read relays links =
        let both = written_read text (length lows) (length highs) (length states) network read in
        let even = (accepted network.relays network.lows network.highs network.states both.1).even in
        let long = (accepted-states network.relays network.lows network.highs network.states both.1).long in
        let first : take m (lows_after text lows highs states) ≡ network.lows =
        ap (λ (i : ℕ). take i (lows_after text lows highs states)) (sym links) ∙ lows-front text lows highs states network read in
        let second : take m (highs_after text lows highs states) ≡ network.highs =
        ap (λ (i : ℕ). take i (highs_after text lows highs states)) (sym links ∙ even)
        ∙ highs-front text lows highs states network read in
        let third : take n (states_after text lows highs states) ≡ network.states =
        ap (λ (i : ℕ). take i (states_after text lows highs states)) (sym relays ∙ sym long)
        ∙ states-front text lows highs states network read in
        rw (first, second, third, ← relays) (both.0, both.1, links)

-- A table with states whose text this is.
text-back : (n m : ℕ) (ls hs ss text : List ℕ) → text_of n ls hs ss ≡ text → Accepted n ls hs ss → length ls ≡ m
    → TextBack n m ls hs ss text
text-back n m ls hs ss text whole check links =
    record {
      passes = check;
      links = links;
      answered = λ buffer h.
          (write_done n ls hs ss buffer check (room-written n ls hs ss buffer check h)).0
          ∙ ap (λ (t : List ℕ). done (length t ∷ [])) whole;
      bytes_back = λ buffer h.
          ap (λ (t : List ℕ). take (length t) (buffer_after n ls hs ss buffer)) (sym whole)
          ∙ front-written n ls hs ss buffer check (room-written n ls hs ss buffer check h)
          ∙ whole;
    }

-- A text that was accepted can be written, into a buffer of its own length.
read-writable : (text lows highs states : List ℕ) (n m : ℕ) → read_answer text lows highs states ≡ done (n ∷ m ∷ [])
    → CanBeWritten text
read-writable text lows highs states n m e =
    let (whole, check, links) = table-read text lows highs states n m e in
    let ls = take m (lows_after text lows highs states) in
    let hs = take m (highs_after text lows highs states) in
    let ss = take n (states_after text lows highs states) in
    let room : length (text_of n ls hs ss) ≤ length text = omega (arith, ap length whole) in (
      n,
      ls,
      hs,
      ss,
      text,
      length (text_of n ls hs ss),
      check,
      (write_done n ls hs ss text check room).0,
      front-written n ls hs ss text check room ∙ whole,
    )

-- What Write puts into a buffer is the text of its network.
writable-text : (text : List ℕ) → CanBeWritten text
    → (n : ℕ) × (lows : List ℕ) × (highs : List ℕ) × (states : List ℕ) × Accepted n lows highs states
    × (text_of n lows highs states ≡ text)
writable-text text (n, lows, highs, states, buffer, size, check, answer, front) =
    let (room, length) = size-written n lows highs states buffer check size answer in
    let whole = front-written n lows highs states buffer check room in
    (n, lows, highs, states, check, sym whole ∙ (rw length at front))

pub demand-two : DemandTwo
demand-two =
    record {
      exactly = λ text lows highs states h. (
        λ (n, m, read). read-writable text lows highs states n m read,
        λ written.
            let (n, ls, hs, ss, check, e) = writable-text text written in
            let back = table-back n ls hs ss check lows highs states (rw e h) in
            (n, length ls, rw e at back.answered),
      );
      reads_back = λ n lows highs states check buffer h.
          let room = room-written n lows highs states buffer check h in
          let front = front-written n lows highs states buffer check room in (
            length (text_of n lows highs states),
            (write_done n lows highs states buffer check room).0,
            λ to_lows to_highs to_states g.
                rw front (table-back n lows highs states check to_lows to_highs to_states (rw front at g)),
          );
      writes_back = λ text lows highs states n m e.
          let (whole, check, links) = table-read text lows highs states n m e in
          text-back n m _ _ _ text whole check links;
    }
