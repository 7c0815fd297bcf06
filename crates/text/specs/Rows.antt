-- What reading a link line, all of them, and the end promise, in the terms of the definitions, and lists with zeros behind.
-- Assumes nothing.
use Rattle.std.specs.Prelude.{ℕ, suc, ◌+◌, ◌-◌, List, [], ◌∷◌, ◌++◌, ◌≡◌, ltb, length, take, replicate, Result, Ok, Err, IfOk}
use Rattle.definitions.specs.Outcome.{Outcome, done, refuse_if}
use Rattle.definitions.specs.Network.{link_fault}
use Rattle.definitions.specs.Text.{Network, all_states, read_end}
use Rattle.network.specs.Answers.{refusal_of}
use Rattle.network.specs.Seen.{Seen}
use Rattle.network.specs.declared.Relay.{Relay}
use Rattle.network.specs.declared.refusal.Refusal.{Refusal}

-- The refusal, or what follows from the offset behind the part that was read.
abbrev pub on_step : {A B : Type 0} → Result B Refusal → (B → Outcome A) → Outcome A
on_step (Ok p) next = next p
on_step (Err refusal) next = refusal_of refusal

-- A reading of `count` more link lines from offset p on, behind the links read so far, and then of the rest.
abbrev pub LineReading : Type 0
LineReading = (lows highs : List ℕ) (p count : ℕ) → Outcome Network

-- A link line scanned as link i, behind any links that many: it is refused, or its link is refused by its fault, and else the
-- reading goes on behind it.
abbrev pub LinkScanned : (reading : LineReading) (n i at : ℕ) → Result (Relay × Relay × ℕ) Refusal → Type 0
LinkScanned reading n i at (Ok read) =
    (lows highs : List ℕ) (count : ℕ) → length lows ≡ i → reading lows highs at (suc count)
    ≡ refuse_if (ltb 0 (link_fault n lows highs i read.0.0 read.1.0)) (link_fault n lows highs i read.0.0 read.1.0) i
    (reading (lows ++ (read.0.0 ∷ [])) (highs ++ (read.1.0 ∷ [])) read.2 count)
LinkScanned reading n i at (Err refusal) =
    (lows highs : List ℕ) (count : ℕ) → length lows ≡ i → reading lows highs at (suc count) ≡ refusal_of refusal

-- A link line as link i: the reading of what is left goes on behind it, with the link in the lists and its pair marked.
pub record LinkRead
    (reading : LineReading) (n i at : ℕ) (lows highs lows_then highs_then bits : List ℕ) (r : Result ℕ Refusal)
    : Type 0 where
  pub follows : (count : ℕ) → reading (take i lows) (take i highs) at (suc count)
      ≡ on_step r (λ p. reading (take (i + 1) lows_then) (take (i + 1) highs_then) p count)
  pub seen : IfOk r (λ p. Seen n bits (take (i + 1) lows_then) (take (i + 1) highs_then) (i + 1))
  pub same_lows : length lows_then ≡ length lows
  pub same_highs : length highs_then ≡ length highs

-- All link lines: only what comes behind the last of them is left.
pub record LinksRead (reading : LineReading) (m at : ℕ) (lows highs lows_then highs_then : List ℕ) (r : Result ℕ Refusal) : Type 0 where
  pub follows : reading [] [] at m ≡ on_step r (λ p. reading (take m lows_then) (take m highs_then) p 0)
  pub same_lows : length lows_then ≡ length lows
  pub same_highs : length highs_then ≡ length highs

-- The end: the network stands.
pub record EndRead (text : List ℕ) (at : ℕ) (r : Result ℕ Refusal) : Type 0 where
  pub follows : (n : ℕ) (lows highs states : List ℕ) → read_end text n lows highs states at
      ≡ on_step r (λ _. done (record { relays = n; lows = lows; highs = highs; states = all_states n states }))

-- The list with zeros from an index on.
unfoldable pub cleared_from : ℕ → List ℕ → List ℕ
cleared_from from list = take from list ++ replicate (length list - from) 0

-- Three lists with zeros behind what stands of a table: the links in the first two, the states in the third.
pub record Cleared (links relays : ℕ) (lows highs states lows_then highs_then states_then : List ℕ) : Type 0 where
  pub low_list : lows_then ≡ cleared_from links lows
  pub high_list : highs_then ≡ cleared_from links highs
  pub state_list : states_then ≡ cleared_from relays states
