-- What reading the `out` lines of a text promises, one of them, all of them, and the end behind them, in the terms of the
-- definitions. Assumes nothing.
use Rattle.std.specs.Prelude.{ℕ, suc, ◌+◌, ◌-◌, ◌≤◌, ◌<◌, true, List, [], ◌++◌, ◌≡◌, eqb, length, take, replicate, Result, IfOk}
use Rattle.definitions.specs.Outcome.{done}
use Rattle.definitions.specs.Form.{byte_at}
use Rattle.definitions.specs.Text.{withdrawn, read_end, read_outs}
use Rattle.text.specs.Rows.{on_step}
use Rattle.network.specs.declared.Relay.{Relay}
use Rattle.network.specs.declared.refusal.Refusal.{Refusal}

-- The list of states before and after: the relays from one up to another are in service, behind those told.
pub record ServedUpTo (from to : ℕ) (states states_then : List ℕ) : Type 0 where
  pub front : take to states_then ≡ take from states ++ replicate (to - from) 1
  pub same : length states_then ≡ length states

-- One more relay is withdrawn, and those before it are in service.
pub record WithdrawnAt (next relay : ℕ) (states states_then : List ℕ) : Type 0 where
  pub front : take (relay + 1) states_then ≡ withdrawn (take next states) relay
  pub same : length states_then ≡ length states

-- An `out` line where one is due, behind the states of the relays below `next`: the reading of what is left goes on behind it, with
-- its relay withdrawn.
pub record OutRead (text : List ℕ) (n next at : ℕ) (r : Result (Relay × ℕ) Refusal) : Type 0 where
  pub follows : (lows highs states : List ℕ) (most : ℕ) → eqb (byte_at text (at + 1)) 111 ≡ true → length states ≡ next
      → read_outs text n lows highs states at (suc most)
      ≡ on_step r (λ line. read_outs text n lows highs (withdrawn states line.0.0) line.1 most)
  pub rises : IfOk r (λ line. (next ≤ line.0.0) × (line.0.0 < n))

-- Behind some of the lines: the whole reading is that of the lines left, with the states of the relays below `next` in front of
-- the list.
pub record OutsLeft (text : List ℕ) (n at : ℕ) (states : List ℕ) (next p : ℕ) : Type 0 where
  pub within : next ≤ n
  pub most : ℕ
  pub enough : n < most + next
  pub follows : (lows highs : List ℕ)
      → read_outs text n lows highs [] at (suc n) ≡ read_outs text n lows highs (take next states) p most

-- All `out` lines: only the end is left, with the states of all relays in front of the list.
pub record OutsRead (text : List ℕ) (n at : ℕ) (states states_then : List ℕ) (r : Result ℕ Refusal) : Type 0 where
  pub follows : (lows highs : List ℕ)
      → read_outs text n lows highs [] at (suc n) ≡ on_step r (read_end text n lows highs (take n states_then))
  pub same : length states_then ≡ length states

-- The states and the end: the network stands.
pub record StatesRead (text : List ℕ) (n at : ℕ) (states states_then : List ℕ) (r : Result ℕ Refusal) : Type 0 where
  pub follows : (lows highs : List ℕ) → read_outs text n lows highs [] at (suc n)
      ≡ on_step r (λ _. done (record { relays = n; lows = lows; highs = highs; states = take n states_then }))
  pub same : length states_then ≡ length states
