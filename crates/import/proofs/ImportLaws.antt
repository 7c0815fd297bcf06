-- How the definition imports a text by what its `p` line gave, and the import's promises from what was read.
use Rattle.std.specs.Prelude.{Result, Ok, Err}
use Prim.Native.Nat.{ℕ, ◌-◌, ◌≤◌, ◌<◌}
use mathlib.Core.List.{List, [], ◌∷◌}
use mathlib.Core.Path.{◌≡◌, sym, ◌∙◌, ap}
use native.Mathlib.Omega.{arith}
use lib.ListN.{length, take, replicate}
use borrow.Author.Tests.{lt-ltb, le-ltb}
use Rattle.definitions.specs.Outcome.{done, refuse_if}
use Rattle.definitions.specs.Form.{departs, reads, on_scan}
use Rattle.definitions.specs.Text.{sized}
use Rattle.definitions.specs.Dimacs.{
  problem_form,
  scan_comments,
  scan_line,
  read_edges,
  import_network,
  import_answer,
  import_lows,
  import_highs,
  import_states,
}
use Rattle.network.specs.Answers.{refusal_of}
use Rattle.network.specs.declared.refusal.Refusal.{Refusal}
use Rattle.network.specs.declared.refusal.Refusal.TheVariants.{DrawingForm}
use Rattle.text.specs.Answers.{read_outcome}
use Rattle.text.specs.Outs.{ServedUpTo}
use Rattle.text.specs.Rows.{on_step}
use Rattle.text.specs.Tables.{ReadWhole}
use Rattle.text.specs.declared.TableSize.{TableSize}
use Rattle.import.specs.Edges.{LastRead}

-- Behind the last `e` line: a comment that departs, something other than comments, or the end of the text.
module _ (text : List ℕ) (at p : ℕ) where
  pub last-departs : scan_comments text at (length text) ≡ departs p → LastRead text at (Err (DrawingForm p))
  unfolding read_edges on_scan
  last-departs e = record { follows = λ n lows highs. rw e }

  pub last_more : scan_comments text at (length text) ≡ reads [] p → p < length text → LastRead text at (Err (DrawingForm p))
  unfolding read_edges on_scan refuse_if
  last_more e h = record { follows = λ n lows highs. rw (e, lt-ltb p (length text) h) }

  pub last-over : scan_comments text at (length text) ≡ reads [] p → length text ≤ p → LastRead text at (Ok p)
  unfolding read_edges on_scan refuse_if
  last-over e h = record { follows = λ n lows highs. rw (e, le-ltb p (length text) h) }

-- The `p` line departs, or tells n and m.
module _ (text : List ℕ) (room_lows room_highs room_states : ℕ) where
  pub problem-departs : (p : ℕ) → scan_line text problem_form 0 ≡ departs p
      → import_network text room_lows room_highs room_states ≡ refusal_of (DrawingForm p)
  unfolding import_network on_scan
  problem-departs p e = rw e

  pub problem-read : (n m p : ℕ) → scan_line text problem_form 0 ≡ reads (n ∷ m ∷ []) p
      → import_network text room_lows room_highs room_states ≡ sized n m room_lows room_highs room_states (read_edges text n [] [] p m)
  unfolding import_network on_scan
  problem-read n m p e = rw e

-- Behind the last `e` line: a refusal stands, or all relays are in service.
module _ (text : List ℕ) (n p : ℕ) (lows highs : List ℕ) (r : Result ℕ Refusal) (last : LastRead text p r) where
  abbrev Behind : (states : List ℕ) → Type 0
  Behind states =
      read_edges text n lows highs p 0
      ≡ on_step r (λ _. done (record { relays = n; lows = lows; highs = highs; states = states }))

  pub last-refused : (states : List ℕ) (refusal : Refusal) → r ≡ Err refusal → Behind states
  last-refused states refusal e =
      last.follows n lows highs
      ∙ ap (λ (s : Result ℕ Refusal). on_step s (λ _. done (record { relays = n; lows = lows; highs = highs; states = replicate n 1 }))) e
      ∙ sym (ap (λ (s : Result ℕ Refusal). on_step s (λ _. done (record { relays = n; lows = lows; highs = highs; states = states }))) e)

  pub last-serves : (states states_then : List ℕ) → ServedUpTo 0 n states states_then → Behind (take n states_then)
  last-serves states states_then served =
      let relays : n - 0 ≡ n = omega arith in
      let all : replicate n 1 ≡ take n states_then = sym (rw relays at served.front) in
      last.follows n lows highs
      ∙ ap (λ (s : List ℕ). on_step r (λ _. done (record { relays = n; lows = lows; highs = highs; states = s }))) all

-- The import's promises.
pub import-promises : (text lows highs states lows_end highs_end states_end : List ℕ) (r : Result TableSize Refusal)
    → ReadWhole (import_network text (length lows) (length highs) (length states)) lows highs states lows_end highs_end states_end r
    → (read_outcome r ≡ import_answer text lows highs states) × ((lows_end ≡ import_lows text lows highs states)
    × ((highs_end ≡ import_highs text lows highs states) × (states_end ≡ import_states text lows highs states)))
unfolding import_answer import_lows import_highs import_states
import-promises text lows highs states lows_end highs_end states_end r promises =
    (promises.answer, (promises.low_list, (promises.high_list, promises.state_list)))
