-- What a set of reports leaves in the front of the lists, and what is printed of it by the line in front. Assumes nothing.
use Prim.Native.Nat.{ℕ, ◌-◌, ◌≤◌}
use mathlib.Core.List.{List, [], ◌∷◌}
use mathlib.Core.Path.{◌≡◌, sym, ◌∙◌, ap}
use native.Mathlib.Omega.{arith}
use lib.ListN.{length, take, drop}
use Rattle.definitions.specs.Lists.{overwrite}
use Rattle.definitions.specs.Form.{departs, reads, scan_form, write_form}
use Rattle.definitions.specs.Program.{refused_form, printed, network_text}
use Rattle.definitions.specs.ReportSets.{
  reports_network,
  reports_answer,
  reports_lows,
  reports_highs,
  reports_states,
  reports_form,
  reporter,
  reported,
  reports_text,
}
use Rattle.text_theory.specs.Programs.{read-alone}
use Rattle.text_theory.specs.ReportProof.{report-promise}
use Rattle.text_theory.specs.ReportsPrinted.{reports-line}
use Rattle.network.specs.Answers.{refusal_of, refusal_number, refusal_place}
use Rattle.network.specs.declared.refusal.Refusal.TheVariants.{Wish}
use Rattle.definitions.specs.Outcome.{done}
use Rattle.network.specs.declared.refusal.Refusal.{Refusal}
use Rattle.program.specs.Made.{Printed}
use Rattle.program.specs.ReadStage.{Rooms, FrontTable, reading-refused, reading-done, whole-put, line-departed, line_taken}
use Rattle.program.specs.RefusedLine.{LinePut}

pub reports-refused : (n : ℕ) (text lows highs states : List ℕ) (refusal : Refusal) → Rooms lows highs states
    → refusal_of refusal ≡ reports_answer n text lows highs states → refusal_of refusal ≡ reports_network n text 3000 3000 1000
unfolding reports_answer
reports-refused n text lows highs states refusal rooms told =
    sym (reading-refused (reports_network n text) lows highs states refusal rooms (sym told))

pub reports-table : (n : ℕ) (text lows highs states : List ℕ) (relays m : ℕ) (lows_now highs_now states_now : List ℕ) → Rooms lows highs states
    → done (relays ∷ m ∷ []) ≡ reports_answer n text lows highs states → lows_now ≡ reports_lows n text lows highs states
    → highs_now ≡ reports_highs n text lows highs states → states_now ≡ reports_states n text lows highs states
    → FrontTable (reports_network n text 3000 3000 1000) relays m lows_now highs_now states_now
unfolding reports_answer reports_lows reports_highs reports_states
reports-table n text lows highs states relays m lows_now highs_now states_now rooms told low high state =
    rw (low, high, state)
    (reading-done (reports_network n text) lows highs states relays m rooms
    (λ network e.
    let taken = (report-promise n (length lows) (length highs) (length states)).taken text network e in
    rw (← taken.size) at taken.accepted) (sym told))

-- The line in front departs: the refused line is the whole output.
pub line_refused : (input before after : List ℕ) (next p : ℕ) → scan_form input reports_form 0 ≡ departs p → 54929 ≤ length before
    → LinePut before (write_form refused_form (refusal_number (Wish p) ∷ refusal_place (Wish p) ∷ [])) after next
    → (next ≡ length (reports_text input)) × (after ≡ overwrite (reports_text input) before)
unfolding reports_text reported printed
line_refused input before after next p e roomy line =
    let told = ap (printed network_text) (line-departed reporter (λ _ network. network) input p e) in
    whole-put (reports_text input) _ before after next told (omega (arith, line.fits, ap length told)) line.put

-- It is read: the set behind it decides.
pub set-taken : (input : List ℕ) (n p : ℕ) → scan_form input reports_form 0 ≡ reads (n ∷ []) p
    → (p ≤ length input)
    × (reports_text input ≡ printed network_text (reports_network n (take (length input - p) (drop p input)) 3000 3000 1000))
unfolding reports_text reported
set-taken input n p e =
    let taken = line_taken reporter (λ _ network. network) input (n ∷ []) p reports-line e in
    (taken.0, ap (printed network_text) (taken.1 ∙ read-alone (reports_network n (take (length input - p) (drop p input)) 3000 3000 1000)))

pub set-printed : (input before after : List ℕ) (next n p : ℕ) → scan_form input reports_form 0 ≡ reads (n ∷ []) p
    → Printed before (printed network_text (reports_network n (take (length input - p) (drop p input)) 3000 3000 1000)) after next
    → (next ≡ length (reports_text input)) × (after ≡ overwrite (reports_text input) before)
set-printed input before after next n p e put = rw (set-taken input n p e).1 (put.size, put.bytes)
