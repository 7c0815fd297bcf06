-- What the import leaves in the front of a program's lists, and what is printed of it. Assumes nothing.
use Rattle.std.proofs.Common.{ℕ, List, [], ◌∷◌, ◌≡◌, sym, ◌∙◌, ap, subst, length}
use Rattle.definitions.specs.Outcome.{Outcome, done}
use Rattle.definitions.specs.Text.{Network}
use Rattle.definitions.specs.Dimacs.{import_network, import_answer, import_lows, import_highs, import_states}
use Rattle.definitions.specs.Program.{printed, network_text}
use Rattle.definitions.specs.Import.{import_text}
use Rattle.text_theory.specs.ImportProof.{import-promise, import-outcome}
use Rattle.network.specs.Answers.{refusal_of}
use Rattle.network.specs.declared.refusal.Refusal.{Refusal}
use Rattle.program.specs.Made.{Printed}
use Rattle.program.specs.ReadStage.{Rooms, FrontTable, reading-refused, reading-done}

pub import-refused : (text lows highs states : List ℕ) (refusal : Refusal) → Rooms lows highs states
    → refusal_of refusal ≡ import_answer text lows highs states → refusal_of refusal ≡ import_network text 3000 3000 1000
unfolding import_answer
import-refused text lows highs states refusal rooms told =
    sym (reading-refused (import_network text) lows highs states refusal rooms (sym told))

pub import-table : (text lows highs states : List ℕ) (n m : ℕ) (lows_now highs_now states_now : List ℕ) → Rooms lows highs states
    → done (n ∷ m ∷ []) ≡ import_answer text lows highs states → lows_now ≡ import_lows text lows highs states
    → highs_now ≡ import_highs text lows highs states → states_now ≡ import_states text lows highs states
    → FrontTable (import_network text 3000 3000 1000) n m lows_now highs_now states_now
unfolding import_answer import_lows import_highs import_states
import-table text lows highs states n m lows_now highs_now states_now rooms told low high state =
    rw (low, high, state)
    (reading-done (import_network text) lows highs states n m rooms
    (λ network e. ((import-promise (length lows) (length highs) (length states)).imported text network e).accepted) (sym told))

-- What is printed for an input.
pub imported-printed : (input before after : List ℕ) (next : ℕ) (outcome : Outcome Network) → outcome ≡ import_network input 3000 3000 1000
    → Printed before (printed network_text outcome) after next → Printed before (import_text input) after next
unfolding import_text
imported-printed input before after next outcome loaded put =
    subst (λ (text : List ℕ). Printed before text after next)
    (ap (printed network_text) (loaded ∙ sym (import-outcome input))) put
