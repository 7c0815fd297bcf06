-- What is printed of the network that a reading has left in the front of a program's lists. Assumes nothing.
use Rattle.std.specs.Prelude.{ℕ, Ok, Err, ◌≤◌, List, [], ◌∷◌, ◌≡◌, refl, length}
use Rattle.std.proofs.Common.{arith}
use Rattle.definitions.specs.Lists.{overwrite}
use Rattle.definitions.specs.Form.{write_form}
use Rattle.definitions.specs.Program.{refused_form, printed, network_text}
use Rattle.network.specs.Answers.{refusal_number, refusal_place}
use Rattle.definitions.specs.Text.{text_of}
use Rattle.network.specs.Tables.{of_table}
use Rattle.network.specs.declared.Network.{Network as Lent}
use Rattle.network.specs.declared.refusal.Refusal.{Refusal}
use Rattle.program.specs.RefusedLine.{LinePut}
use Rattle.program.specs.ReadStage.{network_outcome, whole-put}

-- A text that stands at the front of an output, and its length.
pub record Printed (before text after : List ℕ) (next : ℕ) : Type 0 where
  pub size : next ≡ length text
  pub bytes : after ≡ overwrite text before

-- The refused line, in a room for the longest network text.
pub refused-made : (refusal : Refusal) (before after : List ℕ) (next : ℕ) → 54929 ≤ length before
    → LinePut before (write_form refused_form (refusal_number refusal ∷ refusal_place refusal ∷ [])) after next
    → Printed before (printed network_text (network_outcome (Err refusal))) after next
unfolding printed
refused-made refusal before after next roomy put =
    let line = write_form refused_form (refusal_number refusal ∷ refusal_place refusal ∷ []) in
    let (size, bytes) = whole-put line line before after next refl (omega (arith, put.fits)) put.put in
    record { size = size; bytes = bytes }

-- The text of the network.
pub network-made : (network : Lent) (before after : List ℕ) (next : ℕ) → next ≡ length (of_table text_of network.table)
    → after ≡ overwrite (of_table text_of network.table) before
    → Printed before (printed network_text (network_outcome (Ok network))) after next
unfolding printed network_text
network-made network before after next size bytes = record { size = size; bytes = bytes }
