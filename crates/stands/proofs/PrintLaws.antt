-- The text that is printed for two reports, and the whole output by the line in front. Assumes nothing.
use Rattle.std.proofs.Common.{◌≡◌, ℕ, ◌-◌, ◌≤◌, List, [], ◌∷◌, length, take, drop, ap, arith}
use Rattle.definitions.specs.Outcome.{done}
use Rattle.definitions.specs.Lists.{overwrite}
use Rattle.definitions.specs.Form.{write_form}
use Rattle.definitions.specs.Program.{refused_form, printed}
use Rattle.definitions.specs.Stands.{Which, standing, text_of_which, stands_text, stands_of}
use Rattle.network.specs.Answers.{refusal_number, refusal_place, refusal_of}
use Rattle.network.specs.declared.refusal.Refusal.{Refusal}
use Rattle.text.specs.Put.{Put}
use Rattle.program.specs.Border.{Border, border-rest}
use Rattle.program.specs.ReadStage.{whole-put}
use Rattle.program.specs.RefusedLine.{LinePut}
use Rattle.stands.specs.Printed.{report_room, StandsPut, stands_at, which-fits}

module _ {before after : List ℕ} {next : ℕ} where
  -- The refused line is shorter than a report can be.
  pub line-put : (line : List ℕ) → LinePut before line after next → StandsPut before line after next
  line-put line one = record { put = one.put; fits = omega (arith, one.fits) }

  -- One of the two texts, or the refusal.
  pub chosen-put : (one other : List ℕ) (chosen : Which) → standing one other ≡ done chosen
      → Put before 0 (text_of_which one other chosen) after next → StandsPut before (stands_of one other) after next
  unfolding stands_of printed
  chosen-put one other chosen e put = rw e (record { put = put; fits = which-fits one other chosen e })

  pub refused-put : (one other : List ℕ) (refusal : Refusal) → standing one other ≡ refusal_of refusal
      → LinePut before (write_form refused_form (refusal_number refusal ∷ refusal_place refusal ∷ [])) after next
      → StandsPut before (stands_of one other) after next
  unfolding stands_of printed
  refused-put one other refusal e line = rw e (line-put _ line)

  -- The two texts as they are lent.
  pub both-put : (text : List ℕ) (size at : ℕ) → Border size text at
      → StandsPut before (stands_of (take at text) (take (length text - at) (drop at text))) after next
      → StandsPut before (stands_at size text) after next
  both-put text size at border put = rw (← border.front, ← border-rest size text at border) put

  -- The text for the input is the whole output.
  pub whole-text : (input text : List ℕ) → stands_text input ≡ text → report_room ≤ length before → StandsPut before text after next
      → (next ≡ length (stands_text input)) × (after ≡ overwrite (stands_text input) before)
  whole-text input text same room put =
      whole-put (stands_text input) text before after next same (omega (arith, put.fits, ap length same)) put.put
