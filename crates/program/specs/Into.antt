-- What the answer of printing into a lent list stands for, and the list afterwards. Assumes nothing.
use Rattle.std.specs.Prelude.{ℕ, Result, Ok, Err, ◌≤◌, ◌<◌, List, [], ◌∷◌, ◌≡◌, refl}
use Rattle.std.proofs.Common.{◌∙◌, arith, lt-ltb, le-ltb}
use Rattle.std.proofs.Math.Path.{ap}
use Rattle.std.proofs.Math.ListN.{length}
use Rattle.definitions.specs.Outcome.{done, Answer, refuse_if, if_done}
use Rattle.definitions.specs.Program.{print_answer, output_after}
use Rattle.network.specs.Answers.{refusal_of}
use Rattle.network.specs.declared.refusal.Refusal.TheVariants.{Room}
use Rattle.text.specs.Put.{Put}
use Rattle.lists.specs.Stores.{sets-overwrite}
use Rattle.network.specs.declared.refusal.Refusal.{Refusal}

abbrev pub print_outcome : Result ℕ Refusal → Answer
print_outcome (Ok size) = done (size ∷ [])
print_outcome (Err refusal) = refusal_of refusal

module _ (text output : List ℕ) where
  pub print-short : length output < length text → (refusal_of Room ≡ print_answer text output) × (output ≡ output_after text output)
  unfolding print_answer output_after refuse_if if_done
  print-short short = rw (lt-ltb (length output) (length text) short) (refl, refl)

  pub print-done : (after : List ℕ) (end : ℕ) → length text ≤ length output → Put output 0 text after end
      → (done (end ∷ []) ≡ print_answer text output) × (after ≡ output_after text output)
  unfolding print_answer output_after refuse_if if_done
  print-done after end long put =
      let ends : end ≡ length text = omega (arith, put.ends) in
      rw (le-ltb (length output) (length text) long) (
        ap (λ (n : ℕ). done (n ∷ [])) ends,
        put.bytes ∙ sets-overwrite text output long,
      )
