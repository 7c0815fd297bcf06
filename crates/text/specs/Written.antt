-- The text of a table line by line, its length, and what Write's answer and buffer are. Assumes nothing.
use Rattle.std.specs.Prelude.{ℕ, suc, ◌+◌, ◌-◌, ◌≤◌, ◌<◌, ◌≡◌, length, get_or}
use mathlib.Core.List.{List, [], ◌∷◌, ◌++◌}
use Rattle.std.proofs.Common.{◌∙◌, ap, arith, length-append}
use Rattle.definitions.specs.Network.{table_check}
use Rattle.definitions.specs.Form.{write_form}
use Rattle.definitions.specs.Text.{link_form, link_lines, write_answer, buffer_after}
use Rattle.network.specs.Answers.{refusal_of}
use Rattle.network.specs.Refusals.{refusal-then, refusal-keeps}
use Rattle.network.specs.declared.refusal.Refusal.{Refusal}

pub links-step : (lows highs : List ℕ) (i m : ℕ) → i < m
    → link_lines lows highs i (m - i)
    ≡ write_form link_form (get_or lows i 0 ∷ get_or highs i 0 ∷ []) ++ link_lines lows highs (i + 1) (m - (i + 1))
unfolding link_lines
links-step lows highs i m h =
    let e : m - i ≡ suc (m - (i + 1)) = omega arith in
    rw e

pub links_end : (lows highs : List ℕ) (i m : ℕ) → m ≤ i → link_lines lows highs i (m - i) ≡ []
unfolding link_lines
links_end lows highs i m h =
    let e : m - i ≡ 0 = omega arith in
    rw e

pub length-links-step : (lows highs : List ℕ) (i m : ℕ) → i < m
    → length (link_lines lows highs i (m - i))
    ≡ length (write_form link_form (get_or lows i 0 ∷ get_or highs i 0 ∷ [])) + length (link_lines lows highs (i + 1) (m - (i + 1)))
length-links-step lows highs i m h = ap length (links-step lows highs i m h) ∙ simp length-append

-- Write's answer and its buffer afterwards.
module _ (n : ℕ) (lows highs states buffer : List ℕ) where
  pub write-refused : (refusal : Refusal) → table_check n lows highs states ≡ refusal_of refusal
      → (write_answer n lows highs states buffer ≡ refusal_of refusal) × (buffer_after n lows highs states buffer ≡ buffer)
  unfolding write_answer buffer_after
  write-refused refusal e =
      (rw e (refusal-then refusal _), rw (e, refusal-then {A = List ℕ} {B = List ℕ} refusal _) (refusal-keeps (List ℕ) refusal _ _))
