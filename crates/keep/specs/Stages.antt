-- The list of links stage by stage: the line in front, Read, Cut, and what each answer makes of the list. Assumes nothing.
use Rattle.std.specs.Prelude.{ℕ, ◌+◌, ◌-◌, ◌≤◌, List, [], ◌∷◌, ◌≡◌, eqb, length, take, drop}
use Rattle.std.proofs.Common.{◌∙◌, ap, arith}
use Rattle.definitions.specs.Outcome.{Outcome, done, and_then}
use Rattle.definitions.specs.Lists.{overwrite, count}
use Rattle.definitions.specs.Network.{Accepted}
use Rattle.definitions.specs.Forests.{marks_of, cut_answer, marks_after}
use Rattle.definitions.specs.Form.{departs, reads, scan_form}
use Rattle.definitions.specs.Text.{Network, read_network}
use Rattle.definitions.specs.Program.{passing, room, printed}
use Rattle.definitions.specs.Keep.{keep_form, Lease, lease_for, lease_answers, keeper, leased, dropped_count, idle_count, lease_text}
use Rattle.lists.specs.Outcomes.{then-done, if-done}
use Rattle.theory.specs.Accepted.{accepted, accepted-states}
use Rattle.theory.proofs.Columns.{length-marks}
use Rattle.network.specs.Answers.{refusal_of}
use Rattle.network.specs.declared.refusal.Refusal.{Refusal}
use Rattle.network.specs.declared.refusal.Refusal.TheVariants.{Wish}
use Rattle.program.specs.Front.{longer}
use Rattle.program.specs.CutPassed.{cut-passed}
use Rattle.program.specs.ReadStage.{network_of, stage-refused, cut-rooms, line-departed, line_taken}
use Rattle.keep.specs.Lines.{EndsWithin, lines-front, count_lines, list_lines}
use Rattle.keep.specs.Listed.{keep-line}
use Rattle.keep.specs.Counts.{counts_all}

-- Cut, and the list with its marks.
unfoldable pub cut_stage : (k : ℕ) (network : Network) → Outcome Lease
cut_stage k network = passing (lease_answers (k ∷ []) network) (lease_for k network)

-- Read, and the stages behind it.
abbrev pub read_stage : List ℕ → ℕ → Outcome Lease
read_stage text k = and_then (read_network text 3000 3000 1000) (cut_stage k)

pub keep-departed : (input : List ℕ) (p : ℕ) → scan_form input keep_form 0 ≡ departs p → leased input ≡ refusal_of (Wish p)
unfolding leased
keep-departed input p e = line-departed keeper _ input p e

pub keep_taken : (input : List ℕ) (k p : ℕ) → scan_form input keep_form 0 ≡ reads (k ∷ []) p
    → (p ≤ length input) × (leased input ≡ read_stage (take (length input - p) (drop p input)) k)
unfolding leased cut_stage
keep_taken input k p e = line_taken keeper _ input (k ∷ []) p keep-line e

pub cut-refused : (n : ℕ) (lows highs states : List ℕ) (k : ℕ) (refusal : Refusal)
    → cut_answer n lows highs states k (room 3000) ≡ refusal_of refusal
    → cut_stage k (network_of n lows highs states) ≡ refusal_of refusal
unfolding cut_stage passing lease_answers
cut-refused n lows highs states k refusal e = stage-refused _ _ refusal e

-- Both ends of every link of an accepted network have a state.
pub ends-within : (n : ℕ) (lows highs states : List ℕ) → Accepted n lows highs states → EndsWithin lows highs states
ends-within n lows highs states good i h =
    let table = accepted n lows highs states good in
    let long = (accepted-states n lows highs states good).long in
    (omega (arith, table.ordered i h, table.below i h), omega (arith, table.below i h))

-- Cut answered: the list of marks that it wrote gives the lines of the list, with its answer as the count of the kept.
pub record Marked (n : ℕ) (lows highs states : List ℕ) (k kept : ℕ) (marks : List ℕ) : Type 0 where
  pub in_highs : length lows ≤ length highs
  pub in_marks : length lows ≤ length marks
  pub in_states : EndsWithin lows highs states
  pub few : kept + idle_count lows highs states ≤ length lows
  pub lines : printed lease_text (cut_stage k (network_of n lows highs states)) ≡ list_lines k lows highs states marks kept

pub cut-marked : (n : ℕ) (lows highs states : List ℕ) (k kept : ℕ) (marks marks_now : List ℕ) → Accepted n lows highs states
    → marks ≡ room 3000 → cut_answer n lows highs states k marks ≡ done (kept ∷ [])
    → marks_now ≡ marks_after n lows highs states k marks → Marked n lows highs states k kept marks_now
unfolding printed lease_text list_lines count_lines cut_stage passing lease_answers lease_for marks_after
cut-marked n lows highs states k kept marks marks_now good marks_are e after =
    let all = marks_of n lows highs states k in
    let table = accepted n lows highs states good in
    let counted = (cut-passed n lows highs states k marks (kept ∷ []) e).counted in
    let ones : kept ≡ count (eqb 1) all = cc in
    let idle = idle_count lows highs states in
    let three = counts_all n lows highs states k in
    let zeros : length lows - kept - idle ≡ dropped_count lows highs states all = omega (arith, three) in
    let size : length all ≡ length lows = length-marks n lows highs states k in
    let written : marks_now ≡ overwrite all marks = after ∙ if-done (cut_answer n lows highs states k marks) (kept ∷ []) _ _ e in
    let long : length all ≤ length marks_now = omega (arith, longer all marks, ap length written) in
    record {
      in_highs = omega (arith, table.even);
      in_marks = omega arith;
      in_states = ends-within n lows highs states good;
      few = omega (arith, three);
      lines =
          ap (printed lease_text)
          (then-done (cut_answer n lows highs states k (room 3000)) _ (kept ∷ [])
          (cut-rooms n lows highs states k marks marks_are (done (kept ∷ [])) e))
          ∙ rw (written, lines-front lows highs states all marks (length lows) 0 (omega arith), ← ones, ← zeros);
    }
