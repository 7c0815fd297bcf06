-- What Split leaves in its list: the forest numbers, and so the bound of each forest, one forest for each link with both ends in
-- service and none for every other, and the counts that add up.
use Prim.Native.Nat.{ℕ, ◌-◌, ◌≤◌, ◌<◌}
use Rattle.std.proofs.Math.Bool.{true, false}
use mathlib.Core.List.{List, [], ◌∷◌}
use Rattle.std.specs.Prelude.{◌≡◌, take}
use Rattle.std.proofs.Math.Path.{ap}
use Rattle.std.proofs.Common.{sym, ◌∙◌}
use native.Mathlib.Omega.{arith}
use borrow.Author.Tests.{le-ltb}
use Rattle.std.proofs.Math.Dec.{eqb, ltb}
use Rattle.std.proofs.Math.ListN.{length, get_or}
use Rattle.std.proofs.Math.Seq.{take-length}
use Rattle.definitions.specs.Outcome.{done, refuse_if}
use Rattle.definitions.specs.Lists.{table, overwrite, count, total, greatest}
use Rattle.definitions.specs.Network.{link_serves, table_check, Accepted}
use Rattle.definitions.specs.Order.{serving_relays}
use Rattle.definitions.specs.Forests.{forests_of, split_answer, forests_after}
use Rattle.lists.specs.Outcomes.{refuse-not, then-done, if-done}
use Rattle.lists.specs.Overwritten.{get_or-overwrite, take-overwrite}
use Rattle.theory.proofs.ForestBound.{forests-length, forests-bound, forests-range, forests-none, forests-total}

-- The base, of an accepted table.
module _ (n : ℕ) (lows highs states : List ℕ) (ok : Accepted n lows highs states) where
  pub forests-after : (old : List ℕ) → length lows ≤ length old
      → forests_after n lows highs states old ≡ overwrite (forests_of n lows highs states) old
  unfolding forests_after split_answer
  forests-after old h =
      let short = ltb (length old) (length lows) in
      let value = greatest (forests_of n lows highs states) ∷ [] in
      if-done (split_answer n lows highs states old) value (overwrite (forests_of n lows highs states) old) old
      (then-done (table_check n lows highs states) (λ _. refuse_if short 12 0 (done value)) [] ok
      ∙ refuse-not short 12 0 (done value) (le-ltb (length old) (length lows) h))

  split-front : (old : List ℕ) → length lows ≤ length old
      → take (length lows) (forests_after n lows highs states old) ≡ forests_of n lows highs states
  split-front old h =
      let forests = forests_of n lows highs states in
      ap (take (length lows)) (forests-after old h)
      ∙ take-overwrite forests old (length lows) (omega (arith, forests-length n lows highs states))
      ∙ ap (λ (k : ℕ). take k forests) (sym (forests-length n lows highs states))
      ∙ take-length forests

  pub split-bound : (old : List ℕ) → length lows ≤ length old → (i : ℕ) → 1 ≤ i → i ≤ length (serving_relays n states)
      → count (eqb i) (take (length lows) (forests_after n lows highs states old)) ≤ length (serving_relays n states) - i
  split-bound old h i some within = rw (split-front old h) (forests-bound n lows highs states ok i some)

  pub split-total : (old : List ℕ) → length lows ≤ length old
      → total
      (table (λ i. count (eqb i) (take (length lows) (forests_after n lows highs states old))) 1 (length (serving_relays n states)))
      ≡ count (link_serves lows highs states) (table (λ i. i) 0 (length lows))
  split-total old h = rw (split-front old h) (forests-total n lows highs states ok)

  split-entry : (old : List ℕ) → length lows ≤ length old → (i : ℕ) → i < length lows
      → get_or (forests_after n lows highs states old) i 0 ≡ get_or (forests_of n lows highs states) i 0
  split-entry old h i k =
      ap (λ (l : List ℕ). get_or l i 0) (forests-after old h)
      ∙ get_or-overwrite (forests_of n lows highs states) old i 0 (omega (arith, forests-length n lows highs states))

  pub split-in-one : (old : List ℕ) → length lows ≤ length old → (i : ℕ) → i < length lows → link_serves lows highs states i ≡ true
      → (1 ≤ get_or (forests_after n lows highs states old) i 0)
      × (get_or (forests_after n lows highs states old) i 0 < length (serving_relays n states))
  split-in-one old h i k e = rw (split-entry old h i k) (forests-range n lows highs states ok i k e)

  pub split-in-none : (old : List ℕ) → length lows ≤ length old → (i : ℕ) → i < length lows → link_serves lows highs states i ≡ false
      → get_or (forests_after n lows highs states old) i 0 ≡ 0
  split-in-none old h i k e = split-entry old h i k ∙ forests-none n lows highs states ok i k e
