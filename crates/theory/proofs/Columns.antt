-- The forest number and the mark of each link: over any order, and as Split and Cut write them for an accepted network.
use Rattle.std.specs.Prelude.{ℕ, ◌≤◌, ◌<◌, Bool, true, false, List, ◌≡◌, length, get_or}
use Rattle.std.proofs.Common.{◌∙◌, arith}
use Rattle.std.proofs.Math.Path.{ap}
use borrow.Author.Tests.{le-ltb}
use Rattle.std.proofs.Math.ListN.{length-map}
use Rattle.definitions.specs.Outcome.{pick, refuse_if, and_then, if_done}
use Rattle.definitions.specs.Lists.{outside}
use Rattle.definitions.specs.Network.{link_serves, Accepted}
use Rattle.definitions.specs.Order.{order_of}
use Rattle.definitions.specs.Forests.{forests_of, forests_after, mark_of, marks_of, cut_answer, marks_after}
use Rattle.definitions.specs.Demand.{Kept}
use Rattle.lists.specs.Maps.{get_or-map}
use Rattle.lists.specs.Overwritten.{get_or-overwrite}
use Rattle.lists.specs.Ranges.{inside}
use Rattle.theory.specs.ForestNumbers.{forest_in, no-forest}
use Rattle.theory.proofs.ForestBound.{forests-length, forests-at}
use Rattle.theory.proofs.SplitBound.{forests-after}

-- A list with the forest number of each link, in any order: 0 for a link that has an end without a place.
abbrev pub NumberedIn : (order lows highs forests : List ℕ) → Type 0
NumberedIn order lows highs forests = (i : ℕ) → i < length lows → get_or forests i 0 ≡ forest_in order lows highs i

-- A list with the mark of each link, by its forest number: 0 for a link that has an end without a place.
abbrev pub MarkedIn : (order lows highs : List ℕ) (k : ℕ) (marks : List ℕ) → Type 0
MarkedIn order lows highs k marks = (i : ℕ) → i < length lows → get_or marks i 0 ≡ mark_of k (forest_in order lows highs i)

-- "A link is kept if Cut marks it 1", and it does so for the links of forests 1 to k.
pub kept-forest : (order lows highs : List ℕ) (k : ℕ) (marks : List ℕ) → MarkedIn order lows highs k marks
    → (i : ℕ) → i < length lows → 1 ≤ forest_in order lows highs i → forest_in order lows highs i ≤ k → Kept marks i
unfolding mark_of
kept-forest order lows highs k marks marked i h some few =
    marked i h ∙ (rw (inside 1 k (forest_in order lows highs i) some few))

-- A mark is 0 or 1.
pub mark-small : (k forest : ℕ) → mark_of k forest ≤ 1
unfolding mark_of
mark-small k forest = go (outside 1 k forest)
  where
    go : (b : Bool) → pick b 0 1 ≤ 1
    go true = omega arith
    go false = omega arith

-- The same in the order as it is defined.
abbrev pub Numbered : (n : ℕ) (lows highs states forests : List ℕ) → Type 0
Numbered n lows highs states forests = NumberedIn (order_of n lows highs states) lows highs forests

abbrev pub Marked : (n : ℕ) (lows highs states : List ℕ) (k : ℕ) (marks : List ℕ) → Type 0
Marked n lows highs states k marks = MarkedIn (order_of n lows highs states) lows highs k marks

module _ (n : ℕ) (lows highs states : List ℕ) where
  pub mark-entry : (k i : ℕ) → i < length lows → get_or (marks_of n lows highs states k) i 0 ≡ mark_of k (forest_in (order_of n lows highs states) lows highs i)
  unfolding marks_of
  mark-entry k i h =
      get_or-map (mark_of k) (forests_of n lows highs states) i 0 0 (omega (arith, forests-length n lows highs states))
      ∙ ap (mark_of k) (forests-at n lows highs states i h)

  pub length-marks : (k : ℕ) → length (marks_of n lows highs states k) ≡ length lows
  unfolding marks_of
  length-marks k = length-map (forests_of n lows highs states) (mark_of k) ∙ forests-length n lows highs states

  -- "carry mark 0" (document 02, #105)
  pub no-mark : (k i : ℕ) → i < length lows → link_serves lows highs states i ≡ false → (marks : List ℕ) → Marked n lows highs states k marks
      → get_or marks i 0 ≡ 0
  unfolding mark_of outside
  no-mark k i h e marks marked = marked i h ∙ ap (mark_of k) (no-forest n lows highs states i h e)

  pub split-numbers : Accepted n lows highs states → (forests : List ℕ) → length lows ≤ length forests
      → Numbered n lows highs states (forests_after n lows highs states forests)
  split-numbers ok forests room i h =
      ap (λ (l : List ℕ). get_or l i 0) (forests-after n lows highs states ok forests room)
      ∙ get_or-overwrite (forests_of n lows highs states) forests i 0 (omega (arith, forests-length n lows highs states))
      ∙ forests-at n lows highs states i h

  pub cut-marks : Accepted n lows highs states → (k : ℕ) → 1 ≤ k → k ≤ 32 → (marks : List ℕ) → length lows ≤ length marks
      → Marked n lows highs states k (marks_after n lows highs states k marks)
  unfolding marks_after cut_answer and_then refuse_if if_done
  cut-marks ok k one most marks room i h =
      rw (ok, inside 1 32 k one most, le-ltb (length marks) (length lows) room)
      (get_or-overwrite (marks_of n lows highs states k) marks i 0 (omega (arith, length-marks k)) ∙ mark-entry k i h)
