-- What a printed list of links promises, as one statement about `keep_text`: every input gets a list whose kept links do what all
-- the links do while fewer than k relays are dead, or the line of the first refusal met. The statement is a type; the crate
-- `keep` proves it. Assumes nothing.
use Rattle.std.specs.Prelude.{ℕ, ◌+◌, ◌<◌, Bool, false, ◌&&◌, not, List, [], ◌∷◌, ◌++◌, ◌↔◌, ◌≡◌, length, get_or}
use Rattle.definitions.specs.Outcome.{pick}
use Rattle.definitions.specs.Lists.{table, outside, count, join_all}
use Rattle.definitions.specs.Network.{link_serves, Accepted}
use Rattle.definitions.specs.Forests.{forests_of, marks_of}
use Rattle.definitions.specs.Form.{write_form}
use Rattle.definitions.specs.Text.{Network, end_form}
use Rattle.definitions.specs.Program.{input_room}
use Rattle.definitions.specs.Promised.{Promised}
use Rattle.definitions.specs.Plan.{kept_form}
use Rattle.definitions.specs.Keep.{lease_form, kept_link_form, dropped_link_form, idle_link_form, dropped_form, withdrawn_form, keeper, keep_text}
use Rattle.definitions.specs.DisjointRoutes.{LinkOf, InService}
use Rattle.definitions.specs.Demand.{Joined, Kept, Live, dead_count}

-- Link i is in none of the forests 1 to k.
unfoldable pub dispensable : (n : ℕ) (lows highs states : List ℕ) (k i : ℕ) → Bool
dispensable n lows highs states k i = outside 1 k (get_or (forests_of n lows highs states) i 0)

-- The line of link i: kept where it is in one of these forests, else dropped, or idle where it has a withdrawn end.
unfoldable pub link_line : (n : ℕ) (lows highs states : List ℕ) (k i : ℕ) → List ℕ
link_line n lows highs states k i =
    write_form
    (pick (dispensable n lows highs states k i) (pick (link_serves lows highs states i) dropped_link_form idle_link_form) kept_link_form)
    (i ∷ get_or lows i 0 ∷ get_or highs i 0 ∷ [])

-- The list of a network cut to k: a line for each link in the order of the table, and how many there are of each form.
pub record LeaseHolds (n : ℕ) (lows highs states : List ℕ) (k : ℕ) (printed : List ℕ) : Type 0 where
  pub kept : ℕ
  pub dropped : ℕ
  pub idle : ℕ
  pub text : printed
      ≡ write_form lease_form (k ∷ []) ++
      (join_all (table (link_line n lows highs states k) 0 (length lows)) ++
      (write_form kept_form (kept ∷ []) ++
      (write_form dropped_form (dropped ∷ []) ++ (write_form withdrawn_form (idle ∷ []) ++ write_form end_form []))))
  pub kept_are : kept ≡ count (λ f. not (outside 1 k f)) (forests_of n lows highs states)
  pub dropped_are : dropped
      ≡ count (λ i. link_serves lows highs states i && dispensable n lows highs states k i) (table (λ i. i) 0 (length lows))
  pub idle_are : idle ≡ count (λ i. not (link_serves lows highs states i)) (table (λ i. i) 0 (length lows))
  pub all : kept + (dropped + idle) ≡ length lows
  -- The kept links are those that Cut marks 1.
  pub marked : (i : ℕ) → i < length lows → Kept (marks_of n lows highs states k) i ↔ (dispensable n lows highs states k i ≡ false)
  -- "Whichever relays are found dead afterwards, if they are fewer than k, any two different live ones are joined through live relays
  -- over the kept links exactly when they are joined through live relays over all the links." (demand 3)
  pub survives : (dead : ℕ → Bool) → dead_count n states dead < k → (a b : ℕ) → Live n states dead a → Live n states dead b
      → Joined (Live n states dead) (LinkOf lows highs (λ i. dispensable n lows highs states k i ≡ false)) a b
      ↔ Joined (Live n states dead) (LinkOf lows highs (InService lows highs states)) a b

-- The text is the list of the network that was read, cut to the number of the line.
pub record LeasePrinted (line : List ℕ) (network : Network) (text : List ℕ) : Type 0 where
  pub k : ℕ
  pub asked : line ≡ k ∷ []
  pub accepted : Accepted network.relays network.lows network.highs network.states
  pub holds : LeaseHolds network.relays network.lows network.highs network.states k text

abbrev pub KeepPromise : Type 0
KeepPromise = Promised keeper LeasePrinted input_room keep_text
