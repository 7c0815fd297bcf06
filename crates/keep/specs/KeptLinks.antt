-- What a list of links holds: a line for each link by its forest number and the states of its ends, with the counts of each form;
-- and the kept links do what all the links do while fewer than k relays are dead. Rests on the certificate.
use Prim.Native.Nat.{ℕ, zero, suc, ◌+◌, ◌≤◌, ◌<◌}
use Rattle.std.specs.Prelude.{Bool, true, false, ◌↔◌, ◌≡◌, eqb, length}
use Rattle.std.proofs.Common.{true≢false, ◌∙◌, arith}
use mathlib.Core.List.{List, [], ◌∷◌, ◌++◌}
use Rattle.std.proofs.Math.Path.{refl, ap, ap₂}
use Rattle.std.proofs.Math.ListN.{get_or}
use Rattle.definitions.specs.Outcome.{pick}
use Rattle.definitions.specs.Lists.{table, count, join_all}
use Rattle.definitions.specs.Network.{link_serves, Accepted}
use Rattle.definitions.specs.Forests.{forests_of, marks_of}
use Rattle.definitions.specs.Form.{Item, write_form}
use Rattle.definitions.specs.Keep.{kept_link_form, dropped_link_form, idle_link_form, lease_line, lease_lines, dropped_count, idle_count, lease_text}
use Rattle.definitions.specs.DisjointRoutes.{LinkOf, InService}
use Rattle.definitions.specs.Demand.{Joined, Kept, Live, dead_count}
use Rattle.definitions.specs.KeepPromise.{dispensable, link_line, LeaseHolds}
use Rattle.theory.specs.JoinedRelays.{joined-map}
use Rattle.theory.proofs.Certificate.{survives}
use Rattle.theory.proofs.Columns.{mark-entry}
use Rattle.keep.specs.Listed.{lease_of}
use Rattle.keep.specs.Counts.{count_ones, mark-at, count-dropped, counts_all}

module _ (n : ℕ) (lows highs states : List ℕ) (k : ℕ) where
  mark-kept : (i : ℕ) → i < length lows → Kept (marks_of n lows highs states k) i ↔ (dispensable n lows highs states k i ≡ false)
  mark-kept i h = go (dispensable n lows highs states k i) (mark-at n lows highs states k i h)
    where
      go : (t : Bool) → get_or (marks_of n lows highs states k) i 0 ≡ pick t 0 1 → (get_or (marks_of n lows highs states k) i 0 ≡ 1) ↔ (t ≡ false)
      go true e = (λ one. absurd (omega arith), λ same. absurd (true≢false same))
      go false e = (λ _. refl, λ _. e)

  -- A line by the mark is the line by the forest number.
  line_as : (i : ℕ) → i < length lows
      → lease_line (get_or (marks_of n lows highs states k) i 0) (link_serves lows highs states i) i (get_or lows i 0) (get_or highs i 0)
      ≡ link_line n lows highs states k i
  unfolding lease_line link_line
  line_as i h =
      ap (λ (mark : ℕ). write_form (pick (eqb mark 1) kept_link_form other) numbers) (mark-at n lows highs states k i h)
      ∙ go (dispensable n lows highs states k i)
    where
      numbers : List ℕ
      numbers = i ∷ get_or lows i 0 ∷ get_or highs i 0 ∷ []

      other : List Item
      other = pick (link_serves lows highs states i) dropped_link_form idle_link_form

      go : (t : Bool) → write_form (pick (eqb (pick t 0 1) 1) kept_link_form other) numbers ≡ write_form (pick t other kept_link_form) numbers
      go true = refl
      go false = refl

  lines-as : (count i : ℕ) → i + count ≤ length lows
      → lease_lines lows highs states (marks_of n lows highs states k) i count ≡ join_all (table (link_line n lows highs states k) i count)
  unfolding lease_lines join_all table
  lines-as zero i h = refl
  lines-as (suc count) i h = ap₂ ◌++◌ (line_as i (omega arith)) (lines-as count (i + 1) (omega arith))

  -- The certificate, over the links that have a `keep` line.
  keeps-joined : Accepted n lows highs states → 1 ≤ k → (dead : ℕ → Bool) → dead_count n states dead < k → (a b : ℕ)
      → Joined (Live n states dead) (LinkOf lows highs (λ i. dispensable n lows highs states k i ≡ false)) a b
      ↔ Joined (Live n states dead) (LinkOf lows highs (InService lows highs states)) a b
  keeps-joined ok one dead few a b =
      let same = survives n lows highs states ok k one (marks_of n lows highs states k) (mark-entry n lows highs states k) dead few a b in (
        λ chain. same.0 (joined-map (λ r. r) (λ r l. l) (λ r s l. (l.0, l.1, l.2, (mark-kept l.0 l.1).1 l.3)) chain),
        λ chain. joined-map (λ r. r) (λ r l. l) (λ r s l. (l.0, l.1, l.2, (mark-kept l.0 l.1).0 l.3)) (same.1 chain),
      )

  pub lease-holds : Accepted n lows highs states → 1 ≤ k
      → LeaseHolds n lows highs states k (lease_text (lease_of k (record { relays = n; lows = lows; highs = highs; states = states })))
  unfolding lease_text marks_of idle_count
  lease-holds ok one =
      record {
        kept = count (eqb 1) (marks_of n lows highs states k);
        dropped = dropped_count lows highs states (marks_of n lows highs states k);
        idle = idle_count lows highs states;
        text = rw (lines-as (length lows) 0 (omega arith));
        kept_are = count_ones k (forests_of n lows highs states);
        dropped_are = count-dropped n lows highs states k;
        idle_are = refl;
        all = counts_all n lows highs states k;
        marked = mark-kept;
        survives = λ dead few a b la lb. keeps-joined ok one dead few a b;
      }
