-- `trade` between two indices of a side's list is theory's `trade_paths` of the paths that it holds. Over sides of at least
-- prior_start entries and indices up to 32.
use Prim.Native.Nat.{ℕ, ◌≤◌, ◌<◌}
use mathlib.Core.List.{List, [], ◌∷◌, tail}
use mathlib.Core.Logic.{◌≢◌, by_cases}
use mathlib.Core.Path.{◌≡◌, refl, sym, ◌∙◌, ap, subst}
use native.Mathlib.Decide.{ℕ_discrete}
use native.Mathlib.Omega.{arith}
use lib.Dec.{eqb}
use borrow.Author.Tests.{eq-eqb, ne_eqb}
use lib.ListN.{length}
use Rattle.definitions.specs.Outcome.{pick}
use Rattle.definitions.specs.Forests.{Entry}
use Rattle.theory.specs.PlaceSweep.{before_end}
use Rattle.theory.specs.SweepTrades.{trade_paths}
use Rattle.sweep.specs.Side.{prior_start, end_in, second_in, end_entry, prior_in, set_path, trade}
use Rattle.sweep.proofs.Paths.Side.{HoldsPath, SideHolds, held-before, held-chain, chain_same, length-set_path, prior-set_path, held-set_path-other, held-set_path}

-- A path with one more relay known of it: its end is its first.
pub held_whole : (side : List ℕ) (i : ℕ) (path : List ℕ) → HoldsPath side i path → end_in side i ∷ tail path ≡ path
held_whole side i [] h = absurd h
held_whole side i (x ∷ rest) h = ap (λ (y : ℕ). y ∷ rest) h.0

module _ (look : ℕ → ℕ → Entry) (j i : ℕ) (side : List ℕ) (long : prior_start ≤ length side) (small_j : j ≤ 32) (small_i : i ≤ 32) (apart : i ≢ j) where
  abbrev first : List ℕ
  first = set_path side j (end_entry side i) (second_in side i)

  first-long : prior_start ≤ length first
  first-long = omega (arith, length-set_path side j (end_entry side i) (second_in side i))

  trade-long : length (trade look j i side) ≡ length side
  unfolding trade
  trade-long =
      length-set_path first i (look i (second_in side j)) (second_in side j)
      ∙ length-set_path side j (end_entry side i) (second_in side i)

  trade-prior : (x : ℕ) → prior_in (trade look j i side) x ≡ prior_in side x
  unfolding trade
  trade-prior x =
      prior-set_path first i (look i (second_in side j)) (second_in side j) small_i x
      ∙ prior-set_path side j (end_entry side i) (second_in side i) small_j x

  -- The lower index has the path of the higher one, with its own left entry as the end.
  trade-lower : (path : List ℕ) → HoldsPath side j path → HoldsPath (trade look j i side) i ((look i (before_end path)).place ∷ tail path)
  unfolding trade
  trade-lower path h =
      subst (λ (x : ℕ). HoldsPath (trade look j i side) i ((look i x).place ∷ tail path)) (held-before side j path h)
      (held-set_path first i (look i (second_in side j)) (second_in side j) first-long small_i (tail path)
      (chain_same side first (second_in side j) (tail path) (λ y _. prior-set_path side j (end_entry side i) (second_in side i) small_j y)
      (held-chain side j path h)))

  -- The higher index has the path of the lower one.
  trade-higher : (path : List ℕ) → HoldsPath side i path → HoldsPath (trade look j i side) j path
  unfolding trade
  trade-higher path h =
      held-set_path-other first i (look i (second_in side j)) (second_in side j) j (λ e. apart (sym e)) small_i small_j path
      (subst (λ (p : List ℕ). HoldsPath first j p) (held_whole side i path h)
      (held-set_path side j (end_entry side i) (second_in side i) long small_j (tail path) (held-chain side i path h)))

  -- The others have their own.
  trade-other : (h : ℕ) → h ≤ 32 → h ≢ i → h ≢ j → (path : List ℕ) → HoldsPath side h path → HoldsPath (trade look j i side) h path
  unfolding trade
  trade-other h within off_i off_j path held =
      held-set_path-other first i (look i (second_in side j)) (second_in side j) h off_i small_i within path
      (held-set_path-other side j (end_entry side i) (second_in side i) h off_j small_j within path held)

pub trade-holds : (left : ℕ → ℕ → ℕ) (look : ℕ → ℕ → Entry) (reach k c j i : ℕ) (side : List ℕ) (paths : ℕ → List ℕ) → k ≤ 32 → j ≤ k → 1 ≤ i → i < j
    → ((x : ℕ) → (look i x).place ≡ left i x) → SideHolds reach k c side paths
    → SideHolds reach k c (trade look j i side) (trade_paths left j i paths)
unfolding trade_paths
trade-holds left look reach k c j i side paths small bound one less agree held =
    record {
      long = omega (arith, trade-long look j i side wide (omega arith) (omega arith) apart, held.long);
      base = trade-prior look j i side wide (omega arith) (omega arith) apart c ∙ held.base;
      held = λ h positive within.
          by_cases (ℕ_discrete h i)
          (λ at.
          subst (λ (x : ℕ). HoldsPath (trade look j i side) x (trade_paths left j i paths x)) (sym at)
          (rw (eq-eqb i i refl)
          (subst (λ (x : ℕ). HoldsPath (trade look j i side) i (x ∷ tail (paths j))) (agree (before_end (paths j)))
          (trade-lower look j i side wide (omega arith) (omega arith) apart (paths j) (held.held j (omega arith) bound)))))
          (λ off.
          rw (ne_eqb h i off)
          (by_cases (ℕ_discrete h j)
          (λ at.
          subst (λ (x : ℕ). HoldsPath (trade look j i side) x (pick (eqb x j) (paths i) (paths x))) (sym at)
          (rw (eq-eqb j j refl)
          (trade-higher look j i side wide (omega arith) (omega arith) apart (paths i) (held.held i one (omega arith)))))
          (λ off'.
          rw (ne_eqb h j off')
          (trade-other look j i side wide (omega arith) (omega arith) apart h (omega arith) off off' (paths h) (held.held h positive within)))));
    }
  where
    apart : i ≢ j
    apart e = omega arith

    wide : prior_start ≤ length side
    wide = omega (arith, held.long)
