-- `trade_from` on a side's list, down through the indices below j, is theory's `trades_from` of the paths that it holds, and so the
-- definition's `downshift` (theory/SweepTrades). Over k up to 32 and a `look` with the places of `left` on the indices 1 to k.
use Prim.Native.Nat.{ℕ, zero, suc, pred, ◌≤◌, ◌<◌}
use mathlib.Core.Bool.{Bool, true, false}
use mathlib.Core.List.{List}
use mathlib.Core.Path.{◌≡◌, refl, sym, ◌∙◌, ap}
use native.Mathlib.Omega.{arith}
use lib.Dec.{eqb}
use borrow.Author.Tests.{ne_eqb}
use Rattle.definitions.specs.Outcome.{pick}
use Rattle.definitions.specs.Forests.{Entry}
use Rattle.theory.specs.PlaceSweep.{end_of, downshift}
use Rattle.theory.specs.SweepTrades.{trade_paths, trades_from, trades-downshift}
use Rattle.sweep.specs.Side.{end_in, trade, trade_at, trade_from}
use Rattle.sweep.proofs.Paths.Side.{SideHolds, held-end, side_same}
use Rattle.sweep.proofs.Paths.Trade.{trade-holds}

module _ (left : ℕ → ℕ → ℕ) (look : ℕ → ℕ → Entry) (reach k c j v : ℕ) (ends : ℕ → Bool) (paths : ℕ → List ℕ) (one : 1 ≤ j) (bound : j ≤ k) (small : k ≤ 32)
    (top : (h : ℕ) → 1 ≤ h → h ≤ k → ends h ≡ true → h ≤ j)
    (agree : (i x : ℕ) → 1 ≤ i → i ≤ k → (look i x).place ≡ left i x)
    (same : (i : ℕ) → 1 ≤ i → i ≤ k → ends i ≡ eqb (end_of (paths i)) v) where
  -- The turn at an index that still has its own path.
  turn_holds : (i : ℕ) → suc i < j → (side : List ℕ) (now : ℕ → List ℕ) → now (suc i) ≡ paths (suc i) → SideHolds reach k c side now
      → SideHolds reach k c (trade_at look v j (suc i) side) (pick (ends (suc i)) (trade_paths left j (suc i) now) now)
  unfolding trade_at
  turn_holds i less side now own held = go (ends (suc i)) refl
    where
      test : eqb (end_in side (suc i)) v ≡ ends (suc i)
      test =
          ap (λ (x : ℕ). eqb x v)
          (held-end side (suc i) (now (suc i)) (held.held (suc i) (omega arith) (omega arith)) ∙ ap end_of own)
          ∙ sym (same (suc i) (omega arith) (omega arith))

      go : (b : Bool) → ends (suc i) ≡ b
          → SideHolds reach k c (pick (eqb (end_in side (suc i)) v) (trade look j (suc i) side) side) (pick b (trade_paths left j (suc i) now) now)
      go true e =
          rw (test ∙ e)
          (trade-holds left look reach k c j (suc i) side now small bound (omega arith) less
          (λ x. agree (suc i) x (omega arith) (omega arith)) held)
      go false e = rw (test ∙ e) held

  -- It leaves the lower indices alone.
  lower-kept : (i : ℕ) → suc i < j → (now : ℕ → List ℕ) (h : ℕ) → h ≤ i
      → pick (ends (suc i)) (trade_paths left j (suc i) now) now h ≡ now h
  unfolding trade_paths
  lower-kept i less now h le = go (ends (suc i))
    where
      go : (b : Bool) → pick b (trade_paths left j (suc i) now) now h ≡ now h
      go true = rw (ne_eqb h (suc i) (λ e. omega arith), ne_eqb h j (λ e. omega arith))
      go false = refl

  turns-hold : (i : ℕ) → i < j → (side : List ℕ) (now : ℕ → List ℕ) → ((h : ℕ) → h ≤ i → now h ≡ paths h) → SideHolds reach k c side now
      → SideHolds reach k c (trade_from look v j i side) (trades_from left j ends i now)
  unfolding trade_from trades_from
  turns-hold zero less side now own held = held
  turns-hold (suc i) less side now own held =
      turns-hold i (omega arith) (trade_at look v j (suc i) side) (pick (ends (suc i)) (trade_paths left j (suc i) now) now)
      (λ h le. lower-kept i less now h le ∙ own h (omega arith)) (turn_holds i less side now (own (suc i) (omega arith)) held)

  -- One side after its trades at v.
  pub downshift-holds : (side : List ℕ) → SideHolds reach k c side paths
      → SideHolds reach k c (trade_from look v j (pred j) side) (downshift left k j ends paths)
  downshift-holds side held =
      side_same reach k c (trade_from look v j (pred j) side) (trades_from left j ends (pred j) paths) (downshift left k j ends paths)
      (λ h positive within. sym (trades-downshift left k j ends paths one bound top h positive within))
      (turns-hold (pred j) (omega arith) side paths (λ h le. refl) held)
