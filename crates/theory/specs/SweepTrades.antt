-- The shift of one side as a loop: going down through the indices below j, each whose path ends at v gets the path of j with
-- its own left entry as the end, and j gets its path. It comes to the same as replace and exchange.
-- Over any family of paths, any set of indices `ends` and any j that is at least each of them.
use Prim.Native.Nat.{ℕ, zero, suc, pred, ◌≤◌, ◌<◌}
use Rattle.std.proofs.Math.Decide.{ℕ_discrete}
use native.Mathlib.Omega.{arith}
use Rattle.std.specs.Prelude.{Bool, ◌⊎◌, ◌≢◌, ◌≡◌}
use Rattle.std.proofs.Math.Bool.{true, false}
use mathlib.Core.List.{List, ◌∷◌, tail}
use Rattle.std.proofs.Common.{inl, inr, ◌∙◌}
use Rattle.std.proofs.Math.Logic.{by_cases}
use Rattle.std.proofs.Math.Path.{refl, sym, ap, subst}
use Rattle.std.proofs.Math.Dec.{eqb}
use borrow.Author.Tests.{eqb-true, eq-eqb, ne_eqb}
use Rattle.definitions.specs.Outcome.{pick}
use Rattle.definitions.specs.Lists.{largest, first_from}
use Rattle.definitions.specs.Sweep.{together}
use Rattle.lists.specs.Searches.{clash, largest-none, First, first_holds, first-same}
use Rattle.theory.specs.PlaceSweep.{before_end, downshift}
use Rattle.theory.specs.SweepShift.{source, Came, stays, moves, takes, came, together-cases, together-ends, together-high}

-- The path of another index with left(i, its last but one) as its end.
abbrev pub own_end : (ℕ → ℕ → ℕ) → ℕ → List ℕ → List ℕ
own_end left i path = left i (before_end path) ∷ tail path

-- Index i gets the path of index j with its own end, and j gets the path of i.
unfoldable pub trade_paths : (left : ℕ → ℕ → ℕ) (j i : ℕ) (paths : ℕ → List ℕ) (h : ℕ) → List ℕ
trade_paths left j i paths h = pick (eqb h i) (own_end left i (paths j)) (pick (eqb h j) (paths i) (paths h))

-- The same for those of the indices i, …, 1 that end at v, one after another.
unfoldable pub trades_from : (ℕ → ℕ → ℕ) → ℕ → (ℕ → Bool) → ℕ → (ℕ → List ℕ) → ℕ → List ℕ
trades_from left j ends zero paths = paths
trades_from left j ends (suc i) paths = trades_from left j ends i (pick (ends (suc i)) (trade_paths left j (suc i) paths) paths)

module _ (left : ℕ → ℕ → ℕ) (k j : ℕ) (ends : ℕ → Bool) (paths : ℕ → List ℕ) (one : 1 ≤ j) (bound : j ≤ k)
    (top : (h : ℕ) → 1 ≤ h → h ≤ k → ends h ≡ true → h ≤ j) where
  -- The first index above i, up to j, that is j or ends at v.
  abbrev next_up : ℕ → ℕ
  next_up i = first_from (together ends j) (suc i) k

  next-holds : (i : ℕ) → i < j → First (together ends j) (suc i) j (next_up i)
  next-holds i less = first_holds (together ends j) k (suc i) j less (omega arith) (together-high ends j)

  -- The paths when the indices above i have traded.
  record Traded (i : ℕ) (now : ℕ → List ℕ) : Type 0 where
    lower : (h : ℕ) → h ≤ i → now h ≡ paths h
    ended : (h : ℕ) → i < h → h < j → ends h ≡ true → now h ≡ own_end left h (paths (next_up h))
    others : (h : ℕ) → i < h → h ≢ j → ends h ≡ false → now h ≡ paths h
    high : now j ≡ paths (next_up i)

  trade-step : (i : ℕ) (now : ℕ → List ℕ) → suc i < j → Traded (suc i) now
      → Traded i (pick (ends (suc i)) (trade_paths left j (suc i) now) now)
  unfolding trade_paths
  trade-step i now less before = go (ends (suc i)) refl
    where
      go : (b : Bool) → ends (suc i) ≡ b → Traded i (pick b (trade_paths left j (suc i) now) now)
      go true e =
          record {
            lower = λ h le. rw (ne_eqb h (suc i) (omega arith), ne_eqb h j (omega arith)) (before.lower h (omega arith));
            ended = λ h above under at.
                by_cases (ℕ_discrete h (suc i))
                (λ same.
                subst (λ (x : ℕ). trade_paths left j (suc i) now x ≡ own_end left x (paths (next_up x))) (sym same)
                (rw (eq-eqb (suc i) (suc i) refl) (ap (own_end left (suc i)) before.high)))
                (λ differ. rw (ne_eqb h (suc i) differ, ne_eqb h j (omega arith)) (before.ended h (omega arith) under at));
            others = λ h above other off.
                by_cases (ℕ_discrete h (suc i))
                (λ same. absurd (clash e (subst (λ (x : ℕ). ends x ≡ false) same off)))
                (λ differ. rw (ne_eqb h (suc i) differ, ne_eqb h j other) (before.others h (omega arith) other off));
            high =
                let self : First (together ends j) (suc i) (suc i) (suc i) =
                record { from = omega arith; upto = omega arith; passes = together-ends ends j (suc i) e; least = λ y above below. absurd (omega arith) } in
                let found : suc i ≡ next_up i = first-same self (next-holds i (omega arith)) (next-holds i (omega arith)).from (omega arith) in
                rw (ne_eqb j (suc i) (omega arith), eq-eqb j j refl) (before.lower (suc i) (omega arith) ∙ ap paths found);
          }
      go false e =
          record {
            lower = λ h le. before.lower h (omega arith);
            ended = λ h above under at.
                by_cases (ℕ_discrete h (suc i))
                (λ same. absurd (clash (subst (λ (x : ℕ). ends x ≡ true) same at) e))
                (λ differ. before.ended h (omega arith) under at);
            others = λ h above other off.
                by_cases (ℕ_discrete h (suc i)) (λ same. before.lower h (omega arith)) (λ differ. before.others h (omega arith) other off);
            high = before.high ∙ ap paths (sym found);
          }
        where
          here : (together ends j (suc i) ≡ true → ⊥)
          here h = not-here (together-cases ends j (suc i) h)
            where
              not-here : (ends (suc i) ≡ true) ⊎ (suc i ≡ j) → ⊥
              not-here (inl at) = clash at e
              not-here (inr same) = omega arith

          n : First (together ends j) (suc i) j (next_up i)
          n = next-holds i (omega arith)

          m : First (together ends j) (suc (suc i)) j (next_up (suc i))
          m = next-holds (suc i) less

          found : next_up i ≡ next_up (suc i)
          found =
              first-same n m (omega (arith, m.from))
              (by_cases (ℕ_discrete (next_up i) (suc i))
              (λ same. absurd (here (subst (λ (x : ℕ). together ends j x ≡ true) same n.passes)))
              (λ differ. omega (arith, n.from)))

  trades-hold : (i : ℕ) (now : ℕ → List ℕ) → i < j → Traded i now → Traded 0 (trades_from left j ends i now)
  unfolding trades_from
  trades-hold zero now less before = before
  trades-hold (suc i) now less before =
      trades-hold i (pick (ends (suc i)) (trade_paths left j (suc i) now) now) (omega arith) (trade-step i now less before)

  -- The source of j is the lowest, and of an index below j that ends at v the next higher one.
  source-high : source k j ends j ≡ next_up 0
  unfolding source
  source-high = go (eqb (largest ends k) 0) refl
    where
      only : (ends (next_up 0) ≡ true) ⊎ (next_up 0 ≡ j) → ends (next_up 0) ≡ false → j ≡ next_up 0
      only (inl at) off = absurd (clash at off)
      only (inr same) off = sym same

      go : (b : Bool) → eqb (largest ends k) 0 ≡ b
          → pick b j (pick (together ends j j) (pick (eqb j j) (first_from (together ends j) 1 k) (first_from (together ends j) (suc j) k)) j) ≡ next_up 0
      go true e =
          let n : First (together ends j) 1 j (next_up 0) = next-holds 0 one in
          only (together-cases ends j (next_up 0) n.passes)
          (largest-none ends k (eqb-true (largest ends k) 0 e) (next_up 0) n.from (omega (arith, n.upto)))
      go false e = rw (together-high ends j, eq-eqb j j refl)

  source-low : (i : ℕ) → 1 ≤ i → i ≤ k → i ≢ j → ends i ≡ true → source k j ends i ≡ next_up i
  unfolding source
  source-low i positive le other at = go (eqb (largest ends k) 0) refl
    where
      go : (b : Bool) → eqb (largest ends k) 0 ≡ b
          → pick b i (pick (together ends j i) (pick (eqb i j) (first_from (together ends j) 1 k) (first_from (together ends j) (suc i) k)) i) ≡ next_up i
      go true e = absurd (clash at (largest-none ends k (eqb-true (largest ends k) 0 e) i positive le))
      go false e = rw (together-ends ends j i at, ne_eqb i j other)

  pub trades-downshift : (h : ℕ) → 1 ≤ h → h ≤ k → trades_from left j ends (pred j) paths h ≡ downshift left k j ends paths h
  trades-downshift h positive le =
      by_cases (ℕ_discrete h j)
      (λ same. subst (λ (x : ℕ). trades_from left j ends (pred j) paths x ≡ downshift left k j ends paths x) (sym same)
      (at_high (came left k j ends paths one bound top j one bound)))
      (λ other. below other (ends h) refl (came left k j ends paths one bound top h positive le))
    where
      start : Traded (pred j) paths
      start =
          record {
            lower = λ h le. refl;
            ended = λ h above under at. absurd (omega arith);
            others = λ h above other off. refl;
            high = ap paths (first-same self (next-holds (pred j) (omega arith)) (omega (arith, (next-holds (pred j) (omega arith)).from)) (omega arith));
          }
        where
          self : First (together ends j) j j j
          self = record { from = omega arith; upto = omega arith; passes = together-high ends j; least = λ y above below. absurd (omega arith) }

      end : Traded 0 (trades_from left j ends (pred j) paths)
      end = trades-hold (pred j) paths (omega arith) start

      at_high : Came left j ends paths j (source k j ends j) (downshift left k j ends paths j)
          → trades_from left j ends (pred j) paths j ≡ downshift left k j ends paths j
      at_high (stays off from same) = end.high ∙ ap paths (sym source-high ∙ from) ∙ sym same
      at_high (moves at into less upto same) = absurd (omega arith)
      at_high (takes is at from upto same) = end.high ∙ ap paths (sym source-high) ∙ sym same

      below : h ≢ j → (b : Bool) → ends h ≡ b → Came left j ends paths h (source k j ends h) (downshift left k j ends paths h)
          → trades_from left j ends (pred j) paths h ≡ downshift left k j ends paths h
      below other true e (stays off from same) = absurd (clash e off)
      below other true e (moves at into less upto same) =
          end.ended h positive (omega (arith, top h positive le e)) e ∙ ap (λ (n : ℕ). own_end left h (paths n)) (sym (source-low h positive le other e)) ∙ sym same
      below other true e (takes is at from upto same) = absurd (other is)
      below other false e (stays off from same) = end.others h positive other e ∙ sym same
      below other false e (moves at into less upto same) = absurd (clash at e)
      below other false e (takes is at from upto same) = absurd (other is)
