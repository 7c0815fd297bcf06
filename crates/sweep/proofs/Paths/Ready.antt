-- What the invariant of theory/SweepInvariant says of one side before v, in the terms of the side's list: which paths end at v,
-- and that all other places of its paths are above v, before and after the downshift. Over any `left` with the laws.
use Prim.Native.Nat.{ℕ, ◌≤◌, ◌<◌}
use mathlib.Core.Bool.{Bool, true, false}
use mathlib.Core.List.{List, [], ◌∷◌, tail}
use mathlib.Core.Path.{◌≡◌, refl, sym, ◌∙◌, subst}
use native.Mathlib.Omega.{arith}
use lib.Dec.{eqb}
use borrow.Author.Tests.{eq-eqb, ne_eqb}
use Rattle.definitions.specs.Lists.{has}
use Rattle.definitions.specs.Sweep as Sweep
use Rattle.lists.specs.Searches.{clash}
use Rattle.lists.specs.Cases.{has_here, has_there, has-nil}
use Rattle.theory.specs.PlaceSweep.{end_of, downshift}
use Rattle.theory.specs.LeftLaws.{LeftLaws}
use Rattle.theory.proofs.SweepPaths.{trail-from}
use Rattle.theory.proofs.SweepSide.{Standing, waits, stands, Ready, Highest}
use Rattle.theory.specs.SweepShift.{Came, stays, moves, takes, came}

has-tail : (path : List ℕ) (w : ℕ) → has (tail path) w ≡ true → has path w ≡ true
has-tail [] w h = h
has-tail (x ∷ rest) w h = has_there x rest w h

module _ (left : ℕ → ℕ → ℕ) (laws : LeftLaws left) (k s c v : ℕ) (opens ends : ℕ → Bool) (paths : ℕ → List ℕ)
    (ready : Ready left k s c v opens ends paths) where
  pub ready-ends : 0 < v → (i : ℕ) → 1 ≤ i → i ≤ k → ends i ≡ eqb (end_of (paths i)) v
  unfolding Sweep.end_of
  ready-ends some i one le = go (ends i) refl
    where
      above : (path : List ℕ) → ((w : ℕ) → has path w ≡ true → v < w) → end_of path ≡ v → ⊥
      above [] over e = omega arith
      above (x ∷ rest) over e = omega (arith, over x (has_here x rest))

      off : (b : Bool) → opens i ≡ b → ends i ≡ false → end_of (paths i) ≡ v → ⊥
      off true opn e = ready.ends_not i one le opn e
      off false shut e = above (paths i) (ready.closed_above i one le shut)

      go : (b : Bool) → ends i ≡ b → ends i ≡ eqb (end_of (paths i)) v
      go true e = e ∙ sym (eq-eqb (end_of (paths i)) v (ready.ends_at i one le e))
      go false e = e ∙ sym (ne_eqb (end_of (paths i)) v (off (opens i) refl e))

  ready-tails : (i : ℕ) → 1 ≤ i → i ≤ k → (w : ℕ) → has (tail (paths i)) w ≡ true → v < w
  ready-tails i one le w h = go (opens i) refl
    where
      standing : Standing left k s c i v (paths i) → v < w
      standing (waits less shape) = absurd (clash (subst (λ (p : List ℕ). has (tail p) w ≡ true) shape h) (has-nil w))
      standing (stands o) =
          omega (arith, o.high, trail-from left laws k c o.before o.rest o.trail w (subst (λ (p : List ℕ). has (tail p) w ≡ true) o.shape h))

      go : (b : Bool) → opens i ≡ b → v < w
      go true opn = standing (ready.standing i one le opn)
      go false shut = ready.closed_above i one le shut w (has-tail (paths i) w h)

  pub shifted-tails : (j : ℕ) → Highest k j opens ends → (i : ℕ) → 1 ≤ i → i ≤ k → (w : ℕ)
      → has (tail (downshift left k j ends paths i)) w ≡ true → v < w
  shifted-tails j high i one le w = go (came left k j ends paths high.one high.bound high.top i one le)
    where
      go : {n : ℕ} {result : List ℕ} → Came left j ends paths i n result → has (tail result) w ≡ true → v < w
      go (stays _ _ e) h = ready-tails i one le w (subst (λ (p : List ℕ). has (tail p) w ≡ true) e h)
      go {n} (moves _ _ less upto e) h =
          ready-tails n (omega arith) (omega (arith, high.bound)) w (subst (λ (p : List ℕ). has (tail p) w ≡ true) e h)
      go {n} (takes _ _ positive upto e) h =
          ready-tails n positive (omega (arith, high.bound)) w (subst (λ (p : List ℕ). has (tail p) w ≡ true) e h)
