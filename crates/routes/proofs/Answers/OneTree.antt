-- `one_tree_in` over a look-up that gives the places of `left` is the definition's test of one tree, which decides refusal 13.
use Prim.Native.Nat.{ℕ, zero, suc, ◌+◌, ◌-◌, ◌≤◌, ◌<◌}
use mathlib.Core.Bool.{Bool, true, false}
use mathlib.Core.Logic.{◌↔◌, ◌≢◌, by_cases}
use mathlib.Core.Path.{◌≡◌, refl, sym, ◌∙◌, subst}
use native.Mathlib.Decide.{ℕ_discrete, dec_lt}
use native.Mathlib.Omega.{arith}
use lib.Dec.{eqb}
use borrow.Author.Tests.{eqb-false, ne_eqb, lt-ltb, le-ltb}
use Rattle.definitions.specs.Outcome.{pick}
use Rattle.definitions.specs.Forests.{one_tree, Entry}
use Rattle.lists.specs.Searches.{clash}
use Rattle.lists.specs.Tests.{tests_same}
use Rattle.theory.specs.LeftLaws.{LeftLaws}
use Rattle.theory.proofs.Trees.{Alive, one_tree-alive, one_tree-sym}
use Rattle.routes.specs.Between.{alive_in, one_tree_in}

-- The test over the places after t is that of `Alive`.
module _ (left : ℕ → ℕ → ℕ) (look : ℕ → ℕ → Entry) (k : ℕ) (same : (x : ℕ) → (look k x).place ≡ left k x) where
  alive-from : (t gap : ℕ) → alive_in look k t gap ≡ true → Alive left k t (t + gap)
  unfolding alive_in
  alive-from t zero e = λ x above upto. absurd (omega arith)
  alive-from t (suc gap) e = go (eqb (look k (t + suc gap)).place 0) refl e (alive-from t gap)
    where
      go : (b : Bool) → eqb (look k (t + suc gap)).place 0 ≡ b → pick b false (alive_in look k t gap) ≡ true
          → (alive_in look k t gap ≡ true → Alive left k t (t + gap)) → Alive left k t (t + suc gap)
      go true eb h deeper = absurd (clash h refl)
      go false eb h deeper = λ x above upto.
          by_cases (ℕ_discrete x (t + suc gap))
          (λ at.
          subst (λ (y : ℕ). 0 < left k y) (sym at)
          (omega (arith, same (t + suc gap), eqb-false (look k (t + suc gap)).place 0 eb)))
          (λ off. deeper h x above (omega arith))

  alive-to : (t gap : ℕ) → Alive left k t (t + gap) → alive_in look k t gap ≡ true
  unfolding alive_in
  alive-to t zero alive = refl
  alive-to t (suc gap) alive =
      rw (ne_eqb (look k (t + suc gap)).place 0 (λ e. omega (arith, same (t + suc gap), alive (t + suc gap) (omega arith) (omega arith))))
      (alive-to t gap (λ x above upto. alive x above (omega arith)))

  alive-test : (t s : ℕ) → t ≤ s → (alive_in look k t (s - t) ≡ true) ↔ Alive left k t s
  alive-test t s le =
      let e : t + (s - t) ≡ s = omega arith in (
        λ h. subst (λ (x : ℕ). Alive left k t x) e (alive-from t (s - t) h),
        λ alive. alive-to t (s - t) (subst (λ (x : ℕ). Alive left k t x) (sym e) alive),
      )

module _ (left : ℕ → ℕ → ℕ) (look : ℕ → ℕ → Entry) (laws : LeftLaws left) (k p q : ℕ) (same : (x : ℕ) → (look k x).place ≡ left k x)
    (one_p : 1 ≤ p) (one_q : 1 ≤ q) (differ : p ≢ q) where
  below : (t s : ℕ) → 1 ≤ t → t < s → alive_in look k t (s - t) ≡ one_tree left k t s
  below t s one less =
      let test = alive-test left look k same t s (omega arith) in
      let tree = one_tree-alive left laws k t s one less in
      tests_same (alive_in look k t (s - t)) (one_tree left k t s) (λ e. tree.1 (test.0 e)) (λ e. test.1 (tree.0 e))

  pub one-tree-same : one_tree_in look k p q ≡ one_tree left k p q
  unfolding one_tree_in
  one-tree-same =
      by_cases (dec_lt q p)
      (λ less. rw (lt-ltb q p less) (below q p one_q less ∙ one_tree-sym left k q p))
      (λ more. rw (le-ltb q p (omega arith)) (below p q one_p (omega arith)))

  -- Where they are in one tree.
  pub one-tree-falls : q < p → one_tree_in look k p q ≡ true → Alive left k q p
  unfolding one_tree_in
  one-tree-falls less h = (alive-test left look k same q p (omega arith)).0 (rw (lt-ltb q p less) at h)

  pub one-tree-rises : p < q → one_tree_in look k p q ≡ true → Alive left k p q
  unfolding one_tree_in
  one-tree-rises less h = (alive-test left look k same p q (omega arith)).0 (rw (le-ltb q p (omega arith)) at h)
