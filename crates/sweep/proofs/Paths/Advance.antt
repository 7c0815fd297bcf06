-- `advance` on a side's list is the definition's `settle` of the path that it holds: path j goes on from v to its left entry, if
-- it ends at v and the other side's path j does not. All places of the side's paths but their ends are above v. Over sides with
-- room for v.
use Prim.Native.Nat.{ℕ, ◌+◌, ◌*◌, ◌≤◌, ◌<◌}
use mathlib.Core.Bool.{Bool, true, false}
use mathlib.Core.List.{List, ◌∷◌, tail}
use mathlib.Core.Logic.{◌≢◌, by_cases}
use mathlib.Core.Path.{◌≡◌, refl, sym, ◌∙◌, ap, subst}
use native.Mathlib.Decide.{ℕ_discrete}
use native.Mathlib.Omega.{arith}
use lib.Dec.{eqb}
use lib.ListN.{length}
use borrow.Author.Tests.{eqb-true, eqb-false}
use Rattle.definitions.specs.Outcome.{pick}
use Rattle.definitions.specs.Forests.{Entry}
use Rattle.definitions.specs.Lists.{has}
use Rattle.sweep.specs.Side.{prior_start, end_in, second_in, link_in, prior_in, set_prior, extend_path, advance}
use Rattle.sweep.proofs.Paths.Side.{Chain, HoldsPath, SideHolds, held-end, held-chain, chain_same, held_same, length-set_path, prior-set_path, held-set_path-other, held-set_path, length-set_prior, end-set_prior, second-set_prior, prior-set_prior, prior-set_prior-other}
use Rattle.sweep.proofs.Paths.Trade.{held_whole}
use Rattle.theory.specs.PlaceSweep.{end_of}

module _ (look : ℕ → ℕ → Entry) (reach k c v j : ℕ) (side : List ℕ) (paths : ℕ → List ℕ) (small : k ≤ 32) (some : 0 < v) (high : v ≤ reach)
    (off : v ≢ c) (one : 1 ≤ j) (bound : j ≤ k) (held : SideHolds reach k c side paths)
    (tails : (i : ℕ) → 1 ≤ i → i ≤ k → (w : ℕ) → has (tail (paths i)) w ≡ true → v < w) where
  abbrev stored : List ℕ
  stored = set_prior side v (second_in side j) (link_in side j)

  stored-long : prior_start + (2 * reach + 1) < length stored
  stored-long = omega (arith, length-set_prior side v (second_in side j) (link_in side j), held.long)

  -- A store at v changes no path that has v as its end at most.
  stored-holds : (i : ℕ) → 1 ≤ i → i ≤ k → HoldsPath stored i (paths i)
  stored-holds i positive within =
      held_same side stored i (paths i)
      (end-set_prior side v (second_in side j) (link_in side j) i (omega arith))
      (second-set_prior side v (second_in side j) (link_in side j) i (omega arith))
      (λ y into. prior-set_prior-other side v (second_in side j) (link_in side j) y (λ e. omega (arith, tails i positive within y into)))
      (held.held i positive within)

  extend-other : (i : ℕ) → 1 ≤ i → i ≤ k → i ≢ j → HoldsPath (extend_path look v j side) i (paths i)
  unfolding extend_path
  extend-other i positive within other =
      held-set_path-other stored j (look j v) v i other (omega arith) (omega arith) (paths i) (stored-holds i positive within)

  extend-chain : Chain stored v (v ∷ tail (paths j))
  extend-chain = (
    refl,
    some,
    subst (λ (x : ℕ). Chain stored x (tail (paths j))) (sym (prior-set_prior side v (second_in side j) (link_in side j) (omega (arith, held.long))))
        (chain_same side stored (second_in side j) (tail (paths j))
        (λ y into. prior-set_prior-other side v (second_in side j) (link_in side j) y (λ e. omega (arith, tails j one bound y into)))
        (held-chain side j (paths j) (held.held j one bound))),
  )

  extend-here : end_of (paths j) ≡ v → HoldsPath (extend_path look v j side) j ((look j v).place ∷ paths j)
  unfolding extend_path
  extend-here at =
      subst (λ (p : List ℕ). HoldsPath (extend_path look v j side) j ((look j v).place ∷ p))
      (ap (λ (x : ℕ). x ∷ tail (paths j)) (sym at ∙ sym (held-end side j (paths j) (held.held j one bound)))
      ∙ held_whole side j (paths j) (held.held j one bound))
      (held-set_path stored j (look j v) v (omega (arith, stored-long)) (omega arith) (v ∷ tail (paths j)) extend-chain)

  extend-long : prior_start + (2 * reach + 1) < length (extend_path look v j side)
  unfolding extend_path
  extend-long = omega (arith, length-set_path stored j (look j v) v, stored-long)

  extend-base : prior_in (extend_path look v j side) c ≡ 0
  unfolding extend_path
  extend-base =
      prior-set_path stored j (look j v) v (omega arith) c
      ∙ prior-set_prior-other side v (second_in side j) (link_in side j) c (λ e. off (sym e)) ∙ held.base

  module _ (other : ℕ) (new : ℕ → List ℕ) (rest : (i : ℕ) → i ≢ j → new i ≡ paths i)
      (goes : end_of (paths j) ≡ v → other ≢ v → new j ≡ (look j v).place ∷ paths j)
      (meets : end_of (paths j) ≡ v → other ≡ v → new j ≡ paths j)
      (waits : end_of (paths j) ≢ v → new j ≡ paths j) where
    keeps : new j ≡ paths j → SideHolds reach k c side new
    keeps same =
        record {
          long = held.long;
          base = held.base;
          held = λ i positive within.
              subst (λ (p : List ℕ). HoldsPath side i p)
              (sym (by_cases (ℕ_discrete i j) (λ at. ap new at ∙ same ∙ ap paths (sym at)) (λ apart. rest i apart)))
              (held.held i positive within);
        }

    longer : end_of (paths j) ≡ v → other ≢ v → SideHolds reach k c (extend_path look v j side) new
    longer at apart =
        record {
          long = extend-long;
          base = extend-base;
          held = λ i positive within.
              by_cases (ℕ_discrete i j)
              (λ e.
              subst (λ (x : ℕ). HoldsPath (extend_path look v j side) x (new x)) (sym e)
              (subst (λ (p : List ℕ). HoldsPath (extend_path look v j side) j p) (sym (goes at apart)) (extend-here at)))
              (λ e. subst (λ (p : List ℕ). HoldsPath (extend_path look v j side) i p) (sym (rest i e)) (extend-other i positive within e));
        }

    pub advance-holds : SideHolds reach k c (advance look v j other side) new
    unfolding advance
    advance-holds = go (eqb (end_in side j) v) (eqb other v) refl refl
      where
        end : end_in side j ≡ end_of (paths j)
        end = held-end side j (paths j) (held.held j one bound)

        go : (a b : Bool) → eqb (end_in side j) v ≡ a → eqb other v ≡ b
            → SideHolds reach k c (pick a (pick b side (extend_path look v j side)) side) new
        go true true ea eb = keeps (meets (sym end ∙ eqb-true (end_in side j) v ea) (eqb-true other v eb))
        go true false ea eb = longer (sym end ∙ eqb-true (end_in side j) v ea) (eqb-false other v eb)
        go false true ea eb = keeps (waits (λ e. eqb-false (end_in side j) v ea (end ∙ e)))
        go false false ea eb = keeps (waits (λ e. eqb-false (end_in side j) v ea (end ∙ e)))
