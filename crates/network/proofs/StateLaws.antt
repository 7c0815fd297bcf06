-- The test of the states, all entries gathered in one number: it is above 1 exactly if the greatest of them is. Assumes nothing.
use Prim.Native.Nat.{ℕ, ◌+◌, max, ◌<◌}
use mathlib.Core.Bool.{Bool, true, false, not, ◌||◌}
use mathlib.Core.List.{List}
use mathlib.Core.Logic.{◌≢◌}
use mathlib.Core.Path.{◌≡◌, refl, sym, ◌∙◌, ap}
use native.Mathlib.Numerals.{add-one}
use native.Mathlib.Omega.{arith}
use borrow.Author.Tests.{lt-ltb, le-ltb, ltb-true, ltb-false, eq-eqb, ne_eqb}
use lib.Bits.{bit_or, and_le_l, and_le_r, or_lt, or_add_and}
use lib.Dec.{eqb, ltb}
use lib.ListN.{length, get_or, take}
use lib.Seq.{take_all}
use Rattle.definitions.specs.Lists.{greatest}
use Rattle.definitions.specs.Network.{states_fault}
use Rattle.lists.specs.Greatest.{greatest-next}
use Rattle.lists.specs.Tests.{or_left}

-- The number gathered from the first i entries is above 1 exactly if the greatest of them is.
abbrev pub Gathered : (states : List ℕ) (i all : ℕ) → Type 0
Gathered states i all = ltb 1 all ≡ ltb 1 (greatest (take i states))

pub none_yet : (states : List ℕ) → Gathered states 0 0
unfolding greatest
none_yet states = refl

-- One number more in both.
both-above : (a most x : ℕ) → ltb 1 a ≡ ltb 1 most → ltb 1 (bit_or a x) ≡ ltb 1 (max most x)
both-above a most x e = go (ltb 1 a) (ltb 1 x) refl refl
  where
    go : (first second : Bool) → ltb 1 a ≡ first → ltb 1 x ≡ second → ltb 1 (bit_or a x) ≡ ltb 1 (max most x)
    go true second p q =
        lt-ltb 1 (bit_or a x) (omega (arith, ltb-true 1 a p, or_add_and a x, and_le_r a x))
        ∙ sym (lt-ltb 1 (max most x) (omega (arith, ltb-true 1 most (sym e ∙ p))))
    go false true p q =
        lt-ltb 1 (bit_or a x) (omega (arith, ltb-true 1 x q, or_add_and a x, and_le_l a x))
        ∙ sym (lt-ltb 1 (max most x) (omega (arith, ltb-true 1 x q)))
    go false false p q =
        let within = or_lt 1 a x (omega (arith, ltb-false 1 a p)) (omega (arith, ltb-false 1 x q)) in
        le-ltb 1 (bit_or a x) (omega (arith, within))
        ∙ sym (le-ltb 1 (max most x) (omega (arith, ltb-false 1 most (sym e ∙ p), ltb-false 1 x q)))

pub one_more : (states : List ℕ) (i all : ℕ) → i < length states → Gathered states i all
    → Gathered states (i + 1) (bit_or all (get_or states i 0))
one_more states i all h gathered =
    both-above all (greatest (take i states)) (get_or states i 0) gathered
    ∙ ap (ltb 1) (sym (greatest-next states i h) ∙ ap (λ (j : ℕ). greatest (take j states)) (sym (add-one i)))

module _ (n : ℕ) (states : List ℕ) where
  pub not_as_long : length states ≢ n → true ≡ states_fault n states
  unfolding states_fault
  not_as_long other =
      sym (or_left (not (eqb (length states) n)) (ltb 1 (greatest states)) (ap not (ne_eqb (length states) n other)))

  pub all-gathered : (i all : ℕ) → length states ≡ n → i ≡ length states → Gathered states i all
      → ltb 1 all ≡ states_fault n states
  unfolding states_fault
  all-gathered i all long end gathered =
      gathered
      ∙ ap (λ (l : List ℕ). ltb 1 (greatest l)) (take_all i states (omega arith))
      ∙ sym (ap (λ (t : Bool). not t || ltb 1 (greatest states)) (eq-eqb (length states) n long))
