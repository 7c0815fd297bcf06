-- The laws of counts. Assumes nothing.
use Prim.Native.Nat.{ℕ, zero, suc, ◌+◌, ◌≤◌, ◌<◌}
use mathlib.Core.Bool.{true}
use mathlib.Core.List.{List}
use mathlib.Core.Path.{◌≡◌, refl, ◌∙◌, ap}
use native.Mathlib.Omega.{arith}
use borrow.Author.Tests.{eq-eqb, ne_eqb}
use lib.ListN.{get_or, replicate}
use Rattle.definitions.specs.Network.{serves}
use Rattle.definitions.specs.Order.{all_relays, serving_relays}
use Rattle.lists.specs.Members.{range-has}
use Rattle.lists.specs.Counting.{covers}
use Rattle.lists.specs.Tables.{get_or-zeros, length-table}
use Rattle.theory.specs.ServingRelays.{serving-once, serving-below, serving-serves}
use Rattle.forests.specs.Counts.{raised_count, forest_number, NoneBeyond, turns_of}

pub raised-none : (count : ℕ) → count ≡ 0 → raised_count count ≡ 0
unfolding raised_count
raised-none count e = rw (eq-eqb count 0 e)

pub raised-some : (count : ℕ) → 0 < count → raised_count count ≡ count + 1
unfolding raised_count
raised-some count h = rw (ne_eqb count 0 (λ e. omega arith))

pub raised-most : (count : ℕ) → raised_count count ≤ count + 1
raised-most zero = omega (arith, raised-none zero refl)
raised-most (suc count) = omega (arith, raised-some (suc count) (omega arith))

pub number-none : (count old : ℕ) → count ≡ 0 → forest_number count old ≡ old
unfolding forest_number
number-none count old e = rw (eq-eqb count 0 e)

pub number-some : (count old : ℕ) → 0 < count → forest_number count old ≡ count
unfolding forest_number
number-some count old h = rw (ne_eqb count 0 (λ e. omega arith))

-- Of a waiting relay's count and the number that stands there one is 0, so their sum is the number.
pub number-sum : (count old : ℕ) → (0 < count → old ≡ 0) → old + count ≡ forest_number count old
number-sum zero old fresh = omega (arith, number-none zero old refl)
number-sum (suc count) old fresh = omega (arith, fresh (omega arith), number-some (suc count) old (omega arith))

pub number_small : (count old : ℕ) → (0 < count → old ≡ 0) → count < 65536 → old < 65536 → old + count < 65536
number_small zero old fresh few short = omega arith
number_small (suc count) old fresh few short = omega (arith, fresh (omega arith))

pub none-counted : (size : ℕ) (counts : List ℕ) → counts ≡ replicate size 0 → NoneBeyond 0 counts
none-counted size counts e r h = ap (λ (l : List ℕ). get_or l r 0) e ∙ get_or-zeros size r

-- Where as many relays are in service as there are, all are.
pub all-serve : (n : ℕ) (states : List ℕ) → n ≤ turns_of n states → (r : ℕ) → r < n → serves states r ≡ true
unfolding all_relays
all-serve n states all r below =
    serving-serves n states r
    (covers (all_relays n) (serving_relays n states) (serving-once n states)
    (λ x h. let less = serving-below n states x h in range-has 0 n x (omega arith) (omega arith))
    (omega (arith, length-table (λ (q : ℕ). q) 0 n)) r (range-has 0 n r (omega arith) (omega arith)))
