-- A link entered in the left table or passed over, in the code's terms. Assumes nothing.
use Prim.Native.Nat.{ℕ, suc, ◌≤◌, ◌<◌}
use mathlib.Core.Bool.{true, false}
use mathlib.Core.List.{List}
use mathlib.Core.Path.{◌≡◌, ◌∙◌, ap}
use borrow.Author.Tests.{le-leb, lt-leb}
use lib.Dec.{leb}
use lib.ListN.{get_or, set}
use Rattle.lists.specs.Tests.{and-all, and-false}
use Rattle.forests.specs.Left.{left_index, later_at, earlier_at, is_entered, entered, end_entered}

-- Forests 1 to k are entered, no forest and those past the k-th are not.
pub is-entered : (k forest : ℕ) → 1 ≤ forest → forest ≤ k → is_entered k forest ≡ true
is-entered k forest some few = and-all (leb 1 forest) (leb forest k) (le-leb 1 forest some) (le-leb forest k few)

pub no-forest-entered : (k forest : ℕ) → forest < 1 → is_entered k forest ≡ false
no-forest-entered k forest none = rw (lt-leb 1 forest none)

pub none-past-entered : (k forest : ℕ) → k < forest → is_entered k forest ≡ false
none-past-entered k forest past = rw (lt-leb forest k past) (and-false (leb 1 forest))

module _ (k i : ℕ) (lows highs places forests : List ℕ) where
  pub entered-some : (n : ℕ) (table table' : List ℕ) (late : ℕ) → is_entered k (get_or forests i 0) ≡ true
      → late ≡ later_at lows highs places i → table' ≡ set table (left_index n (get_or forests i 0) late) (suc i)
      → table' ≡ entered n k i lows highs places forests table
  unfolding entered
  entered-some n table table' late h l t = rw h (t ∙ ap (λ v. set table (left_index n (get_or forests i 0) v) (suc i)) l)

  pub entered-none : (n : ℕ) (table : List ℕ) → is_entered k (get_or forests i 0) ≡ false
      → table ≡ entered n k i lows highs places forests table
  unfolding entered
  entered-none n table h = rw h

  pub end-some : (early : ℕ) → is_entered k (get_or forests i 0) ≡ true → early ≡ earlier_at lows highs places i
      → set forests i early ≡ end_entered k i lows highs places forests
  unfolding end_entered
  end-some early h e = rw h (ap (set forests i) e)

  pub end_none : is_entered k (get_or forests i 0) ≡ false → forests ≡ end_entered k i lows highs places forests
  unfolding end_entered
  end_none h = rw h
