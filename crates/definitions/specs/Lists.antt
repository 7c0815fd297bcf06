-- Plain functions on lists, tests and indices that the definitions share. They know nothing of networks.
-- Assumes nothing.
use Rattle.std.specs.Prelude.{ℕ, zero, suc, ◌+◌, ◌<◌, max, Bool, true, false, ◌||◌, List, [], ◌∷◌, ◌++◌, ◌≡◌, eqb, ltb, length, drop, replicate}
use Rattle.definitions.specs.Outcome.{pick}

-- f i, f (i + 1), and so on: `count` entries.
unfoldable pub table : {A : Type 0} → (ℕ → A) → ℕ → ℕ → List A
table f i zero = []
table f i (suc count) = f i ∷ table f (i + 1) count

-- `old` with `new` written over its front: "success changes no entry past those named".
unfoldable pub overwrite : List ℕ → List ℕ → List ℕ
overwrite new old = new ++ drop (length new) old

-- A list of zeros as long as `old`.
unfoldable pub zeroed : List ℕ → List ℕ
zeroed old = replicate (length old) 0

-- x is below `low` or above `high`.
unfoldable pub outside : ℕ → ℕ → ℕ → Bool
outside low high x = ltb x low || ltb high x

-- Some number below `bound` passes the test.
unfoldable pub some_below : (ℕ → Bool) → ℕ → Bool
some_below test zero = false
some_below test (suc i) = test i || some_below test i

-- The largest number from 1 to `bound` that passes the test, or 0.
unfoldable pub largest : (ℕ → Bool) → ℕ → ℕ
largest test zero = 0
largest test (suc i) = pick (test (suc i)) (suc i) (largest test i)

-- The first of the `count` numbers from i on that passes the test, or 0.
unfoldable pub first_from : (ℕ → Bool) → ℕ → ℕ → ℕ
first_from test i zero = 0
first_from test i (suc count) = pick (test i) i (first_from test (suc i) count)

-- `list` with x behind it where the test holds.
unfoldable pub snoc_if : Bool → List ℕ → ℕ → List ℕ
snoc_if true list x = list ++ (x ∷ [])
snoc_if false list x = list

-- The numbers from 1 to `bound` that pass the test, rising.
unfoldable pub rising : (ℕ → Bool) → ℕ → List ℕ
rising test zero = []
rising test (suc i) = snoc_if (test (suc i)) (rising test i) (suc i)

-- `list` with x before it where the test holds.
unfoldable pub cons_if : Bool → ℕ → List ℕ → List ℕ
cons_if true x list = x ∷ list
cons_if false x list = list

-- The entries that pass the test, in their order.
unfoldable pub keep : (ℕ → Bool) → List ℕ → List ℕ
keep test [] = []
keep test (x ∷ list) = cons_if (test x) x (keep test list)

-- x is in the list.
unfoldable pub has : List ℕ → ℕ → Bool
has [] x = false
has (y ∷ list) x = eqb y x || has list x

-- How many entries pass the test.
unfoldable pub count : (ℕ → Bool) → List ℕ → ℕ
count test [] = 0
count test (x ∷ list) = pick (test x) 1 0 + count test list

-- Where x stands first in the list, counted from i; 0 if nowhere.
unfoldable pub position_from : ℕ → List ℕ → ℕ → ℕ
position_from i [] x = 0
position_from i (y ∷ list) x = pick (eqb y x) i (position_from (suc i) list x)

-- Where x stands first in the list, counted from 1; 0 if nowhere.
unfoldable pub position : List ℕ → ℕ → ℕ
position list x = position_from 1 list x

unfoldable pub total : List ℕ → ℕ
total [] = 0
total (x ∷ list) = x + total list

unfoldable pub greatest : List ℕ → ℕ
greatest [] = 0
greatest (x ∷ list) = max x (greatest list)

unfoldable pub join_all : List (List ℕ) → List ℕ
join_all [] = []
join_all (list ∷ lists) = list ++ join_all lists

-- No number stands twice.
abbrev pub NoRepeat : (list : List ℕ) → Type 0
NoRepeat [] = Unit {0}
NoRepeat (x ∷ list) = (has list x ≡ false) × NoRepeat list

-- Every number is below the bound.
abbrev pub AllBelow : ℕ → List ℕ → Type 0
AllBelow bound [] = Unit {0}
AllBelow bound (x ∷ values) = (x < bound) × AllBelow bound values
