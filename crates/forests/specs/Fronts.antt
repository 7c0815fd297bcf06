-- A list of which the front alone is written. Assumes nothing.
use Rattle.std.specs.Prelude.{ℕ, ◌≤◌, List, ◌≡◌, length, get_or}

-- The list has its length still, and its entries behind the first `front`.
pub record SameBeyond (front : ℕ) (list list' : List ℕ) : Type 0 where
  pub long : length list' ≡ length list
  pub rest : (j : ℕ) → front ≤ j → get_or list' j 0 ≡ get_or list j 0
