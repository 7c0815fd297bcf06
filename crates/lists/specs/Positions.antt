-- Where a number stands in a list, counted from 1.
use Rattle.std.specs.Prelude.{ℕ, zero, suc, ◌+◌, ◌<◌, Bool, true, false, ◌||◌, List, [], ◌∷◌, ◌≡◌, refl, eqb, length, get_or}
use Rattle.std.proofs.lemmas.Bool.{false≢true}
use Rattle.std.proofs.Common.{◌∙◌, ap, arith, eqb-true}
use Rattle.definitions.specs.Outcome.{pick}
use Rattle.definitions.specs.Lists.{has, position_from, position, NoRepeat}
use Rattle.lists.specs.Members.{has-at}
use Rattle.lists.specs.Distinct.{same_index}
use Rattle.lists.specs.Tests.{or-false}

from-which : (i : ℕ) (l : List ℕ) (x : ℕ) → has l x ≡ true
    → (j : ℕ) × (j < length l) × (position_from i l x ≡ i + j) × (get_or l j 0 ≡ x)
unfolding has position_from
from-which i [] x h = absurd (false≢true h)
from-which i (y ∷ l) x h = go (eqb y x) refl h (from-which (suc i) l x)
  where
    go : (b : Bool) → eqb y x ≡ b → (b || has l x) ≡ true
        → (has l x ≡ true → (j : ℕ) × (j < length l) × (position_from (suc i) l x ≡ suc i + j) × (get_or l j 0 ≡ x))
        → (j : ℕ) × (j < suc (length l)) × (pick b i (position_from (suc i) l x) ≡ i + j) × (get_or (y ∷ l) j 0 ≡ x)
    go true e t rest = (zero, omega arith, omega arith, eqb-true y x e)
    go false e t rest =
        let r = rest t in
        (suc r.0, omega (arith, r.1), omega (arith, r.2), r.3)

pub position-which : (l : List ℕ) (x : ℕ) → has l x ≡ true
    → (j : ℕ) × (j < length l) × (position l x ≡ suc j) × (get_or l j 0 ≡ x)
unfolding position
position-which l x h =
    let r = from-which 1 l x h in
    (r.0, r.1, omega (arith, r.2), r.3)

pub position_at : (l : List ℕ) → NoRepeat l → (j : ℕ) → j < length l → position l (get_or l j 0) ≡ suc j
position_at l d j h =
    let r = position-which l (get_or l j 0) (has-at l j h) in
    r.2 ∙ ap suc (same_index l d r.0 j r.1 h r.3)

from-absent : (i : ℕ) (l : List ℕ) (x : ℕ) → has l x ≡ false → position_from i l x ≡ 0
unfolding has position_from
from-absent i [] x h = refl
from-absent i (y ∷ l) x h =
    let both = or-false (eqb y x) (has l x) h in
    rw both.0 (from-absent (suc i) l x both.1)

pub position_absent : (l : List ℕ) (x : ℕ) → has l x ≡ false → position l x ≡ 0
unfolding position
position_absent l x h = from-absent 1 l x h
