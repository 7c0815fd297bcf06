-- The front of a list without its first entries. Assumes nothing.
use Rattle.std.specs.Prelude.{ℕ, zero, suc, ◌-◌, List, [], ◌∷◌, ◌≡◌, take, drop}
use Rattle.std.proofs.Common.{sym, ◌∙◌, arith}
use Rattle.std.proofs.Math.Seq.{take-nil}

pub drop-take : {A : Type 0} (p n : ℕ) (list : List A) → drop p (take n list) ≡ take (n - p) (drop p list)
drop-take zero n list = let e : n - 0 ≡ n = omega arith in rw e
drop-take (suc p) zero list = let e : 0 - suc p ≡ 0 = omega arith in rw e
drop-take (suc p) (suc n) [] = sym (take-nil (suc n - suc p))
drop-take (suc p) (suc n) (x ∷ list) = drop-take p n list ∙ (let e : n - p ≡ suc n - suc p = omega arith in rw e)
