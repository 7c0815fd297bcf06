-- What `check_link` promises, way by way through its code: each answer with the tests that led to it.
-- Assumes nothing.
use Prim.Native.Nat.{ℕ, zero, suc, ◌*◌, ◌/◌, ◌%◌, ◌^◌, ◌<◌}
use mathlib.Core.Bool.{Bool, true, false, ◌||◌}
use mathlib.Core.List.{List}
use mathlib.Core.Path.{◌≡◌, refl, sym, ◌∙◌, ap}
use native.Mathlib.Omega.{arith}
use borrow.Author.Tests.{lt-leb, eq-eqb, ne_eqb}
use lib.Bits.{bit_or}
use lib.Dec.{eqb, leb}
use lib.ListN.{get_or, set}
use Rattle.definitions.specs.Outcome.{pick}
use Rattle.definitions.specs.Network.{pair_number}
use Rattle.lists.specs.Bitmap.{bit_of, marked, mark, one_bit}
use Rattle.std.specs.Prelude.{⊤, Result, Ok, Err}
use Rattle.network.specs.declared.LinkFault.{LinkFault}
use Rattle.network.specs.declared.LinkFault.TheVariants.{Repeated}
use Rattle.network.specs.Seen.{fault_of, fault_at, fault-none, bits_after, LinkChecked}

-- A link with a fault leaves the bits.
refuses : (n a b : ℕ) (bits : List ℕ) (r : Result ⊤ LinkFault) (f : ℕ) → fault_of r ≡ suc f → fault_at n (marked bits) a b ≡ suc f
    → LinkChecked n a b bits bits r
unfolding bits_after
refuses n a b bits r f answer fault =
    record {
      fault = answer ∙ sym fault;
      bits_then = ap (λ (t : Bool). pick t (mark bits (pair_number a b)) bits)
          (sym (ap (λ (x : ℕ). eqb x 0) fault ∙ ne_eqb (suc f) 0 (λ (e : suc f ≡ 0). omega arith)));
    }

-- No pair was seen before.
none : ℕ → Bool
none p = false

-- What the numbers alone are at fault for stands whatever was seen.
fault-sooner : (n a b : ℕ) (at : ℕ → Bool) (f : ℕ) → fault_at n none a b ≡ suc f → fault_at n at a b ≡ suc f
unfolding fault_at none
fault-sooner n a b at f = go (leb n a || leb n b) (leb b a)
  where
    go : (out up : Bool) → ◌≡◌ {A = ℕ} (pick out 5 (pick up 6 0)) (suc f)
        → ◌≡◌ {A = ℕ} (pick out 5 (pick up 6 (pick (at (pair_number a b)) 7 0))) (suc f)
    go true up e = e
    go false true e = e
    go false false e = absurd (omega arith)

-- A link whose numbers do not fit has their fault.
pub unfit : (n a b : ℕ) (bits : List ℕ) (r : Result ⊤ LinkFault) → fault_of r ≡ pick (leb n a || leb n b) 5 (pick (leb b a) 6 0)
    → (a < b → b < n → ⊥) → LinkChecked n a b bits bits r
unfolding fault_at none
unfit n a b bits r fault never = go (fault_of r) refl
  where
    go : (f : ℕ) → fault_of r ≡ f → LinkChecked n a b bits bits r
    go zero e = let fit = fault-none n a b none (sym fault ∙ e) in absurd (never fit.0 fit.1)
    go (suc f) e = refuses n a b bits r f e (fault-sooner n a b (marked bits) f (sym fault ∙ e))

module _ (n a b : ℕ) (bits : List ℕ) where
  fault-fit : a < n → b < n → a < b → (t : Bool) → marked bits (pair_number a b) ≡ t
      → fault_at n (marked bits) a b ≡ pick t 7 0
  unfolding fault_at
  fault-fit h k l t e = simp (lt-leb n a h, lt-leb n b k, lt-leb b a l, e)

  pub repeated : a < n → b < n → a < b → (p : ℕ) → p ≡ pair_number a b → get_or bits (p / 64) 0 / 2 ^ (p % 64) % 2 ≡ 1
      → LinkChecked n a b bits bits (Err Repeated)
  unfolding marked bit_of
  repeated h k l p e bit =
      refuses n a b bits (Err Repeated) 6 refl
      (fault-fit h k l true (ap (marked bits) (sym e) ∙ eq-eqb (get_or bits (p / 64) 0 / 2 ^ (p % 64) % 2) 1 bit))

  pub fine : a < n → b < n → a < b → (p : ℕ) → p ≡ pair_number a b
      → (get_or bits (p / 64) 0 / 2 ^ (p % 64) % 2 ≡ 1 → ⊥)
      → LinkChecked n a b bits (set bits (p / 64) (bit_or (get_or bits (p / 64) 0) (1 * 2 ^ (p % 64) % 2 ^ 64))) (Ok tt)
  unfolding marked bit_of mark bits_after
  fine h k l p e bit =
      let none : fault_at n (marked bits) a b ≡ 0 =
      fault-fit h k l false (ap (marked bits) (sym e) ∙ ne_eqb (get_or bits (p / 64) 0 / 2 ^ (p % 64) % 2) 1 bit) in
      record {
        fault = sym none;
        bits_then = ap (λ (x : ℕ). set bits (p / 64) (bit_or (get_or bits (p / 64) 0) x)) (one_bit p)
            ∙ ap (mark bits) e
            ∙ sym (ap (λ (f : ℕ). pick (eqb f 0) (mark bits (pair_number a b)) bits) none);
      }
