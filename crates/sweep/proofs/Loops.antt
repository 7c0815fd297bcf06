-- One turn of each loop that counts an index down, in the code's terms: what is left from i on is the turn at i and then
-- what is left from i - 1 on. Assumes nothing.
use Prim.Native.Nat.{ℕ, zero, suc, ◌-◌, ◌≤◌, ◌<◌, pred}
use mathlib.Core.Bool.{◌||◌, or-true}
use mathlib.Core.List.{List}
use mathlib.Core.Path.{◌≡◌, refl}
use Rattle.std.proofs.Common.{Some, None, inl, inr}
use native.Mathlib.Omega.{arith}
use borrow.Author.Tests.{eq-eqb, ne_eqb}
use lib.Dec.{eqb}
use mathlib.Core.Logic.{◌⊎◌}
use Rattle.definitions.specs.Lists.{largest}
use Rattle.definitions.specs.Forests.{Entry}
use Rattle.lists.specs.Searches.{largest-bound}
use Rattle.sweep.specs.Side.{end_in, set_path, extend_path, advance, trade_at, trade_from}
use Rattle.sweep.specs.Sides.{sides, some_index, highest_in, start_a, start_b, leave_at, leave_from, pass_at, step_in, sweep_in}

pub trade-turn : (look : ℕ → ℕ → Entry) (v j i : ℕ) (side : List ℕ) → 0 < i
    → trade_from look v j i side ≡ trade_from look v j (i - 1) (trade_at look v j i side)
unfolding trade_from
trade-turn look v j zero side some = absurd (omega arith)
trade-turn look v j (suc i) side some = let e : suc i - 1 ≡ i = omega arith in rw e

pub trade-end : (look : ℕ → ℕ → Entry) (v j i : ℕ) (side : List ℕ) → i ≡ 0 → trade_from look v j i side ≡ side
unfolding trade_from
trade-end look v j i side e = rw e

pub start-a-turn : (look : ℕ → ℕ → Entry) (s i : ℕ) (a : List ℕ) → 0 < i
    → start_a look s i a ≡ start_a look s (i - 1) (set_path a i (look i s) s)
unfolding start_a
start-a-turn look s zero a some = absurd (omega arith)
start-a-turn look s (suc i) a some = let e : suc i - 1 ≡ i = omega arith in rw e

pub start-a-end : (look : ℕ → ℕ → Entry) (s i : ℕ) (a : List ℕ) → i ≡ 0 → start_a look s i a ≡ a
unfolding start_a
start-a-end look s i a e = rw e

pub start-b-turn : (t i : ℕ) (b : List ℕ) → 0 < i → start_b t i b ≡ start_b t (i - 1) (set_path b i (record { place = t; link = 0 }) 0)
unfolding start_b
start-b-turn t zero b some = absurd (omega arith)
start-b-turn t (suc i) b some = let e : suc i - 1 ≡ i = omega arith in rw e

pub start-b-end : (t i : ℕ) (b : List ℕ) → i ≡ 0 → start_b t i b ≡ b
unfolding start_b
start-b-end t i b e = rw e

pub leave-turn : (look : ℕ → ℕ → Entry) (t : ℕ) (a : List ℕ) (i : ℕ) (b : List ℕ) → 0 < i
    → leave_from look t a i b ≡ leave_from look t a (i - 1) (leave_at look t a i b)
unfolding leave_from
leave-turn look t a zero b some = absurd (omega arith)
leave-turn look t a (suc i) b some = let e : suc i - 1 ≡ i = omega arith in rw e

pub leave-end : (look : ℕ → ℕ → Entry) (t : ℕ) (a : List ℕ) (i : ℕ) (b : List ℕ) → i ≡ 0 → leave_from look t a i b ≡ b
unfolding leave_from
leave-end look t a i b e = rw e

pub sweep-turn : (look : ℕ → ℕ → Entry) (k t v : ℕ) (a b a' b' : List ℕ) → 0 < v → sides a' b' ≡ step_in look k t v a b
    → sweep_in look k t v a b ≡ sweep_in look k t (v - 1) a' b'
unfolding sweep_in
sweep-turn look k t zero a b a' b' some e = absurd (omega arith)
sweep-turn look k t (suc v) a b a' b' some e = let less : suc v - 1 ≡ v = omega arith in rw (less, ← e)

pub sweep-end : (look : ℕ → ℕ → Entry) (k t v : ℕ) (a b : List ℕ) → v ≡ 0 → sweep_in look k t v a b ≡ sides a b
unfolding sweep_in
sweep-end look k t v a b e = rw e

-- The largest index, counted down.
pub highest-found : (k v i : ℕ) (a b : List ℕ) → 0 < i → end_in a i ≡ v ⊎ end_in b i ≡ v → highest_in k v a b ≡ highest_in i v a b
    → Some i ≡ some_index (highest_in k v a b)
unfolding highest_in some_index largest
highest-found k v zero a b some at e = absurd (omega arith)
highest-found k v (suc i) a b some at e = rw e (elim at [
  | inl at_a ↦ rw (eq-eqb (end_in a (suc i)) v at_a)
  | inr at_b ↦ rw (eq-eqb (end_in b (suc i)) v at_b, or-true)
])

pub highest-turn : (v i : ℕ) (a b : List ℕ) → 0 < i → (end_in a i ≡ v → ⊥) → (end_in b i ≡ v → ⊥)
    → highest_in i v a b ≡ highest_in (i - 1) v a b
unfolding highest_in largest
highest-turn v zero a b some off_a off_b = absurd (omega arith)
highest-turn v (suc i) a b some off_a off_b =
    let less : suc i - 1 ≡ i = omega arith in
    rw (ne_eqb (end_in a (suc i)) v off_a, ne_eqb (end_in b (suc i)) v off_b, less)

pub highest-none : (k v i : ℕ) (a b : List ℕ) → i ≡ 0 → highest_in k v a b ≡ highest_in i v a b
    → None ≡ some_index (highest_in k v a b)
unfolding highest_in some_index largest
highest-none k v i a b end e = rw (e, end)

-- What a largest index is, by what is given for it.
pub index-given : (h j : ℕ) → Some j ≡ some_index h → (j ≡ h) × (0 < h)
unfolding some_index
index-given zero j e = absurd cc
index-given (suc h) j e = (cc, omega arith)

pub none-given : (h : ℕ) → None ≡ some_index h → h ≡ 0
unfolding some_index
none-given zero e = refl
none-given (suc h) e = absurd cc

pub highest-bound : (k v j : ℕ) (a b : List ℕ) → Some j ≡ some_index (highest_in k v a b) → j ≤ k
unfolding highest_in
highest-bound k v j a b e =
    let given = index-given _ j e in
    omega (arith, largest-bound (λ i. eqb (end_in a i) v || eqb (end_in b i) v) k)

-- The calls at a place other than t, one after another: the two paths of j meet there, one of them goes on, or both end elsewhere.
module _ (look : ℕ → ℕ → Entry) (v j : ℕ) (a b a₁ b₁ : List ℕ) (end_a end_b : ℕ)
    (ea : a₁ ≡ trade_from look v j (pred j) a) (eb : b₁ ≡ trade_from look v j (pred j) b)
    (xa : end_a ≡ end_in a₁ j) (xb : end_b ≡ end_in b₁ j) where
  pub passed-met : end_a ≡ v → end_b ≡ v → sides a₁ b₁ ≡ pass_at look v j a b
  unfolding pass_at advance
  passed-met at_a at_b = rw (← ea, ← eb, ← xa, ← xb, eq-eqb end_a v at_a, eq-eqb end_b v at_b)

  pub passed-a : (a₂ : List ℕ) → end_a ≡ v → (end_b ≡ v → ⊥) → a₂ ≡ extend_path look v j a₁ → sides a₂ b₁ ≡ pass_at look v j a b
  unfolding pass_at advance
  passed-a a₂ at_a off_b e = rw (← ea, ← eb, ← xa, ← xb, eq-eqb end_a v at_a, ne_eqb end_b v off_b, e)

  pub passed_b : (b₂ : List ℕ) → (end_a ≡ v → ⊥) → end_b ≡ v → b₂ ≡ extend_path look v j b₁ → sides a₁ b₂ ≡ pass_at look v j a b
  unfolding pass_at advance
  passed_b b₂ off_a at_b e = rw (← ea, ← eb, ← xa, ← xb, ne_eqb end_a v off_a, eq-eqb end_b v at_b, e)

  pub passed_none : (end_a ≡ v → ⊥) → (end_b ≡ v → ⊥) → sides a₁ b₁ ≡ pass_at look v j a b
  unfolding pass_at advance
  passed_none off_a off_b = rw (← ea, ← eb, ← xa, ← xb, ne_eqb end_a v off_a, ne_eqb end_b v off_b)

-- The three ways of a step, in the code's terms.
pub stepped-at : (look : ℕ → ℕ → Entry) (k t v : ℕ) (a b b₁ : List ℕ) → v ≡ t → b₁ ≡ leave_from look t a k b
    → sides a b₁ ≡ step_in look k t v a b
unfolding step_in
stepped-at look k t v a b b₁ at e = rw (eq-eqb v t at, e)

pub stepped-none : (look : ℕ → ℕ → Entry) (k t v : ℕ) (a b : List ℕ) → (v ≡ t → ⊥) → None ≡ some_index (highest_in k v a b)
    → sides a b ≡ step_in look k t v a b
unfolding step_in
stepped-none look k t v a b off none = rw (ne_eqb v t off, eq-eqb (highest_in k v a b) 0 (none-given _ none))

pub stepped-pass : (look : ℕ → ℕ → Entry) (k t v j : ℕ) (a b a₁ b₁ : List ℕ) → (v ≡ t → ⊥)
    → Some j ≡ some_index (highest_in k v a b) → sides a₁ b₁ ≡ pass_at look v j a b → sides a₁ b₁ ≡ step_in look k t v a b
unfolding step_in
stepped-pass look k t v j a b a₁ b₁ off e passes =
    let given = index-given (highest_in k v a b) j e in
    rw (ne_eqb v t off, ne_eqb (highest_in k v a b) 0 (λ z. absurd (omega arith)), ← given.0) passes
