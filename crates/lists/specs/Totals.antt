-- Sums of tables, and that the counts of the values of a range add up to how many values lie in it.
use Rattle.std.specs.Prelude.{ℕ, zero, suc, ◌+◌, ◌≤◌, ◌<◌, Bool, true, false, List, [], ◌∷◌, ◌≢◌, ◌≡◌, refl, eqb, leb}
use Rattle.std.proofs.Common.{◌∙◌, arith, eqb-true, eq-eqb, ne_eqb, leb-true, leb-false}
use Rattle.std.proofs.lemmas.Bool.{eqb-false}
use Rattle.definitions.specs.Outcome.{pick}
use Rattle.definitions.specs.Lists.{table, total, count, has}
use Rattle.lists.specs.Tests.{or_left, or_right}

pub total-add : (f g : ℕ → ℕ) (i n : ℕ) → total (table (λ x. f x + g x) i n) ≡ total (table f i n) + total (table g i n)
unfolding total table
total-add f g i zero = refl
total-add f g i (suc n) = omega (arith, total-add f g (i + 1) n)

total-zero : (i n : ℕ) → total (table (λ _. 0) i n) ≡ 0
unfolding total table
total-zero i zero = refl
total-zero i (suc n) = omega (arith, total-zero (i + 1) n)

-- A value that lies before the range is not counted in it.
total-before : (x i n : ℕ) → x < i → total (table (λ y. pick (eqb y x) 1 0) i n) ≡ 0
unfolding total table
total-before x i zero h = refl
total-before x i (suc n) h =
    let apart : eqb i x ≡ false = ne_eqb i x (λ e. omega arith) in
    let rest = total-before x (i + 1) n (omega arith) in
    rw apart (omega arith)

-- A value in the range is counted once.
total-once : (x i n : ℕ) → i ≤ x → x < i + n → total (table (λ y. pick (eqb y x) 1 0) i n) ≡ 1
unfolding total table
total-once x i zero h k = absurd (omega arith)
total-once x i (suc n) h k = go (eqb i x) refl (λ q. total-once x (i + 1) n q (omega arith))
  where
    go : (b : Bool) → eqb i x ≡ b → (i + 1 ≤ x → total (table (λ y. pick (eqb y x) 1 0) (i + 1) n) ≡ 1)
        → pick b 1 0 + total (table (λ y. pick (eqb y x) 1 0) (i + 1) n) ≡ 1
    go true e rest = omega (arith, total-before x (i + 1) n (omega (arith, eqb-true i x e)))
    go false e rest =
        let apart : i ≢ x = eqb-false i x e in
        omega (arith, rest (omega arith))

-- Where no value lies behind the range, how often each in the range occurs adds up to how many do not lie before it.
pub total-counts : (l : List ℕ) (i n : ℕ) → ((x : ℕ) → has l x ≡ true → x < i + n)
    → total (table (λ y. count (eqb y) l) i n) ≡ count (leb i) l
unfolding count has
total-counts [] i n h = total-zero i n
total-counts (x ∷ l) i n h =
    total-add (λ y. pick (eqb y x) 1 0) (λ y. count (eqb y) l) i n
    ∙ go (leb i x) refl (total-counts l i n (λ y p. h y (or_right (eqb x y) (has l y) p)))
  where
    go : (b : Bool) → leb i x ≡ b → total (table (λ y. count (eqb y) l) i n) ≡ count (leb i) l
        → total (table (λ y. pick (eqb y x) 1 0) i n) + total (table (λ y. count (eqb y) l) i n) ≡ pick b 1 0 + count (leb i) l
    go true e rest =
        omega (arith, total-once x i n (leb-true i x e) (h x (or_left (eqb x x) (has l x) (eq-eqb x x refl))))
    go false e rest = omega (arith, total-before x i n (leb-false i x e))
