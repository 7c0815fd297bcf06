-- Membership in a list of numbers: in joined lists, by index, in what is kept of a list, and in a range.
use Rattle.std.specs.Prelude.{ℕ, zero, suc, ◌+◌, ◌≤◌, ◌<◌, Bool, true, false, ◌&&◌, ◌||◌, List, [], ◌∷◌, ◌++◌, map, ◌≢◌, ◌≡◌, refl, eqb, length, get_or}
use Rattle.std.proofs.lemmas.Bool.{false≢true, eqb-false}
use Rattle.std.proofs.Common.{sym, ◌∙◌, ap, arith, eqb-true, eq-eqb}
use Rattle.definitions.specs.Lists.{table, cons_if, keep, has}
use Rattle.lists.specs.Tests.{or_left, or_right, or_assoc, and-false}

pub has-append : (l k : List ℕ) (x : ℕ) → has (l ++ k) x ≡ (has l x || has k x)
unfolding has
has-append [] k x = refl
has-append (y ∷ l) k x = ap (λ (b : Bool). eqb y x || b) (has-append l k x) ∙ or_assoc (eqb y x) (has l x) (has k x)

pub has-at : (l : List ℕ) (i : ℕ) → i < length l → has l (get_or l i 0) ≡ true
unfolding has
has-at [] i h = absurd (omega arith)
has-at (y ∷ l) zero h = or_left (eqb y y) (has l y) (eq-eqb y y refl)
has-at (y ∷ l) (suc i) h = or_right (eqb y (get_or l i 0)) (has l (get_or l i 0)) (has-at l i (omega arith))

pub index_of : (l : List ℕ) (x : ℕ) → has l x ≡ true → (i : ℕ) × (i < length l) × (get_or l i 0 ≡ x)
unfolding has
index_of [] x h = absurd (false≢true h)
index_of (y ∷ l) x h = go (eqb y x) refl h (index_of l x)
  where
    go : (b : Bool) → eqb y x ≡ b → (b || has l x) ≡ true
        → (has l x ≡ true → (i : ℕ) × (i < length l) × (get_or l i 0 ≡ x))
        → (i : ℕ) × (i < suc (length l)) × (get_or (y ∷ l) i 0 ≡ x)
    go true e t rest = (zero, omega arith, eqb-true y x e)
    go false e t rest = (suc (rest t).0, omega (arith, (rest t).1), (rest t).2)

pub has-keep : (test : ℕ → Bool) (l : List ℕ) (x : ℕ) → has (keep test l) x ≡ (has l x && test x)
unfolding has keep cons_if
has-keep test [] x = refl
has-keep test (y ∷ l) x = go (test y) refl (eqb y x) refl (has-keep test l x)
  where
    go : (t : Bool) → test y ≡ t → (e : Bool) → eqb y x ≡ e → has (keep test l) x ≡ (has l x && test x)
        → has (cons_if t y (keep test l)) x ≡ ((e || has l x) && test x)
    go true p true q ih =
        or_left (eqb y x) (has (keep test l) x) q ∙ sym (ap test (sym (eqb-true y x q)) ∙ p)
    go true p false q ih = rw q ih
    go false p true q ih =
        let e : test x ≡ false = ap test (sym (eqb-true y x q)) ∙ p in
        ih ∙ ap (λ (b : Bool). has l x && b) e ∙ and-false (has l x) ∙ sym e
    go false p false q ih = ih

pub has-map : (f : ℕ → ℕ) (l : List ℕ) (z : ℕ) → has (map f l) z ≡ true → (x : ℕ) × (has l x ≡ true) × (f x ≡ z)
unfolding has
has-map f [] z h = absurd (false≢true h)
has-map f (y ∷ l) z h = go (eqb (f y) z) refl h (has-map f l z)
  where
    go : (b : Bool) → eqb (f y) z ≡ b → (b || has (map f l) z) ≡ true
        → (has (map f l) z ≡ true → (x : ℕ) × (has l x ≡ true) × (f x ≡ z))
        → (x : ℕ) × (has (y ∷ l) x ≡ true) × (f x ≡ z)
    go true e t rest = (y, or_left (eqb y y) (has l y) (eq-eqb y y refl), eqb-true (f y) z e)
    go false e t rest =
        let r = rest t in
        (r.0, or_right (eqb y r.0) (has l r.0) r.1, r.2)

-- A range i, i + 1, …: what is in it, and what is not.
pub range-bounds : (i n x : ℕ) → has (table (λ r. r) i n) x ≡ true → (i ≤ x) × (x < i + n)
unfolding has table
range-bounds i zero x h = absurd (false≢true h)
range-bounds i (suc n) x h = go (eqb i x) refl h (range-bounds (i + 1) n x)
  where
    go : (b : Bool) → eqb i x ≡ b → (b || has (table (λ r. r) (i + 1) n) x) ≡ true
        → (has (table (λ r. r) (i + 1) n) x ≡ true → (i + 1 ≤ x) × (x < i + 1 + n))
        → (i ≤ x) × (x < i + suc n)
    go true e t rest = omega (arith, eqb-true i x e)
    go false e t rest = omega (arith, rest t)

pub range-has : (i n x : ℕ) → i ≤ x → x < i + n → has (table (λ r. r) i n) x ≡ true
unfolding has table
range-has i zero x h k = absurd (omega arith)
range-has i (suc n) x h k = go (eqb i x) refl (λ p. range-has (i + 1) n x p (omega arith))
  where
    go : (b : Bool) → eqb i x ≡ b → (i + 1 ≤ x → has (table (λ r. r) (i + 1) n) x ≡ true)
        → (b || has (table (λ r. r) (i + 1) n) x) ≡ true
    go true e rest = refl
    go false e rest =
        let apart : i ≢ x = eqb-false i x e in
        rest (omega arith)
