-- Lists in which no number stands twice.
use Rattle.std.specs.Prelude.{ℕ, zero, suc, ◌+◌, ◌<◌, Bool, true, false, ◌&&◌, List, [], ◌∷◌, ◌++◌, map, ◌≡◌, refl, eqb, ltb, length, get_or}
use Rattle.std.proofs.Common.{true≢false, sym, ◌∙◌, ap, arith, ltb-true, ltb-false, eq-eqb}
use Rattle.definitions.specs.Lists.{table, cons_if, keep, has, NoRepeat}
use Rattle.lists.specs.Tests.{or_left, or_right, or-false, eqb-sym}
use Rattle.lists.specs.Members.{has-append, has-at, has-keep, has-map, range-bounds}

pub no-repeat-snoc : (l : List ℕ) (x : ℕ) → NoRepeat l → has l x ≡ false → NoRepeat (l ++ (x ∷ []))
unfolding has
no-repeat-snoc [] x d h = (refl, tt)
no-repeat-snoc (y ∷ l) x d h =
    let new = or-false (eqb y x) (has l x) h in
    let apart : has (x ∷ []) y ≡ false = rw (eqb-sym x y, new.0) in
    (has-append l (x ∷ []) y ∙ (rw (d.0, apart)), no-repeat-snoc l x d.1 new.1)

pub distinct : (l : List ℕ) → NoRepeat l → (i j : ℕ) → i < j → j < length l → get_or l i 0 ≡ get_or l j 0 → ⊥
distinct [] d i j h k e = absurd (omega arith)
distinct (y ∷ l) d i zero h k e = absurd (omega arith)
distinct (y ∷ l) d zero (suc j) h k e =
    true≢false (sym (has-at l j (omega arith)) ∙ ap (has l) (sym e) ∙ d.0)
distinct (y ∷ l) d (suc i) (suc j) h k e = distinct l d.1 i j (omega arith) (omega arith) e

pub same_index : (l : List ℕ) → NoRepeat l → (i j : ℕ) → i < length l → j < length l → get_or l i 0 ≡ get_or l j 0 → i ≡ j
same_index l d i j h k e = go (ltb i j) refl (ltb j i) refl
  where
    go : (a : Bool) → ltb i j ≡ a → (b : Bool) → ltb j i ≡ b → i ≡ j
    go true p b q = absurd (distinct l d i j (ltb-true i j p) k e)
    go false p true q = absurd (distinct l d j i (ltb-true j i q) h (sym e))
    go false p false q = omega (arith, ltb-false i j p, ltb-false j i q)

pub no-repeat-keep : (test : ℕ → Bool) (l : List ℕ) → NoRepeat l → NoRepeat (keep test l)
unfolding keep cons_if
no-repeat-keep test [] d = tt
no-repeat-keep test (y ∷ l) d = go (test y) (no-repeat-keep test l d.1)
  where
    go : (t : Bool) → NoRepeat (keep test l) → NoRepeat (cons_if t y (keep test l))
    go true r = (has-keep test l y ∙ ap (λ (b : Bool). b && test y) d.0, r)
    go false r = r

pub no-repeat-map : (f : ℕ → ℕ) (l : List ℕ)
    → ((x y : ℕ) → has l x ≡ true → has l y ≡ true → f x ≡ f y → x ≡ y)
    → NoRepeat l → NoRepeat (map f l)
unfolding has
no-repeat-map f [] inj d = tt
no-repeat-map f (y ∷ l) inj d =
    let tail : (a b : ℕ) → has l a ≡ true → has l b ≡ true → f a ≡ f b → a ≡ b = λ a b p q.
    inj a b (or_right (eqb y a) (has l a) p) (or_right (eqb y b) (has l b) q) in
    (go (has (map f l) (f y)) refl, no-repeat-map f l tail d.1)
  where
    go : (b : Bool) → has (map f l) (f y) ≡ b → b ≡ false
    go true e =
        let r = has-map f l (f y) e in
        let same : r.0 ≡ y =
        inj r.0 y (or_right (eqb y r.0) (has l r.0) r.1) (or_left (eqb y y) (has l y) (eq-eqb y y refl)) r.2 in
        absurd (true≢false (sym r.1 ∙ ap (has l) same ∙ d.0))
    go false e = refl

pub range-no-repeat : (i n : ℕ) → NoRepeat (table (λ r. r) i n)
unfolding table
range-no-repeat i zero = tt
range-no-repeat i (suc n) = (go (has (table (λ r. r) (i + 1) n) i) refl, range-no-repeat (i + 1) n)
  where
    go : (b : Bool) → has (table (λ r. r) (i + 1) n) i ≡ b → b ≡ false
    go true e = absurd (omega (arith, range-bounds (i + 1) n i e))
    go false e = refl
