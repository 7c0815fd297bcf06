-- How many entries of a list pass a test; and that a list without repeats is no longer than a list that has its entries.
use Rattle.std.specs.Prelude.{ℕ, zero, suc, ◌+◌, ◌≤◌, Bool, true, false, ◌||◌, not, List, [], ◌∷◌, ◌++◌, ◌≡◌, refl, eqb, length}
use Rattle.std.proofs.Common.{true≢false, sym, ◌∙◌, ap, arith, eqb-true, eq-eqb}
use Rattle.std.proofs.lemmas.Bool.{false≢true}
use Rattle.definitions.specs.Outcome.{pick}
use Rattle.definitions.specs.Lists.{table, cons_if, keep, has, count, NoRepeat}
use Rattle.lists.specs.Tests.{or_left, or_right, eqb-sym}

pub count-append : (test : ℕ → Bool) (l k : List ℕ) → count test (l ++ k) ≡ count test l + count test k
unfolding count
count-append test [] k = omega arith
count-append test (x ∷ l) k = omega (arith, count-append test l k)

pub count-length : (test : ℕ → Bool) (l : List ℕ) → count test l ≤ length l
unfolding count
count-length test [] = omega arith
count-length test (x ∷ l) = go (test x) (count-length test l)
  where
    go : (b : Bool) → count test l ≤ length l → pick b 1 0 + count test l ≤ suc (length l)
    go true h = omega arith
    go false h = omega arith

pub count-all : (test : ℕ → Bool) (l : List ℕ) → ((x : ℕ) → has l x ≡ true → test x ≡ true) → count test l ≡ length l
unfolding count has
count-all test [] h = refl
count-all test (x ∷ l) h =
    let here : test x ≡ true = h x (or_left (eqb x x) (has l x) (eq-eqb x x refl)) in
    let rest : count test l ≡ length l = count-all test l (λ y p. h y (or_right (eqb x y) (has l y) p)) in
    rw here (omega arith)

pub count_none : (test : ℕ → Bool) (l : List ℕ) → ((x : ℕ) → has l x ≡ true → test x ≡ false) → count test l ≡ 0
unfolding count has
count_none test [] h = refl
count_none test (x ∷ l) h =
    let here : test x ≡ false = h x (or_left (eqb x x) (has l x) (eq-eqb x x refl)) in
    let rest : count test l ≡ 0 = count_none test l (λ y p. h y (or_right (eqb x y) (has l y) p)) in
    rw here (omega arith)

pub count-mono : (test more : ℕ → Bool) (l : List ℕ)
    → ((x : ℕ) → has l x ≡ true → test x ≡ true → more x ≡ true) → count test l ≤ count more l
unfolding count has
count-mono test more [] h = omega arith
count-mono test more (x ∷ l) h =
    go (test x) refl (more x) refl
    (h x (or_left (eqb x x) (has l x) (eq-eqb x x refl)))
    (count-mono test more l (λ y p. h y (or_right (eqb x y) (has l y) p)))
  where
    go : (a : Bool) → test x ≡ a → (b : Bool) → more x ≡ b → (test x ≡ true → more x ≡ true)
        → count test l ≤ count more l → pick a 1 0 + count test l ≤ pick b 1 0 + count more l
    go true p true q f r = omega arith
    go true p false q f r = absurd (false≢true (sym q ∙ f p))
    go false p true q f r = omega arith
    go false p false q f r = omega arith

-- Tests that agree on the entries count the same.
pub count_same : (test other : ℕ → Bool) (l : List ℕ) → ((x : ℕ) → has l x ≡ true → test x ≡ other x) → count test l ≡ count other l
count_same test other l same =
    omega (
      arith,
      count-mono test other l (λ x h e. sym (same x h) ∙ e),
      count-mono other test l (λ x h e. same x h ∙ e),
    )

pub count-or : (one other : ℕ → Bool) (l : List ℕ) → count (λ x. one x || other x) l ≤ count one l + count other l
unfolding count
count-or one other [] = omega arith
count-or one other (x ∷ l) = go (one x) (other x) (count-or one other l)
  where
    go : (a b : Bool) → count (λ y. one y || other y) l ≤ count one l + count other l
        → pick (a || b) 1 0 + count (λ y. one y || other y) l ≤ pick a 1 0 + count one l + (pick b 1 0 + count other l)
    go true true h = omega arith
    go true false h = omega arith
    go false true h = omega arith
    go false false h = omega arith

pub count-not : (test : ℕ → Bool) (l : List ℕ) → count test l + count (λ x. not (test x)) l ≡ length l
unfolding count
count-not test [] = refl
count-not test (x ∷ l) = go (test x) (count-not test l)
  where
    go : (b : Bool) → count test l + count (λ y. not (test y)) l ≡ length l
        → pick b 1 0 + count test l + (pick (not b) 1 0 + count (λ y. not (test y)) l) ≡ suc (length l)
    go true h = omega arith
    go false h = omega arith

pub count-table : (test : ℕ → Bool) (f : ℕ → ℕ) (i n : ℕ)
    → count test (table f i n) ≡ count (λ j. test (f j)) (table (λ r. r) i n)
unfolding count table
count-table test f i zero = refl
count-table test f i (suc n) = ap (λ (k : ℕ). pick (test (f i)) 1 0 + k) (count-table test f (i + 1) n)

pub length-keep : (test : ℕ → Bool) (l : List ℕ) → length (keep test l) ≡ count test l
unfolding count keep cons_if
length-keep test [] = refl
length-keep test (x ∷ l) = go (test x) (length-keep test l)
  where
    go : (b : Bool) → length (keep test l) ≡ count test l → length (cons_if b x (keep test l)) ≡ pick b 1 0 + count test l
    go true h = omega arith
    go false h = omega arith

-- A number that is not in a list.
pub count-absent : (x : ℕ) (l : List ℕ) → has l x ≡ false → count (eqb x) l ≡ 0
count-absent x l h = count_none (eqb x) l (λ y p. go y p (eqb x y) refl)
  where
    go : (y : ℕ) → has l y ≡ true → (b : Bool) → eqb x y ≡ b → b ≡ false
    go y p true e = absurd (true≢false (sym p ∙ ap (has l) (sym (eqb-true x y e)) ∙ h))
    go y p false e = refl

pub count-once : (x : ℕ) (l : List ℕ) → NoRepeat l → count (eqb x) l ≤ 1
unfolding count
count-once x [] d = omega arith
count-once x (y ∷ l) d = go (eqb x y) refl (count-once x l d.1)
  where
    go : (b : Bool) → eqb x y ≡ b → count (eqb x) l ≤ 1 → pick b 1 0 + count (eqb x) l ≤ 1
    go true e r = omega (arith, count-absent x l (ap (has l) (eqb-true x y e) ∙ d.0))
    go false e r = omega arith

pub count-present : (x : ℕ) (l : List ℕ) → has l x ≡ true → 1 ≤ count (eqb x) l
unfolding count has
count-present x [] h = absurd (false≢true h)
count-present x (y ∷ l) h = go (eqb x y) (eqb-sym y x) h (count-present x l)
  where
    go : (b : Bool) → eqb y x ≡ b → (eqb y x || has l x) ≡ true → (has l x ≡ true → 1 ≤ count (eqb x) l)
        → 1 ≤ pick b 1 0 + count (eqb x) l
    go true e t rest = omega arith
    go false e t rest =
        let later : has l x ≡ true = sym (ap (λ (b : Bool). b || has l x) e) ∙ t in
        omega (arith, rest later)

-- Of a list without repeats no more entries are in a list than that has.
pub count-has : (among l : List ℕ) → NoRepeat l → count (has among) l ≤ length among
unfolding has
count-has [] l d = omega (arith, count_none (has []) l (λ x h. refl))
count-has (y ∷ among) l d = omega (arith, count-or (eqb y) (has among) l, count-once y l d, count-has among l d)

-- A list without repeats whose entries are all in another is no longer than that.
pub no_longer : (among l : List ℕ) → NoRepeat l → ((x : ℕ) → has l x ≡ true → has among x ≡ true) → length l ≤ length among
no_longer among l d h = omega (arith, count-has among l d, count-all (has among) l h)

-- If it is as long, it has all the entries of the other.
pub covers : (among l : List ℕ) → NoRepeat l → ((x : ℕ) → has l x ≡ true → has among x ≡ true)
    → length among ≤ length l → (x : ℕ) → has among x ≡ true → has l x ≡ true
unfolding has
covers among l d h long x p = go (has l x) refl
  where
    within : (y : ℕ) (b : Bool) → eqb x y ≡ b → (b || has l y) ≡ true → has among y ≡ true
    within y true e q = ap (has among) (sym (eqb-true x y e)) ∙ p
    within y false e q = h y q

    go : (b : Bool) → has l x ≡ b → b ≡ true
    go true e = refl
    go false e = absurd (omega (arith, no_longer among (x ∷ l) (e, d) (λ y. within y (eqb x y) refl)))
