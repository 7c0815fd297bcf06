-- The pigeonhole, and a search through several lists for one whose entries all fail a test.
use Rattle.std.specs.Prelude.{ℕ, zero, suc, ◌+◌, ◌≤◌, ◌<◌, Bool, true, false, ◌&&◌, ◌||◌, List, [], ◌∷◌, map, ◌⊎◌, ◌≡◌, refl, eqb, get_or}
use Rattle.std.proofs.lemmas.Bool.{false≢true}
use Rattle.std.proofs.Common.{inl, inr, sym, ◌∙◌, ap, subst, arith, eqb-true, eq-eqb}
use Rattle.std.proofs.Math.Logic.{by_cases}
use Rattle.std.proofs.Math.Decide.{ℕ_discrete}
use Rattle.std.proofs.lemmas.List.{length-map}
use Rattle.definitions.specs.Lists.{table, keep, has, count, NoRepeat}
use Rattle.lists.specs.Tables.{length-table}
use Rattle.lists.specs.Tests.{or_left, and_both, and-all}
use Rattle.lists.specs.Members.{has-keep, has-map, range-bounds, range-has}
use Rattle.lists.specs.Distinct.{no-repeat-keep, no-repeat-map, range-no-repeat}
use Rattle.lists.specs.Counting.{count-all, length-keep, no_longer}

-- What is in a table.
pub table-entry : (f : ℕ → ℕ) (i n x : ℕ) → has (table f i n) x ≡ true → (j : ℕ) × (i ≤ j) × (j < i + n) × (f j ≡ x)
unfolding has table
table-entry f i zero x h = absurd (false≢true h)
table-entry f i (suc n) x h = go (eqb (f i) x) refl h (table-entry f (i + 1) n x)
  where
    go : (b : Bool) → eqb (f i) x ≡ b → (b || has (table f (i + 1) n) x) ≡ true
        → (has (table f (i + 1) n) x ≡ true → (j : ℕ) × (i + 1 ≤ j) × (j < i + 1 + n) × (f j ≡ x))
        → (j : ℕ) × (i ≤ j) × (j < i + suc n) × (f j ≡ x)
    go true e t rest = (i, omega arith, omega arith, eqb-true (f i) x e)
    go false e t rest =
        let r = rest t in
        (r.0, omega (arith, r.1), omega (arith, r.2), r.3)

-- A table of different numbers repeats nothing.
pub table-no-repeat : (f : ℕ → ℕ) (i n : ℕ)
    → ((a b : ℕ) → i ≤ a → a < b → b < i + n → f a ≡ f b → ⊥) → NoRepeat (table f i n)
unfolding table
table-no-repeat f i zero apart = tt
table-no-repeat f i (suc n) apart = (
  go (has (table f (i + 1) n) (f i)) refl,
  table-no-repeat f (i + 1) n (λ a b h k l. apart a b (omega arith) k (omega arith)),
)
  where
    go : (b : Bool) → has (table f (i + 1) n) (f i) ≡ b → b ≡ false
    go true e =
        let r = table-entry f (i + 1) n (f i) e in
        absurd (apart i r.0 (omega arith) (omega (arith, r.1)) (omega (arith, r.2)) (sym r.3))
    go false e = refl

-- A list without repeats whose entries all stand in another has no more that pass a test.
pub count-within : (test : ℕ → Bool) (among l : List ℕ) → NoRepeat l → ((x : ℕ) → has l x ≡ true → has among x ≡ true)
    → count test l ≤ count test among
count-within test among l unique within =
    omega (
      arith,
      length-keep test l,
      length-keep test among,
      no_longer (keep test among) (keep test l) (no-repeat-keep test l unique)
          (λ x h.
          let both = and_both (has l x) (test x) (sym (has-keep test l x) ∙ h) in
          has-keep test among x ∙ and-all (has among x) (test x) (within x both.0) both.1),
    )

-- k different entries of a list that pass the test are no more than those that do.
pub pigeonhole : (test : ℕ → Bool) (l : List ℕ) (k : ℕ) (f : ℕ → ℕ)
    → ((i : ℕ) → i < k → (has l (f i) ≡ true) × (test (f i) ≡ true))
    → ((i j : ℕ) → i < j → j < k → f i ≡ f j → ⊥)
    → k ≤ count test l
pigeonhole test l k f passes apart =
    let entry : (x : ℕ) → has (table f 0 k) x ≡ true → (has l x ≡ true) × (test x ≡ true) = λ x h.
    let r = table-entry f 0 k x h in
    subst (λ (y : ℕ). (has l y ≡ true) × (test y ≡ true)) r.3 (passes r.0 (omega (arith, r.2))) in
    let unique : NoRepeat (table f 0 k) = table-no-repeat f 0 k (λ a b h l m. apart a b l (omega arith)) in
    omega (
      arith,
      length-table f 0 k,
      count-all test (table f 0 k) (λ x h. (entry x h).1),
      count-within test l (table f 0 k) unique (λ x h. (entry x h).0),
    )

-- Indices that pass a test, each told by a number of a range, are no more than the range has numbers.
pub told-apart : (test : ℕ → Bool) (f : ℕ → ℕ) (size from most : ℕ)
    → ((i : ℕ) → i < size → test i ≡ true → (from ≤ f i) × (f i < from + most))
    → ((i j : ℕ) → i < size → j < size → test i ≡ true → test j ≡ true → f i ≡ f j → i ≡ j)
    → count test (table (λ r. r) 0 size) ≤ most
told-apart test f size from most within told =
    let picked : List ℕ = keep test (table (λ r. r) 0 size) in
    let entry : (i : ℕ) → has picked i ≡ true → (i < size) × (test i ≡ true) = λ i h.
    let both = and_both (has (table (λ r. r) 0 size) i) (test i) (sym (has-keep test (table (λ r. r) 0 size) i) ∙ h) in
    (omega (arith, range-bounds 0 size i both.0), both.1) in
    let unique : NoRepeat (map f picked) =
    no-repeat-map f picked
    (λ i j p q. let a = entry i p in let b = entry j q in told i j a.0 b.0 a.1 b.1)
    (no-repeat-keep test (table (λ r. r) 0 size) (range-no-repeat 0 size)) in
    omega (
      arith,
      no_longer (table (λ r. r) from most) (map f picked) unique
          (λ x h.
          let w = has-map f picked x h in
          let a = entry w.0 w.1 in
          let bounds = within w.0 a.0 a.1 in
          range-has from most x (omega (arith, w.2, bounds.0)) (omega (arith, w.2, bounds.1))),
      length-map picked f,
      length-keep test (table (λ r. r) 0 size),
      length-table (λ (r : ℕ). r) from most,
    )

-- The first entry that passes the test, or 0.
unfoldable pub first_passing : (ℕ → Bool) → List ℕ → ℕ
first_passing test l = get_or (keep test l) 0 0

-- All entries fail the test, or the first that passes it does.
pub none-or-first : (test : ℕ → Bool) (l : List ℕ)
    → ((x : ℕ) → has l x ≡ true → test x ≡ false)
    ⊎ ((has l (first_passing test l) ≡ true) × (test (first_passing test l) ≡ true))
unfolding first_passing has
none-or-first test l = go (keep test l) (has-keep test l)
  where
    go : (kept : List ℕ) → ((x : ℕ) → has kept x ≡ (has l x && test x))
        → ((x : ℕ) → has l x ≡ true → test x ≡ false) ⊎ ((has l (get_or kept 0 0) ≡ true) × (test (get_or kept 0 0) ≡ true))
    go [] same = inl (λ x h. ap (λ (b : Bool). b && test x) (sym h) ∙ sym (same x))
    go (y ∷ kept) same =
        inr (and_both (has l y) (test y) (sym (same y) ∙ or_left (eqb y y) (has kept y) (eq-eqb y y refl)))

-- Of k lists one has only entries that fail the test, or each has an entry that passes it.
pub free-list : (test : ℕ → Bool) (lists : ℕ → List ℕ) (k : ℕ)
    → ((i : ℕ) × (i < k) × ((x : ℕ) → has (lists i) x ≡ true → test x ≡ false))
    ⊎ ((i : ℕ) → i < k → (has (lists i) (first_passing test (lists i)) ≡ true) × (test (first_passing test (lists i)) ≡ true))
free-list test lists zero = inr (λ i h. absurd (omega arith))
free-list test lists (suc k) = go (free-list test lists k) (none-or-first test (lists k))
  where
    Free : ℕ → Type 0
    Free i = (x : ℕ) → has (lists i) x ≡ true → test x ≡ false

    Some : ℕ → Type 0
    Some i = (has (lists i) (first_passing test (lists i)) ≡ true) × (test (first_passing test (lists i)) ≡ true)

    go : ((i : ℕ) × (i < k) × Free i) ⊎ ((i : ℕ) → i < k → Some i) → Free k ⊎ Some k
        → ((i : ℕ) × (i < suc k) × Free i) ⊎ ((i : ℕ) → i < suc k → Some i)
    go (inl found) here = inl (found.0, omega (arith, found.1), found.2)
    go (inr all) (inl none) = inl (k, omega arith, none)
    go (inr all) (inr some) =
        inr (λ i h. by_cases (ℕ_discrete i k) (λ e. subst Some (sym e) some) (λ e. all i (omega arith)))
