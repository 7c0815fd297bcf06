-- The links of a test on pairs in rising order of low, then high number: which links stand there, and that they are the only table
-- of these links that rises. Assumes nothing.
use Prim.Native.Nat.{ℕ, zero, suc, ◌+◌, ◌*◌, ◌≤◌, ◌<◌}
use Rattle.std.specs.Prelude.{Bool, false, ◌⊎◌, ◌≡◌, eqb, length, replicate}
use Rattle.std.proofs.Math.Bool.{true}
use mathlib.Core.List.{List, [], ◌∷◌, ◌++◌, map}
use Rattle.std.proofs.Common.{inl, inr, ◌∙◌, ap, ap₂, eqb-true}
use Rattle.std.proofs.Math.Path.{refl, sym, subst}
use Rattle.std.proofs.Math.Nat.{suc-mul, mul-le-mul_right}
use native.Mathlib.Omega.{arith}
use Rattle.std.proofs.lemmas.Bool.{eqb-false}
use Rattle.std.proofs.Math.ListN.{length-append, length-replicate}
use Rattle.definitions.specs.Lists.{table, has}
use Rattle.definitions.specs.Rising.{high_ends, highs_from, lows_from}
use Rattle.lists.specs.Tests.{or_left, or_right, and_both, and-all}
use Rattle.lists.specs.Members.{has-append, has-keep, has-map, range-bounds, range-has}
use Rattle.lists.specs.Cases.{has_here, has_there, has-nil, has-cases, has_either}
use Rattle.lists.specs.Searches.{clash}
use Rattle.lists.specs.Grids.{grid-row, grid-entry}
use Rattle.lists.specs.Ascending.{Ascending, ascending-keep, ascending-range}
use Rattle.lists.specs.OneAscending.{ascending-same, ascending-append}

-- One number for each link of two columns, which rises as low and then high do where the highs are below n.
unfoldable pub codes : (n : ℕ) (lows highs : List ℕ) → List ℕ
codes n [] highs = []
codes n (a ∷ lows) [] = []
codes n (a ∷ lows) (b ∷ highs) = (a * n + b) ∷ codes n lows highs

-- Columns whose codes are the same are the same.
abbrev pub BelowAll : ℕ → List ℕ → Type 0
BelowAll n [] = Unit {0}
BelowAll n (b ∷ list) = (b < n) × BelowAll n list

pub codes-tell : (n : ℕ) (ls hs ks gs : List ℕ) → length ls ≡ length hs → length ks ≡ length gs → BelowAll n hs → BelowAll n gs
    → codes n ls hs ≡ codes n ks gs → (ls ≡ ks) × (hs ≡ gs)
unfolding codes
codes-tell n [] [] [] [] e f p q same = (refl, refl)
codes-tell n [] [] [] (d ∷ gs) e f p q same = absurd (omega arith)
codes-tell n [] [] (c ∷ ks) [] e f p q same = absurd (omega arith)
codes-tell n [] [] (c ∷ ks) (d ∷ gs) e f p q same = let z : ◌≡◌ {A = ℕ} 0 (suc (length (codes n ks gs))) = ap length same in absurd (omega arith)
codes-tell n [] (b ∷ hs) ks gs e f p q same = absurd (omega arith)
codes-tell n (a ∷ ls) [] ks gs e f p q same = absurd (omega arith)
codes-tell n (a ∷ ls) (b ∷ hs) [] gs e f p q same = let z : ◌≡◌ {A = ℕ} (suc (length (codes n ls hs))) 0 = ap length same in absurd (omega arith)
codes-tell n (a ∷ ls) (b ∷ hs) (c ∷ ks) [] e f p q same = absurd (omega arith)
codes-tell n (a ∷ ls) (b ∷ hs) (c ∷ ks) (d ∷ gs) e f p q same =
    let first : a * n + b ≡ c * n + d = cc in
    let rest : codes n ls hs ≡ codes n ks gs = cc in
    let both = codes-tell n ls hs ks gs (omega arith) (omega arith) p.1 q.1 rest in
    (ap₂ ◌∷◌ (grid-row a b c d n p.0 q.0 first) both.0, ap₂ ◌∷◌ (grid-entry a b c d n p.0 q.0 first) both.1)

-- The codes of a row and of the rows behind it.
pub codes-row : (n a : ℕ) (hs ls ks : List ℕ) → codes n (replicate (length hs) a ++ ls) (hs ++ ks) ≡ map (λ b. a * n + b) hs ++ codes n ls ks
unfolding codes
codes-row n a [] ls ks = refl
codes-row n a (b ∷ hs) ls ks = ap (λ (l : List ℕ). (a * n + b) ∷ l) (codes-row n a hs ls ks)

-- A rising list stays one with the same number added to each entry.
ascending-shift : (x : ℕ) (l : List ℕ) → Ascending l → Ascending (map (λ b. x + b) l)
ascending-shift x [] a = tt
ascending-shift x (b ∷ l) a = (
  λ y h. let w = has-map (λ b. x + b) l y h in omega (arith, a.0 w.0 w.1, w.2),
  ascending-shift x l a.1,
)

has-shift : (x : ℕ) (l : List ℕ) (b : ℕ) → has l b ≡ true → has (map (λ b. x + b) l) (x + b) ≡ true
has-shift x [] b h = absurd (clash h (has-nil b))
has-shift x (c ∷ l) b h = go (has-cases c l b h) (has-shift x l b)
  where
    go : (c ≡ b) ⊎ (has l b ≡ true) → (has l b ≡ true → has (map (λ b. x + b) l) (x + b) ≡ true)
        → has (map (λ b. x + b) (c ∷ l)) (x + b) ≡ true
    go (inl e) later = subst (λ (z : ℕ). has (map (λ b. x + b) (c ∷ l)) (x + z) ≡ true) e (has_here (x + c) (map (λ b. x + b) l))
    go (inr g) later = has_there (x + c) (map (λ b. x + b) l) (x + b) (later g)

below-append : {n : ℕ} (l k : List ℕ) → ((b : ℕ) → has l b ≡ true → b < n) → BelowAll n k → BelowAll n (l ++ k)
below-append [] k each rest = rest
below-append (b ∷ l) k each rest = (each b (has_here b l), below-append l k (λ c h. each c (has_there b l c h)) rest)

module _ (n : ℕ) (link : ℕ → ℕ → Bool) where
  -- What stands in a row.
  pub row_has : (a b : ℕ) → b < n → link a b ≡ true → has (high_ends n link a) b ≡ true
  unfolding high_ends
  row_has a b h e =
      has-keep (link a) (table (λ b. b) 0 n) b ∙ and-all (has (table (λ b. b) 0 n) b) (link a b) (range-has 0 n b (omega arith) (omega arith)) e

  pub row_is : (a b : ℕ) → has (high_ends n link a) b ≡ true → (b < n) × (link a b ≡ true)
  unfolding high_ends
  row_is a b h =
      let both = and_both (has (table (λ b. b) 0 n) b) (link a b) (sym (has-keep (link a) (table (λ b. b) 0 n) b) ∙ h) in
      (omega (arith, range-bounds 0 n b both.0), both.1)

  row-ascends : (a : ℕ) → Ascending (high_ends n link a)
  unfolding high_ends
  row-ascends a = ascending-keep (link a) (table (λ b. b) 0 n) (ascending-range 0 n)

  -- The codes of the rows from a on.
  abbrev risen : (a count : ℕ) → List ℕ
  risen a count = codes n (lows_from n link a count) (highs_from n link a count)

  risen-row : (a count : ℕ) → risen a (suc count) ≡ map (λ b. a * n + b) (high_ends n link a) ++ risen (a + 1) count
  unfolding lows_from highs_from
  risen-row a count = codes-row n a (high_ends n link a) (lows_from n link (a + 1) count) (highs_from n link (a + 1) count)

  -- A code that stands there is that of a link,
  pub risen-is : (a count c : ℕ) → has (risen a count) c ≡ true
      → (r : ℕ) × (b : ℕ) × (a ≤ r) × (r < a + count) × (b < n) × (link r b ≡ true) × (c ≡ r * n + b)
  unfolding lows_from highs_from codes
  risen-is a zero c h = absurd (clash h (has-nil c))
  risen-is a (suc count) c h =
      go (has_either (map (λ b. a * n + b) (high_ends n link a)) (risen (a + 1) count) c
      (subst (λ (l : List ℕ). has l c ≡ true) (risen-row a count) h)) (risen-is (a + 1) count c)
    where
      go : (has (map (λ b. a * n + b) (high_ends n link a)) c ≡ true) ⊎ (has (risen (a + 1) count) c ≡ true)
          → (has (risen (a + 1) count) c ≡ true
          → (r : ℕ) × (b : ℕ) × (a + 1 ≤ r) × (r < a + 1 + count) × (b < n) × (link r b ≡ true) × (c ≡ r * n + b))
          → (r : ℕ) × (b : ℕ) × (a ≤ r) × (r < a + suc count) × (b < n) × (link r b ≡ true) × (c ≡ r * n + b)
      go (inl g) later =
          let w = has-map (λ b. a * n + b) (high_ends n link a) c g in
          let i = row_is a w.0 w.1 in
          (a, w.0, omega arith, omega arith, i.0, i.1, sym w.2)
      go (inr g) later =
          let (r, b, low, high, below, is, same) = later g in
          (r, b, omega arith, omega arith, below, is, same)

  -- and the code of each link stands there.
  pub risen-has : (a count r b : ℕ) → a ≤ r → r < a + count → b < n → link r b ≡ true → has (risen a count) (r * n + b) ≡ true
  risen-has a zero r b low high below is = absurd (omega arith)
  risen-has a (suc count) r b low high below is =
      subst (λ (l : List ℕ). has l (r * n + b) ≡ true) (sym (risen-row a count)) (go (eqb a r) refl (risen-has (a + 1) count r b))
    where
      go : (s : Bool) → eqb a r ≡ s
          → (a + 1 ≤ r → r < a + 1 + count → b < n → link r b ≡ true → has (risen (a + 1) count) (r * n + b) ≡ true)
          → has (map (λ b. a * n + b) (high_ends n link a) ++ risen (a + 1) count) (r * n + b) ≡ true
      go true e later =
          let same : a ≡ r = eqb-true a r e in
          subst (λ (z : ℕ). has (map (λ b. a * n + b) (high_ends n link a) ++ risen (a + 1) count) (z * n + b) ≡ true) same
          (has-append (map (λ b. a * n + b) (high_ends n link a)) (risen (a + 1) count) (a * n + b)
          ∙ or_left (has (map (λ b. a * n + b) (high_ends n link a)) (a * n + b)) (has (risen (a + 1) count) (a * n + b)) (has-shift (a * n) (high_ends n link a) b (row_has a b below (subst (λ (z : ℕ). link z b ≡ true) (sym same) is))))
      go false e later =
          let apart : (a ≡ r → ⊥) = eqb-false a r e in
          has-append (map (λ b. a * n + b) (high_ends n link a)) (risen (a + 1) count) (r * n + b)
          ∙ or_right (has (map (λ b. a * n + b) (high_ends n link a)) (r * n + b)) (has (risen (a + 1) count) (r * n + b)) (later (omega arith) (omega arith) below is)

  -- They rise.
  pub risen-ascends : (a count : ℕ) → Ascending (risen a count)
  unfolding lows_from highs_from codes
  risen-ascends a zero = tt
  risen-ascends a (suc count) =
      subst Ascending (sym (risen-row a count))
      (ascending-append (map (λ b. a * n + b) (high_ends n link a)) (risen (a + 1) count)
      (ascending-shift (a * n) (high_ends n link a) (row-ascends a)) (risen-ascends (a + 1) count)
      (λ x y p q.
      let w = has-map (λ b. a * n + b) (high_ends n link a) x p in
      let i = row_is a w.0 w.1 in
      let (r, b, low, high, below, is, same) = risen-is (a + 1) count y q in
      omega (arith, w.2, i.0, suc-mul a n, mul-le-mul_right {m = suc a} {n = r} n (omega arith))))

  -- The columns are of one length, and the highs below n.
  pub risen-even : (a count : ℕ) → length (lows_from n link a count) ≡ length (highs_from n link a count)
  unfolding lows_from highs_from
  risen-even a zero = refl
  risen-even a (suc count) =
      let h = high_ends n link a in
      omega (
        arith,
        length-append (replicate (length h) a) (lows_from n link (a + 1) count),
        length-append h (highs_from n link (a + 1) count),
        length-replicate {A = ℕ} (length h) a,
        risen-even (a + 1) count,
      )

  pub risen-below : (a count : ℕ) → BelowAll n (highs_from n link a count)
  unfolding highs_from
  risen-below a zero = tt
  risen-below a (suc count) = below-append (high_ends n link a) (highs_from n link (a + 1) count) (λ b h. (row_is a b h).0) (risen-below (a + 1) count)

  -- A table whose codes rise, of just these links, is the table in rising order.
  pub risen-same : (lows highs : List ℕ) → length lows ≡ length highs → BelowAll n highs → Ascending (codes n lows highs)
      → ((c : ℕ) → has (codes n lows highs) c ≡ true
      → (r : ℕ) × (b : ℕ) × (r < n) × (b < n) × (link r b ≡ true) × (c ≡ r * n + b))
      → ((r b : ℕ) → r < n → b < n → link r b ≡ true → has (codes n lows highs) (r * n + b) ≡ true)
      → (lows_from n link 0 n ≡ lows) × (highs_from n link 0 n ≡ highs)
  risen-same lows highs even below rises is full =
      codes-tell n (lows_from n link 0 n) (highs_from n link 0 n) lows highs (risen-even 0 n) even (risen-below 0 n) below
      (ascending-same (risen 0 n) (codes n lows highs) (risen-ascends 0 n) rises
      (λ c h. let (r, b, low, high, under, link, same) = risen-is 0 n c h in subst (λ (x : ℕ). has (codes n lows highs) x ≡ true) (sym same) (full r b (omega arith) under link))
      (λ c h. let (r, b, high, under, link, same) = is c h in subst (λ (x : ℕ). has (risen 0 n) x ≡ true) (sym same) (risen-has 0 n r b (omega arith) (omega arith) under link)))
