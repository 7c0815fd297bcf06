-- The links of a test on pairs in rising order (document 02, #108 and #113), as a table: which links it has, that it rises, and that it is
-- one of a network. Assumes nothing.
use Rattle.std.specs.Prelude.{ℕ, suc, ◌+◌, ◌*◌, ◌≤◌, ◌<◌, Bool, true, ◌&&◌, ◌||◌, List, ◌⊎◌, ◌≡◌, eqb, ltb, length, get_or}
use Rattle.std.proofs.Common.{inl, inr, sym, ◌∙◌, ap, ap₂, suc-mul, mul-le-mul_right, arith, eqb-true, ltb-true, lt-ltb, eq-eqb}
use Rattle.std.proofs.Math.Decide.{ℕ_discrete, dec_lt}
use Rattle.definitions.specs.Network.{linked, link_below}
use Rattle.definitions.specs.Rising.{highs_from, lows_from, Rising}
use Rattle.lists.specs.Tests.{or_left, or_right, or-either, and_both, and-all}
use Rattle.lists.specs.Members.{has-at, index_of}
use Rattle.lists.specs.Grids.{grid-row, grid-entry}
use Rattle.lists.specs.Ascending.{Ascending, ascending-at}
use Rattle.lists.specs.RisingRows.{codes, risen-is, risen-has, risen-ascends, risen-even, risen-below}
use Rattle.lists.specs.CodedLinks.{codes_at, codes-length, below_at}
use Rattle.theory.specs.Accepted.{ProperTable}
use Rattle.theory.specs.Links.{joins-ends, joins-low-high, joins-high-low, joined-linked, linked-joined}

-- The order of links is that of their codes.
pub below_code : (n a b c d : ℕ) → b < n → d < n → link_below a b c d ≡ true → a * n + b < c * n + d
unfolding link_below
below_code n a b c d p q e = go (or-either (ltb a c) (eqb a c && ltb b d) e)
  where
    go : (ltb a c ≡ true) ⊎ ((eqb a c && ltb b d) ≡ true) → a * n + b < c * n + d
    go (inl l) = omega (arith, suc-mul a n, mul-le-mul_right {m = suc a} {n = c} n (ltb-true a c l))
    go (inr s) =
        let both = and_both (eqb a c) (ltb b d) s in
        omega (arith, ap (λ (x : ℕ). x * n) (eqb-true a c both.0), ltb-true b d both.1)

pub code_below : (n a b c d : ℕ) → b < n → d < n → a * n + b < c * n + d → link_below a b c d ≡ true
unfolding link_below
code_below n a b c d p q less = go (dec_lt a c) (ℕ_discrete a c)
  where
    go : Dec (a < c) → Dec (a ≡ c) → (ltb a c || (eqb a c && ltb b d)) ≡ true
    go (yes l) other = or_left (ltb a c) (eqb a c && ltb b d) (lt-ltb a c l)
    go (no l) (yes e) =
        or_right (ltb a c) (eqb a c && ltb b d)
        (and-all (eqb a c) (ltb b d) (eq-eqb a c e) (lt-ltb b d (omega (arith, ap (λ (x : ℕ). x * n) e))))
    go (no l) (no e) = absurd (omega (arith, suc-mul c n, mul-le-mul_right {m = suc c} {n = a} n (omega (arith, e))))

module _ (n : ℕ) (link : ℕ → ℕ → Bool) where
  abbrev L : List ℕ
  L = lows_from n link 0 n

  abbrev H : List ℕ
  H = highs_from n link 0 n

  pub links-even : length L ≡ length H
  links-even = risen-even n link 0 n

  pub highs-below : (i : ℕ) → i < length L → get_or H i 0 < n
  highs-below i h = below_at n H i (risen-below n link 0 n) (omega (arith, links-even))

  -- Each link of the table is one of the test,
  pub link_at : (i : ℕ) → i < length L → (get_or L i 0 < n) × (link (get_or L i 0) (get_or H i 0) ≡ true)
  link_at i h =
      let code = codes_at n L H i links-even h in
      let (r, b, low, high, under, is, same) =
      risen-is n link 0 n (get_or (codes n L H) i 0) (has-at (codes n L H) i (omega (arith, codes-length n L H links-even))) in
      let equal : get_or L i 0 * n + get_or H i 0 ≡ r * n + b = sym code ∙ same in
      let row = grid-row (get_or L i 0) (get_or H i 0) r b n (highs-below i h) under equal in
      let entry = grid-entry (get_or L i 0) (get_or H i 0) r b n (highs-below i h) under equal in
      (omega (arith, row), rw (row, entry) is)

  -- and each link of the test stands in the table.
  pub link-where : (a b : ℕ) → a < n → b < n → link a b ≡ true → (i : ℕ) × (i < length L) × (get_or L i 0 ≡ a) × (get_or H i 0 ≡ b)
  link-where a b p q is =
      let w = index_of (codes n L H) (a * n + b) (risen-has n link 0 n a b (omega arith) (omega arith) q is) in
      let i = w.0 in
      let h : i < length L = omega (arith, w.1, codes-length n L H links-even) in
      let equal : get_or L i 0 * n + get_or H i 0 ≡ a * n + b = sym (codes_at n L H i links-even h) ∙ w.2 in (
        i,
        h,
        grid-row (get_or L i 0) (get_or H i 0) a b n (highs-below i h) q equal,
        grid-entry (get_or L i 0) (get_or H i 0) a b n (highs-below i h) q equal,
      )

  pub links-ascend : Ascending (codes n L H)
  links-ascend = risen-ascends n link 0 n

  pub links-rise : Rising L H
  links-rise i h =
      let m = codes-length n L H links-even in
      code_below n (get_or L i 0) (get_or H i 0) (get_or L (i + 1) 0) (get_or H (i + 1) 0) (highs-below i (omega arith)) (highs-below (i + 1) h)
      (omega (
        arith,
        codes_at n L H i links-even (omega arith),
        codes_at n L H (i + 1) links-even h,
        ascending-at (codes n L H) links-ascend i (i + 1) (omega arith) (omega arith),
      ))

  -- A table of a network, where the test has low ends below high ends, and not too many.
  pub links-proper : ((a b : ℕ) → link a b ≡ true → a < b) → 1 ≤ n → n ≤ 1000 → length L ≤ 3000 → ProperTable n L H
  links-proper ordered some few short =
      record {
        some = some;
        few = few;
        even = links-even;
        short = short;
        ordered = λ i h. ordered (get_or L i 0) (get_or H i 0) (link_at i h).1;
        below = highs-below;
        once = λ i j less h e f.
            omega (
              arith,
              codes_at n L H i links-even (omega arith),
              codes_at n L H j links-even h,
              ap₂ (λ x y. x * n + y) e f,
              ascending-at (codes n L H) links-ascend i j less (omega (arith, codes-length n L H links-even)),
            );
      }

  -- Two relays are linked exactly if the test has them, one way round or the other.
  pub linked-tested : (a b : ℕ) → linked L H a b ≡ true → (link a b ≡ true) ⊎ (link b a ≡ true)
  linked-tested a b h =
      let w = linked-joined L H a b h in
      go w.0 w.1 (joins-ends L H a b w.0 w.2)
    where
      go : (i : ℕ) → i < length L → ((get_or L i 0 ≡ a) × (get_or H i 0 ≡ b)) ⊎ ((get_or L i 0 ≡ b) × (get_or H i 0 ≡ a))
          → (link a b ≡ true) ⊎ (link b a ≡ true)
      go i h (inl e) = inl (rw (e.0, e.1) at (link_at i h).1)
      go i h (inr e) = inr (rw (e.0, e.1) at (link_at i h).1)

  pub tested-linked : (a b : ℕ) → a < n → b < n → link a b ≡ true → (linked L H a b ≡ true) × (linked L H b a ≡ true)
  tested-linked a b p q is =
      let w = link-where a b p q is in (
        joined-linked L H a b w.0 w.1 (joins-low-high L H a b w.0 w.2 w.3),
        joined-linked L H b a w.0 w.1 (joins-high-low L H b a w.0 w.2 w.3),
      )
