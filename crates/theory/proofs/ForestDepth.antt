-- A forest number is small where the table is short: a place with a c-th earlier neighbour has c links to lower places, its c-th
-- earlier neighbour has c − 1, and so on down, so that c × (c + 1) is at most twice the number of links. Over any order; then for
-- the forest numbers of an accepted table.
use Rattle.std.specs.Prelude.{ℕ, zero, suc, ◌+◌, ◌*◌, ◌≤◌, ◌<◌, Bool, true, false, List, [], ◌∷◌, map, ◌≡◌, refl, eqb, leb, length, get_or}
use Rattle.std.proofs.Math.Logic.{by_cases}
use Rattle.std.proofs.Common.{sym, ◌∙◌, ap, subst, mul-suc, suc-mul, arith, eqb-true, eq-eqb, leb-true, leb-false}
use Rattle.std.proofs.Math.Decide.{dec_lt}
use Rattle.std.proofs.lemmas.List.{length-map}
use Rattle.definitions.specs.Outcome.{pick}
use Rattle.definitions.specs.Lists.{table, keep, has, count}
use Rattle.definitions.specs.Network.{link_serves, Accepted}
use Rattle.definitions.specs.Order.{order_of}
use Rattle.definitions.specs.Forests.{forests_of}
use Rattle.lists.specs.Tests.{and-all}
use Rattle.lists.specs.Tables.{length-table}
use Rattle.lists.specs.Maps.{get_or-map}
use Rattle.lists.specs.Members.{has-at, has-keep, index_of, range-bounds, range-has}
use Rattle.lists.specs.Distinct.{range-no-repeat}
use Rattle.lists.specs.Counting.{count-length, count-table, length-keep, no_longer}
use Rattle.theory.specs.LeftLaws.{LeftLaws}
use Rattle.theory.specs.ForestNumbers.{later_place, forest_in, left-is-link, accepted-link-facts}
use Rattle.theory.specs.Arranged.{left_in, Arranged, base-arranged}
use Rattle.theory.proofs.ForestBound.{forests-at, forests-none}

-- Over any `left` with the three laws, and any count of links up to a place to which a c-th earlier neighbour adds c.
module _
    (left : ℕ → ℕ → ℕ)
    (laws : LeftLaws left)
    (up_to : ℕ → ℕ)
    (adds : (c u w : ℕ) → u < w → 0 < left c w → up_to u + c ≤ up_to w)
  where
    left-depth : (c w : ℕ) → 0 < left c w → c * suc c ≤ 2 * up_to w
    left-depth zero w some = omega arith
    left-depth (suc zero) w some = omega (arith, adds 1 0 w (omega (arith, laws.below 1 w some)) some)
    left-depth (suc (suc c)) w some =
        let u = left (suc (suc c)) w in
        let less : u < w = laws.below (suc (suc c)) w some in
        let before = laws.rises (suc c) (suc (suc c)) w (omega arith) (omega arith) some in
        let there : 0 < left (suc c) u = laws.maximal (suc c) u w less before.0 before.1 in
        omega (
          arith,
          left-depth (suc c) u there,
          adds (suc (suc c)) u w less some,
          mul-suc (suc (suc c)) (suc (suc c)),
          suc-mul (suc c) (suc (suc c)),
        )

-- The numbers up to u and those equal to w, above u, are among those up to w.
count-up : (u w : ℕ) → u < w → (l : List ℕ) → count (λ v. leb v u) l + count (eqb w) l ≤ count (λ v. leb v w) l
unfolding count
count-up u w less [] = omega arith
count-up u w less (x ∷ l) = go (leb x u) refl (eqb w x) refl (leb x w) refl (count-up u w less l)
  where
    go : (a : Bool) → leb x u ≡ a → (b : Bool) → eqb w x ≡ b → (c : Bool) → leb x w ≡ c
        → count (λ v. leb v u) l + count (eqb w) l ≤ count (λ v. leb v w) l
        → pick a 1 0 + count (λ v. leb v u) l + (pick b 1 0 + count (eqb w) l) ≤ pick c 1 0 + count (λ v. leb v w) l
    go true p true q c r h = absurd (omega (arith, leb-true x u p, eqb-true w x q))
    go true p false q true r h = omega arith
    go true p false q false r h = absurd (omega (arith, leb-true x u p, leb-false x w r))
    go false p true q true r h = omega arith
    go false p true q false r h = absurd (omega (arith, eqb-true w x q, leb-false x w r))
    go false p false q c r h = omega arith

-- The later places of the links.
abbrev later_places : List ℕ → List ℕ → List ℕ → List ℕ
later_places order lows highs = table (later_place order lows highs) 0 (length lows)

-- Over any order.
module _ (order lows highs : List ℕ) (arranged : Arranged order lows highs) where
  -- A place with a c-th earlier neighbour is the later place of c links, one of each forest from 1 to c.
  own-links : (c w : ℕ) → 0 < left_in order lows highs c w → c ≤ count (eqb w) (later_places order lows highs)
  own-links c w some =
      omega (
        arith,
        no_longer (map (forest_in order lows highs) own) (table (λ r. r) 1 c) (range-no-repeat 1 c) numbered,
        length-table (λ (r : ℕ). r) 1 c,
        length-map own (forest_in order lows highs),
        length-keep test range,
        count-table (eqb w) (later_place order lows highs) 0 (length lows),
      )
    where
      test : ℕ → Bool
      test j = eqb w (later_place order lows highs j)

      range : List ℕ
      range = table (λ r. r) 0 (length lows)

      own : List ℕ
      own = keep test range

      there : (f : ℕ) → 1 ≤ f → f ≤ c → 0 < left_in order lows highs f w
      there f one le =
          by_cases (dec_lt f c)
          (λ less. (arranged.laws.rises f c w one less some).0)
          (λ more. let same : c ≡ f = omega arith in subst (λ (g : ℕ). 0 < left_in order lows highs g w) same some)

      numbered : (f : ℕ) → has (table (λ r. r) 1 c) f ≡ true → has (map (forest_in order lows highs) own) f ≡ true
      numbered f h =
          let bounds = range-bounds 1 c f h in
          let link = left-is-link order lows highs arranged.unique f w (there f bounds.0 (omega (arith, bounds.1))) in
          let i = link.0 in
          let is_own : has own i ≡ true =
          has-keep test range i
          ∙ and-all (has range i) (test i)
          (range-has 0 (length lows) i (omega arith) (omega (arith, link.1)))
          (eq-eqb w (later_place order lows highs i) (sym link.4)) in
          let at = index_of own i is_own in
          let number : get_or (map (forest_in order lows highs) own) at.0 0 ≡ f =
          get_or-map (forest_in order lows highs) own at.0 0 0 at.1 ∙ ap (forest_in order lows highs) at.2 ∙ link.5 in
          rw number at
          (has-at (map (forest_in order lows highs) own) at.0 (omega (arith, at.1, length-map own (forest_in order lows highs))))

  pub table-depth : (c w : ℕ) → 0 < left_in order lows highs c w → c * suc c ≤ 2 * length lows
  table-depth c w some =
      let up_to : ℕ → ℕ = λ u. count (λ v. leb v u) (later_places order lows highs) in
      let adds : (d u v : ℕ) → u < v → 0 < left_in order lows highs d v → up_to u + d ≤ up_to v =
      λ d u v less there. omega (arith, count-up u v less (later_places order lows highs), own-links d v there) in
      omega (
        arith,
        left-depth (left_in order lows highs) arranged.laws up_to adds c w some,
        count-length (λ v. leb v w) (later_places order lows highs),
        length-table (later_place order lows highs) 0 (length lows),
      )

pub number_bound : (n : ℕ) (lows highs states : List ℕ) → Accepted n lows highs states → (i : ℕ) → i < length lows
    → get_or (forests_of n lows highs states) i 0 * suc (get_or (forests_of n lows highs states) i 0) ≤ 2 * length lows
number_bound n lows highs states ok i h = go (link_serves lows highs states i) refl
  where
    go : (b : Bool) → link_serves lows highs states i ≡ b
        → get_or (forests_of n lows highs states) i 0 * suc (get_or (forests_of n lows highs states) i 0) ≤ 2 * length lows
    go true e =
        let order = order_of n lows highs states in
        let link = accepted-link-facts n lows highs states ok i h e in
        rw (forests-at n lows highs states i h)
        (table-depth order lows highs (base-arranged n lows highs states ok) (forest_in order lows highs i) (later_place order lows highs i)
        (omega (arith, link.some, link.is_left)))
    go false e = rw (forests-none n lows highs states ok i h e) (omega arith)
