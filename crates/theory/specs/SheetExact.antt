-- The test of a sheet says yes exactly where the sheet holds, for every accepted network and every k from 1 to 32.
use Rattle.std.specs.Prelude.{ℕ, ◌-◌, ◌≤◌, ◌<◌, Bool, true, false, ◌&&◌, List, [], ◌↔◌, ◌≢◌, ◌≡◌, refl, length, get_or}
use Rattle.std.proofs.lemmas.Bool.{false≢true}
use Rattle.std.proofs.Common.{inl, inr, sym, ◌∙◌, arith}
use Rattle.std.proofs.Math.Logic.{by_cases}
use Rattle.std.proofs.Math.Decide.{dec_lt}
use borrow.Author.Tests.{eqb-true, eq-eqb}
use Rattle.std.proofs.Math.Dec.{eqb}
use Rattle.definitions.specs.Lists.{count}
use Rattle.definitions.specs.Network.{Accepted}
use Rattle.definitions.specs.Forests.{marks_of}
use Rattle.definitions.specs.Plan.{Sheet}
use Rattle.definitions.specs.DisjointRoutes.{InService, RouteHolds}
use Rattle.definitions.specs.SheetHolds.{SheetHolds}
use Rattle.definitions.specs.SheetTest.{routes_hold, sheet_holds}
use Rattle.lists.specs.Tests.{and_both, and-all}
use Rattle.lists.specs.Distinct.{same_index}
use Rattle.theory.specs.Accepted.{accepted}
use Rattle.theory.specs.ApartRoutes.{apart-turned}
use Rattle.theory.specs.SheetRoute.{NewTo}
use Rattle.theory.specs.SheetRoutes.{GoodRoutes, good-routes, routes-good}

-- The two ends of a route differ.
ends-differ : (n : ℕ) (lows highs states : List ℕ) (picked : ℕ → Type 0) (from to : ℕ) (route : List ℕ)
    → RouteHolds n lows highs states picked from to route → from ≢ to
ends-differ n lows highs states picked from to route holds e =
    let last : length route - 1 < length route = omega (arith, holds.runs.long) in
    let same : 0 ≡ length route - 1 =
    same_index route holds.no_repeat 0 (length route - 1) (omega arith) last (holds.runs.starts ∙ e ∙ sym holds.runs.ends) in
    omega (arith, holds.runs.long)

module _ (n : ℕ) (lows highs states : List ℕ) (sheet : Sheet) where
  -- The sheet's routes are good, `from` being the one relay met before the first step; the test of that; and the cut's count.
  abbrev Good : Type 0
  Good = GoodRoutes n lows highs states sheet.from sheet.to (eqb sheet.from) false sheet.routes sheet.overs

  abbrev tested : Bool
  tested = routes_hold n lows highs states sheet.from sheet.to (eqb sheet.from) false sheet.routes sheet.overs

  abbrev marked : ℕ
  marked = count (eqb 1) (marks_of n lows highs states sheet.k)

  -- The test in its three parts, both ways.
  parts : sheet_holds n lows highs states sheet ≡ true
      → (length sheet.routes ≡ sheet.k) × (tested ≡ true) × (sheet.kept ≡ marked)
  unfolding sheet_holds
  parts e =
      let first = and_both (eqb (length sheet.routes) sheet.k) (tested && eqb sheet.kept marked) e in
      let rest = and_both tested (eqb sheet.kept marked) first.1 in
      (eqb-true (length sheet.routes) sheet.k first.0, rest.0, eqb-true sheet.kept marked rest.1)

  whole : length sheet.routes ≡ sheet.k → tested ≡ true → sheet.kept ≡ marked → sheet_holds n lows highs states sheet ≡ true
  unfolding sheet_holds
  whole many good kept =
      and-all (eqb (length sheet.routes) sheet.k) (tested && eqb sheet.kept marked)
      (eq-eqb (length sheet.routes) sheet.k many)
      (and-all tested (eqb sheet.kept marked) good (eq-eqb sheet.kept marked kept))

  -- A sheet whose routes are good holds,
  good-holds : 1 ≤ sheet.k → sheet.k ≤ 32 → length sheet.routes ≡ sheet.k → Good → sheet.kept ≡ marked
      → SheetHolds n lows highs states (InService lows highs states) sheet
  good-holds some few many good kept =
      record {
        some = some;
        few = few;
        many = many;
        differ =
            ends-differ n lows highs states (InService lows highs states) sheet.from sheet.to (get_or sheet.routes 0 []) (good.each 0 (omega (arith, many))).holds;
        disjoint =
            record {
              each = λ i h. (good.each i h).holds;
              apart = λ i j hi hj ne.
                  by_cases (dec_lt i j)
                  (λ less. good.apart i j less hj)
                  (λ more. apart-turned (good.apart j i (omega arith) hi));
            };
        many_overs = good.even ∙ many;
        over = λ i h. (good.each i (omega (arith, many))).links;
        kept = kept;
      }

  -- and the routes of a sheet that holds are good.
  holds-good : SheetHolds n lows highs states (InService lows highs states) sheet → Good
  holds-good holds =
      record {
        even = holds.many_overs ∙ sym holds.many;
        each = λ i h.
            let low : i < sheet.k = omega (arith, holds.many) in
            record {
              holds = holds.disjoint.each i h;
              links = holds.over i low;
              fresh = λ r e. fresh r (eqb sheet.from r) refl;
            };
        apart = λ i j less h. holds.disjoint.apart i j (omega arith) h (λ e. omega arith);
        single = λ d. absurd (false≢true d);
      }
    where
      fresh : (r : ℕ) (b : Bool) → eqb sheet.from r ≡ b → NewTo sheet.from sheet.to (eqb sheet.from) r
      fresh r true e = inl (sym (eqb-true sheet.from r e))
      fresh r false e = inr (inr e)

-- "say whether it holds": the test says yes exactly if the sheet holds.
pub holds-exactly : (n : ℕ) (lows highs states : List ℕ) → Accepted n lows highs states → (sheet : Sheet) → 1 ≤ sheet.k → sheet.k ≤ 32
    → (sheet_holds n lows highs states sheet ≡ true) ↔ SheetHolds n lows highs states (InService lows highs states) sheet
holds-exactly n lows highs states ok sheet some few =
    let from = sheet.from in
    let started : eqb from from ≡ true = eq-eqb from from refl in (
      λ e.
          let p = parts n lows highs states sheet e in
          good-holds n lows highs states sheet some few p.0
          (routes-good n lows highs states from sheet.to (accepted n lows highs states ok) (eqb from) started false sheet.routes sheet.overs p.1)
          p.2,
      λ holds.
          whole n lows highs states sheet holds.many
          (good-routes n lows highs states from sheet.to (eqb from) started false sheet.routes sheet.overs
          (holds-good n lows highs states sheet holds))
          holds.kept,
    )
