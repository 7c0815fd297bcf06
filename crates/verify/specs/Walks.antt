-- The second pass over a sheet whose form is kept: what the walking functions promise.
-- The relays met are the marks of a list of words. Assumes nothing.
use Rattle.std.specs.Prelude.{ℕ, suc, ◌-◌, ◌<◌, Bool, true, false, List, [], ◌∷◌, ◌⊎◌, ◌≡◌, Option, Some, None, ◌&&◌, not, eqb, ltb, length}
use Rattle.definitions.specs.Network.{joins, link_serves}
use Rattle.definitions.specs.Outcome.{pick}
use Rattle.definitions.specs.Form.{reads}
use Rattle.definitions.specs.SheetForm.{route_front, over_front, scan_numbers}
use Rattle.definitions.specs.SheetTest.{step_holds, met_at, Walk, walk, walk_route, routes_hold}
use Rattle.lists.specs.Bitmap.{marked}
use Rattle.network.specs.Tables.{of_table}
use Rattle.network.specs.declared.Table.{Table}
use Rattle.text_theory.specs.SpacedNumbers.{numbers_at, NoNumber, ANumber}
use Rattle.verify.specs.declared.walk.NextStep.{NextStep}
use Rattle.verify.specs.declared.walk.NextStep.TheVariants.{End, Uneven, Step}

-- The walk from relay a on, after so many steps, with the relays and the links that stand from offsets p and q on.
unfoldable pub walk_from : (n : ℕ) (lows highs states text : List ℕ) (to : ℕ) (met : ℕ → Bool) (steps a p q : ℕ) → Walk
walk_from n lows highs states text to met steps a p q =
    walk n lows highs states to met steps a (numbers_at text p (suc (length text) - steps)) (numbers_at text q (suc (length text) - steps))

-- What comes next at the two offsets.
abbrev pub SomeNumber : (text : List ℕ) (p : ℕ) → Type 0
SomeNumber text p = (x : ℕ) × (q : ℕ) × ANumber text p x q

abbrev pub NextHolds : (text : List ℕ) (p q : ℕ) → NextStep → Type 0
NextHolds text p q End = NoNumber text p × NoNumber text q
NextHolds text p q Uneven = (NoNumber text p × SomeNumber text q) ⊎ (SomeNumber text p × NoNumber text q)
NextHolds text p q (Step b l next) = ANumber text p b.0 next.relays × ANumber text q l.0 next.links

-- Link l of the table joins a and b, and both its ends are in service.
abbrev pub link_carries : (table : Table) (a b l : ℕ) → Bool
link_carries table a b l =
    (ltb l (length table.lows.now) && joins table.lows.now table.highs.now a b l)
    && link_serves table.lows.now table.highs.now table.states.now l

-- What a step asks whatever relays were met before: such a link, a that is not the end, and b below n.
abbrev pub may_step : (table : Table) (to a b l : ℕ) → Bool
may_step table to a b l = (link_carries table a b l && not (eqb a to)) && ltb b table.n

-- One step, and the marks once it holds.
pub record Stepped (table : Table) (to a b l : ℕ) (marks after : List ℕ) (r : Bool) : Type 0 where
  pub holds : r ≡ of_table step_holds table to (marked marks) a b l
  pub met : r ≡ true → marked after ≡ met_at to (marked marks) b

-- How many steps a walk took, 0 where it failed.
abbrev pub steps_of : Option ℕ → ℕ
steps_of None = 0
steps_of (Some steps) = steps

-- The steps of a walk that ended at relay a.
abbrev pub end_steps : (a to steps : ℕ) → ℕ
end_steps a to steps = pick (eqb a to) steps 0

-- A walk: its steps, and the marks where it did not fail.
pub record Walked (w : Walk) (steps : ℕ) (after : List ℕ) : Type 0 where
  pub taken : steps ≡ w.steps
  pub met : 0 < steps → marked after ≡ w.met

-- The walk along the route that stands at the two offsets.
abbrev pub RouteWalked : (table : Table) (text : List ℕ) (from to p q : ℕ) (marks after : List ℕ) (steps : ℕ) → Type 0
RouteWalked table text from to p q marks after steps =
    (route over : List ℕ) (s t : ℕ) → scan_numbers text route_front p ≡ reads route s → scan_numbers text over_front q ≡ reads over t
    → Walked (of_table walk_route table from to (marked marks) route over) steps after

-- The lines of these routes, with their links, stand from offset p on.
abbrev pub LinesAt : (text : List ℕ) (p : ℕ) (routes overs : List (List ℕ)) → Type 0
LinesAt text p [] [] = Unit {0}
LinesAt text p [] (over ∷ overs) = ⊥
LinesAt text p (route ∷ routes) [] = ⊥
LinesAt text p (route ∷ routes) (over ∷ overs) =
    (q : ℕ) × (s : ℕ) × (scan_numbers text route_front p ≡ reads route q) × (scan_numbers text over_front q ≡ reads over s)
    × LinesAt text s routes overs

-- So many routes from offset p on, whichever they are.
abbrev pub RoutesWalked : (table : Table) (text : List ℕ) (from to : ℕ) (met : ℕ → Bool) (count p : ℕ) (r : Bool) → Type 0
RoutesWalked table text from to met count p r =
    (routes overs : List (List ℕ)) → length routes ≡ count → LinesAt text p routes overs
    → r ≡ of_table routes_hold table from to met false routes overs
