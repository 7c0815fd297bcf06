-- What it means that a sheet holds for a network, in the words of document 02, #103, with the routes of demand 3.
-- The statement is a type; whoever made the sheet, it is the same. Assumes nothing.
use Rattle.std.specs.Prelude.{ℕ, ◌≤◌, ◌<◌, List, [], ◌≢◌, ◌≡◌, eqb, length, get_or}
use Rattle.definitions.specs.Lists.{count}
use Rattle.definitions.specs.Forests.{marks_of}
use Rattle.definitions.specs.Over.{OverHolds}
use Rattle.definitions.specs.Plan.{Sheet}
use Rattle.definitions.specs.DisjointRoutes.{DisjointRoutes}

-- "k routes from `from` to `to`, along links of the network, no relay twice in a route, no two routes sharing a link or an inner
-- relay, `over` lines right, `kept` equal to the cut's count"; k is from 1 to 32. The property picks the links of the network that the
-- routes may run along: those with both ends in service for a sheet that is read back ("a sheet that touches a withdrawn relay is a
-- no"), the kept ones for a sheet of our own.
pub record SheetHolds (n : ℕ) (lows highs states : List ℕ) (picked : ℕ → Type 0) (sheet : Sheet) : Type 0 where
  pub some : 1 ≤ sheet.k
  pub few : sheet.k ≤ 32
  pub many : length sheet.routes ≡ sheet.k
  pub differ : sheet.from ≢ sheet.to
  pub disjoint : DisjointRoutes n lows highs states picked sheet.from sheet.to sheet.routes
  -- Each route has its links in turn: at each step the index of the one link that joins the two relays there.
  pub many_overs : length sheet.overs ≡ sheet.k
  pub over : (i : ℕ) → i < sheet.k → OverHolds lows highs (get_or sheet.routes i []) (get_or sheet.overs i [])
  pub kept : sheet.kept ≡ count (eqb 1) (marks_of n lows highs states sheet.k)
